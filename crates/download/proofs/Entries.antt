-- The entries of a line, as bytes and as the line's definition has them.
use Prim.Native.Nat.{ℕ, zero, suc}
use mathlib.Core.Path.{◌≡◌, refl}
use mathlib.Core.List.{List, [], ◌∷◌}
use lib.ListN.{get_or, drop}
use lib.Seq.{drop-nil}
use Rattle.protocol.specs.Line.{Passage, passage_of, rest_of}
use Rattle.protocol.specs.Download.{passage_by, passages_of}

pub passage_at : (l : List ℕ) (m : ℕ) → passage_of (drop m (passages_of l)) ≡ passage_by (get_or l m 0)
passage_at [] m = rw (drop-nil m)
passage_at (b ∷ l) zero = refl
passage_at (b ∷ l) (suc m) = passage_at l m

pub rest_at : (l : List Passage) (m : ℕ) → rest_of (drop m l) ≡ drop (suc m) l
rest_at [] m = rw (drop-nil m)
rest_at (h ∷ l) zero = refl
rest_at (h ∷ l) (suc m) = rest_at l m
