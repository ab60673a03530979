-- Handing back a part of a lent slice.
use Rattle.std.specs.Prelude.{ℕ, zero, suc, ◌+◌, ◌≤◌, List, [], ◌∷◌, length, take, drop, leb}
use Rattle.std.proofs.Common.{arith}
use Rattle.octets.proofs.Choice.{by_pick}
use Rattle.octets.specs.Part.{part_of}

-- ---- a part is no longer than asked for
take_short : (n : ℕ) (l : List ℕ) → length (take n l) ≤ n
take_short zero l = omega arith
take_short (suc n) [] = omega arith
take_short (suc n) (x ∷ l) = let h = take_short n l in omega (arith, h)

pub part_short : (s : List ℕ) (start len : ℕ) → length (part_of s start len) ≤ len
unfolding part_of
part_short s start len =
    by_pick (λ (l : List ℕ). length l ≤ len) (leb (start + len) (length s)) (λ _. take_short len (drop start s)) (λ _. omega arith)
