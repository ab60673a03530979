-- A code stored in front, and bytes behind it by a function that was lent the rest.
use Rattle.std.specs.Prelude.{Ok}
use mathlib.Core.Path.{◌≡◌}
use mathlib.Core.List.{List, [], ◌∷◌}
use Prim.Native.Nat.{ℕ, ◌+◌, ◌-◌, ◌≤◌}
use native.Mathlib.Omega.{arith}
use lib.ListN.{length, set}
use lib.Dec.{leb}
use borrow.Rule.Slice.PartMut.{mid_of, put_mid}
use Rattle.octets.proofs.Choice.{by_pick}
use Rattle.octets.specs.Front.{fine, count_of, front_of, AtFront, answer_by, held_by}
use Rattle.octets.proofs.Front.{at_front, stores, stored, rest_fits, both}

-- a store counts no more bytes than it was given
pub most : (q l : List ℕ) {count : ℕ} → count ≡ count_of q l → count ≤ length q
unfolding count_of
most q l c = rw c (by_pick (λ (n : ℕ). n ≤ length q) (leb (length q) (length l)) (λ _. omega arith) (λ _. omega arith))

-- what a writer of both answers and stores, where both fit
pub behind_code : (code : ℕ) (q l : List ℕ) {m : List ℕ} {count : ℕ} → let coded = set l 0 code in
    count ≡ count_of q (mid_of 1 (length coded - 1) coded) → m ≡ front_of q (mid_of 1 (length coded - 1) coded) → length (code ∷ q) ≤ length l
    → (Ok (1 + count) ≡ answer_by fine (code ∷ q) (length l)) × (put_mid 1 (length coded - 1) coded m ≡ held_by fine (code ∷ q) l)
behind_code code q l c b room =
    let alone : AtFront (code ∷ []) l (set l 0 code) 1 = stores (code ∷ []) l (omega arith) in
    stored room (both alone (at_front c b (rest_fits alone q room)))
