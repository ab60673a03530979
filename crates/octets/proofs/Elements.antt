-- Lists by their elements.
use Rattle.std.specs.Prelude.{ℕ, zero, suc, ◌+◌, ◌≤◌, ◌<◌, ◌≡◌, refl, List, [], ◌∷◌, length, get_or, take, drop}
use Rattle.std.proofs.Common.{sym, ap, ◌∙◌, arith, length-drop, take_all, drop-cons}
use Rattle.octets.specs.Elements.{elements}

-- a part is its elements
pub part_elements : (k i : ℕ) (s : List ℕ) → i + k ≤ length s → take k (drop i s) ≡ elements k i s
part_elements zero i s h = refl
part_elements (suc k) i s h =
    let g : i < length s = omega arith in
    ap (take (suc k)) (drop-cons s i 0 g) ∙ ap (λ (l : List ℕ). get_or s i 0 ∷ l) (part_elements k (suc i) s (omega arith))

-- and so is the rest of a list
pub rest_elements : (k i : ℕ) (s : List ℕ) → i + k ≡ length s → drop i s ≡ elements k i s
rest_elements k i s h =
    let g : length (drop i s) ≤ k = omega (arith, length-drop i s) in
    sym (take_all k (drop i s) g) ∙ part_elements k i s (omega arith)

-- past the end stands a 0
pub get_d_past : (l : List ℕ) (i : ℕ) → length l ≤ i → get_or l i 0 ≡ 0
get_d_past [] i h = refl
get_d_past (x ∷ l) zero h = absurd (omega arith)
get_d_past (x ∷ l) (suc i) h = get_d_past l i (omega arith)
