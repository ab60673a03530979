-- Lists by their elements.
use Rattle.std.specs.Prelude.{ℕ, zero, suc, List, [], ◌∷◌, get_or}

-- k elements of s, from the i-th on
abbrev pub elements : (k i : ℕ) → List ℕ → List ℕ
elements zero i s = []
elements (suc k) i s = get_or s i 0 ∷ elements k (suc i) s
