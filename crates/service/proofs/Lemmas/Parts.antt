-- A part of a part.
use Rattle.std.specs.Prelude.{ℕ, zero, suc, ◌+◌, ◌≤◌, ◌≡◌, refl, List, [], ◌∷◌, length, take, drop, leb}
use Rattle.std.proofs.Common.{ap, ◌∙◌, arith, length-drop, get_or-drop, length-take-le, drop-drop, le-leb}
use Rattle.octets.proofs.Choice.{by_pick}
use Rattle.octets.specs.Bytes.{Bytes}
use Rattle.octets.specs.Part.{part_of}

-- ---- what lies within

take_take : (n l : ℕ) (t : List ℕ) → n ≤ l → take n (take l t) ≡ take n t
take_take zero l t h = refl
take_take (suc n) zero t h = absurd (omega arith)
take_take (suc n) (suc l) [] h = refl
take_take (suc n) (suc l) (x ∷ t) h = ap (λ (r : List ℕ). x ∷ r) (take_take n l t (omega arith))

take_within : (n k l : ℕ) (t : List ℕ) → k + n ≤ l → take n (drop k (take l t)) ≡ take n (drop k t)
take_within n zero l t h = take_take n l t (omega arith)
take_within n (suc k) zero t h = absurd (omega arith)
take_within n (suc k) (suc l) [] h = refl
take_within n (suc k) (suc l) (x ∷ t) h = take_within n k l t (omega arith)

pub part_within : (s : List ℕ) (a l k n : ℕ) → a + l ≤ length s → k + n ≤ l → part_of (part_of s a l) k n ≡ part_of s (a + k) n
unfolding part_of
part_within s a l k n outer inner =
    let whole : a + k + n ≤ length s = omega arith in
    let long : length (take l (drop a s)) ≡ l = length-take-le l (drop a s) (omega (arith, length-drop a s)) in
    let fits : k + n ≤ length (take l (drop a s)) = omega arith in
    simp (le-leb _ _ outer, le-leb _ _ whole, le-leb _ _ fits) (take_within n k l (drop a s) inner ∙ ap (take n) (drop-drop k a s))

-- ---- a part of bytes is bytes

take_bytes : (n : ℕ) (l : List ℕ) → Bytes l → Bytes (take n l)
take_bytes zero l b i = omega arith
take_bytes (suc n) [] b i = omega arith
take_bytes (suc n) (x ∷ l) b zero = b zero
take_bytes (suc n) (x ∷ l) b (suc i) = take_bytes n l (λ j. b (suc j)) i

pub part_bytes : (s : List ℕ) (start len : ℕ) → Bytes s → Bytes (part_of s start len)
unfolding part_of
part_bytes s start len b =
    by_pick Bytes (leb (start + len) (length s)) (λ _. take_bytes len (drop start s) (λ i. rw (get_or-drop start s i 0) (b (start + i)))) (λ _ i. omega arith)
