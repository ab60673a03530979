-- Numbers in bytes, high byte first, at every width. (Low byte first is the same of the reversed bytes.)
use Rattle.std.specs.Prelude.{ℕ, zero, suc, ◌+◌, ◌*◌, ◌/◌, ◌%◌, ◌^◌, ◌≤◌, ◌<◌, ◌≡◌, refl, List, [], ◌∷◌, ◌++◌, length}
use Rattle.std.proofs.Common.{sym, ap, ap₂, ◌∙◌, append_assoc, append-nil, arith, pow-suc, add-suc, suc-add, add-zero, zero-add, mul-one, mul_comm, mul_assoc, mul-le-mul_right, lt_of_lt_of_le, length-append}
use Rattle.octets.specs.Bytes.{Bytes}
use Rattle.octets.specs.Number.{number_from, number_of, bytes_of}

-- ---- the bytes of a number are read as that number
number_snoc : (a d : ℕ) (xs : List ℕ) → number_from a (xs ++ (d ∷ [])) ≡ number_from a xs * 256 + d
number_snoc a d [] = refl
number_snoc a d (x ∷ xs) = number_snoc (a * 256 + x) d xs

pub number_bytes : (k n : ℕ) → n < 256 ^ k → number_of (bytes_of k n) ≡ n
number_bytes zero n h = omega arith
number_bytes (suc k) n h =
    let b : n / 256 < 256 ^ k = omega (arith, rw (pow-suc 256 k) at h) in
    number_snoc 0 (n % 256) (bytes_of k (n / 256)) ∙ rw (number_bytes k (n / 256) b) (omega arith)

pub bytes_long : (k n : ℕ) → length (bytes_of k n) ≡ k
bytes_long zero n = refl
bytes_long (suc k) n =
    let e : length (bytes_of k (n / 256)) ≡ k = bytes_long k (n / 256) in
    omega (arith, length-append (bytes_of k (n / 256)) (n % 256 ∷ []))

-- ---- and the number of bytes has those bytes
bytes_from : (k a : ℕ) (s : List ℕ) → Bytes s → bytes_of (k + length s) (number_from a s) ≡ bytes_of k a ++ s
bytes_from k a [] b = ap (λ (i : ℕ). bytes_of i a) (add-zero k) ∙ sym (append-nil (bytes_of k a))
bytes_from k a (x ∷ xs) b =
    let h : x < 256 = b 0 in
    let q : (a * 256 + x) / 256 ≡ a = omega arith in
    let r : (a * 256 + x) % 256 ≡ x = omega arith in
    ap (λ (i : ℕ). bytes_of i (number_from (a * 256 + x) xs)) (add-suc k (length xs) ∙ sym (suc-add k (length xs)))
    ∙ bytes_from (suc k) (a * 256 + x) xs (λ i. b (suc i))
    ∙ ap₂ (λ (i j : ℕ). (bytes_of k i ++ (j ∷ [])) ++ xs) q r
    ∙ append_assoc (bytes_of k a) (x ∷ []) xs

pub bytes_number : (s : List ℕ) → Bytes s → bytes_of (length s) (number_of s) ≡ s
bytes_number s b = ap (λ (i : ℕ). bytes_of i (number_of s)) (sym (zero-add (length s))) ∙ bytes_from 0 0 s b

-- as many bytes as the width says hold no greater number
from_small : (a : ℕ) (s : List ℕ) → Bytes s → number_from a s < (a + 1) * 256 ^ length s
from_small a [] b = rw (mul-one (a + 1)) (omega arith)
from_small a (x ∷ xs) b =
    let p = 256 ^ length xs in
    let h : x < 256 = b 0 in
    let grown : a * 256 + x + 1 ≤ (a + 1) * 256 = omega arith in
    let e : (a + 1) * 256 * p ≡ (a + 1) * 256 ^ suc (length xs) = mul_assoc (a + 1) 256 p ∙ ap (λ (q : ℕ). (a + 1) * q) (mul_comm 256 p ∙ sym (pow-suc 256 (length xs))) in
    rw e at (lt_of_lt_of_le (from_small (a * 256 + x) xs (λ i. b (suc i))) (mul-le-mul_right p grown))

pub number_small : (s : List ℕ) → Bytes s → number_of s < 256 ^ length s
number_small s b = omega (arith, from_small 0 s b)
