-- Formats of fixed bytes with a lent part behind them: what their reader answers by a verdict on the fields, and what
-- their laws share.
use Rattle.std.specs.Prelude.{ℕ, zero, suc, ◌+◌, ◌-◌, ◌≤◌, ◌≡◌, refl, Bool, true, false, List, ◌++◌, drop}
use Rattle.std.proofs.Common.{sym, ap, ◌∙◌, length-append, length-drop, take-append-drop, le-leb}
use native.Mathlib.Omega.{arith}
use Rattle.std.proofs.Math.ListN.{length, take}
use Rattle.std.proofs.Math.Seq.{take-length, drop-append_seam}
use Rattle.octets.specs.Choice.{pick}
use Rattle.octets.specs.Bytes.{Bytes}
use Rattle.octets.specs.Elements.{elements}
use Rattle.octets.specs.Number.{number_of, bytes_of}
use Rattle.octets.proofs.Number.{bytes_number}
use Rattle.octets.specs.Part.{part_of}
use Rattle.octets.specs.Front.{Verdict, fine, fault}
use Rattle.octets.specs.Fixed.{judged}

-- ---- verdicts
-- what holds of the answer, where the verdict is fine, and of every refusal, holds of what is judged
pub by_verdict : {A : Type 0} (P : A → Type 0) {refuse : ℕ → A} (v : Verdict) {a : A} → ((k : ℕ) → P (refuse k)) → (v ≡ fine → P a) → P (judged refuse v a)
by_verdict P fine p q = q refl
by_verdict P (fault k) p q = p k

-- a fault is not fine, so where a verdict is fine it has passed each test
pub fault_fine : {k : ℕ} → fault k ≡ fine → ⊥
fault_fine e = let z : ◌≡◌ {A = ℕ} 0 1 = cc in omega arith

pub passed : (k : ℕ) (b : Bool) (v : Verdict) → pick b (fault k) v ≡ fine → (b ≡ false) × (v ≡ fine)
passed k true v e = absurd (fault_fine e)
passed k false v e = (refl, e)

-- ---- a number in the fixed bytes
elements_bytes : (k i : ℕ) (s : List ℕ) → Bytes s → Bytes (elements k i s)
elements_bytes zero i s b j = omega arith
elements_bytes (suc k) i s b zero = b i
elements_bytes (suc k) i s b (suc j) = elements_bytes k (suc i) s b j

elements_long : (k i : ℕ) (s : List ℕ) → length (elements k i s) ≡ k
elements_long zero i s = refl
elements_long (suc k) i s = ap suc (elements_long k (suc i) s)

-- the bytes of the number at i are the bytes that stand there
pub number_again : (k i : ℕ) (s : List ℕ) → Bytes s → bytes_of k (number_of (elements k i s)) ≡ elements k i s
number_again k i s b =
    ap (λ (w : ℕ). bytes_of w (number_of (elements k i s))) (sym (elements_long k i s))
    ∙ bytes_number (elements k i s) (elements_bytes k i s b)

-- ---- the part behind fixed bytes p
pub part_behind : (p u : List ℕ) → part_of (p ++ u) (length p) (length u) ≡ u
unfolding part_of
part_behind p u =
    let fits : length p + length u ≤ length (p ++ u) = omega (arith, length-append p u) in
    simp (le-leb _ _ fits) (ap (take (length u)) (drop-append_seam p u) ∙ take-length u)

module _ (n : ℕ) (s : List ℕ) (fits : n ≤ length s) where
  -- the part from n to the end
  part_is : part_of s n (length s - n) ≡ drop n s
  unfolding part_of
  part_is =
      let within : n + (length s - n) ≤ length s = omega arith in
      simp (le-leb _ _ within) (ap (λ (k : ℕ). take k (drop n s)) (sym (length-drop n s)) ∙ take-length (drop n s))

  pub part_long : n + length (part_of s n (length s - n)) ≡ length s
  part_long = ap (λ (l : List ℕ). n + length l) part_is ∙ omega (arith, length-drop n s)

  -- the bytes before it and the part are all
  pub part_tiles : {p : List ℕ} → p ≡ take n s → p ++ part_of s n (length s - n) ≡ s
  part_tiles e = rw (e, part_is) (take-append-drop n s)
