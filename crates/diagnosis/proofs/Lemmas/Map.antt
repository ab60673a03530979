-- The map of a module block: the search for the lowest module that reports, and the count byte by byte.
use Rattle.std.specs.Prelude.{◌≡◌, refl, Bool, true, false, List, ◌∷◌, length, get_or, eqb, Some, None}
use Rattle.std.proofs.Common.{ap, ap₂, ◌∙◌, subst, arith, lt_of_not-le, div-one}
use Prim.Native.Nat.{ℕ, zero, suc, ◌+◌, ◌*◌, ◌/◌, ◌%◌, ◌^◌, ◌≤◌, ◌<◌}
use Rattle.std.proofs.Math.Decide.{dec_le}
use Rattle.octets.specs.Choice.{pick}
use Rattle.octets.proofs.Choice.{by_pick}
use Rattle.diagnosis.specs.Map.{reports, count_from, lowest_from, set_of, Lowest}

-- ---- the search

-- what the search among the n numbers from k on says
pub data Finds (test : ℕ → Bool) (k n : ℕ) : Lowest → Type 0 where
  found : {m : ℕ} → test m ≡ true → ((j : ℕ) → k ≤ j → j < m → test j ≡ false) → Finds test k n (Some m)
  none : ((j : ℕ) → k ≤ j → j < k + n → test j ≡ false) → Finds test k n None

-- from k on, where it holds of k and from the next on
from_next : (P : ℕ → Type 0) (k : ℕ) → P k → ((j : ℕ) → suc k ≤ j → P j) → (j : ℕ) → k ≤ j → P j
from_next P k p q j h =
    elim (dec_le (suc k) j) [
      | yes l ↦ q j l
      | no l ↦ let e : k ≡ j = omega (arith, lt_of_not-le l) in subst P e p
    ]

module _ (test : ℕ → Bool) where
  later : {k n : ℕ} → test k ≡ false → {r : Lowest} → Finds test (suc k) n r → Finds test k (suc n) r
  later {k} {n} e (found {m} t l) = found t (from_next (λ j. j < m → test j ≡ false) k (λ _. e) l)
  later {k} {n} e (none l) = none (from_next (λ j. j < k + suc n → test j ≡ false) k (λ _. e) (λ j a b. l j a (omega arith)))

  pub finds : (k n : ℕ) → Finds test k n (lowest_from test k n)
  unfolding lowest_from
  finds k zero = none (λ j a b. absurd (omega arith))
  finds k (suc n) =
      by_pick (Finds test k (suc n)) (test k) (λ e. found e (λ j a b. absurd (omega arith))) (λ e. later e (finds (suc k) n))

-- ---- the count

-- a test of a bit, as a number
pub bit : (x : ℕ) → pick (eqb (x % 2) 1) 1 0 ≡ x % 2
bit x = odd (x % 2) (omega arith)
  where
    odd : (r : ℕ) → r < 2 → pick (eqb r 1) 1 0 ≡ r
    odd zero h = refl
    odd (suc zero) h = refl
    odd (suc (suc r)) h = absurd (omega arith)

-- eight modules further, one byte further
behind : (x : ℕ) (map : List ℕ) (k n : ℕ) → count_from (reports (x ∷ map)) (8 + k) n ≡ count_from (reports map) k n
unfolding count_from reports
behind x map k zero = refl
behind x map k (suc n) =
    let q : (8 + k) / 8 ≡ suc (k / 8) = omega arith in
    let r : (8 + k) % 8 ≡ k % 8 = omega arith in
    let s : suc (8 + k) ≡ 8 + suc k = omega arith in
    ap₂ (λ (b : Bool) (m : ℕ). pick b 1 0 + m)
    (ap₂ (λ (i j : ℕ). eqb (get_or (x ∷ map) i 0 / 2 ^ j % 2) 1) q r)
    (ap (λ (i : ℕ). count_from (reports (x ∷ map)) i n) s ∙ behind x map (suc k) n)

-- the first byte of a map, and the others
pub count_more : (x : ℕ) (map : List ℕ)
    → set_of (x ∷ map) ≡ x % 2 + x / 2 % 2 + x / 4 % 2 + x / 8 % 2 + x / 16 % 2 + x / 32 % 2 + x / 64 % 2 + x / 128 % 2 + set_of map
unfolding count_from reports
count_more x map =
    let e : 8 * suc (length map) ≡ suc (suc (suc (suc (suc (suc (suc (suc (8 * length map)))))))) = omega arith in
    let one : x / 1 ≡ x = div-one x in
    ap (count_from (reports (x ∷ map)) 0) e
    ∙ simp (one, bit x, bit (x / 2), bit (x / 4), bit (x / 8), bit (x / 16), bit (x / 32), bit (x / 64), bit (x / 128), behind x map 0 (8 * length map)) (omega arith)
