-- What the answers on a module block mean (document 01, "Diagnosis"): the lowest module that reports, and the number of set bits.
use Rattle.std.specs.Prelude.{◌≡◌, refl, true, false, List, [], ◌∷◌, ◌↔◌, ℕ, ◌+◌, ◌*◌, ◌/◌, ◌%◌, ◌^◌, ◌<◌, length, get_or, Some, None}
use Rattle.std.proofs.Common.{ap, subst, arith, lt_of_not-le}
use Rattle.std.proofs.Math.Decide.{dec_le}
use Rattle.std.proofs.Math.Nat.{zero-div}
use borrow.Author.Tests.{eqb-true, eqb-false, eq-eqb}
use Rattle.octets.proofs.Elements.{get_d_past}
use Rattle.diagnosis.specs.Map.{reports, count_from, lowest_from, set_of, lowest_of, Lowest}
use Rattle.diagnosis.proofs.Lemmas.Map.{Finds, found, none, finds, count_more}

-- module k reports: bit k % 8 of byte k / 8 is set
abbrev pub Reports : List ℕ → (k : ℕ) → Type 0
Reports map k = get_or map (k / 8) 0 / 2 ^ (k % 8) % 2 ≡ 1

module _ (map : List ℕ) where
  reports_yes : (k : ℕ) → Reports map k → reports map k ≡ true
  unfolding reports
  reports_yes k e = eq-eqb _ _ e

  yes_reports : (k : ℕ) → reports map k ≡ true → Reports map k
  unfolding reports
  yes_reports k e = eqb-true _ _ e

  no_reports : (k : ℕ) → reports map k ≡ false → Reports map k → ⊥
  unfolding reports
  no_reports k e = eqb-false _ _ e

  -- a module that reports stands in the map
  inside : (k : ℕ) → Reports map k → k < 8 * length map
  inside k e =
      elim (dec_le (length map) (k / 8)) [
        | yes l ↦
            let z : 0 / 2 ^ (k % 8) % 2 ≡ 1 = rw (get_d_past map (k / 8) l) at e in
            absurd (omega (arith, rw (zero-div (2 ^ (k % 8))) at z))
        | no l ↦ omega (arith, lt_of_not-le l)
      ]

  abbrev Means : Lowest → Type 0
  Means (Some k) = Reports map k × ((j : ℕ) → j < k → Reports map j → ⊥)
  Means None = (j : ℕ) → Reports map j → ⊥

  means : {r : Lowest} → Finds (reports map) 0 (8 * length map) r → Means r
  means (found {m} t l) = (yes_reports m t, λ j h. no_reports j (l j (omega arith) h))
  means (none l) = λ j e. no_reports j (l j (omega arith) (omega (arith, inside j e))) e

  lowest_means : Means (lowest_of map)
  lowest_means = means (finds (reports map) 0 (8 * length map))

  -- one meaning, one answer
  only : (r q : Lowest) → Means r → Means q → r ≡ q
  only (Some k) (Some j) (a, b) (c, d) =
      elim (dec_le k j) [
        | yes l ↦
            elim (dec_le j k) [
              | yes m ↦ ap Some (omega arith)
              | no m ↦ absurd (d k (lt_of_not-le m) a)
            ]
        | no l ↦ absurd (b j (lt_of_not-le l) c)
      ]
  only (Some k) None (a, b) n = absurd (n k a)
  only None (Some j) n (c, d) = absurd (n j c)
  only None None m n = refl

  -- The lowest module is k exactly when k reports and none below it does.
  pub lowest_reports : (k : ℕ) → lowest_of map ≡ Some k ↔ Reports map k × ((j : ℕ) → j < k → Reports map j → ⊥)
  lowest_reports k = (λ e. subst Means e lowest_means, λ m. only (lowest_of map) (Some k) lowest_means m)

  -- There is none exactly when no module reports.
  pub none_reports : lowest_of map ≡ None ↔ ((j : ℕ) → Reports map j → ⊥)
  none_reports = (λ e. subst Means e lowest_means, λ m. only (lowest_of map) None lowest_means m)

-- The number of modules that report is the number of set bits, byte by byte.
pub set_of_none : set_of [] ≡ 0
unfolding count_from
set_of_none = refl

pub set_of_more : (x : ℕ) (map : List ℕ)
    → set_of (x ∷ map) ≡ x % 2 + x / 2 % 2 + x / 4 % 2 + x / 8 % 2 + x / 16 % 2 + x / 32 % 2 + x / 64 % 2 + x / 128 % 2 + set_of map
set_of_more = count_more

-- Modules 11 and 13, in a map of three bytes.
pub maps_computed : (lowest_of (0 ∷ 40 ∷ 0 ∷ []) ≡ Some 11) × (set_of (0 ∷ 40 ∷ 0 ∷ []) ≡ 2) × (lowest_of (0 ∷ []) ≡ None)
unfolding reports count_from lowest_from
maps_computed = (refl, refl, refl)
