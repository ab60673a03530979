-- What one step of the walk says, from the step and back to it, and that step after step it comes to what reading counts.
use Rattle.std.specs.Prelude.{◌≡◌, refl, List, ℕ, zero, suc, ◌+◌, ◌-◌, ◌≤◌, ◌<◌, drop, eqb, ltb, Ok, Err}
use Rattle.std.proofs.Common.{ap, subst, lt_of_not-le}
use native.Mathlib.Omega.{arith}
use Rattle.std.proofs.Math.Decide.{dec_le}
use Rattle.std.proofs.Math.ListN.{length}
use borrow.Author.Tests.{le-ltb, ltb-true, ltb-false, eqb-true, eqb-false, eq-eqb, ne_eqb}
use Rattle.octets.proofs.Choice.{by_pick}
use Rattle.diagnosis.specs.Block.{found_at, Found}
use Rattle.diagnosis.specs.Walk.{position, block_of, step_of, next_of, Step}
use Rattle.diagnosis.specs.Reading.{blocks_in, counted, Count}
use Rattle.diagnosis.specs.Contents.{Walks, end, bad, more}
use Rattle.diagnosis.proofs.Lemmas.Found.{within_at}
use Rattle.diagnosis.proofs.Lemmas.Blocks.{blocks_more, blocks_bad, blocks_end}
use Rattle.diagnosis.specs.declared.block.Extent.{Extent}
use Rattle.diagnosis.specs.declared.walk.Position.{Position}
use Rattle.diagnosis.specs.declared.walk.Step.TheVariants as step

-- a place behind the header, before the end
pub record Inner (s : List ℕ) (at : ℕ) : Type 0 where
  pub low : 6 ≤ at
  pub high : at < length s

pub data Steps (s : List ℕ) (at : ℕ) : Step → Type 0 where
  block : {e : Extent} → Inner s at → found_at s at ≡ Ok e → Steps s at (Ok (step.Block (block_of s at e) (position (at + e.len))))
  fault : {r : ℕ} → Inner s at → found_at s at ≡ Err r → Steps s at (Err r)
  last : at ≡ length s → Steps s at (Ok step.End)
  outside : {r : ℕ} → (6 ≤ at → at ≤ length s → ⊥) → Steps s at (Err r)

module _ (s : List ℕ) (at : ℕ) where
  by_found : Inner s at → (f : Found) → found_at s at ≡ f → Steps s at (step_of s at f)
  by_found i (Ok e) p = block i p
  by_found i (Err r) p = fault i p

  pub steps : Steps s at (next_of s at)
  unfolding next_of
  steps =
      by_pick (Steps s at) (ltb at 6) (λ a. outside (λ l h. omega (arith, ltb-true at 6 a)))
      (λ a. by_pick (Steps s at) (ltb (length s) at) (λ b. outside (λ l h. omega (arith, ltb-true (length s) at b)))
      (λ b. by_pick (Steps s at) (eqb (length s - at) 0)
      (λ c. last (omega (arith, ltb-false (length s) at b, eqb-true (length s - at) 0 c)))
      (λ c.
      let z : length s - at ≡ 0 → ⊥ = eqb-false (length s - at) 0 c in
      by_found (record { low = ltb-false at 6 a; high = omega (arith, ltb-false (length s) at b) }) (found_at s at) refl)))

  -- from what was found to the step
  pub inner_step : Inner s at → {f : Found} → found_at s at ≡ f → next_of s at ≡ step_of s at f
  unfolding next_of
  inner_step i p =
      let some : length s - at ≡ 0 → ⊥ = λ e. omega arith in
      let reached : at ≤ length s = omega arith in
      simp (le-ltb _ _ i.low, le-ltb _ _ reached, ne_eqb _ _ some) (ap (step_of s at) p)

  pub last_step : 6 ≤ at → at ≡ length s → next_of s at ≡ Ok step.End
  unfolding next_of
  last_step l e =
      let none : length s - at ≡ 0 = omega arith in
      let reached : at ≤ length s = omega arith in
      simp (le-ltb _ _ l, le-ltb _ _ reached, eq-eqb _ _ none)

-- ---- the walk to its end

-- one step, and then what is left: the fuel is what is left of s
by_step : (f : ℕ) (s : List ℕ) (at n : ℕ) → Inner s at → length s - at ≤ suc f
    → ((at n : ℕ) → 6 ≤ at → at ≤ length s → length s - at ≤ f → Walks s at n (counted n (blocks_in (drop at s) 0)))
    → (x : Found) → found_at s at ≡ x → Walks s at n (counted n (blocks_in (drop at s) 0))
by_step f s at n i l rest (Ok e) p =
    let w = within_at s at p in
    rw (blocks_more s at i.high p) (more (inner_step s at i p) (rest (at + e.len) (n + 1) (omega arith) (omega arith) (omega arith)))
by_step f s at n i l rest (Err r) p = rw (blocks_bad s at i.high p) (bad (inner_step s at i p))

ended : (s : List ℕ) (at n : ℕ) → 6 ≤ at → at ≡ length s → Walks s at n (counted n (blocks_in (drop at s) 0))
ended s at n l e = rw (blocks_end s at e) (end (last_step s at l e))

pub walks : (f : ℕ) (s : List ℕ) (at n : ℕ) → 6 ≤ at → at ≤ length s → length s - at ≤ f → Walks s at n (counted n (blocks_in (drop at s) 0))
walks zero s at n l h k = ended s at n l (omega arith)
walks (suc f) s at n l h k =
    elim (dec_le (length s) at) [
      | yes e ↦ ended s at n l (omega arith)
      | no e ↦
          let i : Inner s at = record { low = l; high = lt_of_not-le e } in
          by_step f s at n i k (λ at n. walks f s at n) (found_at s at) refl
    ]

-- and it can come to nothing else
pub same : {s : List ℕ} {at n : ℕ} {c d : Count} → Walks s at n c → Walks s at n d → c ≡ d
same (end p) (end q) = refl
same (end p) (bad q) = cc
same (end p) (more q v) = cc
same (bad p) (end q) = cc
same (bad p) (bad q) = cc
same (bad p) (more q v) = cc
same (more p w) (end q) = cc
same (more p w) (bad q) = cc
same {s} {at} {n} {c} {d} (more {p = here} p w) (more {p = there} q v) =
    let e : there ≡ here = cc in
    same w (subst (λ (x : Position). Walks s x.at (n + 1) d) e v)
