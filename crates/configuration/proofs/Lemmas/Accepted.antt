-- What an accepted configuration is.
use Rattle.std.specs.Prelude.{◌≡◌, refl, List, ℕ, ◌+◌, ◌≤◌, length, ltb, Ok, Err}
use Rattle.std.proofs.Common.{subst, ap, arith}
use borrow.Author.Tests.{ltb-false}
use Rattle.octets.proofs.Choice.{by_pick}
use Rattle.configuration.specs.Walk.{Walk, end, bad, more, walk_of}
use Rattle.configuration.specs.Reading.{input_of, output_of, total, totals_of, within_limit, read_of, offsets_by, Reading}
use Rattle.configuration.specs.declared.fields.Module.{Module}
use Rattle.configuration.specs.declared.reading.Reading as totals

pub record Accepted (s : List ℕ) (n i o : ℕ) : Type 0 where
  pub some : 1 ≤ length s
  pub most : length s ≤ 244
  pub totals : totals_of 0 0 0 (walk_of s 0) ≡ total n i o
  pub inputs : i ≤ 244
  pub outputs : o ≤ 244

abbrev AcceptedIf : List ℕ → Reading → Type 0
AcceptedIf s (Ok found) = Accepted s found.modules found.inputs found.outputs
AcceptedIf s (Err r) = Unit

module _ (s : List ℕ) where
  within : 1 ≤ length s → length s ≤ 244 → (r : Reading) → totals_of 0 0 0 (walk_of s 0) ≡ r → AcceptedIf s (within_limit r)
  unfolding within_limit
  within a b (Err r) e = tt
  within a b (Ok found) e =
      by_pick (AcceptedIf s) (ltb 244 found.inputs) (λ _. tt)
      (λ p. by_pick (AcceptedIf s) (ltb 244 found.outputs) (λ _. tt)
      (λ q. record { some = a; most = b; totals = e; inputs = ltb-false 244 found.inputs p; outputs = ltb-false 244 found.outputs q }))

  read : AcceptedIf s (read_of s)
  unfolding read_of
  read =
      by_pick (AcceptedIf s) (ltb (length s) 1) (λ _. tt)
      (λ p. by_pick (AcceptedIf s) (ltb 244 (length s)) (λ _. tt)
      (λ q. within (ltb-false (length s) 1 p) (ltb-false 244 (length s) q) (totals_of 0 0 0 (walk_of s 0)) refl))

  pub accepted : {n i o : ℕ} → read_of s ≡ total n i o → Accepted s n i o
  accepted e = subst (AcceptedIf s) e read

-- an answer has one number of modules, of input and of output bytes
module _ {n i o n' i' o' : ℕ} (e : total n i o ≡ total n' i' o') where
  same : ◌≡◌ {A = totals.Reading} (record { modules = n; inputs = i; outputs = o }) (record { modules = n'; inputs = i'; outputs = o' })
  same = cc

  pub same_modules : n ≡ n'
  same_modules = ap (λ (r : totals.Reading). r.modules) same

  pub same_inputs : i ≡ i'
  same_inputs = ap (λ (r : totals.Reading). r.inputs) same

  pub same_outputs : o ≡ o'
  same_outputs = ap (λ (r : totals.Reading). r.outputs) same

-- a walk that ends well has as many offsets as modules, on either side
pub counted : (side : Module → ℕ) (a n i o : ℕ) (w : Walk) {n' i' o' : ℕ} → totals_of n i o w ≡ total n' i' o'
    → n + length (offsets_by side a w) ≡ n'
unfolding totals_of offsets_by
counted side a n i o end e = omega (arith, same_modules e)
counted side a n i o (bad r) e = absurd (let z : ◌≡◌ {A = ℕ} 0 1 = cc in omega arith)
counted side a n i o (more m vendor w) e =
    omega (arith, counted side (a + side m) (n + 1) (i + input_of m) (o + output_of m) w e)
