-- Offsets and totals are sums of the modules' lengths.
use Rattle.std.specs.Prelude.{◌≡◌, List, [], ◌∷◌, ℕ, zero, suc, ◌+◌, ◌≤◌, ◌<◌, length, get_or, take}
use Rattle.std.proofs.Common.{◌∙◌, arith}
use Rattle.configuration.specs.Walk.{Walk, end, bad, more}
use Rattle.configuration.specs.Reading.{input_of, output_of, total, totals_of, offsets_by}
use Rattle.configuration.specs.Contents.{lengths_by, sum_of}
use Rattle.configuration.proofs.Lemmas.Accepted.{same_inputs, same_outputs}
use Rattle.configuration.specs.declared.fields.Module.{Module}

pub offset_from : (side : Module → ℕ) (a : ℕ) (w : Walk) (k : ℕ) → k < length (offsets_by side a w)
    → get_or (offsets_by side a w) k 0 ≡ a + sum_of (take k (lengths_by side w))
unfolding offsets_by
offset_from side a end k h = absurd (omega arith)
offset_from side a (bad r) k h = absurd (omega arith)
offset_from side a (more m vendor w) zero h = omega arith
offset_from side a (more m vendor w) (suc k) h = offset_from side (a + side m) w k (omega arith) ∙ omega arith

-- a part of a sum
pub sum_front : (l : List ℕ) (k : ℕ) → sum_of (take k l) + get_or l k 0 ≤ sum_of l
sum_front [] zero = omega arith
sum_front [] (suc k) = omega arith
sum_front (x ∷ l) zero = omega arith
sum_front (x ∷ l) (suc k) = omega (arith, sum_front l k)

pub record Sums (w : Walk) (i o i' o' : ℕ) : Type 0 where
  pub inputs : i + sum_of (lengths_by input_of w) ≡ i'
  pub outputs : o + sum_of (lengths_by output_of w) ≡ o'

pub sums : (w : Walk) (n i o : ℕ) {n' i' o' : ℕ} → totals_of n i o w ≡ total n' i' o' → Sums w i o i' o'
unfolding totals_of
sums end n i o e = record { inputs = omega (arith, same_inputs e); outputs = omega (arith, same_outputs e) }
sums (bad r) n i o e = absurd (let z : ◌≡◌ {A = ℕ} 0 1 = cc in omega arith)
sums (more m vendor w) n i o e =
    let r = sums w (n + 1) (i + input_of m) (o + output_of m) e in
    record { inputs = omega (arith, r.inputs); outputs = omega (arith, r.outputs) }
