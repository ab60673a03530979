-- Lengths, and the verdict on the status bytes.
use Rattle.std.specs.Prelude.{ℕ, ◌+◌, ◌≤◌, ◌≡◌, refl, Bool, true, false, not, List, ◌++◌, length}
use Rattle.std.proofs.Common.{sym, ap, ◌∙◌, arith, length-append}
use Rattle.octets.specs.Choice.{pick, ◌and◌}
use Rattle.octets.specs.Front.{fine, fault}
use Rattle.octets.specs.declared.Mode.{Mode}
use Rattle.octets.specs.declared.Mode.TheVariants as mode
use Rattle.parameters.specs.Fields.{mode_of, fixed_length, good_status1, good_status2, good_status3, extension_verdict}
use Rattle.parameters.specs.Writing.{fixed_bytes, status_bytes, front_bytes, bytes_for, user_start, good_extension}
use Rattle.parameters.specs.declared.fields.Extension.{Extension}
use Rattle.parameters.specs.declared.fields.Extension.TheVariants.{Dpv0, Dpv1}
use Rattle.parameters.specs.declared.fields.Parameters.{Parameters}

-- ---- lengths

pub fixed_least : (m : Mode) → 7 ≤ fixed_length m
fixed_least mode.Dpv0 = omega arith
fixed_least mode.Dpv1 = omega arith

pub fixed_most : (m : Mode) → fixed_length m ≤ 10
fixed_most mode.Dpv0 = omega arith
fixed_most mode.Dpv1 = omega arith

-- where the user bytes begin
pub front_length : (f : Parameters) → user_start f ≡ length (front_bytes f)
front_length f = by_extension f.extension
  where
    by_extension : (e : Extension) → fixed_length (mode_of e) ≡ length (fixed_bytes f ++ status_bytes e)
    by_extension Dpv0 = refl
    by_extension (Dpv1 a b c) = refl

pub bytes_length : (f : Parameters) (user : List ℕ) → length (bytes_for f user) ≡ user_start f + length user
bytes_length f user = length-append (front_bytes f) user ∙ ap (λ (n : ℕ). n + length user) (sym (front_length f))

-- ---- the status bytes

three : (x y z : Bool) → pick (not x) (fault 21) (pick (not y) (fault 21) (pick (not z) (fault 21) fine)) ≡ pick (x and y and z) fine (fault 21)
three true true true = refl
three true true false = refl
three true false z = refl
three false y z = refl

-- the verdict on the status bytes, by one test
pub extension_verdict_lem : (e : Extension) → extension_verdict e ≡ pick (good_extension e) fine (fault 21)
unfolding extension_verdict
extension_verdict_lem Dpv0 = refl
extension_verdict_lem (Dpv1 a b c) = three (good_status1 a) (good_status2 b) (good_status3 c)
