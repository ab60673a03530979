-- Every refusal of parameters, read or to be written, has a number of document 01's table.
use Rattle.std.specs.Prelude.{ℕ, ◌≡◌, refl, true, List, Ok, Err}
use Rattle.octets.proofs.Choice.{through, alike}
use Rattle.octets.specs.Front.{Verdict, fine, fault}
use Rattle.octets.specs.Refusals.{listed, numbered}
use Rattle.octets.proofs.Refusals.{judged_numbered}
use Rattle.octets.specs.declared.Mode.{Mode}
use Rattle.parameters.specs.Fields.{extension_verdict, verdict_of}
use Rattle.parameters.specs.Reading.{refused, read_of, Reading}
use Rattle.parameters.specs.declared.fields.Extension.{Extension}
use Rattle.parameters.specs.declared.fields.Extension.TheVariants.{Dpv0, Dpv1}
use Rattle.parameters.specs.declared.fields.Parameters.{Parameters}

-- the verdict that a reading came to
abbrev pub verdict_in : Reading → Verdict
verdict_in (Ok found) = fine
verdict_in (Err r) = fault r

extension_numbered : (e : Extension) → numbered (extension_verdict e) ≡ true
unfolding extension_verdict listed
extension_numbered Dpv0 = refl
extension_numbered (Dpv1 a b c) = simp (through numbered, alike)

pub verdict_numbered : (f : Parameters) (size : ℕ) → numbered (verdict_of f size) ≡ true
unfolding verdict_of listed
verdict_numbered f size = simp (through numbered, alike, extension_numbered)

pub reading_numbered : (s : List ℕ) (m : Mode) → numbered (verdict_in (read_of s m)) ≡ true
unfolding read_of listed
reading_numbered s m = simp (through verdict_in, through numbered, alike, judged_numbered verdict_in refused (λ k. refl), verdict_numbered)
