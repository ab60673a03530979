-- `service_fields::parameters_own` meets its contract: seven bytes, and the three places of the status bytes.
use mathlib.Core.Path.{◌≡◌, refl, ap, ◌∙◌}
use mathlib.Core.List.{List, ◌∷◌, ◌++◌}
use Prim.Native.Nat.{ℕ}
use lib.ListN.{take, replicate}
use Rattle.parameters.specs.Writing.{status_bytes, fixed_bytes}
use Rattle.parameters.specs.declared.fields.Extension.{Extension}
use Rattle.parameters.specs.declared.fields.Extension.TheVariants.{Dpv0, Dpv1}
use Rattle.octets.specs.Places.{places_of}
use Rattle.service_fields.proofs.parameters_own.Goals as goal

-- three places of four, and of ten
three : (x : Extension) → take 3 (places_of 4 (status_bytes x)) ≡ take 3 (status_bytes x ++ replicate 10 0)
three Dpv0 = refl
three (Dpv1 a b c) = refl

pub returns : goal.returns
returns c =
    let a = c.args in
    ap (λ (l : List ℕ). 61 ∷ (fixed_bytes a.fields ++ take 3 l)) c.status_four-status.ensures
    ∙ ap (λ (l : List ℕ). 61 ∷ (fixed_bytes a.fields ++ l)) (three a.fields.extension)
