-- Writing parameters (document 01, "Parameters"): their bytes, and the verdict on them at their length.
use Rattle.std.specs.Prelude.{ℕ, ◌+◌, ◌≡◌, Bool, true, List, [], ◌∷◌, ◌++◌, length}
use Rattle.octets.specs.Choice.{◌and◌}
use Rattle.octets.specs.Number.{bytes_of}
use Rattle.octets.specs.Front.{Verdict, fine}
use Rattle.octets.specs.declared.Mode.{Mode}
use Rattle.parameters.specs.Fields.{mode_of, fixed_length, good_status1, good_status2, good_status3, verdict_of}
use Rattle.parameters.specs.declared.fields.Extension.{Extension}
use Rattle.parameters.specs.declared.fields.Extension.TheVariants.{Dpv0, Dpv1}
use Rattle.parameters.specs.declared.fields.Parameters.{Parameters}

-- the seven bytes of both versions
abbrev pub fixed_bytes : Parameters → List ℕ
fixed_bytes f =
    f.flags ∷ f.factor1 ∷ f.factor2 ∷ f.response.0 ∷ (bytes_of 2 f.ident ++ (f.groups ∷ []))

-- the three that DPV1 adds
abbrev pub status_bytes : Extension → List ℕ
status_bytes Dpv0 = []
status_bytes (Dpv1 a b c) = a ∷ b ∷ c ∷ []

abbrev pub front_bytes : Parameters → List ℕ
front_bytes f = fixed_bytes f ++ status_bytes f.extension

abbrev pub bytes_for : Parameters → (user : List ℕ) → List ℕ
bytes_for f user = front_bytes f ++ user

-- where the user bytes begin
abbrev pub user_start : Parameters → ℕ
user_start f = fixed_length (mode_of f.extension)

-- the three status bytes together: a writer gives no place
abbrev pub good_extension : Extension → Bool
good_extension Dpv0 = true
good_extension (Dpv1 a b c) = good_status1 a and good_status2 b and good_status3 c

-- the verdict on the fields, at the length that the bytes will have
abbrev pub verdict_for : Parameters → (user : List ℕ) → Verdict
verdict_for f user = verdict_of f (user_start f + length user)

-- ---- what the laws say of parameters that were read

-- fields and user bytes that are s in the version m
pub record Again (s : List ℕ) (m : Mode) (f : Parameters) (user : List ℕ) : Type 0 where
  pub mode : mode_of f.extension ≡ m
  pub taken : verdict_for f user ≡ fine
  pub same : bytes_for f user ≡ s
