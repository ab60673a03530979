-- What is written reads back: from the fields to the bytes, and to the reading.
use Rattle.std.specs.Prelude.{ℕ, ◌+◌, ◌-◌, ◌≤◌, ◌<◌, ◌≡◌, refl, List, ◌++◌, ltb, Ok}
use Rattle.std.proofs.Common.{ap, ◌∙◌, le-ltb}
use Rattle.std.proofs.Math.Path.{ap₂}
use native.Mathlib.Omega.{arith}
use Rattle.std.proofs.Math.ListN.{length}
use Rattle.octets.specs.Choice.{pick}
use Rattle.octets.proofs.Number.{number_bytes}
use Rattle.octets.specs.Part.{part_of}
use Rattle.octets.specs.Fixed.{judged}
use Rattle.octets.proofs.Fixed.{part_behind}
use Rattle.parameters.specs.Fields.{mode_of, verdict_of}
use Rattle.parameters.specs.Reading.{refused, extension_in, fields_in, read_of}
use Rattle.parameters.specs.Writing.{fixed_bytes, status_bytes, front_bytes, bytes_for, user_start, verdict_for}
use Rattle.parameters.proofs.Lemmas.Fields.{front_length, bytes_length}
use Rattle.parameters.specs.declared.fields.Extension.{Extension}
use Rattle.parameters.specs.declared.fields.Extension.TheVariants.{Dpv0, Dpv1}
use Rattle.parameters.specs.declared.fields.Parameters.{Parameters}

extension_back : (f : Parameters) (e : Extension) (user : List ℕ) → extension_in ((fixed_bytes f ++ status_bytes e) ++ user) (mode_of e) ≡ e
extension_back f Dpv0 user = refl
extension_back f (Dpv1 a b c) user = refl

module _ (f : Parameters) (user : List ℕ) where
  pub user_back : part_of (bytes_for f user) (user_start f) (length user) ≡ user
  user_back =
      ap (λ (n : ℕ). part_of (bytes_for f user) n (length user)) (front_length f) ∙ part_behind (front_bytes f) user

  module _ (word : f.ident < 65536) where
    fields_back : fields_in (bytes_for f user) (extension_in (bytes_for f user) (mode_of f.extension)) ≡ f
    fields_back =
        ap₂
        (λ (n : ℕ) (e : Extension).
        record { flags = f.flags; factor1 = f.factor1; factor2 = f.factor2; response = f.response; ident = n; groups = f.groups; extension = e })
        (number_bytes 2 f.ident word) (extension_back f f.extension user)

    pub alike : read_of (bytes_for f user) (mode_of f.extension) ≡ judged refused (verdict_for f user) (Ok (record { fields = f; start = user_start f; len = length user }))
    unfolding read_of
    alike =
        let long : user_start f ≤ user_start f + length user = omega arith in
        let len : user_start f + length user - user_start f ≡ length user = omega arith in
        ap₂
        (λ (n : ℕ) (g : Parameters).
        pick (ltb n (user_start f)) (refused 20) (judged refused (verdict_of g n) (Ok (record { fields = g; start = user_start f; len = n - user_start f }))))
        (bytes_length f user) fields_back
        ∙ simp (le-ltb _ _ long) (ap (λ (n : ℕ). judged refused (verdict_for f user) (Ok (record { fields = f; start = user_start f; len = n }))) len)
