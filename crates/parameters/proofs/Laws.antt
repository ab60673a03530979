-- The customer's second demand for parameters, over both versions, and that reader and writer refuse alike. An ident number
-- has two bytes.
use Rattle.std.specs.Prelude.{ℕ, ◌<◌, ◌≡◌, List, length, Ok}
use Rattle.std.proofs.Common.{ap, ◌∙◌, subst}
use Rattle.octets.specs.Bytes.{Bytes}
use Rattle.octets.specs.Part.{part_of}
use Rattle.octets.specs.Front.{Verdict, fine, fault}
use Rattle.octets.specs.Fixed.{judged}
use Rattle.octets.specs.declared.Mode.{Mode}
use Rattle.parameters.specs.Fields.{mode_of}
use Rattle.parameters.specs.Reading.{refused, read_of}
use Rattle.parameters.specs.Writing.{bytes_for, user_start, verdict_for, Again}
use Rattle.parameters.proofs.Lemmas.Back.{alike, user_back}
use Rattle.parameters.proofs.Lemmas.Again.{AgainIn, again}
use Rattle.parameters.specs.declared.fields.Parameters.{Parameters}

module _ (f : Parameters) (user : List ℕ) (word : f.ident < 65536) where
  -- (a) What is written reads back, in the version that it was written in, as the same fields and the same user bytes.
  pub reads_back : verdict_for f user ≡ fine
      → (read_of (bytes_for f user) (mode_of f.extension) ≡ Ok (record { fields = f; start = user_start f; len = length user })) × (part_of (bytes_for f user) (user_start f) (length user) ≡ user)
  reads_back e =
      (alike f user word ∙ ap (λ (v : Verdict). judged refused v (Ok (record { fields = f; start = user_start f; len = length user }))) e, user_back f user)

  -- What the writer refuses, the reader would refuse with the same number.
  pub refused_alike : (k : ℕ) → verdict_for f user ≡ fault k → read_of (bytes_for f user) (mode_of f.extension) ≡ refused k
  refused_alike k e = alike f user word ∙ ap (λ (v : Verdict). judged refused v (Ok (record { fields = f; start = user_start f; len = length user }))) e

-- (b) What is read in a version may be written, and gives the same bytes of that version again.
pub writes_back : (s : List ℕ) → Bytes s → (m : Mode) {f : Parameters} {start len : ℕ} → read_of s m ≡ Ok (record { fields = f; start = start; len = len })
    → Again s m f (part_of s start len)
writes_back s b m e = subst (AgainIn s b m) e (again s b m)
