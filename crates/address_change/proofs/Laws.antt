-- The customer's second demand for address changes, and that reader and writer refuse alike. An ident number has two bytes.
use Rattle.std.specs.Prelude.{ℕ, ◌<◌, ◌≡◌, List, length, Ok}
use Rattle.std.proofs.Common.{ap, ◌∙◌, subst}
use Rattle.octets.specs.Bytes.{Bytes}
use Rattle.octets.specs.Part.{part_of}
use Rattle.octets.specs.Front.{Verdict, fine, fault}
use Rattle.octets.specs.Fixed.{judged}
use Rattle.octets.proofs.Fixed.{part_behind}
use Rattle.address_change.specs.Address.{refused, read_of, fixed_bytes, bytes_for, verdict_for}
use Rattle.address_change.proofs.Lemmas.{alike, Again, again}
use Rattle.address_change.specs.declared.AddressChange.{AddressChange}

module _ (f : AddressChange) (rest : List ℕ) (word : f.ident < 65536) where
  -- (a) What is written reads back as the same fields and the same rest.
  pub address_reads_back : verdict_for f rest ≡ fine
      → (read_of (bytes_for f rest) ≡ Ok (record { fields = f; start = 4; len = length rest })) × (part_of (bytes_for f rest) 4 (length rest) ≡ rest)
  address_reads_back e =
      (alike f word rest ∙ ap (λ (v : Verdict). judged refused v (Ok (record { fields = f; start = 4; len = length rest }))) e, part_behind (fixed_bytes f) rest)

  -- What the writer refuses, the reader would refuse with the same number.
  pub address_refused_alike : (k : ℕ) → verdict_for f rest ≡ fault k → read_of (bytes_for f rest) ≡ refused k
  address_refused_alike k e = alike f word rest ∙ ap (λ (v : Verdict). judged refused v (Ok (record { fields = f; start = 4; len = length rest }))) e

-- (b) What is read may be written, and gives the same bytes again.
pub address_writes_back : (s : List ℕ) → Bytes s → {f : AddressChange} {start len : ℕ} → read_of s ≡ Ok (record { fields = f; start = start; len = len })
    → (verdict_for f (part_of s start len) ≡ fine) × (bytes_for f (part_of s start len) ≡ s)
address_writes_back s b e = subst (Again s b) e (again s b)
