-- Both ways between an address change and its bytes.
use Rattle.std.specs.Prelude.{ℕ, ◌+◌, ◌-◌, ◌≤◌, ◌<◌, ◌≡◌, not, List, [], ◌∷◌, ◌++◌, get_or, eqb, Ok, Err}
use Rattle.std.proofs.Common.{sym, ◌∙◌, length-append}
use Rattle.std.proofs.Math.Path.{ap, ap₂}
use native.Mathlib.Omega.{arith}
use Rattle.std.proofs.Math.ListN.{length}
use borrow.Author.Tests.{eqb-true, not-false}
use Rattle.octets.specs.Bytes.{Bytes}
use Rattle.octets.proofs.Elements.{part_elements}
use Rattle.octets.proofs.Number.{number_bytes}
use Rattle.octets.specs.Part.{part_of}
use Rattle.octets.specs.Front.{fine}
use Rattle.octets.specs.Fixed.{judged}
use Rattle.octets.proofs.Fixed.{by_verdict, passed, number_again, part_long, part_tiles}
use Rattle.address_change.specs.Address.{verdict_of, refused, fields_in, read_of, fixed_bytes, bytes_for, verdict_for, AddressReading}
use Rattle.address_change.specs.declared.AddressChange.{AddressChange}

-- ---- from the fields

module _ (f : AddressChange) (word : f.ident < 65536) (rest : List ℕ) where
  fields_back : fields_in (bytes_for f rest) ≡ f
  fields_back =
      ap (λ (n : ℕ). record { address = f.address; ident = n; locked = f.locked }) (number_bytes 2 f.ident word)

  pub alike : read_of (bytes_for f rest) ≡ judged refused (verdict_for f rest) (Ok (record { fields = f; start = 4; len = length rest }))
  unfolding read_of
  alike =
      let len : 4 + length rest - 4 ≡ length rest = omega arith in
      ap₂ (λ (g : AddressChange) (n : ℕ). judged refused (verdict_of g n) (Ok (record { fields = g; start = 4; len = n - 4 }))) fields_back (length-append (fixed_bytes f) rest)
      ∙ ap (λ (n : ℕ). judged refused (verdict_for f rest) (Ok (record { fields = f; start = 4; len = n }))) len

-- ---- from the bytes

module _ (s : List ℕ) (bytes : Bytes s) where
  abbrev pub Again : AddressReading → Type 0
  Again (Ok found) = (verdict_for found.fields (part_of s found.start found.len) ≡ fine) × (bytes_for found.fields (part_of s found.start found.len) ≡ s)
  Again (Err r) = Unit

  module _ (good : verdict_of (fields_in s) (length s) ≡ fine) where
    long : 4 ≤ length s
    unfolding verdict_of
    long =
        let four : length s ≡ 4 = eqb-true _ _ (not-false _ (passed 20 (not (eqb (length s) 4)) _ good).0) in
        omega arith

    taken : verdict_for (fields_in s) (part_of s 4 (length s - 4)) ≡ fine
    taken = ap (verdict_of (fields_in s)) (part_long 4 s long) ∙ good

    same : bytes_for (fields_in s) (part_of s 4 (length s - 4)) ≡ s
    same =
        part_tiles 4 s long
        (ap (λ (w : List ℕ). get_or s 0 0 ∷ (w ++ (get_or s 3 0 ∷ []))) (number_again 2 1 s bytes) ∙ sym (part_elements 4 0 s long))

  pub again : Again (read_of s)
  unfolding read_of
  again = by_verdict Again (verdict_of (fields_in s) (length s)) (λ _. tt) (λ good. (taken good, same good))
