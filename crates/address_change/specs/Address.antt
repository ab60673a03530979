-- Set_Slave_Adr (document 01, "Services by access point"): 4 bytes, address 0..125, ident, then 0 or 1.
use Rattle.std.specs.Prelude.{ℕ, ◌+◌, ◌-◌, not, List, [], ◌∷◌, ◌++◌, length, get_or, eqb, ltb, Ok, Err, Result}
use Rattle.octets.specs.Choice.{pick}
use Rattle.octets.specs.Number.{number_of, bytes_of}
use Rattle.octets.specs.Front.{Verdict, fine, fault}
use Rattle.octets.specs.Fixed.{judged}
use Rattle.address_change.specs.declared.AddressChange.{AddressChange}
use Rattle.octets.specs.declared.Read.{Read}

-- what reading answers: the fields and where the bytes behind them stand, or a refusal's number
abbrev pub AddressReading : Type 0
AddressReading = Result (Read AddressChange) ℕ

-- the verdict on the fields, at so many bytes in all, which reader and writer share: the length, the address, then the last byte
unfoldable pub verdict_of : AddressChange → (size : ℕ) → Verdict
verdict_of f size = pick (not (eqb size 4)) (fault 20) (pick (ltb 125 f.address) (fault 21) (pick (ltb 1 f.locked) (fault 21) fine))

-- ---- reading

abbrev pub refused : ℕ → AddressReading
refused k = Err k

abbrev pub fields_in : List ℕ → AddressChange
fields_in s =
    record { address = get_or s 0 0; ident = number_of (get_or s 1 0 ∷ get_or s 2 0 ∷ []); locked = get_or s 3 0 }

unfoldable pub read_of : List ℕ → AddressReading
read_of s = judged refused (verdict_of (fields_in s) (length s)) (Ok (record { fields = fields_in s; start = 4; len = length s - 4 }))

-- ---- writing

abbrev pub fixed_bytes : AddressChange → List ℕ
fixed_bytes f = f.address ∷ (bytes_of 2 f.ident ++ (f.locked ∷ []))

abbrev pub bytes_for : AddressChange → (rest : List ℕ) → List ℕ
bytes_for f rest = fixed_bytes f ++ rest

-- the verdict at the length that the bytes will have
abbrev pub verdict_for : AddressChange → (rest : List ℕ) → Verdict
verdict_for f rest = verdict_of f (4 + length rest)
