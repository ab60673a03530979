-- Reading a telegram (document 01, "Refusal numbers" and "Telegram layouts"): the outermost layer stands last, and each
-- byte that can be refused has a line of its own, in the order in which the faults decide.
use Rattle.std.specs.Prelude.{ℕ, ◌+◌, ◌-◌, ◌%◌, not, List, length, get_or, take, drop, eqb, ltb, Ok, Err, Some, None, Result}
use Rattle.octets.specs.Choice.{pick}
use Rattle.function_code.specs.Code.{class_of, is_reserved}
use Rattle.fdl.specs.Telegram.{start_byte, token_byte, confirmation_byte, checksum_of, sap_length}
use Rattle.function_code.specs.declared.code.Class.{Class}
use Rattle.fdl.specs.declared.telegram.Format.{Format}
use Rattle.fdl.specs.declared.telegram.Format.TheVariants.{Sd1, Sd2, Sd3}
use Rattle.fdl.specs.Sap.{Sap}
use Rattle.fdl.specs.declared.reading.Classed as declared-classed
use Rattle.fdl.specs.declared.reading.Classed.TheVariants as classed
use Rattle.fdl.specs.declared.reading.Reading as declared-reading
use Rattle.fdl.specs.declared.reading.Reading.TheVariants.{Confirmation, Token, Telegram}

-- a reading with the class of a telegram's function code
abbrev pub Classed : Type 0
Classed = Result declared-classed.Classed ℕ

-- what an address byte says of its access point, or a refusal's number
abbrev pub Extension : Type 0
Extension = Result Sap ℕ

-- what reading answers: what the bytes are, or a refusal's number
abbrev pub Reading : Type 0
Reading = Result declared-reading.Reading ℕ

abbrev pub refused : ℕ → Reading
refused k = Err k

abbrev pub bad_extension : Extension
bad_extension = Err 9

-- ---- 9: the access points, of a telegram s whose DA stands at `at`

-- the access point of an address byte, where len bytes of the PDU are left, from start
unfoldable pub extension_of : List ℕ → (address start len : ℕ) → Extension
extension_of s address start len =
    pick (ltb address 128) (Ok None)
    (pick (eqb len 0) bad_extension
    (pick (ltb 63 (get_or s start 0)) bad_extension (Ok (Some (get_or s start 0)))))

-- SA's access point, and then the user data are what is left
abbrev pub with_source : Extension → Format → (da sa fc : ℕ) → Sap → (start len : ℕ) → Reading
with_source (Err r) f da sa fc dsap start len = Err r
with_source (Ok ssap) f da sa fc dsap start len =
    Ok (Telegram f (record { da = da % 128; sa = sa % 128; fc = fc; dsap = dsap; ssap = ssap }) (start + sap_length ssap) (len - sap_length ssap))

unfoldable pub source_of : List ℕ → Format → (at : ℕ) → Sap → (start len : ℕ) → Reading
source_of s f at dsap start len =
    with_source (extension_of s (get_or s (at + 1) 0) start len) f (get_or s at 0) (get_or s (at + 1) 0) (get_or s (at + 2) 0) dsap start len

-- DA's access point comes first
abbrev pub with_destination : Extension → List ℕ → Format → (at pdu : ℕ) → Reading
with_destination (Err r) s f at pdu = Err r
with_destination (Ok dsap) s f at pdu = source_of s f at dsap (at + 3 + sap_length dsap) (pdu - sap_length dsap)

unfoldable pub destination_of : List ℕ → Format → (at pdu : ℕ) → Reading
destination_of s f at pdu = with_destination (extension_of s (get_or s at 0) (at + 3) pdu) s f at pdu

-- ---- a token: both bytes with bit 7 counted

unfoldable pub token_of : List ℕ → Reading
token_of s =
    pick (ltb (length s) 3) (refused 1)
    (pick (ltb 3 (length s)) (refused 4)
    (pick (ltb 126 (get_or s 1 0)) (refused 7)
    (pick (ltb 126 (get_or s 2 0)) (refused 7) (Ok (Token (get_or s 1 0) (get_or s 2 0))))))

-- ---- SD2: LE counts the bytes of DA through the PDU, and says at most this

abbrev pub most_le : ℕ
most_le = 249

-- ---- what depends on the classes of function codes

module _ (classes : ℕ → Class) where
  -- 7 and 8: SA's low seven bits are 0..126, the function code is not reserved
  unfoldable pub fields_of : List ℕ → Format → (at pdu : ℕ) → Reading
  fields_of s f at pdu =
      pick (eqb (get_or s (at + 1) 0 % 128) 127) (refused 7)
      (pick (is_reserved (classes (get_or s (at + 2) 0))) (refused 8) (destination_of s f at pdu))

  -- 1, 4, 5 and 6: DA SA FC PDU FCS ED, where DA stands at `at` and the PDU has so many bytes
  unfoldable pub framed_of : List ℕ → Format → (at pdu : ℕ) → Reading
  framed_of s f at pdu =
      pick (ltb (length s) (at + pdu + 5)) (refused 1)
      (pick (ltb (at + pdu + 5) (length s)) (refused 4)
      (pick (not (eqb (get_or s (at + pdu + 4) 0) 0x16)) (refused 5)
      (pick (not (eqb (get_or s (at + pdu + 3) 0) (checksum_of (take (pdu + 3) (drop at s))))) (refused 6) (fields_of s f at pdu))))

  -- SD2 LE LEr SD2
  unfoldable pub sd2_of : List ℕ → Reading
  sd2_of s =
      pick (ltb (length s) 4) (refused 1)
      (pick (ltb (get_or s 1 0) 4) (refused 3)
      (pick (ltb most_le (get_or s 1 0)) (refused 3)
      (pick (not (eqb (get_or s 2 0) (get_or s 1 0))) (refused 3)
      (pick (not (eqb (get_or s 3 0) (start_byte Sd2))) (refused 3) (framed_of s Sd2 4 (get_or s 1 0 - 3))))))

  -- by the start byte
  abbrev pub start_of : ℕ → List ℕ → Reading
  start_of b s =
      pick (eqb b (start_byte Sd1)) (framed_of s Sd1 1 0)
      (pick (eqb b (start_byte Sd2)) (sd2_of s)
      (pick (eqb b (start_byte Sd3)) (framed_of s Sd3 1 8)
      (pick (eqb b token_byte) (token_of s)
      (pick (eqb b confirmation_byte) (pick (eqb (length s) 1) (Ok Confirmation) (refused 4)) (refused 2)))))

  unfoldable pub read_by : List ℕ → Reading
  read_by s = pick (eqb (length s) 0) (refused 1) (start_of (get_or s 0 0) s)

-- reading, by our classes
abbrev pub read_of : List ℕ → Reading
read_of s = read_by class_of s

-- ---- a reading with the class of a telegram's function code

-- by any classes: all else is as it is
abbrev pub classed_by : (classes : ℕ → Class) → Reading → Classed
classed_by classes (Ok Confirmation) = Ok classed.Confirmation
classed_by classes (Ok (Token da sa)) = Ok (classed.Token da sa)
classed_by classes (Ok (Telegram f h start len)) = Ok (classed.Telegram f h start len (classes h.fc))
classed_by classes (Err r) = Err r

-- by one that is known already
abbrev pub with_class : Class → Reading → Classed
with_class k r = classed_by (λ (fc : ℕ). k) r

-- by ours
abbrev pub classed_of : List ℕ → Classed
classed_of s = classed_by class_of (read_of s)
