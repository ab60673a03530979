-- Every refusal of a telegram, read or to be written, has a number of document 01's table.
use Rattle.std.specs.Prelude.{ℕ, ◌≡◌, refl, true, List, Ok, Err}
use Rattle.octets.proofs.Choice.{through, alike}
use Rattle.octets.specs.Front.{Verdict, fine, fault}
use Rattle.octets.specs.Refusals.{listed, numbered}
use Rattle.function_code.specs.declared.code.Class.{Class}
use Rattle.fdl.specs.Reading.{extension_of, with_source, source_of, with_destination, destination_of, token_of, fields_of, framed_of, sd2_of, read_by, Extension, Reading}
use Rattle.fdl.specs.Writing.{verdict_by, token_verdict}
use Rattle.fdl.specs.declared.telegram.Format.{Format}
use Rattle.fdl.specs.declared.telegram.Header.{Header}
use Rattle.fdl.specs.Sap.{Sap}
use Rattle.fdl.specs.declared.reading.Reading.TheVariants.{Confirmation, Token, Telegram}

-- the verdict that a reading came to
abbrev pub verdict_in : Reading → Verdict
verdict_in (Ok Confirmation) = fine
verdict_in (Ok (Token da sa)) = fine
verdict_in (Ok (Telegram f h start len)) = fine
verdict_in (Err r) = fault r

abbrev extension_verdict : Extension → Verdict
extension_verdict (Ok sap) = fine
extension_verdict (Err r) = fault r

-- ---- reading

module _ (s : List ℕ) where
  extension_numbered : (address start len : ℕ) → numbered (extension_verdict (extension_of s address start len)) ≡ true
  unfolding extension_of listed
  extension_numbered address start len = simp (through extension_verdict, through numbered, alike)

  with_source_lem : (e : Extension) (f : Format) (da sa fc : ℕ) (dsap : Sap) (start len : ℕ) → numbered (extension_verdict e) ≡ true
      → numbered (verdict_in (with_source e f da sa fc dsap start len)) ≡ true
  with_source_lem (Ok ssap) f da sa fc dsap start len h = refl
  with_source_lem (Err r) f da sa fc dsap start len h = h

  with_destination_lem : (e : Extension) (f : Format) (at pdu : ℕ) → numbered (extension_verdict e) ≡ true
      → numbered (verdict_in (with_destination e s f at pdu)) ≡ true
  unfolding source_of
  with_destination_lem (Ok dsap) f at pdu h =
      with_source_lem (extension_of s _ _ _) f _ _ _ dsap _ _ (extension_numbered _ _ _)
  with_destination_lem (Err r) f at pdu h = h

  destination_numbered : (f : Format) (at pdu : ℕ) → numbered (verdict_in (destination_of s f at pdu)) ≡ true
  unfolding destination_of
  destination_numbered f at pdu = with_destination_lem (extension_of s _ _ _) f at pdu (extension_numbered _ _ _)

  token_numbered : numbered (verdict_in (token_of s)) ≡ true
  unfolding token_of listed
  token_numbered = simp (through verdict_in, through numbered, alike)

module _ (classes : ℕ → Class) (s : List ℕ) where
  framed_numbered : (f : Format) (at pdu : ℕ) → numbered (verdict_in (framed_of classes s f at pdu)) ≡ true
  unfolding framed_of fields_of listed
  framed_numbered f at pdu = simp (through verdict_in, through numbered, alike, destination_numbered)

  pub reading_numbered : numbered (verdict_in (read_by classes s)) ≡ true
  unfolding read_by sd2_of listed
  reading_numbered = simp (through verdict_in, through numbered, alike, framed_numbered, token_numbered)

-- ---- writing

pub verdict_numbered : (classes : ℕ → Class) (f : Format) (h : Header) (user : List ℕ) → numbered (verdict_by classes f h user) ≡ true
unfolding verdict_by listed
verdict_numbered classes f h user = simp (through numbered, alike)

pub token_verdict_numbered : (da sa : ℕ) → numbered (token_verdict da sa) ≡ true
unfolding token_verdict listed
token_verdict_numbered da sa = simp (through numbered, alike)
