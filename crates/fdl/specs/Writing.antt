-- Writing a telegram (document 01, "Telegram layouts"): its bytes from its fields, and which fields may be written.
use Rattle.std.specs.Prelude.{ℕ, ◌+◌, ◌*◌, Bool, true, not, List, [], ◌∷◌, ◌++◌, length, eqb, leb, Some, None}
use Rattle.octets.specs.Choice.{pick, ◌and◌}
use Rattle.octets.specs.Front.{Verdict, fine, fault}
use Rattle.function_code.specs.Code.{class_of, is_reserved}
use Rattle.fdl.specs.Telegram.{start_byte, token_byte, confirmation_byte, checksum_of, sap_length}
use Rattle.function_code.specs.declared.code.Class.{Class}
use Rattle.fdl.specs.declared.telegram.Format.{Format}
use Rattle.fdl.specs.declared.telegram.Format.TheVariants.{Sd1, Sd2, Sd3}
use Rattle.fdl.specs.declared.telegram.Header.{Header}
use Rattle.fdl.specs.Sap.{Sap}

-- ---- the bytes

-- what stands before DA; le counts DA through the PDU
abbrev pub start_bytes : Format → (le : ℕ) → List ℕ
start_bytes Sd1 le = start_byte Sd1 ∷ []
start_bytes Sd2 le = start_byte Sd2 ∷ le ∷ le ∷ start_byte Sd2 ∷ []
start_bytes Sd3 le = start_byte Sd3 ∷ []

abbrev pub sap_bytes : Sap → List ℕ
sap_bytes None = []
sap_bytes (Some x) = x ∷ []

-- DA, SA and FC: bit 7 of an address is the presence of its access point
abbrev pub address_bytes : Header → List ℕ
address_bytes h = (h.da + 128 * sap_length h.dsap) ∷ (h.sa + 128 * sap_length h.ssap) ∷ h.fc ∷ []

-- DA through the last PDU byte
unfoldable pub core_of : Header → (user : List ℕ) → List ℕ
core_of h user = address_bytes h ++ (sap_bytes h.dsap ++ (sap_bytes h.ssap ++ user))

abbrev pub end_bytes : (core : List ℕ) → List ℕ
end_bytes core = checksum_of core ∷ 0x16 ∷ []

abbrev pub closed_of : (core : List ℕ) → List ℕ
closed_of core = core ++ end_bytes core

unfoldable pub telegram_of : Format → Header → (user : List ℕ) → List ℕ
telegram_of f h user = start_bytes f (length (core_of h user)) ++ closed_of (core_of h user)

-- where the user data begin
abbrev pub user_start : Format → Header → ℕ
user_start f h = length (start_bytes f 0) + 3 + sap_length h.dsap + sap_length h.ssap

abbrev pub token_bytes : (da sa : ℕ) → List ℕ
token_bytes da sa = token_byte ∷ da ∷ sa ∷ []

abbrev pub confirmation_bytes : List ℕ
confirmation_bytes = confirmation_byte ∷ []

-- ---- the fields that may be written: any other gives 12

abbrev pub good_sap : Sap → Bool
good_sap None = true
good_sap (Some x) = leb x 63

-- the PDU's length
abbrev pub pdu_length : Header → (user : List ℕ) → ℕ
pdu_length h user = sap_length h.dsap + sap_length h.ssap + length user

abbrev pub good_length : Format → (pdu : ℕ) → Bool
good_length Sd1 pdu = eqb pdu 0
good_length Sd2 pdu = not (eqb pdu 0) and leb pdu 246
good_length Sd3 pdu = eqb pdu 8

module _ (classes : ℕ → Class) where
  unfoldable pub good_header : Header → Bool
  good_header h =
      leb h.da 127 and leb h.sa 126 and not (is_reserved (classes h.fc)) and good_sap h.dsap and good_sap h.ssap

  unfoldable pub verdict_by : Format → Header → (user : List ℕ) → Verdict
  verdict_by f h user = pick (good_header h and good_length f (pdu_length h user)) fine (fault 12)

-- by our classes
abbrev pub verdict_of : Format → Header → (user : List ℕ) → Verdict
verdict_of f h user = verdict_by class_of f h user

unfoldable pub token_verdict : (da sa : ℕ) → Verdict
token_verdict da sa = pick (leb da 126 and leb sa 126) fine (fault 12)
