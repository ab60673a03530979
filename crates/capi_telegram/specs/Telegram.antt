-- Telegrams through the C interface. A telegram's fields are eight bytes: kind, DA, SA, FC, DSAP, SSAP, start and length of
-- the user data. 255 is no access point.
use Rattle.std.specs.Prelude.{ℕ, List, [], ◌∷◌, length, get_or, eqb, Ok, Err, Some, None}
use Rattle.octets.specs.Choice.{pick}
use Rattle.octets.specs.Part.{part_of}
use Rattle.octets.specs.Front.{Verdict, fine, fault, answer_by, held_by, Written}
use Rattle.fdl.specs.Writing.{telegram_of, verdict_of, token_bytes, token_verdict, confirmation_bytes}
use Rattle.fdl.specs.declared.telegram.Header.{Header}
use Rattle.fdl.specs.Sap.{Sap}
use Rattle.fields.specs.Kinds.{confirmation_number, token_number, format_number, kind_of, Kind}
use Rattle.fields.specs.declared.kinds.Kind.TheVariants as kind
use Rattle.fdl.specs.Reading.{Reading}
use Rattle.fdl.specs.declared.reading.Reading.TheVariants.{Confirmation, Token, Telegram}

-- ---- the numbers of the fields

-- that of no access point
abbrev pub no_sap : ℕ
no_sap = 255

abbrev pub sap_number : Sap → ℕ
sap_number None = no_sap
sap_number (Some x) = x

abbrev pub sap_of : ℕ → Sap
sap_of n = pick (eqb n no_sap) None (Some n)

-- ---- reading

abbrev pub refusal_of : Reading → ℕ
refusal_of (Ok Confirmation) = 0
refusal_of (Ok (Token da sa)) = 0
refusal_of (Ok (Telegram f h start len)) = 0
refusal_of (Err r) = r

-- the fields of SD1, SD2 and SD3
abbrev pub telegram_fields : (kind : ℕ) → Header → (start len : ℕ) → List ℕ
telegram_fields kind h start len = kind ∷ h.da ∷ h.sa ∷ h.fc ∷ sap_number h.dsap ∷ sap_number h.ssap ∷ start ∷ len ∷ []

-- what the lent fields hold then
abbrev pub fields_after : Reading → (before : List ℕ) → List ℕ
fields_after (Ok Confirmation) before = confirmation_number ∷ 0 ∷ 0 ∷ 0 ∷ no_sap ∷ no_sap ∷ 0 ∷ 0 ∷ []
fields_after (Ok (Token da sa)) before = token_number ∷ da ∷ sa ∷ 0 ∷ no_sap ∷ no_sap ∷ 0 ∷ 0 ∷ []
fields_after (Ok (Telegram f h start len)) before = telegram_fields (format_number f) h start len
fields_after (Err r) before = before

-- ---- writing, from the first six of the fields and the user data

abbrev pub header_of : List ℕ → Header
header_of fields =
    record {
      da = get_or fields 1 0;
      sa = get_or fields 2 0;
      fc = get_or fields 3 0;
      dsap = sap_of (get_or fields 4 0);
      ssap = sap_of (get_or fields 5 0);
    }

-- a short confirmation and a token have no user data
abbrev pub without_data : (user : List ℕ) → Verdict → Verdict
without_data user v = pick (eqb (length user) 0) v (fault 12)

abbrev pub verdict_at : Kind → (fields user : List ℕ) → Verdict
verdict_at (Some kind.Confirmation) fields user = without_data user fine
verdict_at (Some kind.Token) fields user = without_data user (token_verdict (get_or fields 1 0) (get_or fields 2 0))
verdict_at (Some (kind.Telegram f)) fields user = verdict_of f (header_of fields) user
verdict_at None fields user = fault 12

abbrev pub bytes_at : Kind → (fields user : List ℕ) → List ℕ
bytes_at (Some kind.Confirmation) fields user = confirmation_bytes
bytes_at (Some kind.Token) fields user = token_bytes (get_or fields 1 0) (get_or fields 2 0)
bytes_at (Some (kind.Telegram f)) fields user = telegram_of f (header_of fields) user
bytes_at None fields user = []

abbrev pub answer_of : (fields user : List ℕ) (room : ℕ) → Written
answer_of fields user room = answer_by (verdict_at (kind_of (get_or fields 0 0)) fields user) (bytes_at (kind_of (get_or fields 0 0)) fields user) room

abbrev pub held_of : (fields user out : List ℕ) → List ℕ
held_of fields user out = held_by (verdict_at (kind_of (get_or fields 0 0)) fields user) (bytes_at (kind_of (get_or fields 0 0)) fields user) out

-- ---- what the laws speak of

-- the user data that fields name in the bytes s
abbrev pub user_in : (s fields : List ℕ) → List ℕ
user_in s fields = part_of s (get_or fields 6 0) (get_or fields 7 0)

-- how many of the fields a kind has, from the first on: the kind alone; DA and SA; FC, DSAP and SSAP
abbrev pub places_of : Kind → ℕ
places_of (Some kind.Confirmation) = 1
places_of (Some kind.Token) = 3
places_of (Some (kind.Telegram f)) = 6
places_of None = 0
