-- What an answer of 0 says of a reading and of fields, and both ways between a telegram and its eight fields.
use Rattle.std.specs.Prelude.{ℕ, ◌≡◌, refl, true, false, List, [], ◌∷◌, length, get_or, eqb, leb, Ok, Err, Some, None}
use Rattle.std.proofs.Common.{sym, ◌∙◌, arith, eqb-true, leb-true, eq-eqb, ne_eqb}
use Rattle.octets.proofs.Choice.{by_pick, never}
use Rattle.octets.specs.Elements.{elements}
use Rattle.octets.specs.Part.{part_of}
use Rattle.octets.specs.Front.{Verdict, fine}
use Rattle.octets.proofs.Fixed.{fault_fine}
use Rattle.octets.specs.Refusals.{is_fine}
use Rattle.function_code.specs.Code.{class_of}
use Rattle.fdl.specs.Reading.{read_of, Reading}
use Rattle.fdl.specs.Writing.{good_sap, token_verdict}
use Rattle.fdl.specs.Contents.{contents_in, accepted, is_token}
use Rattle.fdl.proofs.Refusals.{verdict_in}
use Rattle.fdl.proofs.Laws.{Again, telegram_reads_back}
use Rattle.fdl.proofs.Lemmas.Fields.{writable}
use Rattle.fdl.proofs.Lemmas.Back.{confirmation_back, token_back, user_back}
use Rattle.fields.specs.Kinds.{kind_of, Numbered, Kind}
use Rattle.fields.specs.Outcome.{Tells}
use Rattle.fields.proofs.Refusals.{tells}
use Rattle.fields.proofs.Laws.{format_named}
use Rattle.capi_telegram.specs.Telegram.{sap_number, sap_of, refusal_of, fields_after, header_of, without_data, verdict_at, bytes_at, user_in, places_of}
use Rattle.capi_telegram.proofs.Refusals.{verdict_at_lem, read_telegram_status}
use Rattle.fields.specs.declared.kinds.Kind.TheVariants as kind
use Rattle.fdl.specs.declared.telegram.Header.{Header}
use Rattle.fdl.specs.Sap.{Sap}
use Rattle.fdl.specs.declared.reading.Reading.TheVariants.{Confirmation, Token, Telegram}

-- ---- no telegram is refused with 0

accepted_is : (r : Reading) → is_fine (verdict_in r) ≡ accepted r
accepted_is (Ok Confirmation) = refl
accepted_is (Ok (Token da sa)) = refl
accepted_is (Ok (Telegram f h start len)) = refl
accepted_is (Err r) = refl

pub told : (s : List ℕ) → refusal_of (read_of s) ≡ 0 → accepted (read_of s) ≡ true
told s z = sym (accepted_is (read_of s)) ∙ sym (read_telegram_status s).zero_is_accepted ∙ eq-eqb (refusal_of (read_of s)) 0 z

-- ---- an access point and its number

pub sap_again : (x : Sap) → good_sap x ≡ true → sap_of (sap_number x) ≡ x
sap_again None e = refl
sap_again (Some n) e =
    let small : n ≡ 255 → ⊥ = λ z. omega (arith, leb-true n 63 e) in
    simp (ne_eqb _ _ small)

pub sap_back : (n : ℕ) → sap_number (sap_of n) ≡ n
sap_back n = by_pick (λ (x : Sap). sap_number x ≡ n) (eqb n 255) (λ e. sym (eqb-true n 255 e)) (λ _. refl)

-- ---- from the bytes

no_part : (s : List ℕ) → part_of s 0 0 ≡ []
unfolding part_of
no_part s = by_pick (λ (l : List ℕ). l ≡ []) (leb 0 (length s)) (λ _. refl) (λ _. refl)

-- fields, with a part, may be written, and give the bytes s
abbrev Writes : (s fields user : List ℕ) → Type 0
Writes s fields user =
    let k : Kind = kind_of (get_or fields 0 0) in
    (verdict_at k fields user ≡ fine) × (bytes_at k fields user ≡ s)

-- what was read is written again
pub writes : (s before : List ℕ) (r : Reading) → accepted r ≡ true → Again class_of s (contents_in s r) → Writes s (fields_after r before) (user_in s (fields_after r before))
writes s before (Ok Confirmation) a w = rw (no_part s) (w.taken, w.same)
writes s before (Ok (Token da sa)) a w = rw (no_part s) (w.taken, w.same)
writes s before (Ok (Telegram f h start len)) a w =
    let g = (writable class_of f h (part_of s start len) w.taken).header in
    rw (format_named f, sap_again h.dsap g.dsap, sap_again h.ssap g.ssap) (w.taken, w.same)
writes s before (Err r) a w = absurd (never a)

-- a telegram with another kind than 1 is no token
pub no_token : (before : List ℕ) (r : Reading) → accepted r ≡ true → (get_or (fields_after r before) 0 0 ≡ 1 → ⊥) → is_token r ≡ false
no_token before (Ok Confirmation) a n = refl
no_token before (Ok (Token da sa)) a n = absurd (n refl)
no_token before (Ok (Telegram f h start len)) a n = refl
no_token before (Err r) a n = refl

-- ---- from the fields

-- without user data
none_given : (user : List ℕ) (v : Verdict) → without_data user v ≡ fine → (user ≡ []) × (v ≡ fine)
none_given [] v e = (refl, e)
none_given (x ∷ xs) v e = absurd (fault_fine (simp (ne_eqb (length (x ∷ xs)) 0 (λ z. omega arith)) at e))

-- bytes t are read as the fields in so many places, with this user data
abbrev ReadAs : (places : ℕ) (fields user t before : List ℕ) → Reading → Type 0
ReadAs places fields user t before r =
    (refusal_of r ≡ 0) × (elements places 0 (fields_after r before) ≡ elements places 0 fields) × (user_in t (fields_after r before) ≡ user)

-- what was written is read again
pub read_as : (fields user before : List ℕ) (k : Kind) → Numbered (get_or fields 0 0) k → verdict_at k fields user ≡ fine
    → let t = bytes_at k fields user in ReadAs (places_of k) fields user t before (read_of t)
read_as fields user before (Some kind.Confirmation) n e =
    rw (confirmation_back class_of, n) (refl, refl, no_part _ ∙ sym (none_given user fine e).0)
read_as fields user before (Some kind.Token) n e =
    let g = none_given user (token_verdict (get_or fields 1 0) (get_or fields 2 0)) e in
    rw (token_back class_of (get_or fields 1 0) (get_or fields 2 0) g.1, n) (refl, refl, no_part _ ∙ sym g.0)
read_as fields user before (Some (kind.Telegram f)) n e =
    let h : Header = header_of fields in
    rw (telegram_reads_back class_of f h user e, n, sap_back (get_or fields 4 0), sap_back (get_or fields 5 0))
    (refl, refl, user_back class_of f h user (writable class_of f h user e))
read_as fields user before None n e = absurd (fault_fine e)

-- no fields are refused with 0
pub told_fields : (k : Kind) (fields user : List ℕ) → Tells (verdict_at k fields user)
told_fields k fields user = tells (verdict_at k fields user) (verdict_at_lem k fields user)
