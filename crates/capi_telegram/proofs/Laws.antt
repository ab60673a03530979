-- Fields that were read can be given back, and what was written is read as it was given: over the eight fields that the C
-- interface has of a telegram, and over the answers and bytes that its calls promise.
use Rattle.std.specs.Prelude.{ℕ, ◌≤◌, ◌<◌, ◌≡◌, refl, List, [], ◌∷◌, length, get_or, set, Ok, Some}
use Rattle.std.proofs.Common.{sym, ◌∙◌}
use Rattle.octets.proofs.Choice.{never}
use Rattle.octets.specs.Bytes.{Bytes}
use Rattle.octets.specs.Elements.{elements}
use Rattle.octets.specs.Front.{over, answer_by}
use Rattle.function_code.specs.Code.{class_of}
use Rattle.fdl.specs.Telegram.{checksum_of}
use Rattle.fdl.specs.Reading.{extension_of, source_of, destination_of, token_of, fields_of, framed_of, sd2_of, read_by, read_of}
use Rattle.fdl.specs.Writing.{core_of, telegram_of, good_header, verdict_by, token_verdict}
use Rattle.fdl.proofs.Laws.{writes_back, our_one_byte_changed}
use Rattle.fdl.specs.declared.telegram.Format.TheVariants.{Sd1, Sd2, Sd3}
use Rattle.fields.specs.Kinds.{kind_of}
use Rattle.fields.specs.declared.kinds.Kind.TheVariants as kind
use Rattle.fields.specs.Outcome.{status_of, stored_by}
use Rattle.fields.proofs.Lemmas.{fine_stored}
use Rattle.fields.proofs.Laws.{kind_numbered, zero_stored}
use Rattle.capi_telegram.specs.Telegram.{refusal_of, fields_after, verdict_at, bytes_at, answer_of, held_of, user_in, places_of}
use Rattle.capi_telegram.proofs.Lemmas.{told, writes, no_token, read_as, told_fields}

-- ---- what is read

module _ (s before : List ℕ) (b : Bytes s) (e : refusal_of (read_of s) ≡ 0) where
  -- The fields of a telegram that was read, with the user data that they name, give the same bytes.
  pub fields_write_back : (out : List ℕ) → length s ≤ length out → let fields = fields_after (read_of s) before in
      (answer_of fields (user_in s fields) (length out) ≡ Ok (length s)) × (held_of fields (user_in s fields) out ≡ over s out)
  fields_write_back out h =
      let w = writes s before (read_of s) (told s e) (writes_back class_of s b (told s e)) in
      fine_stored w.0 w.1 out h

  -- One byte of it changed to another value is refused, in all but a token.
  pub one_byte_changed : (get_or (fields_after (read_of s) before) 0 0 ≡ 1 → ⊥)
      → (i v : ℕ) → i < length s → v < 256 → (v ≡ get_or s i 0 → ⊥) → refusal_of (read_of (set s i v)) ≡ 0 → ⊥
  one_byte_changed n i v h w ne z =
      let a = told s e in
      let r = our_one_byte_changed s b a (no_token before (read_of s) a n) i v h w ne in
      never (sym r ∙ told (set s i v) z)

-- ---- what is written

-- What was stored is read with the answer 0, as the fields that were given in every place that their kind has, and the user
-- data that are read are those that were given.
pub fields_read_back : (fields user out : List ℕ) (count : ℕ) → status_of (answer_of fields user (length out)) ≡ 0 → (before : List ℕ) →
    let t = stored_by (answer_of fields user (length out)) count (held_of fields user out) in
    let again = fields_after (read_of t) before in
    let places = places_of (kind_of (get_or fields 0 0)) in
    (refusal_of (read_of t) ≡ 0) × (elements places 0 again ≡ elements places 0 fields) × (user_in t again ≡ user)
fields_read_back fields user out count e before =
    let k = kind_of (get_or fields 0 0) in
    let w = zero_stored (verdict_at k fields user) (bytes_at k fields user) out count (told_fields k fields user) e in
    rw w.1 (read_as fields user before k (kind_numbered (get_or fields 0 0)) w.0)

-- ---- how many places each kind has, in plain numbers

pub record Places : Type 0 where
  pub confirmation : places_of (Some kind.Confirmation) ≡ 1
  pub token : places_of (Some kind.Token) ≡ 3
  pub sd1 : places_of (Some (kind.Telegram Sd1)) ≡ 6
  pub sd2 : places_of (Some (kind.Telegram Sd2)) ≡ 6
  pub sd3 : places_of (Some (kind.Telegram Sd3)) ≡ 6

pub places_computed : Places
places_computed = record { confirmation = refl; token = refl; sd1 = refl; sd2 = refl; sd3 = refl }

-- ---- each law holds of something

-- SD2 with both access points and two bytes of user data, and a token, as bytes and as fields; a short confirmation as fields (that its
-- byte is read is a row of the worked bytes)
abbrev sd2 : List ℕ
sd2 = 0x68 ∷ 7 ∷ 7 ∷ 0x68 ∷ 0x87 ∷ 0x82 ∷ 0x5D ∷ 60 ∷ 62 ∷ 1 ∷ 2 ∷ 0xE3 ∷ 0x16 ∷ []

pub record Examples : Type 0 where
  pub sd2_read : refusal_of (read_of sd2) ≡ 0
  pub sd2_kind : get_or (fields_after (read_of sd2) []) 0 0 ≡ 3
  pub sd2_written : status_of (answer_of (3 ∷ 7 ∷ 2 ∷ 0x5D ∷ 60 ∷ 62 ∷ 0 ∷ 0 ∷ []) (1 ∷ 2 ∷ []) 13) ≡ 0
  pub token_read : refusal_of (read_of (0xDC ∷ 7 ∷ 2 ∷ [])) ≡ 0
  pub token_written : status_of (answer_of (1 ∷ 7 ∷ 2 ∷ 0 ∷ 0 ∷ 0 ∷ 0 ∷ 0 ∷ []) [] 3) ≡ 0
  pub confirmation_written : status_of (answer_of (0 ∷ 0 ∷ 0 ∷ 0 ∷ 0 ∷ 0 ∷ 0 ∷ 0 ∷ []) [] 1) ≡ 0

pub examples : Examples
unfolding extension_of source_of destination_of token_of fields_of framed_of sd2_of read_by checksum_of class_of answer_by core_of telegram_of good_header verdict_by token_verdict
examples =
    record {
      sd2_read = refl;
      sd2_kind = refl;
      sd2_written = refl;
      token_read = refl;
      token_written = refl;
      confirmation_written = refl;
    }
