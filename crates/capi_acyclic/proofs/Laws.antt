-- Fields that were read can be given back, and what was written is read as it was given: over the six fields that the C
-- interface has of a call or an answer, and over the answers and bytes that its functions promise.
use Rattle.std.specs.Prelude.{ℕ, ◌≤◌, ◌≡◌, refl, List, [], ◌∷◌, length, Ok}
use Rattle.octets.specs.Elements.{elements}
use Rattle.octets.specs.Front.{over, answer_by}
use Rattle.acyclic.specs.Numbers.{failed_by}
use Rattle.acyclic.specs.Errors.{named_in, good_code1}
use Rattle.acyclic.specs.Forms.{counted_of, counted_as_of, negative_of, by_number, where_allowed}
use Rattle.acyclic.specs.Calls as calls
use Rattle.acyclic.specs.Calls.{read_call_of}
use Rattle.acyclic.specs.Answers as answers
use Rattle.acyclic.specs.Answers.{read_answer_of}
use Rattle.acyclic_fields.specs.Four.{call_named, answer_named, places_in}
use Rattle.fields.specs.Outcome.{status_of, stored_by}
use Rattle.fields.proofs.Lemmas.{fine_stored}
use Rattle.fields.proofs.Laws.{zero_stored}
use Rattle.capi_acyclic.specs.Acyclic.{call_refusal, answer_refusal, call_after, answer_after, call_in, answer_in, verdict_at, bytes_at, answer_of, held_of, part_in}
use Rattle.capi_acyclic.proofs.Lemmas.Told.{fields_told, call_told, answer_told}
use Rattle.capi_acyclic.proofs.Lemmas.Calls as call-lemmas
use Rattle.capi_acyclic.proofs.Lemmas.Answers as answer-lemmas

-- ---- what is read

-- The fields of a call that was read, with the data that they name, give the same bytes.
pub call_fields_write_back : (s before out : List ℕ) → call_refusal (read_call_of s) ≡ 0 → length s ≤ length out →
    let fields = call_after (read_call_of s) before in
    (answer_of (call_in fields) (part_in s fields) (length out) ≡ Ok (length s)) × (held_of (call_in fields) (part_in s fields) out ≡ over s out)
call_fields_write_back s before out e h =
    let w = call-lemmas.writes s before (read_call_of s) refl (call_told s) e in
    fine_stored w.0 w.1 out h

-- the same of an answer
pub answer_fields_write_back : (s before out : List ℕ) → answer_refusal (read_answer_of s) ≡ 0 → length s ≤ length out →
    let fields = answer_after (read_answer_of s) before in
    (answer_of (answer_in fields) (part_in s fields) (length out) ≡ Ok (length s)) × (held_of (answer_in fields) (part_in s fields) out ≡ over s out)
answer_fields_write_back s before out e h =
    let w = answer-lemmas.writes s before (read_answer_of s) refl (answer_told s) e in
    fine_stored w.0 w.1 out h

-- ---- what is written

-- What was stored of a call is read with the answer 0, as the fields that were given in every place that their case has, and the
-- data that are read are those that were given.
pub call_fields_read_back : (fields part out : List ℕ) (count : ℕ) → status_of (answer_of (call_in fields) part (length out)) ≡ 0 → (before : List ℕ) →
    let k = call_in fields in
    let t = stored_by (answer_of k part (length out)) count (held_of k part out) in
    let again = call_after (read_call_of t) before in
    (call_refusal (read_call_of t) ≡ 0) × (elements (places_in k) 0 again ≡ elements (places_in k) 0 fields) × (part_in t again ≡ part)
call_fields_read_back fields part out count e before =
    let k = call_in fields in
    let w = zero_stored (verdict_at k part) (bytes_at k part) out count (fields_told k part) e in
    rw w.1 (call-lemmas.reads fields part before k refl w.0)

-- the same of an answer
pub answer_fields_read_back : (fields part out : List ℕ) (count : ℕ) → status_of (answer_of (answer_in fields) part (length out)) ≡ 0 → (before : List ℕ) →
    let k = answer_in fields in
    let t = stored_by (answer_of k part (length out)) count (held_of k part out) in
    let again = answer_after (read_answer_of t) before in
    (answer_refusal (read_answer_of t) ≡ 0) × (elements (places_in k) 0 again ≡ elements (places_in k) 0 fields) × (part_in t again ≡ part)
answer_fields_read_back fields part out count e before =
    let k = answer_in fields in
    let w = zero_stored (verdict_at k part) (bytes_at k part) out count (fields_told k part) e in
    rw w.1 (answer-lemmas.reads fields part before k refl w.0)

-- ---- each law holds of something

-- a write call of two bytes, and the negative answer to it, as bytes and as fields
pub record Examples : Type 0 where
  pub call_read : call_refusal (read_call_of (0x5F ∷ 1 ∷ 7 ∷ 2 ∷ 65 ∷ 66 ∷ [])) ≡ 0
  pub call_written : status_of (answer_of (call_in (0x5F ∷ 1 ∷ 7 ∷ 0 ∷ 0 ∷ 0 ∷ [])) (65 ∷ 66 ∷ []) 6) ≡ 0
  pub answer_read : answer_refusal (read_answer_of (0xDF ∷ 128 ∷ 0xB2 ∷ 0 ∷ [])) ≡ 0
  pub answer_written : status_of (answer_of (answer_in (0xDF ∷ 128 ∷ 0xB2 ∷ 0 ∷ 0 ∷ 0 ∷ [])) [] 4) ≡ 0

pub examples : Examples
unfolding failed_by named_in good_code1 counted_of counted_as_of negative_of by_number where_allowed calls.four_of read_call_of answers.four_of read_answer_of call_named answer_named answer_by
examples = record { call_read = refl; call_written = refl; answer_read = refl; answer_written = refl }
