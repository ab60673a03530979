-- 0 means accepted: what the functions of this crate answer is 0 exactly then, and a refusal number of document 01 else.
use Rattle.std.specs.Prelude.{ℕ, ◌≡◌, refl, true, List, length, Ok, Err, Some, None}
use Rattle.octets.specs.Refusals.{listed, numbered, is_fine, Status}
use Rattle.octets.proofs.Refusals.{zero_accepted, listed_refused}
use Rattle.acyclic.specs.Calls.{read_call_of, CallReading}
use Rattle.acyclic.specs.Answers.{read_answer_of, AnswerReading}
use Rattle.acyclic.proofs.Refusals as acyclic
use Rattle.acyclic.specs.Refusals as acyclic_words
use Rattle.acyclic_fields.specs.Four.{Case}
use Rattle.acyclic_fields.specs.declared.four.Case.TheVariants as case
use Rattle.fields.specs.Outcome.{status_of}
use Rattle.fields.proofs.Refusals.{is_written, written_status}
use Rattle.capi_acyclic.specs.Acyclic.{call_refusal, answer_refusal, call_in, answer_in, verdict_at, bytes_at, answer_of}

-- ---- rabtunex_read_dpv1_call

call_by : (r : CallReading) → numbered (acyclic_words.call_verdict r) ≡ true → Status (is_fine (acyclic_words.call_verdict r)) (call_refusal r)
call_by (Ok found) h = zero_accepted
call_by (Err r) h = listed_refused h

pub read_dpv1_call_status : (s : List ℕ) → Status (is_fine (acyclic_words.call_verdict (read_call_of s))) (call_refusal (read_call_of s))
read_dpv1_call_status s = call_by (read_call_of s) (acyclic.call_numbered s)

-- ---- rabtunex_read_dpv1_answer

answer_by_lem : (r : AnswerReading) → numbered (acyclic_words.answer_verdict r) ≡ true → Status (is_fine (acyclic_words.answer_verdict r)) (answer_refusal r)
answer_by_lem (Ok found) h = zero_accepted
answer_by_lem (Err r) h = listed_refused h

pub read_dpv1_answer_status : (s : List ℕ) → Status (is_fine (acyclic_words.answer_verdict (read_answer_of s))) (answer_refusal (read_answer_of s))
read_dpv1_answer_status s = answer_by_lem (read_answer_of s) (acyclic.answer_numbered s)

-- ---- rabtunex_write_dpv1_call and rabtunex_write_dpv1_answer: whatever the fields name

pub verdict_at_lem : (k : Case) (part : List ℕ) → numbered (verdict_at k part) ≡ true
unfolding listed
verdict_at_lem (Some (case.Call c)) part = acyclic.call_verdict_numbered c (length part)
verdict_at_lem (Some (case.Answer x)) part = acyclic.answer_verdict_numbered x (length part)
verdict_at_lem None part = refl

case_status : (k : Case) (part : List ℕ) (room : ℕ) → Status (is_written (verdict_at k part) (bytes_at k part) room) (status_of (answer_of k part room))
case_status k part room = written_status (verdict_at k part) (bytes_at k part) room (verdict_at_lem k part)

module _ (fields part : List ℕ) (room : ℕ) where
  pub write_dpv1_call_status : Status (is_written (verdict_at (call_in fields) part) (bytes_at (call_in fields) part) room) (status_of (answer_of (call_in fields) part room))
  write_dpv1_call_status = case_status (call_in fields) part room

  pub write_dpv1_answer_status : Status (is_written (verdict_at (answer_in fields) part) (bytes_at (answer_in fields) part) room) (status_of (answer_of (answer_in fields) part room))
  write_dpv1_answer_status = case_status (answer_in fields) part room
