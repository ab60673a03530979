-- 0 means accepted: what the functions of this crate answer is 0 exactly then, and a refusal number of document 01 else.
use Rattle.std.specs.Prelude.{ℕ, ◌≡◌, true, List, Ok, Err}
use Rattle.octets.specs.Refusals.{numbered, is_fine, Status}
use Rattle.octets.proofs.Refusals.{zero_accepted, listed_refused}
use Rattle.diagnosis.specs.Reading.{read_of, Reading}
use Rattle.diagnosis.specs.Writing.{verdict_by}
use Rattle.diagnosis.proofs.Refusals.{reading_numbered, next_numbered}
use Rattle.diagnosis.specs.Walk.{next_of, Step}
use Rattle.capi_diagnosis.specs.Diagnosis.{refusal_of, step_refusal}

-- ---- rabtunex_read_diagnosis

reading_by : (r : Reading) → numbered (verdict_by r) ≡ true → Status (is_fine (verdict_by r)) (refusal_of r)
reading_by (Ok found) e = zero_accepted
reading_by (Err r) e = listed_refused e

pub read_diagnosis_status : (s : List ℕ) → Status (is_fine (verdict_by (read_of s))) (refusal_of (read_of s))
read_diagnosis_status s = reading_by (read_of s) (reading_numbered s)

-- ---- rabtunex_next_block: the end of the blocks is no refusal

step_by : (x : Step) → numbered (verdict_by x) ≡ true → Status (is_fine (verdict_by x)) (step_refusal x)
step_by (Ok found) e = zero_accepted
step_by (Err r) e = listed_refused e

pub next_block_status : (s : List ℕ) (at : ℕ) → Status (is_fine (verdict_by (next_of s at))) (step_refusal (next_of s at))
next_block_status s at = step_by (next_of s at) (next_numbered s at)
