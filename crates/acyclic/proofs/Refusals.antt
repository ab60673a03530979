-- Every refusal of a DPV1 call or answer, read or to be written, has a number of document 01's table.
use Rattle.std.specs.Prelude.{ℕ, ◌≡◌, refl, true, List, Some, None}
use Rattle.octets.proofs.Choice.{through, alike}
use Rattle.octets.specs.Refusals.{listed, numbered}
use Rattle.octets.proofs.Refusals.{judged_numbered}
use Rattle.acyclic.specs.Forms.{alone_of, ranged_of, counted_of, counted_as_of, negative_of, by_number, where_allowed}
use Rattle.acyclic.specs.Calls as calls
use Rattle.acyclic.specs.Answers as answers
use Rattle.acyclic.specs.Numbers.{Failed}
use Rattle.acyclic.specs.declared.calls.Call.{Call}
use Rattle.acyclic.specs.declared.calls.Call.TheVariants as call
use Rattle.acyclic.specs.declared.answers.Answer.{Answer}
use Rattle.acyclic.specs.declared.answers.Answer.TheVariants as answer
use Rattle.acyclic.specs.Refusals.{call_verdict, answer_verdict}

-- ---- the forms
alone : (count : ℕ) → numbered (alone_of count) ≡ true
unfolding alone_of listed
alone count = simp (through numbered, alike)

ranged : (len count : ℕ) → numbered (ranged_of len count) ≡ true
unfolding ranged_of listed
ranged len count = simp (through numbered, alike)

counted : (least count : ℕ) → numbered (counted_of least count) ≡ true
unfolding counted_of listed
counted least count = simp (through numbered, alike)

counted_as : (len least count : ℕ) → numbered (counted_as_of len least count) ≡ true
unfolding counted_as_of listed
counted_as len least count = simp (through numbered, alike, counted)

negative : (decode code1 count : ℕ) → numbered (negative_of decode code1 count) ≡ true
unfolding negative_of listed
negative decode code1 count = simp (through numbered, alike)

-- ---- reading
negative_for_lem : (f : Failed) (decode code1 code2 count : ℕ) → numbered (answer_verdict (answers.negative_for f decode code1 code2 count)) ≡ true
unfolding listed
negative_for_lem (Some f) decode code1 code2 count = simp (judged_numbered answer_verdict answers.refused (λ k. refl), alike, negative)
negative_for_lem None decode code1 code2 count = refl

pub call_numbered : (s : List ℕ) → numbered (call_verdict (calls.read_call_of s)) ≡ true
unfolding calls.read_call_of where_allowed by_number calls.four_of listed
call_numbered s =
    simp (through call_verdict, through numbered, alike, judged_numbered call_verdict calls.refused (λ k. refl), alone, ranged, counted_as)

pub answer_numbered : (s : List ℕ) → numbered (answer_verdict (answers.read_answer_of s)) ≡ true
unfolding answers.read_answer_of where_allowed by_number answers.four_of listed
answer_numbered s =
    simp (through answer_verdict, through numbered, alike, judged_numbered answer_verdict answers.refused (λ k. refl), alone, ranged, counted_as, negative_for_lem)

-- ---- writing
pub call_verdict_numbered : (c : Call) (count : ℕ) → numbered (calls.verdict_of c count) ≡ true
call_verdict_numbered call.Poll count = alone count
call_verdict_numbered (call.Read slot index len) count = ranged len count
call_verdict_numbered (call.Write slot index) count = counted 1 count
call_verdict_numbered (call.AlarmAck slot alarm specifier) count = alone count
call_verdict_numbered call.Idle count = alone count
call_verdict_numbered (call.Transport slot index) count = counted 0 count

pub answer_verdict_numbered : (x : Answer) (count : ℕ) → numbered (answers.verdict_of x count) ≡ true
answer_verdict_numbered (answer.Read slot index) count = counted 0 count
answer_verdict_numbered (answer.Write slot index len) count = ranged len count
answer_verdict_numbered (answer.AlarmAck slot alarm specifier) count = alone count
answer_verdict_numbered answer.Idle count = alone count
answer_verdict_numbered (answer.Transport slot index) count = counted 0 count
answer_verdict_numbered (answer.Negative f decode code1 code2) count = negative decode code1 count
