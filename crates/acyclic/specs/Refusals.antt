-- The verdict that the reading of a DPV1 call or answer says.
use Rattle.std.specs.Prelude.{Ok, Err}
use Rattle.octets.specs.Front.{Verdict, fine, fault}
use Rattle.acyclic.specs.Calls.{CallReading}
use Rattle.acyclic.specs.Answers.{AnswerReading}

-- the verdict that a reading came to
abbrev pub call_verdict : CallReading → Verdict
call_verdict (Ok found) = fine
call_verdict (Err r) = fault r

abbrev pub answer_verdict : AnswerReading → Verdict
answer_verdict (Ok found) = fine
answer_verdict (Err r) = fault r
