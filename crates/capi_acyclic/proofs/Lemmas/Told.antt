-- What an answer of 0 says: no bytes and no fields are refused with that number.
use Rattle.std.specs.Prelude.{ℕ, List}
use Rattle.acyclic.proofs.Refusals as acyclic
use Rattle.acyclic.specs.Refusals as acyclic_words
use Rattle.acyclic.specs.Calls.{read_call_of, CallReading}
use Rattle.acyclic.specs.Answers.{read_answer_of, AnswerReading}
use Rattle.acyclic_fields.specs.Four.{Case}
use Rattle.fields.specs.Outcome.{Tells}
use Rattle.fields.proofs.Refusals.{tells}
use Rattle.capi_acyclic.specs.Acyclic.{verdict_at}
use Rattle.capi_acyclic.proofs.Refusals.{verdict_at_lem}

pub fields_told : (k : Case) (part : List ℕ) → Tells (verdict_at k part)
fields_told k part = tells (verdict_at k part) (verdict_at_lem k part)

abbrev pub CallTells : CallReading → Type 0
CallTells r = Tells (acyclic_words.call_verdict r)

pub call_told : (s : List ℕ) → CallTells (read_call_of s)
call_told s = tells (acyclic_words.call_verdict (read_call_of s)) (acyclic.call_numbered s)

abbrev pub AnswerTells : AnswerReading → Type 0
AnswerTells r = Tells (acyclic_words.answer_verdict r)

pub answer_told : (s : List ℕ) → AnswerTells (read_answer_of s)
answer_told s = tells (acyclic_words.answer_verdict (read_answer_of s)) (acyclic.answer_numbered s)
