-- Which bytes are accepted as a call and which as an answer: exactly those that are one in plain arithmetic.
use Rattle.std.specs.Prelude.{◌≡◌, refl, true, List, [], ◌∷◌, ◌↔◌, ℕ, Ok, Err}
use Rattle.std.proofs.Common.{subst}
use Rattle.octets.proofs.Choice.{never}
use Rattle.octets.specs.Part.{part_of}
use Rattle.acyclic.specs.Numbers.{failed_by}
use Rattle.acyclic.specs.Errors.{named_in, good_code1}
use Rattle.acyclic.specs.Forms.{alone_of, counted_of, counted_as_of, negative_of, by_number, where_allowed}
use Rattle.acyclic.specs.Calls as calls
use Rattle.acyclic.specs.Answers as answers
use Rattle.acyclic.specs.Bytes.{call_accepted, answer_accepted, CallBytes, AnswerBytes}
use Rattle.acyclic.proofs.Lemmas.Bytes.{call_bytes, answer_bytes, call_read, answer_read}
use Rattle.acyclic.proofs.Laws.{call_writes_back, answer_writes_back}
use Rattle.acyclic.specs.Calls.{CallReading}
use Rattle.acyclic.specs.Answers.{AnswerReading}

module _ (s : List ℕ) where
  -- what is read may be written, from fields that the bytes have
  by_call : (r : CallReading) → calls.read_call_of s ≡ r → call_accepted r ≡ true → CallBytes s
  by_call (Ok found) e a =
      let w = call_writes_back s e in
      subst CallBytes w.1 (call_bytes found.fields (part_of s found.start found.len) w.0)
  by_call (Err r) e a = absurd (never a)

  by_answer : (r : AnswerReading) → answers.read_answer_of s ≡ r → answer_accepted r ≡ true → AnswerBytes s
  by_answer (Ok found) e a =
      let w = answer_writes_back s e in
      subst AnswerBytes w.1 (answer_bytes found.fields (part_of s found.start found.len) w.0)
  by_answer (Err r) e a = absurd (never a)

  -- A call is accepted exactly when it is empty, or its number, its length and its length byte are as the number asks.
  pub call_accepted_lem : call_accepted (calls.read_call_of s) ≡ true ↔ CallBytes s
  call_accepted_lem = (by_call (calls.read_call_of s) refl, call_read s)

  -- An answer is accepted exactly when its number, its length, its length byte and its errors are as the number asks.
  pub answer_accepted_lem : answer_accepted (answers.read_answer_of s) ≡ true ↔ AnswerBytes s
  answer_accepted_lem = (by_answer (answers.read_answer_of s) refl, answer_read s)

-- Idle, and a write of two bytes to slot 1, index 7.
pub calls_computed : (call_accepted (calls.read_call_of (72 ∷ [])) ≡ true) × (call_accepted (calls.read_call_of (95 ∷ 1 ∷ 7 ∷ 2 ∷ 65 ∷ 66 ∷ [])) ≡ true)
unfolding calls.read_call_of calls.four_of alone_of counted_of counted_as_of by_number where_allowed
calls_computed = (refl, refl)

-- Idle, and a write refused with B6.
pub answers_computed : (answer_accepted (answers.read_answer_of (72 ∷ [])) ≡ true) × (answer_accepted (answers.read_answer_of (223 ∷ 128 ∷ 182 ∷ 0 ∷ [])) ≡ true)
unfolding answers.read_answer_of answers.four_of failed_by alone_of negative_of good_code1 named_in by_number where_allowed
answers_computed = (refl, refl)
