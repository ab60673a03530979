-- Calls and answers of DPV1 through the C interface. Their fields are six bytes: the function number as it stands in the first
-- byte, three that each case has its own use for, and start and length of the data. A field that the case does not have is 0,
-- and so is the number of a poll, which has no byte.
use Rattle.std.specs.Prelude.{ℕ, List, [], ◌∷◌, ◌++◌, get_or, Ok, Err, Some, None}
use Rattle.octets.specs.Part.{part_of}
use Rattle.octets.specs.Front.{Verdict, fault, answer_by, held_by, Written}
use Rattle.acyclic.specs.Calls as calls
use Rattle.acyclic.specs.Answers as answers
use Rattle.acyclic.specs.Calls.{CallReading}
use Rattle.acyclic.specs.Answers.{AnswerReading}
use Rattle.acyclic_fields.specs.Four.{call_four, answer_four, call_named, answer_named, Case}
use Rattle.acyclic_fields.specs.declared.four.Case.TheVariants as case

-- start and length of the data behind them
abbrev pub all_fields : (four : List ℕ) (start len : ℕ) → List ℕ
all_fields four start len = four ++ (start ∷ len ∷ [])

-- ---- reading

abbrev pub call_refusal : CallReading → ℕ
call_refusal (Ok found) = 0
call_refusal (Err r) = r

abbrev pub answer_refusal : AnswerReading → ℕ
answer_refusal (Ok found) = 0
answer_refusal (Err r) = r

-- what the lent fields hold then
abbrev pub call_after : CallReading → (before : List ℕ) → List ℕ
call_after (Ok found) before = all_fields (call_four found.fields) found.start found.len
call_after (Err r) before = before

abbrev pub answer_after : AnswerReading → (before : List ℕ) → List ℕ
answer_after (Ok found) before = all_fields (answer_four found.fields) found.start found.len
answer_after (Err r) before = before

-- ---- writing, from the first four of the fields and the data

abbrev pub call_in : (fields : List ℕ) → Case
call_in fields = call_named (get_or fields 0 0) (get_or fields 1 0) (get_or fields 2 0) (get_or fields 3 0)

abbrev pub answer_in : (fields : List ℕ) → Case
answer_in fields = answer_named (get_or fields 0 0) (get_or fields 1 0) (get_or fields 2 0) (get_or fields 3 0)

-- a number that names no case is reserved
abbrev pub verdict_at : Case → (part : List ℕ) → Verdict
verdict_at (Some (case.Call c)) part = calls.verdict_for c part
verdict_at (Some (case.Answer x)) part = answers.verdict_for x part
verdict_at None part = fault 28

abbrev pub bytes_at : Case → (part : List ℕ) → List ℕ
bytes_at (Some (case.Call c)) part = calls.bytes_for c part
bytes_at (Some (case.Answer x)) part = answers.bytes_for x part
bytes_at None part = []

-- what is answered then at a lent slice of so many bytes, and what that slice holds
abbrev pub answer_of : Case → (part : List ℕ) (room : ℕ) → Written
answer_of k part room = answer_by (verdict_at k part) (bytes_at k part) room

abbrev pub held_of : Case → (part out : List ℕ) → List ℕ
held_of k part out = held_by (verdict_at k part) (bytes_at k part) out

-- ---- the data that fields name in the bytes s

abbrev pub part_in : (s fields : List ℕ) → List ℕ
part_in s fields = part_of s (get_or fields 4 0) (get_or fields 5 0)
