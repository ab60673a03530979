-- Answers (document 01, "DPV1"): reading and writing.
use Rattle.std.specs.Prelude.{ℕ, List, [], ◌∷◌, ◌++◌, length, eqb, Ok, Err, Some, None, Result}
use Rattle.octets.specs.Choice.{pick}
use Rattle.octets.specs.Front.{Verdict}
use Rattle.octets.specs.Fixed.{judged}
use Rattle.acyclic.specs.Numbers.{read_number, write_number, alarm_ack_number, transport_number, failed_by, answer_number, allowed_in_answers, Failed}
use Rattle.acyclic.specs.Forms.{alone_of, ranged_of, counted_of, counted_as_of, negative_of, by_number, where_allowed}
use Rattle.acyclic.specs.declared.answers.Answer.{Answer}
use Rattle.acyclic.specs.declared.answers.Answer.TheVariants as answer
use Rattle.octets.specs.declared.Read.{Read}

-- what reading answers: the answer and where its data stand, or a refusal's number
abbrev pub AnswerReading : Type 0
AnswerReading = Result (Read Answer) ℕ

-- ---- reading

abbrev pub refused : ℕ → AnswerReading
refused k = Err k

-- the answer x with count bytes from start, where the verdict lets it stand
abbrev pub answer_at : (start count : ℕ) → Verdict → Answer → AnswerReading
answer_at start count v x = judged refused v (Ok (record { fields = x; start = start; len = count }))

-- a negative answer for the function that its number names: decode, code 1 and code 2, and count bytes behind them; a number that
-- names none is reserved
abbrev pub negative_for : Failed → (decode code1 code2 count : ℕ) → AnswerReading
negative_for (Some f) decode code1 code2 count = answer_at 4 count (negative_of decode code1 count) (answer.Negative f decode code1 code2)
negative_for None decode code1 code2 count = refused 28

-- how each number is read whose answer has four fixed bytes: n, a, b and l, and count bytes behind them
unfoldable pub four_of : (n a b l count : ℕ) → AnswerReading
four_of n a b l count =
    pick (eqb n read_number) (answer_at 4 count (counted_as_of l 0 count) (answer.Read a b))
    (pick (eqb n write_number) (answer_at 4 count (ranged_of l count) (answer.Write a b l))
    (pick (eqb n alarm_ack_number) (answer_at 4 count (alone_of count) (answer.AlarmAck a b l))
    (pick (eqb n transport_number) (answer_at 4 count (counted_as_of l 0 count) (answer.Transport a b)) (negative_for (failed_by n) a b l count))))

abbrev pub idle_of : (count : ℕ) → AnswerReading
idle_of count = answer_at 1 count (alone_of count) answer.Idle

-- an empty answer gives 20
unfoldable pub read_answer_of : List ℕ → AnswerReading
read_answer_of s = where_allowed refused (refused 20) allowed_in_answers (by_number refused idle_of four_of s) s

-- ---- writing

-- the fixed bytes behind the number, where so many data follow
abbrev pub fields_of : Answer → (count : ℕ) → List ℕ
fields_of (answer.Read slot index) count = slot ∷ index ∷ count ∷ []
fields_of (answer.Write slot index len) count = slot ∷ index ∷ len ∷ []
fields_of (answer.AlarmAck slot alarm specifier) count = slot ∷ alarm ∷ specifier ∷ []
fields_of answer.Idle count = []
fields_of (answer.Transport slot index) count = slot ∷ index ∷ count ∷ []
fields_of (answer.Negative f decode code1 code2) count = decode ∷ code1 ∷ code2 ∷ []

abbrev pub fixed_bytes : Answer → (count : ℕ) → List ℕ
fixed_bytes x count = answer_number x ∷ fields_of x count

abbrev pub bytes_for : Answer → (part : List ℕ) → List ℕ
bytes_for x part = fixed_bytes x (length part) ++ part

-- each answer has the form that reading asks of its number, with no length byte to agree: it is made from the part
abbrev pub verdict_of : Answer → (count : ℕ) → Verdict
verdict_of (answer.Read slot index) count = counted_of 0 count
verdict_of (answer.Write slot index len) count = ranged_of len count
verdict_of (answer.AlarmAck slot alarm specifier) count = alone_of count
verdict_of answer.Idle count = alone_of count
verdict_of (answer.Transport slot index) count = counted_of 0 count
verdict_of (answer.Negative f decode code1 code2) count = negative_of decode code1 count

abbrev pub verdict_for : Answer → (part : List ℕ) → Verdict
verdict_for x part = verdict_of x (length part)
