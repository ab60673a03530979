-- DPV1 calls and answers by their first four fields: the function number as it stands in the first byte, and three that each case has
-- its own use for. A field that the case does not have is 0, and so is the number of a poll, which has no byte.
use Rattle.std.specs.Prelude.{ℕ, List, [], ◌∷◌, eqb, Some, None, Option}
use Rattle.octets.specs.Choice.{pick}
use Rattle.acyclic.specs.Numbers.{read_number, write_number, alarm_ack_number, idle_number, transport_number, negative_number, failed_by, Failed}
use Rattle.acyclic.specs.declared.calls.Call.{Call}
use Rattle.acyclic.specs.declared.calls.Call.TheVariants as call
use Rattle.acyclic.specs.declared.answers.Answer.{Answer}
use Rattle.acyclic.specs.declared.answers.Answer.TheVariants as answer
use Rattle.acyclic_fields.specs.declared.four.Four.{Four}
use Rattle.acyclic_fields.specs.declared.four.Case as the-case
use Rattle.acyclic_fields.specs.declared.four.Case.TheVariants as case

-- ---- the first four fields of a call and of an answer

abbrev pub four_bytes : Four → List ℕ
four_bytes f = f.0 ∷ f.1 ∷ f.2 ∷ f.3 ∷ []

abbrev pub call_four : Call → List ℕ
call_four call.Poll = 0 ∷ 0 ∷ 0 ∷ 0 ∷ []
call_four (call.Read slot index l) = read_number ∷ slot ∷ index ∷ l ∷ []
call_four (call.Write slot index) = write_number ∷ slot ∷ index ∷ 0 ∷ []
call_four (call.AlarmAck slot alarm specifier) = alarm_ack_number ∷ slot ∷ alarm ∷ specifier ∷ []
call_four call.Idle = idle_number ∷ 0 ∷ 0 ∷ 0 ∷ []
call_four (call.Transport slot index) = transport_number ∷ slot ∷ index ∷ 0 ∷ []

-- a negative answer has its function's number plus 80 hex
abbrev pub answer_four : Answer → List ℕ
answer_four (answer.Read slot index) = read_number ∷ slot ∷ index ∷ 0 ∷ []
answer_four (answer.Write slot index l) = write_number ∷ slot ∷ index ∷ l ∷ []
answer_four (answer.AlarmAck slot alarm specifier) = alarm_ack_number ∷ slot ∷ alarm ∷ specifier ∷ []
answer_four answer.Idle = idle_number ∷ 0 ∷ 0 ∷ 0 ∷ []
answer_four (answer.Transport slot index) = transport_number ∷ slot ∷ index ∷ 0 ∷ []
answer_four (answer.Negative f decode code1 code2) = negative_number f ∷ decode ∷ code1 ∷ code2 ∷ []

-- ---- what such fields name

-- the case that fields name, if they name one
abbrev pub Case : Type 0
Case = Option the-case.Case

-- the case that a number names, with the three fields behind it
unfoldable pub call_named : (n a b c : ℕ) → Case
call_named n a b c =
    pick (eqb n 0) (Some (case.Call call.Poll))
    (pick (eqb n read_number) (Some (case.Call (call.Read a b c)))
    (pick (eqb n write_number) (Some (case.Call (call.Write a b)))
    (pick (eqb n alarm_ack_number) (Some (case.Call (call.AlarmAck a b c)))
    (pick (eqb n idle_number) (Some (case.Call call.Idle)) (pick (eqb n transport_number) (Some (case.Call (call.Transport a b))) None)))))

-- a negative answer for the function that its number names
abbrev pub negative_named : Failed → (decode code1 code2 : ℕ) → Case
negative_named (Some f) decode code1 code2 = Some (case.Answer (answer.Negative f decode code1 code2))
negative_named None decode code1 code2 = None

unfoldable pub answer_named : (n a b c : ℕ) → Case
answer_named n a b c =
    pick (eqb n read_number) (Some (case.Answer (answer.Read a b)))
    (pick (eqb n write_number) (Some (case.Answer (answer.Write a b c)))
    (pick (eqb n alarm_ack_number) (Some (case.Answer (answer.AlarmAck a b c)))
    (pick (eqb n idle_number) (Some (case.Answer answer.Idle))
    (pick (eqb n transport_number) (Some (case.Answer (answer.Transport a b))) (negative_named (failed_by n) a b c)))))

-- ---- how many of the four a case has, from the first on

-- a poll's and idle's number stands alone; where data say the length, the last is free
abbrev pub call_places : Call → ℕ
call_places call.Poll = 1
call_places (call.Read slot index l) = 4
call_places (call.Write slot index) = 3
call_places (call.AlarmAck slot alarm specifier) = 4
call_places call.Idle = 1
call_places (call.Transport slot index) = 3

abbrev pub answer_places : Answer → ℕ
answer_places (answer.Read slot index) = 3
answer_places (answer.Write slot index l) = 4
answer_places (answer.AlarmAck slot alarm specifier) = 4
answer_places answer.Idle = 1
answer_places (answer.Transport slot index) = 3
answer_places (answer.Negative f decode code1 code2) = 4

abbrev pub places_in : Case → ℕ
places_in (Some (case.Call c)) = call_places c
places_in (Some (case.Answer x)) = answer_places x
places_in None = 0
