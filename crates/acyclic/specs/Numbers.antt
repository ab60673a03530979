-- Function numbers (document 01, "DPV1"; hexadecimal there, and here beside each number): which number each case has, and
-- which numbers are allowed in which way.
use Rattle.std.specs.Prelude.{ℕ, ◌+◌, Bool, true, false, List, [], ◌∷◌, eqb, Some, None, Option}
use Rattle.octets.specs.Choice.{pick, ◌or◌}
use Rattle.acyclic.specs.declared.numbers.Function.{Function}
use Rattle.acyclic.specs.declared.numbers.Function.TheVariants as function
use Rattle.acyclic.specs.declared.calls.Call.{Call}
use Rattle.acyclic.specs.declared.calls.Call.TheVariants as call
use Rattle.acyclic.specs.declared.answers.Answer.{Answer}
use Rattle.acyclic.specs.declared.answers.Answer.TheVariants as answer

-- the function whose negative answer has a number, if one has
abbrev pub Failed : Type 0
Failed = Option Function

-- 5E
abbrev pub read_number : ℕ
read_number = 94

-- 5F
abbrev pub write_number : ℕ
write_number = 95

-- 5C
abbrev pub alarm_ack_number : ℕ
alarm_ack_number = 92

-- 48
abbrev pub idle_number : ℕ
idle_number = 72

-- 51
abbrev pub transport_number : ℕ
transport_number = 81

abbrev pub function_number : Function → ℕ
function_number function.Read = read_number
function_number function.Write = write_number
function_number function.AlarmAck = alarm_ack_number
function_number function.Transport = transport_number

-- a negative answer has its function's number plus 80 hex
abbrev pub negative_number : Function → ℕ
negative_number f = 128 + function_number f

-- the function whose negative answer has this number
unfoldable pub failed_by : ℕ → Failed
failed_by n =
    pick (eqb n (negative_number function.Read)) (Some function.Read)
    (pick (eqb n (negative_number function.Write)) (Some function.Write)
    (pick (eqb n (negative_number function.AlarmAck)) (Some function.AlarmAck)
    (pick (eqb n (negative_number function.Transport)) (Some function.Transport) None)))

-- ---- each case

-- a poll is empty, and has none
abbrev pub call_number : Call → List ℕ
call_number call.Poll = []
call_number (call.Read slot index len) = read_number ∷ []
call_number (call.Write slot index) = write_number ∷ []
call_number (call.AlarmAck slot alarm specifier) = alarm_ack_number ∷ []
call_number call.Idle = idle_number ∷ []
call_number (call.Transport slot index) = transport_number ∷ []

abbrev pub answer_number : Answer → ℕ
answer_number (answer.Read slot index) = read_number
answer_number (answer.Write slot index len) = write_number
answer_number (answer.AlarmAck slot alarm specifier) = alarm_ack_number
answer_number answer.Idle = idle_number
answer_number (answer.Transport slot index) = transport_number
answer_number (answer.Negative f decode code1 code2) = negative_number f

-- ---- each way

abbrev pub allowed_in_calls : ℕ → Bool
allowed_in_calls n =
    eqb n read_number or eqb n write_number or eqb n alarm_ack_number or eqb n idle_number or eqb n transport_number

abbrev pub is_failed : Failed → Bool
is_failed (Some f) = true
is_failed None = false

abbrev pub allowed_in_answers : ℕ → Bool
allowed_in_answers n = allowed_in_calls n or is_failed (failed_by n)
