-- The bytes of a call and those of an answer (document 01, "DPV1"), in plain arithmetic. Numbers are hexadecimal there, and here
-- beside each constructor. Byte 3 is the length byte.
use Rattle.std.specs.Prelude.{ℕ, ◌+◌, ◌/◌, ◌%◌, ◌≤◌, ◌≡◌, List, Bool, true, false, length, get_or, Ok, Err}
use Rattle.acyclic.specs.Calls.{CallReading}
use Rattle.acyclic.specs.Answers.{AnswerReading}

-- ---- readings that are not refused

abbrev pub call_accepted : CallReading → Bool
call_accepted (Ok found) = true
call_accepted (Err r) = false

abbrev pub answer_accepted : AnswerReading → Bool
answer_accepted (Ok found) = true
answer_accepted (Err r) = false

-- ---- calls

pub data CallBytes (s : List ℕ) : Type 0 where
  poll : length s ≡ 0 → CallBytes s
  -- 5E: four bytes, a length of 0..240
  read_call : get_or s 0 0 ≡ 94 → length s ≡ 4 → get_or s 3 0 ≤ 240 → CallBytes s
  -- 5F: as many data as the length byte says, 1..240
  write_call : get_or s 0 0 ≡ 95 → length s ≡ 4 + get_or s 3 0 → 1 ≤ get_or s 3 0 → get_or s 3 0 ≤ 240 → CallBytes s
  -- 5C
  alarm_ack_call : get_or s 0 0 ≡ 92 → length s ≡ 4 → CallBytes s
  -- 48
  idle_call : get_or s 0 0 ≡ 72 → length s ≡ 1 → CallBytes s
  -- 51: as many data as the length byte says, 0..240
  transport_call : get_or s 0 0 ≡ 81 → length s ≡ 4 + get_or s 3 0 → get_or s 3 0 ≤ 240 → CallBytes s

-- ---- answers

-- the number of a negative answer: that of read, write, alarm ack or transport, plus 80 hex
pub data FailedNumber (n : ℕ) : Type 0 where
  read_failed : n ≡ 222 → FailedNumber n
  write_failed : n ≡ 223 → FailedNumber n
  alarm_ack_failed : n ≡ 220 → FailedNumber n
  transport_failed : n ≡ 209 → FailedNumber n

-- decode and code 1: under 128, class and code are the high and the low four bits of code 1
pub data ErrorBytes (decode code1 : ℕ) : Type 0 where
  class_10_low : decode ≡ 128 → code1 / 16 ≡ 10 → code1 % 16 ≤ 2 → ErrorBytes decode code1
  class_10_high : decode ≡ 128 → code1 / 16 ≡ 10 → 8 ≤ code1 % 16 → ErrorBytes decode code1
  class_11 : decode ≡ 128 → code1 / 16 ≡ 11 → ErrorBytes decode code1
  class_12_low : decode ≡ 128 → code1 / 16 ≡ 12 → code1 % 16 ≤ 3 → ErrorBytes decode code1
  class_12_high : decode ≡ 128 → code1 / 16 ≡ 12 → 8 ≤ code1 % 16 → ErrorBytes decode code1
  class_13_on : decode ≡ 128 → 13 ≤ code1 / 16 → ErrorBytes decode code1
  decode_254 : decode ≡ 254 → ErrorBytes decode code1
  decode_255 : decode ≡ 255 → ErrorBytes decode code1

pub data AnswerBytes (s : List ℕ) : Type 0 where
  -- 5E: as many data as the length byte says, 0..240
  read_answer : get_or s 0 0 ≡ 94 → length s ≡ 4 + get_or s 3 0 → get_or s 3 0 ≤ 240 → AnswerBytes s
  -- 5F: four bytes, a length of 0..240
  write_answer : get_or s 0 0 ≡ 95 → length s ≡ 4 → get_or s 3 0 ≤ 240 → AnswerBytes s
  -- 5C
  alarm_ack_answer : get_or s 0 0 ≡ 92 → length s ≡ 4 → AnswerBytes s
  -- 48
  idle_answer : get_or s 0 0 ≡ 72 → length s ≡ 1 → AnswerBytes s
  -- 51
  transport_answer : get_or s 0 0 ≡ 81 → length s ≡ 4 + get_or s 3 0 → get_or s 3 0 ≤ 240 → AnswerBytes s
  -- DE, DF, DC and D1: decode, code 1, and code 2, which is free
  negative_answer : FailedNumber (get_or s 0 0) → length s ≡ 4 → ErrorBytes (get_or s 1 0) (get_or s 2 0) → AnswerBytes s
