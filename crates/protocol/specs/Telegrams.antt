-- The telegrams of a download: requests and replies, as bytes.
use Rattle.std.specs.Prelude.{ℕ, Bool, true, false, List, [], None}
use Rattle.fdl.specs.Writing.{telegram_of}
use Rattle.fdl.specs.declared.telegram.Format.TheVariants.{Sd1, Sd2}
use Rattle.access.specs.Route.{header_of, header_with}
use Rattle.access.specs.declared.table.Service.TheVariants as service
use Rattle.acyclic.specs.declared.calls.Call.TheVariants as call
use Rattle.acyclic.specs.declared.answers.Answer.{Answer}
use Rattle.acyclic.specs.declared.answers.Answer.TheVariants as answer
use Rattle.acyclic.specs.declared.numbers.Function.TheVariants as function
use Rattle.content.specs.declared.fields.Content.{Content}
use Rattle.content.specs.declared.fields.Content.TheVariants as content
use Rattle.service.specs.Writing.{telegram_for}
use Rattle.protocol.specs.declared.printer.Outcome.{Outcome}
use Rattle.protocol.specs.declared.printer.Outcome.TheVariants as outcome

-- a telegram for a service, in SD2
abbrev pub carrying : Content → (to from fc : ℕ) → (part : List ℕ) → List ℕ
carrying c to from fc part = telegram_for Sd2 to from fc c part

-- ---- requests

-- the opening call, by SRD high with FCV 0 and FCB 1: 6D
abbrev pub opening_code : ℕ
opening_code = 0x6D

-- counted calls, by SRD low: 5C with FCB 0, 7C with FCB 1
abbrev pub counted_code : (fcb : Bool) → ℕ
counted_code false = 0x5C
counted_code true = 0x7C

abbrev pub opening_bytes : (to from : ℕ) → List ℕ
opening_bytes to from = carrying content.SlaveDiagCall to from opening_code []

-- a write to slot number 1
abbrev pub write_bytes : (to from : ℕ) → (fcb : Bool) → (index : ℕ) → (body : List ℕ) → List ℕ
write_bytes to from fcb index body = carrying (content.Dpv1Call (call.Write 1 index)) to from (counted_code fcb) body

abbrev pub poll_bytes : (to from : ℕ) → (fcb : Bool) → List ℕ
poll_bytes to from fcb = carrying (content.Dpv1Call call.Poll) to from (counted_code fcb) []

-- ---- replies: station type 0

-- bare ones in SD1
abbrev pub bare_bytes : (to from function : ℕ) → List ℕ
bare_bytes to from function = telegram_of Sd1 (header_with to from function None None) []

-- data as function 8 in SD2
abbrev pub reply_code : ℕ
reply_code = 8

abbrev pub diagnosis_bytes : (to from : ℕ) → (diagnosis : List ℕ) → List ℕ
diagnosis_bytes to from diagnosis = telegram_of Sd2 (header_of service.SlaveDiag to from reply_code) diagnosis

-- positive: 5F, slot, index and length; negative: DF, decode 128, both codes
abbrev pub answer_of : Outcome → Answer
answer_of (outcome.Positive slot index len) = answer.Write slot index len
answer_of (outcome.Negative code1 code2) = answer.Negative function.Write 128 code1 code2

abbrev pub outcome_bytes : (to from : ℕ) → Outcome → List ℕ
outcome_bytes to from o = carrying (content.Dpv1Answer (answer_of o)) to from reply_code []
