-- What the plans of the code mean in the words of `protocol`: a reply, the slot that a write fills, and the whole of what
-- a new call does. The body of a write is not part of a plan: it stays in the telegram.
use Rattle.std.specs.Prelude.{◌≡◌, List, ℕ, ◌≤◌, length, Option, Some, None}
use Rattle.protocol.specs.Printer as printer
use Rattle.protocol.specs.Slots.{Slots, written}
use Rattle.protocol.specs.declared.printer.Outcome.{Outcome}
use Rattle.protocol.specs.declared.printer.Outcome.TheVariants as outcome
use Rattle.protocol.specs.declared.printer.Pending.{Pending}
use Rattle.printer_input.specs.declared.Ask.{Ask}
use Rattle.printer_input.specs.declared.Ask.TheVariants as ask
use Rattle.printer_rules.specs.declared.rules.Status.{Status}
use Rattle.printer_rules.specs.declared.rules.Status.TheVariants as status
use Rattle.printer_rules.specs.declared.rules.Reply.{Reply}
use Rattle.printer_rules.specs.declared.rules.Reply.TheVariants as reply
use Rattle.printer_rules.specs.declared.rules.Deed.{Deed}

-- ---- replies

-- the function of a bare reply
abbrev pub function_of : Status → ℕ
function_of status.Ok = 0
function_of status.UserError = 1
function_of status.NoResource = 2
function_of status.NoService = 3

abbrev pub reply_in : Reply → printer.Reply
reply_in reply.Confirmation = printer.confirmation
reply_in (reply.Bare s) = printer.bare (function_of s)
reply_in reply.Diagnosis = printer.diagnosis
reply_in (reply.Result o) = printer.result o

-- ---- calls

-- what is asked for, with this body
abbrev pub ask_with : Ask → (body : List ℕ) → printer.Ask
ask_with ask.SlaveDiag body = printer.slave_diag
ask_with (ask.Write slot index start len) body = printer.write slot index body
ask_with ask.Poll body = printer.poll
ask_with ask.Unknown body = printer.unknown
ask_with ask.Undecodable body = printer.undecodable

-- ---- what a new call does

-- the slot that is filled, if one is
abbrev pub Target : Type 0
Target = Option ℕ

-- the slot that a write with this result fills
abbrev pub target_of : Outcome → (index : ℕ) → Target
target_of (outcome.Positive slot i len) index = Some index
target_of (outcome.Negative code1 code2) index = None

abbrev pub slots_after : Target → (body : List ℕ) → Slots → Slots
slots_after None body s = s
slots_after (Some i) body s = written i body s

abbrev pub deed_in : Deed → (body : List ℕ) → Slots → printer.Deed
deed_in d body s =
    record { pending = d.pending; slots = slots_after d.target body s; writes = d.writes; reply = reply_in d.reply }

-- a deed that fills no slot
abbrev pub untouched : Pending → (writes : ℕ) → Reply → Deed
untouched p n r = record { pending = p; writes = n; reply = r; target = None }

-- a slot that is filled is one of the sixteen, and takes a body of so many bytes
abbrev pub Fits : Target → (len : ℕ) → Type 0
Fits None len = Unit {0}
Fits (Some i) len = (i ≤ 15) × (len ≤ 200)

-- a deed with a body of so many bytes is what `protocol` has of it, whatever the slots hold
pub record Does (d : Deed) (len : ℕ) (meant : (body : List ℕ) → Slots → printer.Deed) : Type 0 where
  pub same : (body : List ℕ) (s : Slots) → length body ≡ len → deed_in d body s ≡ meant body s
  pub fits : Fits d.target len
