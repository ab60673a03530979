-- The printer's step through the C interface: 12 for bytes that are no printer's state, and then the step's own answer.
use Rattle.std.specs.Prelude.{ℕ, List, Ok, Err, Some, None}
use Rattle.protocol.specs.Printer.{Stepped, lending, leaving, step_of, Reaction}
use Rattle.printer_bytes.specs.State.{printer_in, printer_bytes, PrinterFound}

abbrev pub stepped_from : PrinterFound → (telegram diagnosis : List ℕ) (not_yet : ℕ) (lengths bodies reply : List ℕ) → Stepped
stepped_from (Some p) telegram diagnosis not_yet lengths bodies reply = step_of diagnosis not_yet telegram (lending p lengths bodies reply)
stepped_from None telegram diagnosis not_yet lengths bodies reply = leaving (Err 12) lengths bodies reply

abbrev pub printer_step : (state telegram diagnosis : List ℕ) (not_yet : ℕ) (lengths bodies reply : List ℕ) → Stepped
printer_step state telegram diagnosis not_yet lengths bodies reply =
    stepped_from (printer_in state) telegram diagnosis not_yet lengths bodies reply

abbrev pub refusal_in : Reaction → ℕ
refusal_in (Ok found) = 0
refusal_in (Err k) = k

-- what the lent state holds then, and the lent count of the reply's bytes
abbrev pub state_after : Reaction → (before : List ℕ) → List ℕ
state_after (Ok found) before = printer_bytes found.printer
state_after (Err k) before = before

abbrev pub sent_after : Reaction → (before : ℕ) → ℕ
sent_after (Ok found) before = found.reply
sent_after (Err k) before = before
