-- The whole download through the C interface: 12 for bytes that are no printer's state, and then the download's own answer.
use Rattle.std.specs.Prelude.{ℕ, List, Ok, Err, Some, None}
use Rattle.protocol.specs.Printer.{lending}
use Rattle.protocol.specs.Download.{Whole, leaving, download_of, Downloaded}
use Rattle.printer_bytes.specs.State.{printer_in, printer_bytes, PrinterFound}
use Rattle.controller_bytes.specs.State.{settings_in}
use Rattle.controller_bytes.specs.Endings.{ending_bytes}

abbrev pub download_to : PrinterFound → (settings book line not_yet diagnosis lengths bodies reply request : List ℕ) → Whole
download_to (Some p) settings book line not_yet diagnosis lengths bodies reply request =
    download_of (settings_in settings) book line not_yet diagnosis (lending p lengths bodies reply) request
download_to None settings book line not_yet diagnosis lengths bodies reply request =
    leaving (Err 12) lengths bodies reply request

abbrev pub download_between : (settings book line not_yet diagnosis state lengths bodies reply request : List ℕ) → Whole
download_between settings book line not_yet diagnosis state lengths bodies reply request =
    download_to (printer_in state) settings book line not_yet diagnosis lengths bodies reply request

abbrev pub refusal_in : Downloaded → ℕ
refusal_in (Ok found) = 0
refusal_in (Err k) = k

-- what the lent state holds then, how the download ended, and the lent count of sendings
abbrev pub state_after : Downloaded → (before : List ℕ) → List ℕ
state_after (Ok found) before = printer_bytes found.printer
state_after (Err k) before = before

abbrev pub ending_after : Downloaded → (before : List ℕ) → List ℕ
ending_after (Ok found) before = ending_bytes found.ending
ending_after (Err k) before = before

abbrev pub sendings_after : Downloaded → (before : ℕ) → ℕ
sendings_after (Ok found) before = found.sent
sendings_after (Err k) before = before
