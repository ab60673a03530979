-- 0 means accepted: what the function of this crate answers is 0 exactly then, and a refusal number of document 01 else.
use Rattle.std.specs.Prelude.{ℕ, ◌≡◌, true, List, Ok, Err, Some, None}
use Rattle.std.proofs.Math.Path.{refl}
use Rattle.octets.specs.Refusals.{listed, numbered, is_fine, Status}
use Rattle.octets.proofs.Refusals.{zero_accepted, listed_refused}
use Rattle.protocol.specs.Printer.{lending, Reaction}
use Rattle.protocol.proofs.Refusals.{reaction_verdict, reaction_numbered}
use Rattle.printer_bytes.specs.State.{printer_in, PrinterFound}
use Rattle.capi_printer.specs.PrinterEnd.{stepped_from, printer_step, refusal_in}

-- ---- rabtunex_printer_step

status_by : (r : Reaction) → numbered (reaction_verdict r) ≡ true → Status (is_fine (reaction_verdict r)) (refusal_in r)
status_by (Ok found) h = zero_accepted
status_by (Err k) h = listed_refused h

module _ (telegram diagnosis : List ℕ) (not_yet : ℕ) (lengths bodies reply : List ℕ) where
  step_from : (p : PrinterFound) → numbered (reaction_verdict (stepped_from p telegram diagnosis not_yet lengths bodies reply).answer) ≡ true
  unfolding listed
  step_from (Some p) = reaction_numbered diagnosis not_yet telegram (lending p lengths bodies reply)
  step_from None = refl

pub printer_step_status : (state telegram diagnosis : List ℕ) (not_yet : ℕ) (lengths bodies reply : List ℕ)
    → Status (is_fine (reaction_verdict (printer_step state telegram diagnosis not_yet lengths bodies reply).answer))
    (refusal_in (printer_step state telegram diagnosis not_yet lengths bodies reply).answer)
printer_step_status state telegram diagnosis not_yet lengths bodies reply =
    status_by (printer_step state telegram diagnosis not_yet lengths bodies reply).answer
    (step_from telegram diagnosis not_yet lengths bodies reply (printer_in state))
