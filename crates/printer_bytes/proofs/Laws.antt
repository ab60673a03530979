-- The bytes of a printer's state are the state of what they were made from: a step takes up exactly what the step before it
-- left.
use Rattle.std.specs.Prelude.{ℕ, ◌≡◌, Bool, Some}
use Rattle.octets.proofs.Bits.{bit_low, bit_again}
use Rattle.protocol.specs.declared.printer.Outcome.TheVariants as outcome
use Rattle.protocol.specs.declared.printer.Pending.{Pending}
use Rattle.protocol.specs.declared.printer.Pending.TheVariants as pending
use Rattle.protocol.specs.declared.printer.Printer.{Printer}
use Rattle.printer_bytes.specs.State.{pending_by, printer_in, printer_bytes}

module _ (address : ℕ) (boarding fcb : Bool) (sa held writes : ℕ) where
  abbrev having : Pending → Printer
  having q = record { address = address; boarding = boarding; fcb = fcb; sa = sa; held = held; pending = q; writes = writes }

  by_pending : (q : Pending) → printer_in (printer_bytes (having q)) ≡ Some (having q)
  unfolding printer_in pending_by
  by_pending pending.Nothing = simp (bit_low, bit_again)
  by_pending (pending.Result (outcome.Positive slot index len) wait) = simp (bit_low, bit_again)
  by_pending (pending.Result (outcome.Negative code1 code2) wait) = simp (bit_low, bit_again)

pub printer_again : (p : Printer) → printer_in (printer_bytes p) ≡ Some p
printer_again p = by_pending p.address p.boarding p.fcb p.sa p.held p.writes p.pending
