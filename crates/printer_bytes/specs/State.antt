-- The printer's state as eleven bytes: address, boarding, FCB, SA, the held reply's count; the pending result's kind, three
-- fields and the polls before it; the writes.
use Rattle.std.specs.Prelude.{ℕ, List, [], ◌∷◌, eqb, ltb, get_or, Some, None, Option}
use Rattle.octets.specs.Choice.{pick}
use Rattle.octets.specs.Bits.{bit_of}
use Rattle.protocol.specs.declared.printer.Outcome.{Outcome}
use Rattle.protocol.specs.declared.printer.Outcome.TheVariants as outcome
use Rattle.protocol.specs.declared.printer.Pending.{Pending}
use Rattle.protocol.specs.declared.printer.Pending.TheVariants as pending
use Rattle.protocol.specs.declared.printer.Printer.{Printer}
use Rattle.printer_bytes.specs.declared.state.Five.{Five}

-- what bytes say of a result, if they can
abbrev pub PendingFound : Type 0
PendingFound = Option Pending

-- the printer that bytes are the state of, if they are one's
abbrev pub PrinterFound : Type 0
PrinterFound = Option Printer

-- ---- what bytes are the state of

-- 0 for none, 1 for a positive result, 2 for a negative one
unfoldable pub pending_by : (kind first second third wait : ℕ) → PendingFound
pending_by kind first second third wait =
    pick (eqb kind 0) (Some pending.Nothing)
    (pick (eqb kind 1) (Some (pending.Result (outcome.Positive first second third) wait))
    (pick (eqb kind 2) (Some (pending.Result (outcome.Negative first second) wait)) None))

abbrev pub found : (state : List ℕ) → PendingFound → PrinterFound
found s (Some p) =
    Some
    (record {
      address = get_or s 0 0;
      boarding = eqb (get_or s 1 0) 1;
      fcb = eqb (get_or s 2 0) 1;
      sa = get_or s 3 0;
      held = get_or s 4 0;
      pending = p;
      writes = get_or s 10 0;
    })
found s None = None

-- neither test is above 1, and the kind of the pending result is known
unfoldable pub printer_in : (state : List ℕ) → PrinterFound
printer_in s =
    pick (ltb 1 (get_or s 1 0)) None
    (pick (ltb 1 (get_or s 2 0)) None
    (found s (pending_by (get_or s 5 0) (get_or s 6 0) (get_or s 7 0) (get_or s 8 0) (get_or s 9 0))))

-- ---- the bytes of a state

abbrev pub outcome_bytes : Outcome → (wait : ℕ) → List ℕ
outcome_bytes (outcome.Positive slot index len) wait = 1 ∷ slot ∷ index ∷ len ∷ wait ∷ []
outcome_bytes (outcome.Negative code1 code2) wait = 2 ∷ code1 ∷ code2 ∷ 0 ∷ wait ∷ []

abbrev pub pending_bytes : Pending → List ℕ
pending_bytes pending.Nothing = 0 ∷ 0 ∷ 0 ∷ 0 ∷ 0 ∷ []
pending_bytes (pending.Result o wait) = outcome_bytes o wait

abbrev pub five_bytes : Five → List ℕ
five_bytes f = f.0 ∷ f.1 ∷ f.2 ∷ f.3 ∷ f.4 ∷ []

-- five bytes in the middle of the state
abbrev pub around : Printer → (five : List ℕ) → List ℕ
around p f =
    p.address ∷ bit_of p.boarding ∷ bit_of p.fcb ∷ p.sa ∷ p.held ∷ get_or f 0 0 ∷ get_or f 1 0 ∷ get_or f 2 0 ∷ get_or f 3 0 ∷ get_or f 4 0
    ∷ p.writes ∷ []

abbrev pub printer_bytes : Printer → List ℕ
printer_bytes p = around p (pending_bytes p.pending)
