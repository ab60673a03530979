-- `printer_input::addressed` meets its contract: the class is a call's, then the address.
use mathlib.Core.Path.{sym, ◌∙◌}
use Rattle.printer_input.proofs.addressed.Goals as goal

pub called-requires : goal.called-requires
called-requires c =
    (c.requires.0, sym c.is_call.ensures ∙ c.if-not-is_call.false, c.requires.1)
