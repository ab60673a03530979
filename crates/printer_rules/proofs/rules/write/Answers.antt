-- `printer_rules::rules::write` meets its contract: a write that is performed.
use Rattle.printer_rules.proofs.Deeds.{writes}
use Rattle.printer_rules.proofs.rules.write.Goals as goal

pub returns-in-Nothing : goal.returns-in-Nothing
returns-in-Nothing c =
    let a = c.args in
    rw c.in-Nothing.is (writes a.printer.boarding a.not_yet a.printer.writes a.slot a.index a.len c.judge-outcome.ensures c.one_more.ensures c.target_of.ensures)
