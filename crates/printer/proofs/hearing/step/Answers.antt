-- `printer::hearing::step` meets its contract: what is not refused may be used.
use mathlib.Core.Path.{◌≡◌, sym, ◌∙◌}
use borrow.Author.Rules.{rules}
use Rattle.octets.specs.Front.{fine}
use Rattle.octets.specs.Refusals.{verdict_in}
use Rattle.printer.proofs.Heard.{may_be_used}
use Rattle.printer.proofs.hearing.step.Goals as goal

pub hear-requires : goal.hear-requires
hear-requires c =
    let a = c.args in
    let judged : verdict_in c.usable.result ≡ fine = search rules in
    may_be_used a.diagnosis.now a.printer a.lengths.now a.bodies.now a.reply.now (sym c.usable.ensures ∙ judged)
