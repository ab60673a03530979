-- `download::running::run` meets its contract: what is refused changes nothing.
use Rattle.protocol.specs.Printer.{lending}
use Rattle.protocol.proofs.Theorem.{downloads}
use Rattle.download.proofs.running.run.Goals as goal

pub returns-clause-demand : goal.returns-clause-demand
returns-clause-demand c =
    let a = c.args in
    λ v.
    downloads a.settings a.book.now a.line.now a.not_yet.now a.diagnosis.now (lending a.printer a.lengths.now a.bodies.now a.reply.now) a.request.now
    (record { lengths = c.sixteen.ensures.0; bodies = c.sixteen.ensures.1 }) v c.until_ended.ensures
