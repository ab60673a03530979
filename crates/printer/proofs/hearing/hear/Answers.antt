-- `printer::hearing::hear` meets its contract. One case for each that is received.
use mathlib.Core.Path.{refl, ap, ◌∙◌}
use Rattle.protocol.specs.Printer as printer
use Rattle.protocol.specs.Printer.{opening_reply, opened, reply_bytes, saying, heard_by, hear, Station, lending, Stepped, leaving, stepped}
use Rattle.printer_input.specs.declared.Received.TheVariants as received
use Rattle.printer.specs.Meaning.{body_in}
use Rattle.printer.proofs.Heard.{ready, by_received, came, ask_body, sent}
use Rattle.printer.proofs.hearing.hear.Goals as goal

pub status-requires : goal.status-requires
status-requires c = (ready c.requires (came c.args.printer.address c.args.telegram.now {r = received.Status c.in-Status.sa} c.in-Status.ensures refl)).stations

pub open-requires : goal.open-requires
open-requires c = ready c.requires (came c.args.printer.address c.args.telegram.now {r = received.Opening c.in-Opening.sa c.in-Opening.ask} c.in-Opening.ensures refl)

pub counted-requires : goal.counted-requires
counted-requires c = ready c.requires (came c.args.printer.address c.args.telegram.now {r = received.Counted c.in-Counted.fcb c.in-Counted.sa c.in-Counted.ask} c.in-Counted.ensures refl)

pub returns-in-Opening : goal.returns-in-Opening
returns-in-Opening c =
    let a = c.args in
    let o = c.in-Opening in
    let x : Station = lending c.args.printer c.args.lengths.now c.args.bodies.now c.args.out.now in
    sent a.lengths.now a.bodies.now (c.open.ensures (body_in a.telegram.now o.ask))
    ∙ ap
    (λ (y : printer.Ask).
    stepped (saying (opened a.printer o.sa) x.slots a.out.now (reply_bytes a.diagnosis.now a.printer.address o.sa (opening_reply y))))
    (ask_body a.telegram.now o.ask)
    ∙ by_received c.args.diagnosis.now c.args.not_yet c.args.telegram.now x {r = received.Opening c.in-Opening.sa c.in-Opening.ask} c.in-Opening.ensures refl
