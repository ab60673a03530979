-- `printer_input::receive` meets its contract: by what the telegram is.
use mathlib.Core.Path.{sym, ap, ◌∙◌}
use native.Mathlib.Omega.{arith}
use Rattle.function_code.specs.Code.{class_of}
use Rattle.fdl.specs.Reading.{read_of}
use Rattle.fdl.proofs.Laws.{data_inside}
use Rattle.fdl.proofs.Lemmas.Classed.{said}
use Rattle.protocol.specs.Printer.{received_by, received_of}
use Rattle.printer_input.proofs.receive.Goals as goal

pub addressed-requires : goal.addressed-requires
addressed-requires c =
    let f = said (read_of c.args.telegram.now) (sym (rw c.in-Ok-Telegram.field-0-is at c.in-Ok-Telegram.ensures)) in
    let i = data_inside class_of c.args.telegram.now f.0 in
    (f.1, omega (arith, i.ends, i.most))

pub returns-in-Ok-Telegram : goal.returns-in-Ok-Telegram
unfolding received_of
returns-in-Ok-Telegram c =
    let a = c.args in
    let f = (said (read_of a.telegram.now) (sym (rw c.in-Ok-Telegram.field-0-is at c.in-Ok-Telegram.ensures))).0 in
    c.addressed.ensures _ (sym f) ∙ sym (ap (received_by a.address a.telegram.now) f)

pub returns-in-Ok-Confirmation : goal.returns-in-Ok-Confirmation
unfolding received_of
returns-in-Ok-Confirmation c =
    simp (said (read_of c.args.telegram.now) (sym (rw c.in-Ok-Confirmation.field-0-is at c.in-Ok-Confirmation.ensures)))

pub returns-in-Ok-Token : goal.returns-in-Ok-Token
unfolding received_of
returns-in-Ok-Token c =
    simp (said (read_of c.args.telegram.now) (sym (rw c.in-Ok-Token.field-0-is at c.in-Ok-Token.ensures)))

pub returns-in-Err : goal.returns-in-Err
unfolding received_of
returns-in-Err c = simp (said (read_of c.args.telegram.now) (sym c.in-Err.ensures))
