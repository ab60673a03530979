-- `controller_input::take` meets its contract: by what the reply is.
use Rattle.std.specs.Prelude.{Ok}
use mathlib.Core.Path.{sym, ap, ◌∙◌}
use Rattle.octets.specs.Refusals.{told}
use Rattle.fdl.specs.Reading.{read_of}
use Rattle.fdl.proofs.Lemmas.Classed.{said}
use Rattle.protocol.specs.Controller.{got_from, got_in}
use Rattle.controller_input.proofs.take.Goals as goal

pub heard-requires : goal.heard-requires
heard-requires c =
    let f = said (read_of c.args.reply.now) (sym c.read_classed.ensures ∙ ap told c.in-Ok-Telegram.is ∙ ap Ok c.in-Ok-Telegram.field-0-is) in
    (f.1, sym f.0)

pub returns-in-Ok-Confirmation : goal.returns-in-Ok-Confirmation
unfolding got_in
returns-in-Ok-Confirmation c = simp (said (read_of c.args.reply.now) (sym c.read_classed.ensures ∙ ap told c.in-Ok-Confirmation.is ∙ ap Ok c.in-Ok-Confirmation.field-0-is))

pub returns-in-Ok-Token : goal.returns-in-Ok-Token
unfolding got_in
returns-in-Ok-Token c = simp (said (read_of c.args.reply.now) (sym c.read_classed.ensures ∙ ap told c.in-Ok-Token.is ∙ ap Ok c.in-Ok-Token.field-0-is))

pub returns-in-Ok-Telegram : goal.returns-in-Ok-Telegram
unfolding got_in
returns-in-Ok-Telegram c =
    let a = c.args in
    c.heard.ensures ∙ sym (ap (got_from a.settings a.reply.now) (said (read_of a.reply.now) (sym c.read_classed.ensures ∙ ap told c.in-Ok-Telegram.is ∙ ap Ok c.in-Ok-Telegram.field-0-is)).0)

pub returns-in-Err : goal.returns-in-Err
unfolding got_in
returns-in-Err c = simp (said (read_of c.args.reply.now) (sym c.read_classed.ensures ∙ ap told c.in-Err.is))
