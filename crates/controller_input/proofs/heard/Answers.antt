-- `controller_input::heard` meets its contract: the printer's own, and what the telegram that was read carries.
use mathlib.Core.Path.{sym, ap, ◌∙◌}
use mathlib.Core.Bool.{Bool}
use Rattle.octets.specs.Choice.{pick}
use Rattle.octets.specs.Part.{part_of}
use Rattle.octets.specs.declared.Mode.TheVariants as mode
use Rattle.fdl.specs.Reading.{Reading}
use Rattle.access.specs.Route.{route_of}
use Rattle.service.specs.Reading.{service_in, read_of}
use Rattle.protocol.specs.Controller.{other, got_by}
use Rattle.controller_input.specs.Meaning.{got_of_route}
use Rattle.controller_input.proofs.Routed.{route_got}
use Rattle.controller_input.proofs.heard.Goals as goal

pub returns : goal.returns
unfolding read_of
returns c =
    let a = c.args in
    let s = a.reply.now in
    let route = route_of a.header in
    let own = sym c.is_printers.ensures ∙ c.if-not-is_printers.false in
    c.routed.ensures ∙ ap (got_of_route route) c.part.ensures
    ∙ route_got route a.format a.header a.start (part_of s a.start a.len) mode.Dpv1
    ∙ ap (λ (t : Reading). got_by (service_in s mode.Dpv1 t)) c.requires.1
    ∙ sym (ap (λ (t : Bool). pick t (got_by (read_of s mode.Dpv1)) other) own)
