-- `controller::requests::put_write` meets its contract: what is found is template k, and its write may be written.
use mathlib.Core.Path.{ap, ◌∙◌}
use Rattle.octets.specs.Refusals.{told}
use native.Mathlib.Omega.{arith}
use lib.ListN.{length}
use Rattle.fdl.specs.declared.telegram.Format.TheVariants.{Sd2}
use Rattle.acyclic.specs.declared.calls.Call.TheVariants as call
use Rattle.content.specs.declared.fields.Content.TheVariants as content
use Rattle.service.specs.Writing.{telegram_for}
use Rattle.controller_state.specs.Templates.{holds, none_left, one_left}
use Rattle.controller.proofs.Written.{may, write_may}
use Rattle.controller.proofs.requests.put_write.Goals as goal

pub returns-in_default : goal.returns-in_default
returns-in_default c =
    rw (none_left _ _ c.requires.1 c.requires.2 c.listed.ensures (ap told c.in_default.is))

pub put_body-requires : goal.put_body-requires
put_body-requires c =
    let held = holds c.args.book.now c.args.template c.requires.1 c.requires.2 c.listed.ensures (ap told c.in-Ok.is) in
    let s = c.args.settings in
    let h = held in
    let body = c.part.ensures ∙ h.part in (
      omega (arith, ap length body, h.short),
      may Sd2 s.printer s.controller _ (content.Dpv1Call (call.Write 1 _)) _
          (write_may s.printer s.controller c.requires.0.printer c.requires.0.controller c.args.fcb c.counted_code.ensures h.slot body h.nonempty h.short),
    )

pub returns : goal.returns
unfolding telegram_for
returns c =
    let held = holds c.args.book.now c.args.template c.requires.1 c.requires.2 c.listed.ensures (ap told c.in-Ok.is) in
    let h = held in
    rw (one_left h, ← c.counted_code.ensures, ← (c.part.ensures ∙ h.part), ← h.slot) c.put_body.ensures
