-- `controller::requests::put_poll` meets its contract: a poll may be written.
use mathlib.Core.List.{[]}
use Rattle.fdl.specs.declared.telegram.Format.TheVariants.{Sd2}
use Rattle.acyclic.specs.declared.calls.Call.TheVariants as call
use Rattle.content.specs.declared.fields.Content.TheVariants as content
use Rattle.protocol.proofs.Lemmas.Read.{poll_fine}
use Rattle.protocol.specs.Telegrams.{counted_code}
use Rattle.controller.proofs.Written.{may}
use Rattle.controller.proofs.requests.put_poll.Goals as goal

pub put_empty-requires : goal.put_empty-requires
put_empty-requires c =
    let s = c.args.settings in
    rw c.counted_code.ensures
    (may Sd2 s.printer s.controller (counted_code c.args.fcb) (content.Dpv1Call call.Poll) [] (poll_fine s.printer s.controller c.requires.printer c.requires.controller c.args.fcb))
