-- `controller::requests::put_opening` meets its contract: the opening may be written.
use mathlib.Core.List.{[]}
use Rattle.fdl.specs.declared.telegram.Format.TheVariants.{Sd2}
use Rattle.content.specs.declared.fields.Content.TheVariants as content
use Rattle.protocol.proofs.Lemmas.Read.{opening_fine}
use Rattle.protocol.specs.Telegrams.{opening_code}
use Rattle.controller.proofs.Written.{may}
use Rattle.controller.proofs.requests.put_opening.Goals as goal

pub put_empty-requires : goal.put_empty-requires
put_empty-requires c =
    let s = c.args.settings in
    may Sd2 s.printer s.controller opening_code content.SlaveDiagCall [] (opening_fine s.printer s.controller c.requires.printer c.requires.controller)
