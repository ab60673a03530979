-- `controller::requests::put_empty` meets its contract: the telegram may be written, so its writer refuses it for its room alone.
use mathlib.Core.Path.{refl}
use mathlib.Core.List.{[]}
use lib.ListN.{length}
use Rattle.fdl.proofs.Around.{user_none}
use Rattle.fdl.proofs.Lemmas.Around.{fit}
use Rattle.fdl.specs.Writing.{telegram_of}
use Rattle.fdl.specs.declared.telegram.Format.TheVariants.{Sd2}
use Rattle.fdl.specs.declared.telegram.Header.{Header}
use Rattle.access.specs.Route.{header_of}
use Rattle.controller.proofs.Written.{stored_short, sends}
use Rattle.controller.proofs.requests.put_empty.Goals as goal

pub sent-requires : goal.sent-requires
sent-requires c =
    let header_at : Header = let a = c.args in header_of a.service a.settings.printer a.settings.controller a.fc in
    rw (c.write_around-written.ensures.answer, c.header_of-header.ensures, user_none Sd2 header_at c.args.request.now, (fit Sd2 header_at [] refl c.requires).verdict)
    (stored_short Sd2 header_at [] (length c.args.request.now) c.requires)

pub returns : goal.returns
returns c =
    let header_at : Header = let a = c.args in header_of a.service a.settings.printer a.settings.controller a.fc in
    rw (c.sent.ensures, c.write_around-written.ensures.answer, c.write_around-written.ensures.bytes, c.header_of-header.ensures, user_none Sd2 header_at c.args.request.now, (fit Sd2 header_at [] refl c.requires).verdict)
    (sends (telegram_of Sd2 header_at []) c.args.request.now c.args.controller)
