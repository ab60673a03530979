-- `controller_moves::moves::poll_again` meets its contract: the end, or one poll less.
use mathlib.Core.Path.{subst}
use mathlib.Core.Bool.{not}
use Prim.Native.Nat.{◌-◌}
use lib.ListN.{drop}
use Rattle.controller_moves.specs.Next.{Says}
use Rattle.controller_moves.proofs.Following.{polls, one_poll_less}
use Rattle.controller_moves.specs.declared.moves.Next.TheVariants as next
use Rattle.controller_moves.proofs.moves.poll_again.Goals as goal

pub returns : goal.returns
returns c book some most =
    let a = c.args in
    subst (Says a.settings book (next.Poll a.template (a.left - 1) (not a.fcb) a.settings.repeats))
    (one_poll_less a.settings a.template a.fcb (drop (a.template - 1) book) a.left c.if-left-eq0.false)
    (polls book a.template some most a.settings (a.left - 1) (not a.fcb) a.settings.repeats)
