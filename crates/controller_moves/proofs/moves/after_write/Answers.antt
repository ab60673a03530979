-- `controller_moves::moves::after_write` meets its contract: a repeat, the end, or the first poll.
use mathlib.Core.Bool.{not}
use Prim.Native.Nat.{◌-◌}
use Rattle.controller_moves.proofs.Following.{polls}
use Rattle.controller_moves.proofs.moves.after_write.Goals as goal

pub returns : goal.returns
returns c book most =
    let a = c.args in
    rw (c.in-Some.is, c.in-Confirmation.is)
    (polls book a.template c.requires.1 most a.settings (a.settings.polls - 1) (not a.fcb) a.settings.repeats)
