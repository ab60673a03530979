-- `controller_moves::moves::move_by` meets its contract: each state has its line.
use mathlib.Core.Path.{sym, ap, ◌∙◌}
use Rattle.book.specs.Contents.{templates_of}
use Rattle.protocol.specs.Controller.{verdict_of}
use Rattle.controller_state.specs.Accepted.{settings_in_lem, standing}
use Rattle.controller_moves.proofs.moves.move_by.Goals as goal

pub after_job-requires : goal.after_job-requires
after_job-requires c =
    let a = c.args in
    let e = ap (verdict_of a.settings a.book.now) (sym c.in-Asking.is) ∙ c.requires in
    (settings_in_lem a.settings a.book.now _ e, standing a.settings a.book.now _ _ _ _ e)

pub returns-in-Opening : goal.returns-in-Opening
returns-in-Opening c =
    rw c.in-Opening.is (c.after_opening.ensures (templates_of c.args.book.now))
