-- `controller::step` meets its contract: what is refused changes nothing; else the request that comes next is written.
use Rattle.controller_state.specs.Accepted.{settings_in_lem, book_in}
use Rattle.controller.proofs.step.Goals as goal

pub act-requires : goal.act-requires
act-requires c =
    let a = c.args in
    let p = rw c.in_ok-next.was at c.decide.ensures in
    (settings_in_lem a.settings a.book.now a.controller p.0, book_in a.settings a.book.now a.controller p.0, p.1.counted)
