-- `controller_moves::moves::after_poll` meets its contract: a repeat, the end, or what the reply says.
use mathlib.Core.Path.{sym, ◌∙◌, subst}
use Prim.Native.Nat.{◌-◌}
use lib.ListN.{drop}
use Rattle.book.specs.Contents.{templates_of}
use Rattle.protocol.specs.declared.controller.Job.TheVariants as job
use Rattle.controller_input.specs.Meaning.{exchanged}
use Rattle.controller_moves.specs.Next.{Says}
use Rattle.controller_moves.specs.declared.moves.Next.TheVariants as next
use Rattle.controller_moves.proofs.Following.{polls, repeated}
use Rattle.controller_moves.proofs.moves.after_poll.Goals as goal

pub returns-then-may_repeat : goal.returns-then-may_repeat
returns-then-may_repeat c =
    let a = c.args in
    let ts = templates_of a.book.now in
    subst (Says a.settings ts (next.Poll a.template a.left a.fcb (a.repeats - 1)))
    (repeated a.settings a.template a.fcb (drop (a.template - 1) ts) (job.Poll a.left) (exchanged a.exchange) a.repeats (sym c.may_repeat.ensures ∙ c.if-may_repeat.true))
    (polls ts a.template c.requires.some c.requires.most a.settings a.left a.fcb (a.repeats - 1))

pub returns : goal.returns
returns c =
    rw c.in-Some.is (c.after_result.ensures c.args.repeats)
