-- `download::running::until_ended` meets its contract. The loop's invariant: what is left from the present on comes to the whole. The
-- measure is what is left of the bound.
use Prim.Native.Nat.{◌-◌, ◌≤◌}
use mathlib.Core.Path.{◌≡◌}
use lib.ListN.{length, take}
use Rattle.protocol.specs.Printer.{lending}
use Rattle.protocol.specs.Download.{bound, given, passages_of}
use Rattle.download.proofs.Present.{Due}
use Rattle.download.proofs.running.until_ended.Given as goal

abbrev pub invariant-loop-action : goal.invariant-loop-action
invariant-loop-action l =
    Due (given l.settings l.book l.not_yet l.diagnosis) (passages_of l.line) (lending l.initial.printer l.initial.lengths l.initial.bodies l.initial.reply) l.initial.request l.sent l.controller
    (take l.back l.reply) (lending l.printer l.lengths l.bodies l.reply) l.request
    × (l.back ≤ length l.reply)
    × (length l.reply ≡ length l.initial.reply)
    × (length l.request ≡ length l.initial.request)

abbrev pub decreases-loop-action : goal.decreases-loop-action
decreases-loop-action l =
    bound (given l.settings l.book l.not_yet l.diagnosis) - l.sent
