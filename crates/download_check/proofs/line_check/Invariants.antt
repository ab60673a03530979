-- `download_check::line_check` meets its contract: the verdict on the entries that are left is the verdict on all.
use mathlib.Core.Path.{◌≡◌}
use lib.ListN.{drop}
use Rattle.protocol.specs.Download.{line_verdict}
use Rattle.download_check.proofs.line_check.Given as goal

abbrev pub invariant-loop-entry : goal.invariant-loop-entry
invariant-loop-entry l =
    line_verdict (drop l.entry-index l.line) ≡ line_verdict l.line
