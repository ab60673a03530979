-- `access_table::find` meets its contract: what was named so far is what the rows that were passed name.
use mathlib.Core.Path.{◌≡◌}
use mathlib.Core.List.{List, ◌++◌}
use Rattle.std.specs.Iterator.Adapters.{rev_source}
use Rattle.std.specs.Slice.Iter.{iter_rest}
use Rattle.access.specs.Table.{look, services}
use Rattle.access.specs.declared.table.Row.{Row}
use Rattle.access_table.proofs.find.Given as goal

abbrev pub invariant-loop-row : goal.invariant-loop-row
invariant-loop-row l =
    (passed : List Row) × (iter_rest (rev_source l.row-iterator) ++ passed ≡ services) × (l.named ≡ look l.slave l.master passed)
