-- `book_writer::table::table_by` meets its contract. The loop's invariant is that of a table that is judged, over what the iterator has left.
use mathlib.Core.Path.{◌≡◌}
use Prim.Native.Nat.{◌+◌, ◌≤◌}
use lib.ListN.{length}
use Rattle.std.specs.Iterator.Adapters.{zip_first, zip_second}
use Rattle.std.specs.Slice.Iter.{iter_rest}
use Rattle.book.specs.Table.{table_of}
use Rattle.book.proofs.Lemmas.Running.{Running}
use Rattle.book_writer.proofs.table.table_by.Given as goal

abbrev pub invariant-loop-slot : goal.invariant-loop-slot
invariant-loop-slot l =
    let slots = iter_rest (zip_first l.slot-iterator) in
    let lengths = iter_rest (zip_second l.slot-iterator) in
    (length l.yielded + length slots ≤ 16) × (length lengths ≡ length slots) × Running (table_of 0 0 l.slots l.lengths) (length l.yielded) l.least l.total slots lengths
