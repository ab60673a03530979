-- `book_reader::table::table_in` meets its contract. The loop's invariant is that of a table that is judged, over every second byte.
use Prim.Native.Nat.{◌+◌, ◌*◌, ◌-◌}
use Rattle.book.specs.Table.{every_second, table_of}
use Rattle.book.proofs.Lemmas.Running.{Running}
use Rattle.book_reader.proofs.table.table_in.Given as goal

abbrev pub invariant-loop-slot : goal.invariant-loop-slot
invariant-loop-slot l =
    Running (table_of 0 0 (every_second l.n 1 l.bytes) (every_second l.n 2 l.bytes)) l.slot-index l.least l.total
    (every_second (l.n - l.slot-index) (1 + 2 * l.slot-index) l.bytes) (every_second (l.n - l.slot-index) (2 + 2 * l.slot-index) l.bytes)
