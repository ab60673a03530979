-- `book_writer::writing::put_table` meets its contract. The loop's invariant: the pairs that the iterator has left, stored behind those that are, make the whole.
use mathlib.Core.Path.{◌≡◌}
use Prim.Native.Nat.{◌+◌, ◌*◌}
use lib.ListN.{length}
use lib.Seq.{sets}
use Rattle.std.specs.Iterator.Adapters.{enumerate_source, enumerate_count, zip_first, zip_second}
use Rattle.std.specs.Slice.Iter.{iter_rest}
use Rattle.book.specs.Writing.{pairs_of}
use Rattle.book_writer.proofs.writing.put_table.Given as goal

abbrev pub invariant-loop-k : goal.invariant-loop-k
invariant-loop-k l =
    let k = enumerate_count l.k-iterator in
    let slots = iter_rest (zip_first (enumerate_source l.k-iterator)) in
    let lengths = iter_rest (zip_second (enumerate_source l.k-iterator)) in
    (k + length slots ≡ length l.slots) × (length lengths ≡ length slots) × (length l.out ≡ length l.initial.out)
    × (sets l.out (1 + 2 * k) (pairs_of slots lengths) ≡ sets l.initial.out 1 (pairs_of l.slots l.lengths))
