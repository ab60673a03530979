-- `book_writer::table::table_by` meets its contract. The loop's invariant is that of a table that is judged, over what the iterator has left.
use mathlib.Core.Path.{◌≡◌, ap}
use mathlib.Core.Bool.{not}
use native.Mathlib.Omega.{arith}
use lib.ListN.{length}
use borrow.Author.Rules.{rules}
use Rattle.std.specs.Iterator.Adapters.{zip_first, zip_second}
use Rattle.std.specs.Slice.Iter.{iter_rest}
use Rattle.std.proofs.lemmas.Iterator.{empty_from_Zip}
use Rattle.std.proofs.lemmas.List.{length_push}
use Rattle.book.proofs.Lemmas.Running.{begins, goes, breaks, done}
use Rattle.book_writer.proofs.table.table_by.Goals as goal

pub loop-slot-init : goal.loop-slot-init
loop-slot-init c =
    let first : iter_rest (zip_first c.into_iter-slot-iterator.result) ≡ c.args.slots.now = search rules in
    let second : iter_rest (zip_second c.into_iter-slot-iterator.result) ≡ c.args.lengths.now = search rules in
    rw (first, second) (omega arith, omega arith, begins _ _)

-- it is good: the invariant holds again, and has the bound for the next least
pub loop-slot-preserved : goal.loop-slot-preserved
loop-slot-preserved c =
    let l = c.loop-slot in
    let z = c.in-Some.ensures.steps in
    let next = goes (rw (z.0, z.1) at l.invariant.2) c.good_pair.ensures (ap not c.if-not-good_pair.false) in
    (rw length_push (omega (arith, ap length z.0)), omega (arith, ap length z.0, ap length z.1), rw length_push next)

pub overflow_add-least : goal.overflow_add-least
overflow_add-least c =
    let z = c.in-Some.ensures.steps in
    let next = goes (rw (z.0, z.1) at c.loop-slot.invariant.2) c.good_pair.ensures (ap not c.if-not-good_pair.false) in
    omega (arith, next.low)

pub returns-then-not-good_pair : goal.returns-then-not-good_pair
returns-then-not-good_pair c =
    let z = c.in-Some.ensures.steps in
    breaks (rw (z.0, z.1) at c.loop-slot.invariant.2) c.good_pair.ensures (ap not c.if-not-good_pair.true)

pub returns : goal.returns
returns c =
    let l = c.loop-slot in
    let e = empty_from_Zip l.slot-iterator c.next.new.self c.next.result c.in-None.is c.next.ensures.steps (omega arith) in
    done (rw (e.0, e.1) at l.invariant.2)
