-- `book::table::good_pair` meets its contract. The definition has the same tests in the same order.
use borrow.Author.Tests.{le-leb, lt-leb}
use Rattle.book.specs.Table.{good_pair}
use Rattle.book.proofs.table.good_pair.Goals as goal

pub returns-then-slot-least : goal.returns-then-slot-least
unfolding good_pair
returns-then-slot-least c = simp (lt-leb _ _ c.if-slot-least.true)

pub returns-then-slot-gt15 : goal.returns-then-slot-gt15
unfolding good_pair
returns-then-slot-gt15 c = simp (le-leb _ _ c.if-slot-least.false, lt-leb _ _ c.if-slot-gt15.true)

pub returns-then-len-lt1 : goal.returns-then-len-lt1
unfolding good_pair
returns-then-len-lt1 c =
    simp (le-leb _ _ c.if-slot-least.false, le-leb _ _ c.if-slot-gt15.false, lt-leb _ _ c.if-len-lt1.true)

pub returns : goal.returns
unfolding good_pair
returns c =
    simp (le-leb _ _ c.if-slot-least.false, le-leb _ _ c.if-slot-gt15.false, le-leb _ _ c.if-len-lt1.false)
