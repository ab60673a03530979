-- `book_writer::writing::put` meets its contract. Two stores: the bodies behind the table.
use mathlib.Core.List.{◌∷◌}
use lib.ListN.{length}
use Rattle.octets.proofs.Front.{first_fits, both_stored}
use Rattle.book.specs.Writing.{pairs_of}
use Rattle.book_writer.proofs.writing.put.Goals as goal

pub put_table-n-requires : goal.put_table-n-requires
put_table-n-requires c =
    let slots = c.args.slots.now in
    (c.requires.0, c.requires.1, first_fits (length slots ∷ pairs_of slots c.args.lengths.now) c.args.bodies.now c.requires.2)

pub store_behind-requires : goal.store_behind-requires
store_behind-requires c = tt

pub returns : goal.returns
returns c =
    let s = c.store_behind.ensures in
    both_stored c.put_table-n.ensures c.args.bodies.now s.count s.bytes c.requires.2
