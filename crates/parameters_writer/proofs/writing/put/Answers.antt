-- `parameters_writer::writing::put` meets its contract. Two stores: the user bytes behind what stands before them.
use Rattle.octets.proofs.Front.{both_stored}
use Rattle.parameters_writer.proofs.writing.put.Goals as goal

pub returns : goal.returns
returns c =
    let s = c.store_behind.ensures in
    both_stored c.put_front-n.ensures c.args.user.now s.count s.bytes c.requires
