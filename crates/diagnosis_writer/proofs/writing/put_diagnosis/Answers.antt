-- `diagnosis_writer::writing::put_diagnosis` meets its contract. Two stores: the blocks behind the header.
use Rattle.octets.proofs.Front.{both_stored}
use Rattle.diagnosis_writer.proofs.writing.put_diagnosis.Goals as goal

pub returns : goal.returns
returns c =
    let s = c.store_behind.ensures in
    both_stored c.put_header-n.ensures c.args.blocks.now s.count s.bytes c.requires
