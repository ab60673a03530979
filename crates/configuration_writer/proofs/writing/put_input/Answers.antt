-- `configuration_writer::writing::put_input` meets its contract. Two stores: the vendor bytes behind the length byte.
use Rattle.octets.proofs.Front.{first_fits, both_stored}
use Rattle.configuration.specs.Writing.{side_bytes}
use Rattle.configuration_writer.proofs.writing.put_input.Goals as goal

pub put_side-n-requires : goal.put_side-n-requires
put_side-n-requires c =
    (c.requires.0, first_fits (side_bytes c.args.input) c.args.vendor.now c.requires.1)

pub returns : goal.returns
returns c =
    let s = c.store_behind.ensures in
    both_stored c.put_side-n.ensures c.args.vendor.now s.count s.bytes c.requires.1
