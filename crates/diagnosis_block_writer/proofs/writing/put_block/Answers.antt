-- `diagnosis_block_writer::writing::put_block` meets its contract. Two stores: the bytes behind the header.
use mathlib.Core.List.{[], ◌∷◌}
use native.Mathlib.Omega.{arith}
use Rattle.octets.proofs.Front.{stores, both_stored}
use Rattle.diagnosis_block_writer.proofs.writing.put_block.Goals as goal

pub returns : goal.returns
returns c =
    let s = c.store_behind.ensures in
    both_stored (stores (c.args.head ∷ []) c.args.out.now (omega arith)) c.args.bytes.now s.count s.bytes c.requires
