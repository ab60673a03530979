-- `acyclic_writer::forms::store` meets its contract. Four and the part's length are all bytes.
use Rattle.octets.proofs.Front.{both_written}
use Rattle.acyclic_writer.proofs.forms.store.Goals as goal

pub returns : goal.returns
returns c =
    let s = c.store_behind.ensures in
    let told = both_written c.put-n.ensures c.args.part.now s.count s.bytes c.if-out-part.false in
    record { answer = told.0; bytes = told.1 }
