-- `octets::store16` meets its contract: the stores from the front are the two bytes of the number.
use Rattle.octets.specs.Number.{bytes_of}
use Rattle.octets.proofs.Front.{none_stored, all_stored, stores}
use Rattle.octets.proofs.store16.Goals as goal

pub returns-then-out-lt2 : goal.returns-then-out-lt2
returns-then-out-lt2 c =
    let told = none_stored (bytes_of 2 c.args.n) c.args.out.now c.if-out-lt2.true in
    record { count = told.0; bytes = told.1 }

pub returns : goal.returns
returns c =
    let p = bytes_of 2 c.args.n in
    let told = all_stored c.if-out-lt2.false (stores p c.args.out.now c.if-out-lt2.false) in
    record { count = told.0; bytes = told.1 }
