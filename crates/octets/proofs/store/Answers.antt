-- `octets::store` meets its contract: all is copied where it fits.
use Rattle.octets.proofs.Front.{none_stored, all_stored, copied}
use Rattle.octets.proofs.store.Goals as goal

pub returns-then-out-source : goal.returns-then-out-source
returns-then-out-source c =
    let b = c in
    let told = none_stored b.args.source.now b.args.out.now c.if-out-source.true in
    record { count = told.0; bytes = told.1 }

pub returns : goal.returns
returns c =
    let b = c in
    let e = c.copy.ensures in
    let told = all_stored c.if-out-source.false (copied b.args.source.now b.args.out.now e.count e.bytes) in
    record { count = told.0; bytes = told.1 }
