-- `octets::store32` meets its contract: the stores from the front are the four bytes of the number.
use native.Mathlib.Omega.{arith}
use lib.ListN.{length-set}
use Rattle.octets.specs.Number.{bytes_of}
use Rattle.octets.proofs.Front.{none_stored, all_stored, stores}
use Rattle.octets.proofs.store32.Goals as goal

pub returns-then-out-lt4 : goal.returns-then-out-lt4
returns-then-out-lt4 c =
    let told = none_stored (bytes_of 4 c.args.n) c.args.out.now c.if-out-lt4.true in
    record { count = told.0; bytes = told.1 }

pub bounds-out-1 : goal.bounds-out-1
bounds-out-1 c = simp length-set (omega arith)

pub bounds-out-2 : goal.bounds-out-2
bounds-out-2 c = simp length-set (omega arith)

pub returns : goal.returns
returns c =
    let p = bytes_of 4 c.args.n in
    let told = all_stored c.if-out-lt4.false (stores p c.args.out.now c.if-out-lt4.false) in
    record { count = told.0; bytes = told.1 }
