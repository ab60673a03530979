-- `octets::store_behind` meets its contract: all is copied where it fits in what is lent from n on.
use Prim.Native.Nat.{◌-◌}
use native.Mathlib.Omega.{arith}
use lib.ListN.{length}
use borrow.Rule.Slice.PartMut.{mid_of}
use Rattle.octets.proofs.Front.{none_behind, all_behind, copied}
use Rattle.octets.proofs.store_behind.Goals as goal

pub returns-then-out-n : goal.returns-then-out-n
returns-then-out-n c =
    let a = c.args in
    let told = none_behind a.n a.source.now a.out.now (omega arith) in
    record { count = told.0; bytes = told.1 }

pub returns-then-out-n-2 : goal.returns-then-out-n-2
returns-then-out-n-2 c =
    let a = c.args in
    let told = none_behind a.n a.source.now a.out.now (omega arith) in
    record { count = told.0; bytes = told.1 }

pub returns : goal.returns
returns c =
    let k = c in
    let a = k.args in
    let e = k.copy.ensures in
    let told = all_behind a.n a.out.now (omega arith)
    (copied a.source.now (mid_of a.n (length a.out.now - a.n) a.out.now) e.count e.bytes) in
    record { count = told.0; bytes = told.1 }
