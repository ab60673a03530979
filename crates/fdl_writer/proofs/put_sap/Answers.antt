-- `fdl_writer::put_sap` meets its contract. An access point is one byte stored, and none is nothing stored.
use mathlib.Core.List.{[], ◌∷◌}
use Prim.Native.Nat.{◌≤◌}
use native.Mathlib.Omega.{arith}
use lib.ListN.{length}
use Rattle.octets.proofs.Front.{stores}
use Rattle.fdl_writer.proofs.put_sap.Goals as goal

pub bounds-out-0 : goal.bounds-out-0
bounds-out-0 c =
    let room : 1 ≤ length c.args.out.now = rw c.in-Some.is at c.requires in
    omega (arith, room)

pub returns-in-Some : goal.returns-in-Some
returns-in-Some c =
    let room : 1 ≤ length c.args.out.now = rw c.in-Some.is at c.requires in
    rw c.in-Some.is (stores (c.in-Some.number ∷ []) c.args.out.now room)
