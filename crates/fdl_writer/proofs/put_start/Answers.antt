-- `fdl_writer::put_start` meets its contract. Each arm stores its format's bytes in turn.
use mathlib.Core.List.{[], ◌∷◌}
use Prim.Native.Nat.{◌≤◌}
use native.Mathlib.Omega.{arith}
use lib.ListN.{length, length-set}
use Rattle.octets.proofs.Front.{stores}
use Rattle.fdl_writer.proofs.put_start.Goals as goal

pub bounds-out-0 : goal.bounds-out-0
bounds-out-0 c =
    let room_1 : 1 ≤ length c.args.out.now = rw c.in-Sd1.is at c.requires in
    omega (arith, room_1)

pub bounds-out-0-in-Sd2 : goal.bounds-out-0-in-Sd2
bounds-out-0-in-Sd2 c =
    let room_2 : 4 ≤ length c.args.out.now = rw c.in-Sd2.is at c.requires in
    omega (arith, room_2)

pub bounds-out-1 : goal.bounds-out-1
bounds-out-1 c =
    let room_2 : 4 ≤ length c.args.out.now = rw c.in-Sd2.is at c.requires in
    simp length-set (omega (arith, room_2))

pub bounds-out-2 : goal.bounds-out-2
bounds-out-2 c =
    let room_2 : 4 ≤ length c.args.out.now = rw c.in-Sd2.is at c.requires in
    simp length-set (omega (arith, room_2))

pub bounds-out-3 : goal.bounds-out-3
bounds-out-3 c =
    let room_2 : 4 ≤ length c.args.out.now = rw c.in-Sd2.is at c.requires in
    simp length-set (omega (arith, room_2))

pub bounds-out-0-in-Sd3 : goal.bounds-out-0-in-Sd3
bounds-out-0-in-Sd3 c =
    let room_3 : 1 ≤ length c.args.out.now = rw c.in-Sd3.is at c.requires in
    omega (arith, room_3)

pub returns-in-Sd1 : goal.returns-in-Sd1
returns-in-Sd1 c =
    let room_1 : 1 ≤ length c.args.out.now = rw c.in-Sd1.is at c.requires in
    rw c.in-Sd1.is (stores (0x10 ∷ []) c.args.out.now room_1)

pub returns-in-Sd2 : goal.returns-in-Sd2
returns-in-Sd2 c =
    let room_2 : 4 ≤ length c.args.out.now = rw c.in-Sd2.is at c.requires in
    let a = c.args in
    rw c.in-Sd2.is (stores (0x68 ∷ a.le ∷ a.le ∷ 0x68 ∷ []) a.out.now room_2)

pub returns-in-Sd3 : goal.returns-in-Sd3
returns-in-Sd3 c =
    let room_3 : 1 ≤ length c.args.out.now = rw c.in-Sd3.is at c.requires in
    rw c.in-Sd3.is (stores (0xA2 ∷ []) c.args.out.now room_3)
