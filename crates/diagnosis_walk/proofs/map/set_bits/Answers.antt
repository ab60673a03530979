-- `diagnosis_walk::map::set_bits` meets its contract. The loop's invariant: the count so far and that of what is left are the whole.
use Prim.Native.Nat.{◌≤◌, ◌*◌, ◌-◌}
use mathlib.Core.Path.{◌≡◌}
use native.Mathlib.Omega.{arith}
use native.Mathlib.Nat.{zero-add}
use lib.ListN.{length, get_or}
use lib.Count.{ones, ones-le}
use Rattle.diagnosis.specs.Map.{reports, count_from}
use Rattle.diagnosis_walk.proofs.Bits.{count_byte}
use Rattle.diagnosis_walk.proofs.map.set_bits.Goals as goal

pub loop-byte-init : goal.loop-byte-init
loop-byte-init c =
    let e : length c.args.map.now - 0 ≡ length c.args.map.now = omega arith in
    (omega arith, rw (e, zero-add))

pub overflow_cast-set : goal.overflow_cast-set
overflow_cast-set c =
    let few : ones (get_or c.args.map.now c.loop-byte.byte-index 0) ≤ 8 = ones-le 8 _ (c.type_inv.map c.loop-byte.byte-index).fits in
    omega (arith, few)

pub overflow_add-set : goal.overflow_add-set
overflow_add-set c =
    let few : ones (get_or c.args.map.now c.loop-byte.byte-index 0) ≤ 8 = ones-le 8 _ (c.type_inv.map c.loop-byte.byte-index).fits in
    omega (arith, few, c.requires)

pub loop-byte-preserved : goal.loop-byte-preserved
loop-byte-preserved c =
    let few : ones (get_or c.args.map.now c.loop-byte.byte-index 0) ≤ 8 = ones-le 8 _ (c.type_inv.map c.loop-byte.byte-index).fits in
    let map = c.args.map.now in
    let i = c.loop-byte.byte-index in
    (omega (arith, few), omega (arith, count_byte map i (omega arith) (c.type_inv.map i).fits))

pub overflow_cast-result : goal.overflow_cast-result
overflow_cast-result c = omega (arith, c.requires)

pub returns : goal.returns
unfolding count_from
returns c =
    let map = c.args.map.now in
    let e : 8 * (length map - c.loop-byte.byte-index) ≡ 0 = omega arith in
    let z : count_from (reports map) (8 * c.loop-byte.byte-index) (8 * (length map - c.loop-byte.byte-index)) ≡ 0 = rw e in
    omega arith
