-- `diagnosis_walk::map::lowest_module` meets its contract. The loop's invariant: no module was passed that reports, so the search in what
-- is left is the whole.
use Rattle.std.specs.Prelude.{Some}
use Prim.Native.Nat.{◌≤◌, ◌+◌, ◌*◌, ◌-◌}
use mathlib.Core.Path.{◌≡◌, sym, ap, ◌∙◌}
use native.Mathlib.Omega.{arith}
use lib.ListN.{length, get_or}
use lib.Count.{count_trailing_zeros, trailing_le, trailing_of_zero}
use lib.Dec.{eqb}
use borrow.Author.Tests.{eq-eqb, ne_eqb}
use Rattle.octets.specs.Choice.{pick}
use Rattle.diagnosis.specs.Map.{reports, lowest_from, lowest_of}
use Rattle.diagnosis_walk.proofs.Bits.{lowest_byte}
use Rattle.diagnosis_walk.proofs.map.lowest_module.Goals as goal

pub loop-byte-init : goal.loop-byte-init
loop-byte-init c =
    let e : length c.args.map.now - 0 ≡ length c.args.map.now = omega arith in
    (omega arith, rw e)

pub overflow_cast-zeros : goal.overflow_cast-zeros
overflow_cast-zeros c =
    let few : count_trailing_zeros 8 (get_or c.args.map.now c.loop-byte.byte-index 0) ≤ 8 = trailing_le 8 _ in
    omega (arith, few)

pub overflow_add-zeros : goal.overflow_add-zeros
overflow_add-zeros c =
    let few : count_trailing_zeros 8 (get_or c.args.map.now c.loop-byte.byte-index 0) ≤ 8 = trailing_le 8 _ in
    omega (arith, few, c.requires)

pub returns-then-byte-ne0 : goal.returns-then-byte-ne0
returns-then-byte-ne0 c =
    let found : let map = c.args.map.now in let i = c.loop-byte.byte-index in lowest_of map ≡ pick (eqb (get_or map i 0) 0) (lowest_from (reports map) (8 * (i + 1)) (8 * (length map - (i + 1)))) (Some (8 * i + count_trailing_zeros 8 (get_or map i 0))) = let map = c.args.map.now in
    let i = c.loop-byte.byte-index in
    sym c.loop-byte.invariant.1 ∙ lowest_byte map i (omega arith) (c.type_inv.map i).fits in
    let l = c.loop-byte in
    rw (found, ne_eqb _ 0 c.if-byte-ne0.true, l.invariant.0)

pub loop-byte-preserved : goal.loop-byte-preserved
loop-byte-preserved c =
    let found : let map = c.args.map.now in let i = c.loop-byte.byte-index in lowest_of map ≡ pick (eqb (get_or map i 0) 0) (lowest_from (reports map) (8 * (i + 1)) (8 * (length map - (i + 1)))) (Some (8 * i + count_trailing_zeros 8 (get_or map i 0))) = let map = c.args.map.now in
    let i = c.loop-byte.byte-index in
    sym c.loop-byte.invariant.1 ∙ lowest_byte map i (omega arith) (c.type_inv.map i).fits in
    let e = found in
    let byte = get_or c.args.map.now c.loop-byte.byte-index 0 in
    let z : count_trailing_zeros 8 byte ≡ 8 = ap (count_trailing_zeros 8) c.if-byte-ne0.false ∙ trailing_of_zero 8 in
    (omega arith, sym (rw (eq-eqb _ 0 c.if-byte-ne0.false) at e))

pub returns : goal.returns
unfolding lowest_from
returns c =
    let map = c.args.map.now in
    let e : 8 * (length map - c.loop-byte.byte-index) ≡ 0 = omega arith in
    rw e at c.loop-byte.invariant.1
