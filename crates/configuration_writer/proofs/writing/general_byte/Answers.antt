-- `configuration_writer::writing::general_byte` meets its contract. With 16 units at most, a byte has room for all.
use mathlib.Core.Path.{◌≡◌, ap, ◌∙◌}
use mathlib.Core.Bool.{true}
use Prim.Native.Nat.{◌≤◌}
use native.Mathlib.Omega.{arith}
use Rattle.configuration.specs.Writing.{good_side, side_byte, either_side}
use Rattle.configuration.proofs.Lemmas.Sides.{present_small, side_byte_small, either_good, wider}
use Rattle.configuration_writer.proofs.writing.general_byte.Goals as goal

pub side_byte-requires : goal.side_byte-requires
side_byte-requires c =
    let good : good_side 16 (either_side c.args.input c.args.output) ≡ true = either_good _ _ c.requires in
    rw c.either-side.ensures (wider (either_side c.args.input c.args.output) good)

pub overflow_add-result-2 : goal.overflow_add-result-2
overflow_add-result-2 c =
    let input : c.present.result ≤ 1 = omega (arith, present_small c.args.input) in
    let output : c.present-2.result ≤ 1 = omega (arith, present_small c.args.output) in
    let good : good_side 16 (either_side c.args.input c.args.output) ≡ true = either_good _ _ c.requires in
    let side : let a = c.args in c.side_byte.result ≡ side_byte (either_side a.input a.output) = c.side_byte.ensures ∙ ap side_byte c.either-side.ensures in
    omega (arith, input, output, side_byte_small 16 (either_side c.args.input c.args.output) (omega arith) good, side)
