-- `configuration_writer::writing::put_output` meets its contract. Two stores: what follows behind the length byte.
use mathlib.Core.List.{List, ◌++◌}
use Prim.Native.Nat.{ℕ}
use native.Mathlib.Omega.{arith}
use Rattle.octets.proofs.Front.{first_fits, within, rest_fits, both}
use Rattle.configuration.specs.Writing.{side_bytes}
use Rattle.configuration_writer.proofs.writing.put_output.Goals as goal

pub put_side-n-requires : goal.put_side-n-requires
put_side-n-requires c =
    let rest_at : List ℕ = side_bytes c.args.input ++ c.args.vendor.now in
    (c.requires.0, first_fits (side_bytes c.args.output) rest_at c.requires.2)

pub slice_bounds-put_input-count : goal.slice_bounds-put_input-count
slice_bounds-put_input-count c =
    let rest_at : List ℕ = side_bytes c.args.input ++ c.args.vendor.now in
    omega (arith, within c.put_side-n.ensures rest_at c.requires.2)

pub slice_bounds-put_input-start : goal.slice_bounds-put_input-start
slice_bounds-put_input-start c = slice_bounds-put_input-count c

pub put_input-requires : goal.put_input-requires
put_input-requires c =
    let rest_at : List ℕ = side_bytes c.args.input ++ c.args.vendor.now in
    (c.requires.1, rest_fits c.put_side-n.ensures rest_at c.requires.2)

pub returns : goal.returns
returns c =
    both c.put_side-n.ensures c.put_input.ensures

pub overflow_add-result : goal.overflow_add-result
overflow_add-result c = omega (arith, (returns c).counted)
