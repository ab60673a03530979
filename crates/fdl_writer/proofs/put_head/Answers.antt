-- `fdl_writer::put_head` meets its contract. Two stores: the access points behind DA, SA and FC.
use mathlib.Core.List.{List, ◌++◌}
use Prim.Native.Nat.{ℕ}
use native.Mathlib.Omega.{arith}
use Rattle.octets.proofs.Front.{first_fits, within, rest_fits, both}
use Rattle.fdl.specs.Writing.{sap_bytes, address_bytes}
use Rattle.fdl_writer.proofs.put_head.Goals as goal

pub put_addresses-n-requires : goal.put_addresses-n-requires
put_addresses-n-requires c =
    let saps_at : List ℕ = sap_bytes c.args.header.dsap ++ sap_bytes c.args.header.ssap in
    (c.requires.0, c.requires.1, first_fits (address_bytes c.args.header) saps_at c.requires.2)

pub slice_bounds-put_saps-count : goal.slice_bounds-put_saps-count
slice_bounds-put_saps-count c =
    let saps_at : List ℕ = sap_bytes c.args.header.dsap ++ sap_bytes c.args.header.ssap in
    omega (arith, within c.put_addresses-n.ensures saps_at c.requires.2)

pub slice_bounds-put_saps-start : goal.slice_bounds-put_saps-start
slice_bounds-put_saps-start c = slice_bounds-put_saps-count c

pub put_saps-requires : goal.put_saps-requires
put_saps-requires c =
    let saps_at : List ℕ = sap_bytes c.args.header.dsap ++ sap_bytes c.args.header.ssap in
    rest_fits c.put_addresses-n.ensures saps_at c.requires.2

pub returns : goal.returns
returns c =
    both c.put_addresses-n.ensures c.put_saps.ensures

pub overflow_add-result : goal.overflow_add-result
overflow_add-result c = omega (arith, (returns c).counted)
