-- `fdl_writer::put_saps` meets its contract. Two stores: the source's access point behind the destination's.
use mathlib.Core.List.{List}
use Prim.Native.Nat.{ℕ}
use native.Mathlib.Omega.{arith}
use Rattle.octets.proofs.Front.{first_fits, within, rest_fits, both}
use Rattle.fdl.specs.Writing.{sap_bytes}
use Rattle.fdl_writer.proofs.put_saps.Goals as goal

pub put_sap-n-requires : goal.put_sap-n-requires
put_sap-n-requires c =
    let dsap_at : List ℕ = sap_bytes c.args.dsap in
    let ssap_at : List ℕ = sap_bytes c.args.ssap in
    first_fits dsap_at ssap_at c.requires

pub slice_bounds-put_sap-count : goal.slice_bounds-put_sap-count
slice_bounds-put_sap-count c =
    let ssap_at : List ℕ = sap_bytes c.args.ssap in
    omega (arith, within c.put_sap-n.ensures ssap_at c.requires)

pub slice_bounds-put_sap-start : goal.slice_bounds-put_sap-start
slice_bounds-put_sap-start c = slice_bounds-put_sap-count c

pub put_sap-requires : goal.put_sap-requires
put_sap-requires c =
    let ssap_at : List ℕ = sap_bytes c.args.ssap in
    rest_fits c.put_sap-n.ensures ssap_at c.requires

pub returns : goal.returns
returns c =
    both c.put_sap-n.ensures c.put_sap.ensures

pub overflow_add-result : goal.overflow_add-result
overflow_add-result c = omega (arith, (returns c).counted)
