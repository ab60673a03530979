-- `fdl_writer::put_addresses` meets its contract. An access point counts at most 1, so an address stays a byte, and the
-- three bytes are stored in turn.
use Prim.Native.Nat.{◌≤◌}
use native.Mathlib.Omega.{arith}
use lib.ListN.{length-set}
use Rattle.octets.proofs.Front.{stores}
use Rattle.fdl.specs.Writing.{address_bytes}
use Rattle.fdl.proofs.Lemmas.Fields.{sap_small}
use Rattle.fdl_writer.proofs.put_addresses.Goals as goal

pub overflow_cast-da : goal.overflow_cast-da
overflow_cast-da c =
    let small_da : c.sap_length.result ≤ 1 = omega (arith, sap_small c.args.header.dsap) in
    omega (arith, small_da)

pub overflow_mul-da : goal.overflow_mul-da
overflow_mul-da c =
    let small_da : c.sap_length.result ≤ 1 = omega (arith, sap_small c.args.header.dsap) in
    omega (arith, small_da)

pub overflow_add-da : goal.overflow_add-da
overflow_add-da c =
    let small_da : c.sap_length.result ≤ 1 = omega (arith, sap_small c.args.header.dsap) in
    omega (arith, small_da)

pub overflow_cast-sa : goal.overflow_cast-sa
overflow_cast-sa c =
    let small_sa : c.sap_length-2.result ≤ 1 = omega (arith, sap_small c.args.header.ssap) in
    omega (arith, small_sa)

pub overflow_mul-sa : goal.overflow_mul-sa
overflow_mul-sa c =
    let small_sa : c.sap_length-2.result ≤ 1 = omega (arith, sap_small c.args.header.ssap) in
    omega (arith, small_sa)

pub overflow_add-sa : goal.overflow_add-sa
overflow_add-sa c =
    let small_sa : c.sap_length-2.result ≤ 1 = omega (arith, sap_small c.args.header.ssap) in
    omega (arith, small_sa)

pub bounds-out-1 : goal.bounds-out-1
bounds-out-1 c = simp length-set (omega arith)

pub returns : goal.returns
returns c =
    rw
    (c.sap_length.ensures, c.sap_length-2.ensures)
    (stores (address_bytes c.args.header) c.args.out.now c.requires.2)
