-- `fdl_writer::head_sum` meets its contract. Five bytes and two flags stay within the bits of the sum.
use mathlib.Core.Path.{◌≡◌, ap}
use Prim.Native.Nat.{ℕ, ◌+◌, ◌*◌, ◌%◌, ◌≤◌}
use native.Mathlib.Omega.{arith}
use Rattle.fdl.specs.Telegram.{sum_of, checksum_of}
use Rattle.fdl.specs.Writing.{sap_bytes}
use Rattle.fdl.specs.Around.{head_bytes}
use Rattle.fdl.proofs.Lemmas.Fields.{sap_small}
use Rattle.fdl.proofs.Lemmas.Around.{sum_append}
use Rattle.fdl_writer.proofs.head_sum.Goals as goal

pub overflow_cast-da-2 : goal.overflow_cast-da-2
overflow_cast-da-2 c =
    let small_da : c.sap_length.result ≤ 1 = omega (arith, sap_small c.args.header.dsap) in
    omega (arith, small_da)

pub overflow_mul-da : goal.overflow_mul-da
overflow_mul-da c =
    let small_da : c.sap_length.result ≤ 1 = omega (arith, sap_small c.args.header.dsap) in
    omega (arith, small_da)

pub overflow_add-da : goal.overflow_add-da
overflow_add-da c =
    let small_da : c.sap_length.result ≤ 1 = omega (arith, sap_small c.args.header.dsap) in
    omega (arith, small_da)

pub overflow_cast-sa-2 : goal.overflow_cast-sa-2
overflow_cast-sa-2 c =
    let small_sa : c.sap_length-2.result ≤ 1 = omega (arith, sap_small c.args.header.ssap) in
    omega (arith, small_sa)

pub overflow_mul-sa : goal.overflow_mul-sa
overflow_mul-sa c =
    let small_sa : c.sap_length-2.result ≤ 1 = omega (arith, sap_small c.args.header.ssap) in
    omega (arith, small_sa)

pub overflow_add-sa : goal.overflow_add-sa
overflow_add-sa c =
    let small_sa : c.sap_length-2.result ≤ 1 = omega (arith, sap_small c.args.header.ssap) in
    omega (arith, small_sa)

pub overflow_add-result : goal.overflow_add-result
overflow_add-result c =
    let small_da : c.sap_length.result ≤ 1 = omega (arith, sap_small c.args.header.dsap) in
    let small_sa : c.sap_length-2.result ≤ 1 = omega (arith, sap_small c.args.header.ssap) in
    omega (arith, small_da, small_sa)

pub overflow_add-result-2 : goal.overflow_add-result-2
overflow_add-result-2 c =
    let small_da : c.sap_length.result ≤ 1 = omega (arith, sap_small c.args.header.dsap) in
    let small_sa : c.sap_length-2.result ≤ 1 = omega (arith, sap_small c.args.header.ssap) in
    omega (arith, small_da, small_sa)

pub overflow_add-result-3 : goal.overflow_add-result-3
overflow_add-result-3 c =
    let small_da : c.sap_length.result ≤ 1 = omega (arith, sap_small c.args.header.dsap) in
    let small_sa : c.sap_length-2.result ≤ 1 = omega (arith, sap_small c.args.header.ssap) in
    omega (arith, small_da, small_sa)

pub returns : goal.returns
unfolding checksum_of
returns c =
    let h = c.args.header in
    let da : ℕ = h.da + 128 * c.sap_length.result in
    let sa : ℕ = h.sa + 128 * c.sap_length-2.result in
    let whole : da + sa + h.fc + (c.sap_sum.result + c.sap_sum-2.result) ≡ sum_of (head_bytes h) =
    omega (arith, sum_append (sap_bytes h.dsap) (sap_bytes h.ssap))
    in
    ap (λ (k : ℕ). k % 256) whole
