-- `capi_service::reading::rabtunex_read_service` meets its contract: the part ends inside the telegram, so both numbers fit a byte.
use mathlib.Core.Path.{sym}
use Prim.Native.Nat.{◌+◌, ◌≤◌}
use native.Mathlib.Omega.{arith}
use Rattle.capi_service.proofs.Laws.{read_ends}
use Rattle.capi_service.proofs.reading.rabtunex_read_service.Goals as goal

pub overflow_cast-start : goal.overflow_cast-start
overflow_cast-start c =
    let inside : c.in-Ok.field-0.start + c.in-Ok.field-0.len ≤ 255 = rw (sym c.in-Ok.ensures) at (read_ends c.args.bytes.now c.mode_of.result) in
    omega (arith, inside)

pub overflow_cast-len : goal.overflow_cast-len
overflow_cast-len c =
    let inside : c.in-Ok.field-0.start + c.in-Ok.field-0.len ≤ 255 = rw (sym c.in-Ok.ensures) at (read_ends c.args.bytes.now c.mode_of.result) in
    omega (arith, inside)
