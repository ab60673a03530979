-- `framing::writable_with` meets its contract: more bytes than a PDU has are never written.
use mathlib.Core.Path.{sym}
use Prim.Native.Nat.{◌+◌}
use native.Mathlib.Omega.{arith}
use Rattle.fdl.proofs.Around.{too_long}
use Rattle.framing.proofs.writable_with.Goals as goal

pub returns-then-fixed-gt246 : goal.returns-then-fixed-gt246
returns-then-fixed-gt246 c =
    let a = c.args in
    sym (too_long a.format a.header (a.fixed + a.part) (omega arith))

pub returns-then-part-gt246 : goal.returns-then-part-gt246
returns-then-part-gt246 c =
    let a = c.args in
    sym (too_long a.format a.header (a.fixed + a.part) (omega arith))
