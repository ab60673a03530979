-- `fdl::telegram::checksum` meets its contract. The loop's invariant: the sum so far and that of what is left are the
-- whole, modulo 256.
use Prim.Native.Nat.{◌+◌}
use mathlib.Core.Path.{◌≡◌}
use native.Mathlib.Numerals.{add-one}
use native.Mathlib.Omega.{arith}
use lib.ListN.{length, drop, get_or}
use lib.Seq.{drop-cons, drop-length}
use Rattle.fdl.specs.Telegram.{sum_of, checksum_of}
use Rattle.fdl.proofs.telegram.checksum.Goals as goal

pub loop-byte-preserved : goal.loop-byte-preserved
loop-byte-preserved c =
    let l = c.args.part.now in
    let i = c.loop-byte.byte-index in
    let next : sum_of (drop i l) ≡ get_or l i 0 + sum_of (drop (i + 1) l) = rw (add-one, drop-cons l i 0 (omega arith)) in
    omega (arith, c.type_inv.part i)

pub returns : goal.returns
unfolding checksum_of
returns c =
    let l = c.args.part.now in
    let e : c.loop-byte.byte-index ≡ length l = omega arith in
    let z : sum_of (drop c.loop-byte.byte-index l) ≡ 0 = rw e (rw drop-length) in
    omega arith
