-- `fdl::telegram::checksum` meets its contract. The loop's invariant: the sum so far and that of what is left are the
-- whole, modulo 256.
use Prim.Native.Nat.{◌<◌, ◌+◌, ◌%◌}
use mathlib.Core.Path.{◌≡◌}
use lib.ListN.{drop}
use Rattle.fdl.specs.Telegram.{sum_of}
use Rattle.fdl.proofs.telegram.checksum.Given as goal

abbrev pub invariant-loop-byte : goal.invariant-loop-byte
invariant-loop-byte l =
    (l.sum < 256) × ((l.sum + sum_of (drop l.byte-index l.part)) % 256 ≡ sum_of l.part % 256)
