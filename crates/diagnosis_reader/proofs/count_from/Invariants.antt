-- `diagnosis_reader::count_from` meets its contract. The loop's invariant: the blocks that are left, added to those passed, are the
-- whole; each block passed has a byte.
use mathlib.Core.Path.{◌≡◌}
use Prim.Native.Nat.{◌-◌, ◌≤◌}
use lib.ListN.{length, drop}
use Rattle.diagnosis.specs.Reading.{blocks_in, counted, count_of}
use Rattle.diagnosis_reader.proofs.count_from.Given as goal

abbrev pub invariant-loop-at : goal.invariant-loop-at
invariant-loop-at l =
    (l.at ≤ length l.s) × (l.blocks ≤ l.at) × (counted l.blocks (blocks_in (drop l.at l.s) 0) ≡ count_of (drop l.from l.s))

abbrev pub decreases-loop-at : goal.decreases-loop-at
decreases-loop-at l =
    length l.s - l.at
