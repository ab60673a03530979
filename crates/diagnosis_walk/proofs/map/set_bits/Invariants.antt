-- `diagnosis_walk::map::set_bits` meets its contract. The loop's invariant: the count so far and that of what is left are the whole.
use Prim.Native.Nat.{◌≤◌, ◌+◌, ◌*◌, ◌-◌}
use mathlib.Core.Path.{◌≡◌}
use lib.ListN.{length}
use Rattle.diagnosis.specs.Map.{reports, count_from, set_of}
use Rattle.diagnosis_walk.proofs.map.set_bits.Given as goal

abbrev pub invariant-loop-byte : goal.invariant-loop-byte
invariant-loop-byte l =
    (l.set ≤ 8 * l.byte-index) × (l.set + count_from (reports l.map) (8 * l.byte-index) (8 * (length l.map - l.byte-index)) ≡ set_of l.map)
