-- `diagnosis_walk::map::lowest_module` meets its contract. The loop's invariant: no module was passed that reports, so the search in what
-- is left is the whole.
use Prim.Native.Nat.{◌*◌, ◌-◌}
use mathlib.Core.Path.{◌≡◌}
use lib.ListN.{length}
use Rattle.diagnosis.specs.Map.{reports, lowest_from, lowest_of}
use Rattle.diagnosis_walk.proofs.map.lowest_module.Given as goal

abbrev pub invariant-loop-byte : goal.invariant-loop-byte
invariant-loop-byte l =
    (l.zeros ≡ 8 * l.byte-index) × (lowest_from (reports l.map) (8 * l.byte-index) (8 * (length l.map - l.byte-index)) ≡ lowest_of l.map)
