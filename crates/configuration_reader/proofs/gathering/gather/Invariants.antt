-- `configuration_reader::gathering::gather` meets its contract. The loop's invariant: that of the running offsets, for each side, and that
-- the totals of what is left, added to those so far, are those of all.
use mathlib.Core.Path.{◌≡◌}
use Prim.Native.Nat.{◌-◌, ◌≤◌}
use lib.ListN.{length, drop}
use Rattle.configuration.specs.Walk.{walk_of}
use Rattle.configuration.specs.Reading.{input_of, output_of, totals_of}
use Rattle.configuration_reader.proofs.Running.{Running}
use Rattle.configuration_reader.proofs.gathering.gather.Given as goal

abbrev pub invariant-loop-module : goal.invariant-loop-module
invariant-loop-module l =
    (l.at ≤ length l.s) × (l.n ≤ l.at) × Running input_of l.s l.initial.inputs l.inputs l.at l.n l.i × Running output_of l.s l.initial.outputs l.outputs l.at l.n l.o
    × (totals_of l.n l.i l.o (walk_of (drop l.at l.s) 0) ≡ totals_of 0 0 0 (walk_of l.s 0))

abbrev pub decreases-loop-module : goal.decreases-loop-module
decreases-loop-module l =
    length l.s - l.at
