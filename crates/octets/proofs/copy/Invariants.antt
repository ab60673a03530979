-- `octets::copy` meets its contract. The loop's invariant: so many bytes of the source stand in front, and the rest is as it was.
use Rattle.std.proofs.Common.{◌≡◌, ◌++◌, take, drop}
use Rattle.octets.proofs.copy.Given as goal

abbrev pub invariant-loop-i : goal.invariant-loop-i
invariant-loop-i l = l.out ≡ take l.i l.source ++ drop l.i l.initial.out
