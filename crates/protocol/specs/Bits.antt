-- FCB, the bit by which a repeat is told from a new call.
use Rattle.std.specs.Prelude.{Bool, true, false, not}

-- are both the same
abbrev pub bits_agree : Bool → Bool → Bool
bits_agree true b = b
bits_agree false b = not b
