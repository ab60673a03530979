-- Which bytes are a global command (document 01, "Services by access point"), in plain arithmetic.
use Prim.Native.Nat.{ℕ, ◌%◌, ◌<◌}
use Rattle.std.specs.Prelude.{◌≡◌, Bool, false, List, length, Ok, Err}
use Rattle.std.proofs.Math.Bool.{true}
use Rattle.std.proofs.Math.ListN.{get_or}
use Rattle.control.specs.Command.{CommandReading}

abbrev pub accepted : CommandReading → Bool
accepted (Ok found) = true
accepted (Err r) = false

pub record CommandBytes (s : List ℕ) : Type 0 where
  pub two : length s ≡ 2
  -- bit 0 of the first is 0, and so are bits 6 and 7
  pub even : get_or s 0 0 % 2 ≡ 0
  pub low : get_or s 0 0 < 64
