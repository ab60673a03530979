-- Which bytes are parameters (document 01, "Parameters"), in plain arithmetic. Document 01 counts bytes from 1.
use Prim.Native.Nat.{ℕ, ◌/◌, ◌%◌, ◌≤◌}
use Rattle.std.specs.Prelude.{◌≡◌, Bool, false, List, length, Ok, Err}
use Rattle.std.proofs.Math.Bool.{true}
use Rattle.std.proofs.Math.ListN.{get_or}
use Rattle.octets.specs.declared.Mode.{Mode}
use Rattle.octets.specs.declared.Mode.TheVariants as mode
use Rattle.parameters.specs.Reading.{Reading}

abbrev pub accepted : Reading → Bool
accepted (Ok found) = true
accepted (Err r) = false

-- what every version asks: 7 to 244 bytes, bits 0..2 of byte 1 are 0, byte 4 is 11 or more
pub record BasicBytes (s : List ℕ) : Type 0 where
  pub long : 7 ≤ length s
  pub short : length s ≤ 244
  pub flags : get_or s 0 0 % 8 ≡ 0
  pub response : 11 ≤ get_or s 3 0

-- what DPV1 adds: 10 bytes; bits 0, 1, 3, 4 of byte 8, bit 1 of byte 9 and bits 5, 6 of byte 10 are 0
pub record StatusBytes (s : List ℕ) : Type 0 where
  pub long : 10 ≤ length s
  pub status1_low : get_or s 7 0 % 4 ≡ 0
  pub status1_high : get_or s 7 0 / 8 % 4 ≡ 0
  pub status2 : get_or s 8 0 / 2 % 2 ≡ 0
  pub status3 : get_or s 9 0 / 32 % 4 ≡ 0

abbrev pub ParameterBytes : List ℕ → Mode → Type 0
ParameterBytes s mode.Dpv0 = BasicBytes s
ParameterBytes s mode.Dpv1 = BasicBytes s × StatusBytes s
