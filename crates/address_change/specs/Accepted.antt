-- Which bytes are an address change (document 01, "Services by access point"), in plain arithmetic.
use Rattle.std.specs.Prelude.{ℕ, ◌≤◌, ◌≡◌, Bool, false, List, length, get_or, Ok, Err}
use Rattle.std.proofs.Math.Bool.{true}
use Rattle.address_change.specs.Address.{AddressReading}

abbrev pub accepted : AddressReading → Bool
accepted (Ok found) = true
accepted (Err r) = false

-- the address, two bytes of ident, which are free, and the last byte
pub record AddressBytes (s : List ℕ) : Type 0 where
  pub four : length s ≡ 4
  pub address : get_or s 0 0 ≤ 125
  pub last : get_or s 3 0 ≤ 1
