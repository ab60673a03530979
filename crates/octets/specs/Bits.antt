-- A test as a byte: 1 where it holds, else 0.
use Rattle.std.specs.Prelude.{ℕ, Bool, true, false}

abbrev pub bit_of : Bool → ℕ
bit_of true = 1
bit_of false = 0
