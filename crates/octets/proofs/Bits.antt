-- A test as a byte: 1 where it holds, else 0.
use Rattle.std.specs.Prelude.{◌≡◌, refl, Bool, true, false, eqb, ltb}
use Rattle.octets.specs.Bits.{bit_of}

pub bit_low : (b : Bool) → ltb 1 (bit_of b) ≡ false
bit_low true = refl
bit_low false = refl

pub bit_again : (b : Bool) → eqb (bit_of b) 1 ≡ b
bit_again true = refl
bit_again false = refl
