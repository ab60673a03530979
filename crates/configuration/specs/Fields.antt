-- The fields of a module (document 01, "Configuration"), and how many bytes of process data they stand for. Bit k of a byte
-- is its quotient by 2^k, modulo 2.
use Rattle.std.specs.Prelude.{ℕ, ◌+◌, ◌*◌, ◌/◌, ◌%◌, eqb}
use Rattle.octets.specs.Choice.{pick}
use Rattle.configuration.specs.declared.fields.Side.{Side}
use Rattle.configuration.specs.declared.fields.Side.TheVariants.{Absent, Present}
use Rattle.configuration.specs.declared.fields.Identifier.{Identifier}
use Rattle.configuration.specs.declared.fields.Identifier.TheVariants.{General, Special}
use Rattle.configuration.specs.declared.fields.Module.{Module}

-- ---- the two formats of the identifier

-- bits 5-4 are zero in the special format alone
abbrev pub identifier_of : (x : ℕ) → Identifier
identifier_of x = pick (eqb (x / 16 % 4) 0) Special General

-- the value of the bit by which it says that the module has input
abbrev pub input_bit : Identifier → ℕ
input_bit General = 16
input_bit Special = 64

-- the value of the bit by which it says that the module has output
abbrev pub output_bit : Identifier → ℕ
output_bit General = 32
output_bit Special = 128

-- how many units a side has at most; its byte has one less in its low bits
abbrev pub most_units : Identifier → ℕ
most_units General = 16
most_units Special = 64

-- ---- one side

-- the value of the bit of its byte that makes words of two bytes of the units
abbrev pub words_bit : ℕ
words_bit = 64

-- and of the bit that asks for consistency
abbrev pub consistency_bit : ℕ
consistency_bit = 128

-- so many units of byte x
abbrev pub side_of : (units x : ℕ) → Side
side_of n x = Present n (eqb (x / words_bit % 2) 1) (eqb (x / consistency_bit % 2) 1)

-- where a bit says that the module has that side
abbrev pub side_if : (bit units x : ℕ) → Side
side_if b n x = pick (eqb b 1) (side_of n x) Absent

-- ---- a module

-- The general format: input, output or both, of low nibble plus 1 units.
unfoldable pub general_of : (x : ℕ) → Module
general_of x =
    record {
      identifier = General;
      input = side_if (x / input_bit General % 2) (x % most_units General + 1) x;
      output = side_if (x / output_bit General % 2) (x % most_units General + 1) x;
    }

-- a length byte, where a bit says that it follows: bits 0..5 plus 1 units
abbrev pub length_byte : (bit y : ℕ) → Side
length_byte b y = side_if b (y % most_units Special + 1) y

-- The special format: one bit says that output's length byte y follows, one that input's z does.
unfoldable pub special_of : (x y z : ℕ) → Module
special_of x y z =
    record {
      identifier = Special;
      input = length_byte (x / input_bit Special % 2) z;
      output = length_byte (x / output_bit Special % 2) y;
    }

-- how many bytes a side has
abbrev pub length_of : Side → ℕ
length_of Absent = 0
length_of (Present n words consistent) = pick words (2 * n) n
