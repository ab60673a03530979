-- Typed values (document 01, "Typed values"): Boolean, signed 8/16/32, unsigned 8/16/32 and floating point have the codes
-- 1..8. A value's pattern is the unsigned number that its bytes are, high byte first.
use Rattle.std.specs.Prelude.{ℕ, ◌<◌, ◌^◌, Bool, true, false, T, eqb, ℤ}
use Rattle.std.specs.Float.{binary32}
use Rattle.std.specs.Float.Ieee.{fits, to_bits}
use Rattle.std.specs.Int.{Width, w8, w16, w32}
use mir.Val.{SFits, bytes, to_z, of_z}
use Rattle.octets.specs.Choice.{pick}
use Rattle.float.specs.Float.{floating_of}
use Rattle.float.specs.declared.Floating.{Floating}
use Rattle.float.specs.declared.Floating.TheVariants.{Number, Nan as NanBits}
use Rattle.typed.specs.declared.value.Value.{Value}
use Rattle.typed.specs.declared.value.Value.TheVariants.{Boolean, I8, I16, I32, U8, U16, U32, Float, Nan}

-- ---- codes

-- the three widths of integers
pub data Size : Type 0 where
  one two four : Size

abbrev pub bits_of : Size → Width
bits_of one = w8
bits_of two = w16
bits_of four = w32

-- what the bytes behind a code are
pub data Kind : Type 0 where
  boolean : Kind
  signed : Size → Kind
  unsigned : Size → Kind
  floating : Kind

-- the code of each
abbrev pub code_in : Kind → ℕ
code_in boolean = 1
code_in (signed one) = 2
code_in (signed two) = 3
code_in (signed four) = 4
code_in (unsigned one) = 5
code_in (unsigned two) = 6
code_in (unsigned four) = 7
code_in floating = 8

-- by the code; it is asked of no code but 1..8
unfoldable pub kind_of : (code : ℕ) → Kind
kind_of c =
    pick (eqb c (code_in boolean)) boolean
    (pick (eqb c (code_in (signed one))) (signed one)
    (pick (eqb c (code_in (signed two))) (signed two)
    (pick (eqb c (code_in (signed four))) (signed four)
    (pick (eqb c (code_in (unsigned one))) (unsigned one)
    (pick (eqb c (code_in (unsigned two))) (unsigned two)
    (pick (eqb c (code_in (unsigned four))) (unsigned four) floating))))))

-- how many bytes they are
abbrev pub width_in : Kind → ℕ
width_in boolean = 1
width_in (signed s) = bytes (bits_of s)
width_in (unsigned s) = bytes (bits_of s)
width_in floating = 4

abbrev pub width_of : (code : ℕ) → ℕ
width_of c = width_in (kind_of c)

-- what each case of a value is
abbrev pub kind_in : Value → Kind
kind_in (Boolean b) = boolean
kind_in (I8 z) = signed one
kind_in (I16 z) = signed two
kind_in (I32 z) = signed four
kind_in (U8 n) = unsigned one
kind_in (U16 n) = unsigned two
kind_in (U32 n) = unsigned four
kind_in (Float x) = floating
kind_in (Nan n) = floating

abbrev pub code_of : Value → ℕ
code_of v = code_in (kind_in v)

-- ---- a value and its pattern

-- the byte of a Boolean
abbrev pub boolean_byte : Bool → ℕ
boolean_byte true = 0xFF
boolean_byte false = 0x00

-- the pattern of a value: a signed number is in two's complement, a floating-point value has its 32 bits
abbrev pub pattern_in : Value → ℕ
pattern_in (Boolean b) = boolean_byte b
pattern_in (I8 z) = of_z w8 z
pattern_in (I16 z) = of_z w16 z
pattern_in (I32 z) = of_z w32 z
pattern_in (U8 n) = n
pattern_in (U16 n) = n
pattern_in (U32 n) = n
pattern_in (Float x) = to_bits binary32 x
pattern_in (Nan n) = n

-- every value that the code can be given is within the range of its type
abbrev pub InRange : Value → Type 0
InRange (Boolean b) = Unit
InRange (I8 z) = SFits w8 z
InRange (I16 z) = SFits w16 z
InRange (I32 z) = SFits w32 z
InRange (U8 n) = n < 2 ^ 8
InRange (U16 n) = n < 2 ^ 16
InRange (U32 n) = n < 2 ^ 32
InRange (Float x) = T (fits binary32 x)
InRange (Nan n) = n < 2 ^ 32

-- the values of a pattern
abbrev pub signed_value : Size → ℤ → Value
signed_value one z = I8 z
signed_value two z = I16 z
signed_value four z = I32 z

abbrev pub unsigned_value : Size → ℕ → Value
unsigned_value one n = U8 n
unsigned_value two n = U16 n
unsigned_value four n = U32 n

abbrev pub floating_value : Floating → Value
floating_value (Number x) = Float x
floating_value (NanBits n) = Nan n

unfoldable pub value_of : Kind → (pattern : ℕ) → Value
value_of boolean n = Boolean (eqb n (boolean_byte true))
value_of (signed s) n = signed_value s (to_z (bits_of s) n)
value_of (unsigned s) n = unsigned_value s n
value_of floating n = floating_value (floating_of n)
