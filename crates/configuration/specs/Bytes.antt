-- The bytes of a configuration (document 01, "Configuration"), in plain arithmetic.
use Rattle.std.specs.Prelude.{ℕ, suc, ◌+◌, ◌*◌, ◌/◌, ◌%◌, ◌≤◌, ◌<◌, ◌≡◌, List, length, get_or}

-- how many bytes of process data so many units are, of two bytes each where bit 6 of x is set; none where the side's bit is 0
abbrev pub side_size : (bit units x : ℕ) → ℕ
side_size bit units x = bit * (units * (1 + x / 64 % 2))

-- of an identifier x with bits 5-4 not zero: 01 input, 10 output, 11 both, low nibble plus 1 units
abbrev pub general_input : (x : ℕ) → ℕ
general_input x = side_size (x / 16 % 2) (x % 16 + 1) x

abbrev pub general_output : (x : ℕ) → ℕ
general_output x = side_size (x / 32 % 2) (x % 16 + 1) x

-- of one with bits 5-4 zero: a length byte for input where bit 6 is set, for output where bit 7 is, with bits 0..5 plus 1 units
abbrev pub special_input : (x z : ℕ) → ℕ
special_input x z = side_size (x / 64 % 2) (z % 64 + 1) z

abbrev pub special_output : (x y : ℕ) → ℕ
special_output x y = side_size (x / 128 % 2) (y % 64 + 1) y

-- the identifier, its length bytes, and as many vendor bytes as the low nibble
abbrev pub special_length : (x : ℕ) → ℕ
special_length x = 1 + x / 128 % 2 + x / 64 % 2 + x % 16

-- n modules from a place on, which tile the bytes to their end, with so many input and output bytes; output's length byte comes
-- first; a vendor count of 15 is none
pub data ModuleBytes (s : List ℕ) : (at n inputs outputs : ℕ) → Type 0 where
  last : {at : ℕ} → at ≡ length s → ModuleBytes s at 0 0 0
  general : {at n i o : ℕ} → at < length s → 1 ≤ get_or s at 0 / 16 % 4 → ModuleBytes s (at + 1) n i o
      → ModuleBytes s at (suc n) (general_input (get_or s at 0) + i) (general_output (get_or s at 0) + o)
  special : {at n i o : ℕ} → get_or s at 0 / 16 % 4 ≡ 0 → get_or s at 0 % 16 < 15 → at + special_length (get_or s at 0) ≤ length s
      → ModuleBytes s (at + special_length (get_or s at 0)) n i o
      → ModuleBytes s at (suc n) (special_input (get_or s at 0) (get_or s (at + 1 + get_or s at 0 / 128 % 2) 0) + i) (special_output (get_or s at 0) (get_or s (at + 1) 0) + o)

-- 1 to 244 bytes, at most 244 of input and of output
pub record ConfigurationBytes (s : List ℕ) (n inputs outputs : ℕ) : Type 0 where
  pub some : 1 ≤ length s
  pub most : length s ≤ 244
  pub modules : ModuleBytes s 0 n inputs outputs
  pub most_inputs : inputs ≤ 244
  pub most_outputs : outputs ≤ 244

-- with whatever modules
pub record IsConfiguration (s : List ℕ) : Type 0 where
  pub count : ℕ
  pub inputs : ℕ
  pub outputs : ℕ
  pub bytes : ConfigurationBytes s count inputs outputs
