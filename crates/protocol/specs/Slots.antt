-- The printer's sixteen slots (document 01, "Template book, printer, download"), lent as 16 lengths and 16 times 200 bytes.
use Rattle.std.specs.Prelude.{ℕ, ◌*◌, ◌≡◌, Bool, false, List, [], ◌∷◌, ltb, length, get_or, take, drop, set}
use Rattle.octets.specs.Choice.{◌or◌}
use Rattle.octets.specs.Front.{over, held_behind}

pub record Slots : Type 0 where
  pub lengths : List ℕ
  pub bodies : List ℕ

-- one slot: how many of its bytes are the template, and its 200 bytes
pub record Slot : Type 0 where
  pub len : ℕ
  pub bytes : List ℕ

abbrev pub slot_in : Slots → (index : ℕ) → Slot
slot_in s i = record { len = get_or s.lengths i 0; bytes = take 200 (drop (200 * i) s.bodies) }

-- a write: the slot's length and that many front bytes replaced
abbrev pub written : (index : ℕ) → (body : List ℕ) → Slots → Slots
written i body s = record { lengths = set s.lengths i (length body); bodies = held_behind (200 * i) body s.bodies }

-- is a slot length above 200
abbrev pub too_long : (lengths : List ℕ) → Bool
too_long [] = false
too_long (n ∷ ns) = ltb 200 n or too_long ns

-- sixteen lengths and sixteen times 200 bytes
pub record Sized (s : Slots) : Type 0 where
  pub lengths : length s.lengths ≡ 16
  pub bodies : length s.bodies ≡ 3200

-- a slot with a template in it: its length, its body in front, the other bytes as before
abbrev pub filled : (body : List ℕ) → Slot → Slot
filled body s = record { len = length body; bytes = over body s.bytes }
