-- The walk over the blocks of a diagnosis, one block at a time (document 01, "Diagnosis").
use Rattle.std.specs.Prelude.{ℕ, ◌+◌, ◌-◌, ◌/◌, ◌%◌, List, length, get_or, take, drop, eqb, ltb, Ok, Err, Result}
use Rattle.octets.specs.Choice.{pick}
use Rattle.diagnosis.specs.Map.{set_of, lowest_of}
use Rattle.diagnosis.specs.Block.{direction_place, type_place, found_at, Found}
use Rattle.diagnosis.specs.declared.block.Kind as the-kind
use Rattle.diagnosis.specs.declared.block.Kind.TheVariants as kind
use Rattle.diagnosis.specs.declared.block.Extent.{Extent}
use Rattle.diagnosis.specs.declared.walk.Channel as the-channel
use Rattle.diagnosis.specs.declared.walk.Block as TheBlock
use Rattle.diagnosis.specs.declared.walk.Block.TheVariants.{Device, Module, Channel}
use Rattle.diagnosis.specs.declared.walk.Position.{Position}
use Rattle.diagnosis.specs.declared.walk.Step as walk
use Rattle.diagnosis.specs.declared.walk.Step.TheVariants.{Block, End}

-- what the walk finds at a position, or a refusal's number
abbrev pub Step : Type 0
Step = Result walk.Step ℕ

abbrev pub position : ℕ → Position
position at = record { at = at }

-- the fields of a channel block's three bytes
abbrev pub fields_of : (head second third : ℕ) → the-channel.Channel
fields_of head second third =
    record {
      «module» = head % 64;
      direction = second / direction_place;
      channel = second % direction_place;
      kind = third / type_place;
      error = third % type_place;
    }

-- the bytes of s after a block's header at a place, of a block of so many bytes
abbrev pub behind : List ℕ → (at len : ℕ) → List ℕ
behind s at len = take (len - 1) (drop (at + 1) s)

-- what the block at a place says
abbrev pub block_by : List ℕ → (at : ℕ) → the-kind.Kind → (len : ℕ) → TheBlock.Block
block_by s at kind.Device len = Device (at + 1) (len - 1)
block_by s at kind.Module len = Module (at + 1) (len - 1) (set_of (behind s at len)) (lowest_of (behind s at len))
block_by s at kind.Channel len = Channel (fields_of (get_or s at 0) (get_or s (at + 1) 0) (get_or s (at + 2) 0))

abbrev pub block_of : List ℕ → (at : ℕ) → Extent → TheBlock.Block
block_of s at e = block_by s at e.kind e.len

abbrev pub step_of : List ℕ → (at : ℕ) → Found → Step
step_of s at (Ok e) = Ok (Block (block_of s at e) (position (at + e.len)))
step_of s at (Err r) = Err r

-- one step, from any position: the blocks begin behind the header
unfoldable pub next_of : List ℕ → (at : ℕ) → Step
next_of s at =
    pick (ltb at 6) (Err 12)
    (pick (ltb (length s) at) (Err 12)
    (pick (eqb (length s - at) 0) (Ok End) (step_of s at (found_at s at))))
