-- Diagnosis through the C interface, as numbers. Its fields are six: the three status bytes, the master, the ident number and
-- the number of blocks. A block is six too: its kind (1 device, 2 module, 3 channel; 0 the end of the blocks), and what it says.
use Rattle.std.specs.Prelude.{ℕ, ◌+◌, List, [], ◌∷◌, Ok, Err}
use Rattle.diagnosis.specs.Block.{kind_number}
use Rattle.diagnosis.specs.Map.{lowest_number}
use Rattle.diagnosis.specs.declared.block.Kind.{Kind}
use Rattle.diagnosis.specs.declared.block.Kind.TheVariants as kind
use Rattle.diagnosis.specs.Reading.{Reading}
use Rattle.diagnosis.specs.declared.walk.Block.{Block}
use Rattle.diagnosis.specs.declared.walk.Block.TheVariants.{Device, Module, Channel}
use Rattle.diagnosis.specs.Walk.{Step}
use Rattle.diagnosis.specs.declared.walk.Step.TheVariants as step

-- ---- reading

abbrev pub refusal_of : Reading → ℕ
refusal_of (Ok found) = 0
refusal_of (Err r) = r

-- what the lent fields hold then
abbrev pub fields_after : Reading → (before : List ℕ) → List ℕ
fields_after (Ok found) before = found.header.status1 ∷ found.header.status2 ∷ found.header.status3 ∷ found.header.master ∷ found.header.ident ∷ found.blocks ∷ []
fields_after (Err r) before = before

-- ---- one step of the walk over the blocks

-- a kind's number; 0 is the end of the blocks
abbrev pub block_number : Kind → ℕ
block_number k = 1 + kind_number k

-- a block's kind, and what it says: the start and length of the bytes behind its header, and of a map the number of set bits
-- and the lowest reporting module; or the fields of a channel
abbrev pub block_numbers : Block → List ℕ
block_numbers (Device start len) = block_number kind.Device ∷ start ∷ len ∷ 0 ∷ 0 ∷ 0 ∷ []
block_numbers (Module start len set low) = block_number kind.Module ∷ start ∷ len ∷ set ∷ lowest_number low ∷ 0 ∷ []
block_numbers (Channel c) = block_number kind.Channel ∷ c.«module» ∷ c.direction ∷ c.channel ∷ c.kind ∷ c.error ∷ []

abbrev pub step_refusal : Step → ℕ
step_refusal (Ok found) = 0
step_refusal (Err r) = r

-- what the lent block holds then, and the lent position
abbrev pub block_after : Step → (before : List ℕ) → List ℕ
block_after (Ok (step.Block b next)) before = block_numbers b
block_after (Ok step.End) before = 0 ∷ 0 ∷ 0 ∷ 0 ∷ 0 ∷ 0 ∷ []
block_after (Err r) before = before

abbrev pub position_after : Step → (before : ℕ) → ℕ
position_after (Ok (step.Block b next)) before = next.at
position_after (Ok step.End) before = before
position_after (Err r) before = before
