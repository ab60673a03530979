-- What a diagnosis and a block carry, whichever way they go: the common ground on which the laws of reading and writing are
-- stated.
use Rattle.std.specs.Prelude.{ℕ, ◌+◌, ◌≡◌, Bool, true, false, List, [], ◌∷◌, ◌++◌, length, drop, Ok, Err}
use Rattle.octets.specs.Part.{part_of}
use Rattle.octets.specs.Front.{Verdict, fine, fault}
use Rattle.diagnosis.specs.Map.{set_of, lowest_of}
use Rattle.diagnosis.specs.Reading.{read_of, Count, Reading}
use Rattle.diagnosis.specs.Walk.{next_of}
use Rattle.diagnosis.specs.Writing.{diagnosis_bytes, verdict_of, device_bytes, device_verdict, module_bytes, module_verdict, channel_bytes, channel_verdict}
use Rattle.diagnosis.specs.declared.reading.Header.{Header}
use Rattle.diagnosis.specs.declared.walk.Channel as the-channel
use Rattle.diagnosis.specs.declared.walk.Block as TheBlock
use Rattle.diagnosis.specs.declared.walk.Block.TheVariants as block
use Rattle.diagnosis.specs.declared.walk.Position.{Position}
use Rattle.diagnosis.specs.declared.walk.Step.TheVariants as step

-- ---- a whole diagnosis

pub data Contents : Type 0 where
  nothing : Contents
  diagnosis : Header → (blocks : List ℕ) → Contents

-- a reading's header, and the bytes of its blocks as the part of the bytes from 6 on
abbrev pub contents_in : List ℕ → Reading → Contents
contents_in s (Ok found) = diagnosis found.header (drop 6 s)
contents_in s (Err r) = nothing

abbrev pub contents_of : List ℕ → Contents
contents_of s = contents_in s (read_of s)

-- the bytes that writing stores for them, and whether it takes them
abbrev pub bytes_for : Contents → List ℕ
bytes_for nothing = []
bytes_for (diagnosis h blocks) = diagnosis_bytes h blocks

abbrev pub verdict_for : Contents → Verdict
verdict_for nothing = fault 12
verdict_for (diagnosis h blocks) = verdict_of h blocks

abbrev pub accepted : Reading → Bool
accepted (Ok found) = true
accepted (Err r) = false

-- ---- one block

pub data Item : Type 0 where
  device : (bytes : List ℕ) → Item
  modules : (map : List ℕ) → Item
  channel : the-channel.Channel → Item

-- a block's fields, and its bytes as the part that it names
abbrev pub item_in : List ℕ → TheBlock.Block → Item
item_in s (block.Device start len) = device (part_of s start len)
item_in s (block.Module start len set lowest) = modules (part_of s start len)
item_in s (block.Channel c) = channel c

-- the bytes that writing stores for them, and whether it takes them
abbrev pub item_bytes : Item → List ℕ
item_bytes (device bytes) = device_bytes bytes
item_bytes (modules map) = module_bytes map
item_bytes (channel c) = channel_bytes c

abbrev pub item_verdict : Item → Verdict
item_verdict (device bytes) = device_verdict bytes
item_verdict (modules map) = module_verdict map
item_verdict (channel c) = channel_verdict c

-- the block that they are at a place
abbrev pub block_for : (at : ℕ) → Item → TheBlock.Block
block_for at (device bytes) = block.Device (at + 1) (length bytes)
block_for at (modules map) = block.Module (at + 1) (length map) (set_of map) (lowest_of map)
block_for at (channel c) = block.Channel c

-- blocks one after the other
abbrev pub joined : List Item → List ℕ
joined [] = []
joined (x ∷ xs) = item_bytes x ++ joined xs

pub data Writable : List Item → Type 0 where
  none : Writable []
  one_more : {x : Item} {xs : List Item} → item_verdict x ≡ fine → Writable xs → Writable (x ∷ xs)

-- ---- the walk to its end

-- from `at`, with n blocks passed, one step after the other comes to the end with so many blocks, or to this refusal
pub data Walks (s : List ℕ) : (at n : ℕ) → Count → Type 0 where
  end : {at n : ℕ} → next_of s at ≡ Ok step.End → Walks s at n (Ok n)
  bad : {at n : ℕ} {r : ℕ} → next_of s at ≡ Err r → Walks s at n (Err r)
  more : {at n : ℕ} {c : Count} {b : TheBlock.Block} {p : Position} → next_of s at ≡ Ok (step.Block b p) → Walks s p.at (n + 1) c → Walks s at n c
