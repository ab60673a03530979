-- Where a block begins (document 01, "Diagnosis"): which kind of block, and how many bytes, or the first fault.
use Rattle.std.specs.Prelude.{ℕ, ◌+◌, ◌-◌, ◌/◌, ◌%◌, Bool, not, List, length, get_or, eqb, ltb, leb, Ok, Err, Result}
use Rattle.octets.specs.Choice.{pick, ◌and◌, ◌or◌}
use Rattle.diagnosis.specs.declared.block.Kind.{Kind}
use Rattle.diagnosis.specs.declared.block.Kind.TheVariants.{Device, Module, Channel}
use Rattle.diagnosis.specs.declared.block.Extent.{Extent}

-- which kind of block stands there and how long it is, or a refusal's number
abbrev pub Found : Type 0
Found = Result Extent ℕ

-- bits 7-6 of a block's header; 3 is reserved
abbrev pub kind_number : Kind → ℕ
kind_number Device = 0
kind_number Module = 1
kind_number Channel = 2

-- byte 2 of a channel block: the direction (1 input, 2 output, 3 both) in bits 7-6, and the channel below them
abbrev pub direction_place : ℕ
direction_place = 64

-- byte 3 of a channel block: the type in bits 7-5, and the error below them
abbrev pub type_place : ℕ
type_place = 32

abbrev pub refused : ℕ → Found
refused k = Err k

-- a block of so many bytes, its header counted
abbrev pub extent : Kind → (len : ℕ) → Extent
extent kind len = record { kind = kind; len = len }

-- the type is 1..6, the error is 1..9 or 16..31
unfoldable pub good_code : (kind error : ℕ) → Bool
good_code kind error = leb 1 kind and leb kind 6 and leb 1 error and (leb error 9 or (leb 16 error and leb error 31))

-- a block of which `left` bytes are there, with its length, 2..63, in its header
unfoldable pub sized_of : Kind → (head left : ℕ) → Found
sized_of kind head left =
    pick (ltb (head % 64) 2) (refused 23)
    (pick (ltb left (head % 64)) (refused 24) (Ok (extent kind (head % 64))))

-- the rule of a device block
abbrev pub device_of : (head left : ℕ) → Found
device_of head left = sized_of Device head left

-- a channel block has three bytes; bits 7-6 of the second are not 00
unfoldable pub channel_of : (second third left : ℕ) → Found
channel_of second third left =
    pick (ltb left 3) (refused 24)
    (pick (eqb (second / direction_place) 0) (refused 25)
    (pick (not (good_code (third / type_place) (third % type_place))) (refused 25) (Ok (extent Channel 3))))

-- by the kind in bits 7-6 of the header
unfoldable pub found_by : (head second third left : ℕ) → Found
found_by head second third left =
    pick (eqb (head / 64) (kind_number Device)) (device_of head left)
    (pick (eqb (head / 64) (kind_number Module)) (sized_of Module head left)
    (pick (eqb (head / 64) (kind_number Channel)) (channel_of second third left) (refused 23)))

-- the block at a place; past the end as where a 0 stands, which is refused
abbrev pub found_at : List ℕ → (at : ℕ) → Found
found_at s at = found_by (get_or s at 0) (get_or s (at + 1) 0) (get_or s (at + 2) 0) (length s - at)
