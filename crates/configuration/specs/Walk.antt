-- The modules of a configuration, one after the other (document 01, "Configuration"). The first fault decides; 24 is given
-- at the identifier, after 26.
use Rattle.std.specs.Prelude.{List, [], ◌∷◌, ℕ, zero, suc, ◌+◌, ◌-◌, ◌/◌, ◌%◌, length, get_or, drop, eqb, ltb, Ok, Err, Result}
use Rattle.octets.specs.Choice.{pick}
use Rattle.octets.specs.Part.{part_of}
use Rattle.configuration.specs.Fields.{identifier_of, input_bit, output_bit, general_of, special_of}
use Rattle.configuration.specs.declared.fields.Identifier.{Identifier}
use Rattle.configuration.specs.declared.fields.Identifier.TheVariants.{General, Special}
use Rattle.configuration.specs.declared.fields.Module.{Module}
use Rattle.configuration.specs.declared.walk.Position.{Position}
use Rattle.configuration.specs.declared.walk.Step as walk
use Rattle.configuration.specs.declared.walk.Step.TheVariants as step

-- what the walk finds at a position, or a refusal's number
abbrev pub Step : Type 0
Step = Result walk.Step ℕ

-- ---- one module

-- What stands at the front of bytes: a module whose last bytes are its vendor bytes, len from start; or its fault.
pub data Found : Type 0 where
  one : Module → (start len : ℕ) → Found
  unfit : ℕ → Found

-- how many bytes stand before the vendor bytes: the identifier x and its length bytes
abbrev pub front_of : (x : ℕ) → ℕ
front_of x = 1 + x / output_bit Special % 2 + x / input_bit Special % 2

-- the vendor count that is refused
abbrev pub barred : ℕ
barred = 15

-- the special format, of which `left` bytes are there: output's length byte y comes first, then input's z, then as many
-- vendor bytes as the low nibble
abbrev pub special_by : (x left y z : ℕ) → Found
special_by x left y z =
    pick (eqb (x % 16) barred) (unfit 26)
    (pick (ltb left (front_of x + x % 16)) (unfit 24) (one (special_of x y z) (front_of x) (x % 16)))

unfoldable pub special_in : List ℕ → Found
special_in r = special_by (get_or r 0 0) (length r) (get_or r 1 0) (get_or r (1 + get_or r 0 0 / output_bit Special % 2) 0)

-- by the format of the identifier; the general one is one byte
abbrev pub module_by : Identifier → List ℕ → Found
module_by General r = one (general_of (get_or r 0 0)) 1 0
module_by Special r = special_in r

unfoldable pub module_in : List ℕ → Found
module_in r = module_by (identifier_of (get_or r 0 0)) r

-- ---- one step of a walk

abbrev pub position : ℕ → Position
position k = record { at = k }

abbrev pub first_position : Position
first_position = position 0

-- what was found at a place, by its place in the whole
abbrev pub step_of : (at : ℕ) → Found → Step
step_of at (one m start len) = Ok (step.Module m (at + start) len (position (at + start + len)))
step_of at (unfit r) = Err r

unfoldable pub next_of : List ℕ → (at : ℕ) → Step
next_of s at =
    pick (ltb (length s) at) (Err 12)
    (pick (eqb at (length s)) (Ok step.End) (step_of at (module_in (drop at s))))

-- ---- all modules: they end well or badly

pub data Walk : Type 0 where
  end : Walk
  bad : ℕ → Walk
  more : Module → (vendor : List ℕ) → Walk → Walk

-- what was found in r, and then what follows its first byte, of which so many bytes still belong to the module
abbrev pub after : Found → List ℕ → (ℕ → Walk) → Walk
after (one m start len) r rest = more m (part_of r start len) (rest (start + len - 1))
after (unfit k) r rest = bad k

-- of the bytes, the first `skip` belong to the module before
unfoldable pub walk_of : List ℕ → (skip : ℕ) → Walk
walk_of [] skip = end
walk_of (x ∷ xs) zero = after (module_in (x ∷ xs)) (x ∷ xs) (walk_of xs)
walk_of (x ∷ xs) (suc k) = walk_of xs k
