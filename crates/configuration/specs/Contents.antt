-- What a configuration has, whichever way it goes: the ground on which the laws are stated.
use Rattle.std.specs.Prelude.{◌≡◌, Bool, true, false, List, [], ◌∷◌, ◌++◌, ℕ, ◌+◌, ◌≤◌, ◌<◌, length, drop, Ok, Err}
use Rattle.octets.specs.Part.{part_of}
use Rattle.octets.specs.Front.{Verdict, fine, fault}
use Rattle.configuration.specs.Walk.{position, next_of, Walk, end, bad, more, walk_of, Step}
use Rattle.configuration.specs.Reading.{input_of, output_of, Reading}
use Rattle.configuration.specs.Writing.{module_verdict, module_bytes, vendor_start}
use Rattle.configuration.specs.declared.fields.Module.{Module}
use Rattle.configuration.specs.declared.walk.Step.TheVariants as step

-- ---- one module

-- at a place of bytes a module is read that has these fields and vendor bytes
pub record Reads (s : List ℕ) (at : ℕ) (m : Module) (vendor : List ℕ) : Type 0 where
  pub fields : next_of s at ≡ Ok (step.Module m (at + vendor_start m) (length vendor) (position (at + length (module_bytes m vendor))))
  pub part : part_of s (at + vendor_start m) (length vendor) ≡ vendor

-- a module that was read at a place may be written, and gives the bytes up to the next place
pub record Again (s : List ℕ) (at : ℕ) (m : Module) (start len next : ℕ) : Type 0 where
  pub taken : module_verdict m (part_of s start len) ≡ fine
  pub same : drop at s ≡ module_bytes m (part_of s start len) ++ drop next s

-- ---- one step

-- A module stands at a place: its vendor bytes are its last, and the walk from there begins with it.
pub record Stands (s : List ℕ) (at : ℕ) (m : Module) (start len next : ℕ) : Type 0 where
  pub further : at < next
  pub inside : next ≤ length s
  pub ends : start + len ≡ next
  pub input : input_of m ≤ 128
  pub output : output_of m ≤ 128
  pub walk : walk_of (drop at s) 0 ≡ more m (part_of s start len) (walk_of (drop next s) 0)

-- what a step at a place says of the walk from there
abbrev pub Says : (s : List ℕ) (at : ℕ) → Step → Type 0
Says s at (Ok (step.Module m start len next)) = Stands s at m start len next.at
Says s at (Ok step.End) = (at ≡ length s) × (walk_of (drop at s) 0 ≡ end)
Says s at (Err r) = at ≤ length s → walk_of (drop at s) 0 ≡ bad r

-- ---- all modules

abbrev pub accepted : Reading → Bool
accepted (Ok found) = true
accepted (Err r) = false

abbrev pub ends_well : Walk → Bool
ends_well end = true
ends_well (bad r) = false
ends_well (more m vendor w) = ends_well w

-- written one after the other

abbrev pub walk_bytes : Walk → List ℕ
walk_bytes end = []
walk_bytes (bad r) = []
walk_bytes (more m vendor w) = module_bytes m vendor ++ walk_bytes w

abbrev pub and_then : Verdict → Verdict → Verdict
and_then fine v = v
and_then (fault k) v = fault k

abbrev pub walk_verdict : Walk → Verdict
walk_verdict end = fine
walk_verdict (bad r) = fault r
walk_verdict (more m vendor w) = and_then (module_verdict m vendor) (walk_verdict w)

-- all modules of s may be written, and give s
pub record Whole (s : List ℕ) : Type 0 where
  pub taken : walk_verdict (walk_of s 0) ≡ fine
  pub same : walk_bytes (walk_of s 0) ≡ s

-- ---- how many bytes each module has on one side

abbrev pub lengths_by : (Module → ℕ) → Walk → List ℕ
lengths_by side end = []
lengths_by side (bad r) = []
lengths_by side (more m vendor w) = side m ∷ lengths_by side w

abbrev pub input_lengths : List ℕ → List ℕ
input_lengths s = lengths_by input_of (walk_of s 0)

abbrev pub output_lengths : List ℕ → List ℕ
output_lengths s = lengths_by output_of (walk_of s 0)

abbrev pub sum_of : List ℕ → ℕ
sum_of [] = 0
sum_of (x ∷ xs) = x + sum_of xs
