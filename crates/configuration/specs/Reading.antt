-- Reading a whole configuration (document 01, "Configuration"), and the offsets of its modules.
use Rattle.std.specs.Prelude.{List, [], ◌∷◌, ℕ, ◌+◌, length, ltb, Ok, Err, Result}
use Rattle.octets.specs.Choice.{pick}
use Rattle.octets.specs.Front.{over}
use Rattle.configuration.specs.Fields.{length_of}
use Rattle.configuration.specs.Walk.{Walk, end, bad, more, walk_of}
use Rattle.configuration.specs.declared.fields.Module.{Module}
use Rattle.configuration.specs.declared.reading.Reading as totals

-- what reading answers: the totals, or a refusal's number
abbrev pub Reading : Type 0
Reading = Result totals.Reading ℕ

abbrev pub refused : ℕ → Reading
refused k = Err k

-- so many modules, input and output bytes
abbrev pub total : (modules inputs outputs : ℕ) → Reading
total n i o = Ok (record { modules = n; inputs = i; outputs = o })

-- how many bytes a module has on each side
abbrev pub input_of : Module → ℕ
input_of m = length_of m.input

abbrev pub output_of : Module → ℕ
output_of m = length_of m.output

-- how many modules, input and output bytes there are, behind n modules with i and o
unfoldable pub totals_of : (n i o : ℕ) → Walk → Reading
totals_of n i o end = total n i o
totals_of n i o (bad r) = Err r
totals_of n i o (more m vendor w) = totals_of (n + 1) (i + input_of m) (o + output_of m) w

-- 27: over 244 input bytes, or over 244 output bytes
unfoldable pub within_limit : Reading → Reading
within_limit (Ok found) = pick (ltb 244 found.inputs) (refused 27) (pick (ltb 244 found.outputs) (refused 27) (Ok found))
within_limit (Err r) = Err r

-- 20: 1 to 244 bytes
unfoldable pub read_of : List ℕ → Reading
read_of s =
    pick (ltb (length s) 1) (refused 20)
    (pick (ltb 244 (length s)) (refused 20) (within_limit (totals_of 0 0 0 (walk_of s 0))))

-- ---- the offsets

-- The offset of each module on one side, where the modules before have so many bytes there. (`Laws.antt` says what each is.)
unfoldable pub offsets_by : (Module → ℕ) → (before : ℕ) → Walk → List ℕ
offsets_by side a end = []
offsets_by side a (bad r) = []
offsets_by side a (more m vendor w) = a ∷ offsets_by side (a + side m) w

abbrev pub input_offsets : List ℕ → List ℕ
input_offsets s = offsets_by input_of 0 (walk_of s 0)

abbrev pub output_offsets : List ℕ → List ℕ
output_offsets s = offsets_by output_of 0 (walk_of s 0)

-- 11, last: a list with room for fewer offsets than there are modules
unfoldable pub with_room : (inputs outputs : ℕ) → Reading → Reading
with_room a b (Ok found) = pick (ltb a found.modules) (refused 11) (pick (ltb b found.modules) (refused 11) (Ok found))
with_room a b (Err r) = Err r

abbrev pub offsets_of : List ℕ → (inputs outputs : ℕ) → Reading
offsets_of s a b = with_room a b (read_of s)

-- what a lent list holds then: the offsets in front, or what it held
abbrev pub list_by : Reading → (offsets before : List ℕ) → List ℕ
list_by (Ok found) p l = over p l
list_by (Err r) p l = l
