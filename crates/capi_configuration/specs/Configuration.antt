-- Configuration through the C interface, as numbers: the offsets of its modules in two lists, and three totals, its modules,
-- input bytes and output bytes.
use Rattle.std.specs.Prelude.{ℕ, List, [], ◌∷◌, length, Ok, Err}
use Rattle.configuration.specs.Reading.{input_offsets, output_offsets, list_by, Reading}
use Rattle.configuration.specs.Reading as reading

-- what is read with these two lists lent
abbrev pub offsets_of : (s inputs outputs : List ℕ) → Reading
offsets_of s inputs outputs = reading.offsets_of s (length inputs) (length outputs)

abbrev pub refusal_of : Reading → ℕ
refusal_of (Ok found) = 0
refusal_of (Err r) = r

-- what the lent lists and the lent totals hold then
abbrev pub inputs_after : (s inputs outputs : List ℕ) → List ℕ
inputs_after s inputs outputs = list_by (offsets_of s inputs outputs) (input_offsets s) inputs

abbrev pub outputs_after : (s inputs outputs : List ℕ) → List ℕ
outputs_after s inputs outputs = list_by (offsets_of s inputs outputs) (output_offsets s) outputs

abbrev pub totals_after : Reading → (before : List ℕ) → List ℕ
totals_after (Ok found) before = found.modules ∷ found.inputs ∷ found.outputs ∷ []
totals_after (Err r) before = before
