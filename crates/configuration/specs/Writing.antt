-- Writing a module, and a whole configuration (document 01, "Configuration"): the bytes, and which fields may be written. A
-- field that does not fit its bits gives 21, at its byte's place in the order.
use Rattle.std.specs.Prelude.{Bool, true, false, not, List, [], ◌∷◌, ◌++◌, ℕ, ◌+◌, ◌-◌, ◌*◌, length, eqb, ltb, leb, Ok, Err}
use Rattle.std.specs.Bool.{beq}
use Rattle.octets.specs.Choice.{pick, ◌and◌}
use Rattle.octets.specs.Front.{Verdict, fine, fault}
use Rattle.configuration.specs.Fields.{input_bit, output_bit, most_units, words_bit, consistency_bit}
use Rattle.configuration.specs.Reading.{read_of, Reading}
use Rattle.configuration.specs.declared.fields.Side.{Side}
use Rattle.configuration.specs.declared.fields.Side.TheVariants.{Absent, Present}
use Rattle.configuration.specs.declared.fields.Identifier.{Identifier}
use Rattle.configuration.specs.declared.fields.Identifier.TheVariants.{General, Special}
use Rattle.configuration.specs.declared.fields.Module.{Module}

-- ---- one side

abbrev pub bit : Bool → ℕ
bit true = 1
bit false = 0

abbrev pub presence : Side → ℕ
presence Absent = 0
presence (Present n w c) = 1

-- the units less 1, and the bits for words and for consistency
abbrev pub side_byte : Side → ℕ
side_byte Absent = 0
side_byte (Present n w c) = n - 1 + words_bit * bit w + consistency_bit * bit c

-- how many units there may be
abbrev pub good_units : (most n : ℕ) → Bool
good_units most n = not (eqb n 0) and leb n most

abbrev pub good_side : (most : ℕ) → Side → Bool
good_side most Absent = true
good_side most (Present n w c) = good_units most n

-- ---- the general format

-- it has one side, or two that are alike
unfoldable pub good_general : (input output : Side) → Bool
good_general Absent Absent = false
good_general Absent (Present n w c) = good_units (most_units General) n
good_general (Present n w c) Absent = good_units (most_units General) n
good_general (Present n w c) (Present k x d) = eqb k n and beq x w and beq d c and good_units (most_units General) n

abbrev pub either_side : (input output : Side) → Side
either_side Absent o = o
either_side (Present n w c) o = Present n w c

abbrev pub general_byte : (input output : Side) → ℕ
general_byte i o = input_bit General * presence i + output_bit General * presence o + side_byte (either_side i o)

-- it has no vendor bytes: any that are given come before its byte's fault
unfoldable pub general_verdict : (input output : Side) (vendor : List ℕ) → Verdict
general_verdict i o vendor = pick (ltb 0 (length vendor)) (fault 20) (pick (not (good_general i o)) (fault 21) fine)

-- ---- the special format

abbrev pub side_bytes : Side → List ℕ
side_bytes Absent = []
side_bytes (Present n w c) = side_byte (Present n w c) ∷ []

abbrev pub special_byte : (input output : Side) (vendor : List ℕ) → ℕ
special_byte i o vendor = output_bit Special * presence o + input_bit Special * presence i + length vendor

-- the identifier, output's length byte, input's, the vendor bytes
unfoldable pub special_bytes : (input output : Side) (vendor : List ℕ) → List ℕ
special_bytes i o vendor = special_byte i o vendor ∷ (side_bytes o ++ (side_bytes i ++ vendor))

-- the vendor count fits its four bits, and is not 15
unfoldable pub special_verdict : (input output : Side) (vendor : List ℕ) → Verdict
special_verdict i o vendor =
    pick (ltb 15 (length vendor)) (fault 21)
    (pick (eqb (length vendor) 15) (fault 26)
    (pick (not (good_side (most_units Special) o)) (fault 21) (pick (not (good_side (most_units Special) i)) (fault 21) fine)))

-- ---- a module

abbrev pub verdict_by : Identifier → (input output : Side) (vendor : List ℕ) → Verdict
verdict_by General i o vendor = general_verdict i o vendor
verdict_by Special i o vendor = special_verdict i o vendor

abbrev pub module_verdict : Module → (vendor : List ℕ) → Verdict
module_verdict m vendor = verdict_by m.identifier m.input m.output vendor

abbrev pub bytes_by : Identifier → (input output : Side) (vendor : List ℕ) → List ℕ
bytes_by General i o vendor = general_byte i o ∷ []
bytes_by Special i o vendor = special_bytes i o vendor

abbrev pub module_bytes : Module → (vendor : List ℕ) → List ℕ
module_bytes m vendor = bytes_by m.identifier m.input m.output vendor

-- where the vendor bytes begin
abbrev pub vendor_by : Identifier → (input output : Side) → ℕ
vendor_by General i o = 1
vendor_by Special i o = 1 + presence o + presence i

abbrev pub vendor_start : Module → ℕ
vendor_start m = vendor_by m.identifier m.input m.output

-- ---- a whole configuration: what reading would refuse is not written

abbrev pub verdict_in : Reading → Verdict
verdict_in (Ok found) = fine
verdict_in (Err r) = fault r

abbrev pub verdict_of : (modules : List ℕ) → Verdict
verdict_of s = verdict_in (read_of s)
