-- Reading a typed value, in document 01's order: an empty value, the code, the length, the byte of a Boolean.
use Rattle.std.specs.Prelude.{ℕ, ◌+◌, Bool, true, false, not, List, length, get_or, drop, eqb, leb, Ok, Err, Result}
use Rattle.octets.specs.Choice.{pick, ◌and◌, ◌or◌}
use Rattle.octets.specs.Number.{number_of}
use Rattle.typed.specs.declared.value.Value.{Value}
use Rattle.typed.specs.Value.{boolean, floating, code_in, kind_of, width_of, boolean_byte, value_of}

-- what reading answers: the value, or a refusal's number
abbrev pub Reading : Type 0
Reading = Result Value ℕ

-- codes 1..8
abbrev pub good_code : ℕ → Bool
good_code c = not (eqb c 0) and leb c (code_in floating)

-- the byte of a Boolean is that of false or of true
abbrev pub good_boolean : (code first : ℕ) → Bool
good_boolean c x = not (eqb c (code_in boolean)) or eqb x (boolean_byte false) or eqb x (boolean_byte true)

abbrev pub refused : ℕ → Reading
refused k = Err k

unfoldable pub read_of : List ℕ → Reading
read_of s =
    pick (eqb (length s) 0) (refused 20)
    (pick (not (good_code (get_or s 0 0))) (refused 29)
    (pick (not (eqb (length s) (1 + width_of (get_or s 0 0)))) (refused 20)
    (pick (not (good_boolean (get_or s 0 0) (get_or s 1 0))) (refused 29)
    (Ok (value_of (kind_of (get_or s 0 0)) (number_of (drop 1 s)))))))
