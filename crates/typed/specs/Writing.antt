-- Writing a typed value: its code, then its pattern, high byte first. Only a floating-point value can be refused: a NaN
-- as an `f32`, whose bits cannot be had, and bits that are no NaN's.
use Rattle.std.specs.Prelude.{ℕ, not, List, ◌∷◌}
use Rattle.std.specs.Float.Ieee.{is_nan}
use Rattle.octets.specs.Choice.{pick}
use Rattle.octets.specs.Number.{bytes_of}
use Rattle.octets.specs.Front.{Verdict, fine, fault}
use Rattle.float.specs.Float.{is_nan_pattern}
use Rattle.typed.specs.Value.{width_in, kind_in, code_of, pattern_in}
use Rattle.typed.specs.declared.value.Value.{Value}
use Rattle.typed.specs.declared.value.Value.TheVariants.{Boolean, I8, I16, I32, U8, U16, U32, Float, Nan}

-- may it be written?
abbrev pub verdict_of : Value → Verdict
verdict_of (Boolean b) = fine
verdict_of (I8 z) = fine
verdict_of (I16 z) = fine
verdict_of (I32 z) = fine
verdict_of (U8 n) = fine
verdict_of (U16 n) = fine
verdict_of (U32 n) = fine
verdict_of (Float x) = pick (is_nan x) (fault 12) fine
verdict_of (Nan n) = pick (not (is_nan_pattern n)) (fault 12) fine

abbrev pub bytes_for : Value → List ℕ
bytes_for v = code_of v ∷ bytes_of (width_in (kind_in v)) (pattern_in v)
