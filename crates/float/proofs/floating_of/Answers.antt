-- `float::floating_of` meets its contract: a pattern that is no NaN's is made a number.
use mathlib.Core.Path.{◌≡◌, sym, ◌∙◌}
use mathlib.Core.Bool.{false}
use Rattle.float.specs.Float.{is_nan_pattern}
use Rattle.float.proofs.floating_of.Goals as goal

pub returns-then-is_nan_pattern : goal.returns-then-is_nan_pattern
returns-then-is_nan_pattern c = simp (sym c.is_nan_pattern.ensures ∙ c.if-is_nan_pattern.true)

pub float_from_bits-result : goal.float_from_bits-result
float_from_bits-result c =
    let number : is_nan_pattern c.args.bits ≡ false = sym c.is_nan_pattern.ensures ∙ c.if-is_nan_pattern.false in
    rw number tt

pub returns : goal.returns
returns c =
    let number : is_nan_pattern c.args.bits ≡ false = sym c.is_nan_pattern.ensures ∙ c.if-is_nan_pattern.false in
    simp number
