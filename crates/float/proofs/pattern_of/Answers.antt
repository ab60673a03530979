-- `float::pattern_of` meets its contract: a NaN alone differs from itself.
use mathlib.Core.Path.{◌≡◌, refl, sym, subst}
use mathlib.Core.Bool.{true, false}
use lib.Dec.{T}
use lib.Ieee.{Float, nan, inf, fin, is_nan, ne, eq}
use lib.Ieee.Compare.{differs_from_itself}
use Rattle.float.proofs.pattern_of.Goals as goal

differs : (x : Float) → ne x x ≡ true → is_nan x ≡ true
unfolding is_nan
differs x e = rw (differs_from_itself x (subst T (sym e) tt))

same : (x : Float) → ne x x ≡ false → is_nan x ≡ false
unfolding is_nan ne eq
same nan e = e
same (inf s) e = refl
same (fin s m k) e = refl

pub returns-then-number : goal.returns-then-number
returns-then-number c = simp (differs _ c.if-number.true)

pub float_to_bits-result : goal.float_to_bits-result
float_to_bits-result c = rw (same _ c.if-number.false) tt

pub returns : goal.returns
returns c = simp (same _ c.if-number.false)
