-- Patterns of 32 bits and the floating-point numbers that they stand for (IEEE 754, binary32), and that both come back.
use Rattle.std.specs.Prelude.{ℕ, ◌<◌, ◌^◌, ◌≡◌, refl, Bool, true, false, not, T, Float, Some, None}
use Rattle.std.proofs.Common.{sym, ap, ◌∙◌, subst}
use Rattle.std.specs.Float.{binary32}
use Rattle.std.specs.Float.Ieee.{fits, nan_bits, of_bits, to_bits, is_nan}
use Rattle.std.specs.Float.Ieee.Bits.{to_bits-of_bits, of_bits-to_bits, nan_bits_is}
use Rattle.octets.specs.Choice.{pick}
use Rattle.float.specs.declared.Floating.TheVariants.{Number, Nan}
use Rattle.float.specs.Float.{is_nan_pattern, floating_of, pattern_of, bits_in}

-- ---- laws
-- what the pattern of a number tells of it
unknown_by : (b : Bool) (n : ℕ) → pick b None (Some n) ≡ None → b ≡ true
unknown_by true n e = refl
unknown_by false n e = cc

known_by : (b : Bool) (n m : ℕ) → pick b None (Some n) ≡ Some m → (b ≡ false) × (n ≡ m)
known_by true n m e = (cc, cc)
known_by false n m e = (refl, cc)

pub unknown : (x : Float) → pattern_of x ≡ None → is_nan x ≡ true
unknown x e = unknown_by (is_nan x) (to_bits binary32 x) e

pub known : (x : Float) {n : ℕ} → pattern_of x ≡ Some n → (is_nan x ≡ false) × (to_bits binary32 x ≡ n)
known x {n} e = known_by (is_nan x) (to_bits binary32 x) n e

module _ (n : ℕ) (word : n < 2 ^ 32) where
  number_pattern : (b : Bool) → nan_bits binary32 n ≡ b → bits_in (pick b (Nan n) (Number (of_bits binary32 n))) ≡ Some n
  number_pattern true e = refl
  number_pattern false e =
      let number : is_nan (of_bits binary32 n) ≡ false = sym (nan_bits_is binary32 n) ∙ e in
      rw number (ap Some (to_bits-of_bits binary32 n word (subst (λ (b : Bool). T (not b)) (sym number) tt)))

  -- every pattern of 32 bits comes back, a NaN's too
  pub pattern_back : bits_in (floating_of n) ≡ Some n
  pattern_back = number_pattern (nan_bits binary32 n) refl

-- every number that is no NaN comes back
pub number_back : (x : Float) → T (fits binary32 x) → is_nan x ≡ false → floating_of (to_bits binary32 x) ≡ Number x
number_back x f e =
    let same : of_bits binary32 (to_bits binary32 x) ≡ x = of_bits-to_bits binary32 x f in
    let number : is_nan_pattern (to_bits binary32 x) ≡ false = nan_bits_is binary32 (to_bits binary32 x) ∙ ap is_nan same ∙ e in
    rw (number, same)
