-- A signed number by its two's complement, once for every width.
use Rattle.std.specs.Prelude.{◌≡◌, true, false, ℕ, ◌-◌, ◌<◌, ◌≤◌, ◌^◌, T, ℤ, pos, negsuc, nat_abs}
use Rattle.std.proofs.Common.{ap, ◌∙◌, subst, arith, lit<, ltb-true, to_z-of_z}
use Rattle.std.specs.Int.Signed.{mag, lt_z, non_neg}
use Rattle.std.specs.Int.{Width, w8, w16, w32, w64, w128}
use mir.Val.{Fits, SFits, bits, hbits, to_z, of_z}
use Rattle.std.proofs.Math.Facts.{to_z_pos, Fits-of_z}

-- the greatest pattern
abbrev pub ones : Width → ℕ
ones w = 2 ^ bits w - 1

-- its complement twice is the pattern
pub twice : (w : Width) {n : ℕ} → Fits w n → ones w - (ones w - n) ≡ n
twice w f = omega (arith, f.fits)

half : (w : Width) → 2 ^ hbits w < 2 ^ bits w
half w8 = lit< tt
half w16 = lit< tt
half w32 = lit< tt
half w64 = lit< tt
half w128 = lit< tt

-- a number that is not negative is cast as it is
cast : (w : Width) (z : ℤ) (n : ℕ) → z ≡ pos n → n < 2 ^ bits w → T (non_neg z) × Fits w (nat_abs z)
cast w z n e h = rw e (tt, record { fits = h })

module _ (w : Width) (z : ℤ) (f : SFits w z) where
  low : of_z w z < 2 ^ bits w
  low = (Fits-of_z {w = w} {z = z} f).fits

  -- a negative number's complement is not negative
  module _ (negative : lt_z (to_z w (of_z w z)) (pos 0) ≡ true) where
    flipped : to_z w (ones w - of_z w z) ≡ pos (ones w - of_z w z)
    flipped = by z f (rw (to_z-of_z {w = w} {z = z} f) at negative)
      where
        by : (y : ℤ) → SFits w y → lt_z y (pos 0) ≡ true → to_z w (ones w - of_z w y) ≡ pos (ones w - of_z w y)
        by (pos n) g t = absurd (let h : n < 0 = ltb-true n 0 t in omega arith)
        by (negsuc k) g t = to_z_pos w (omega (arith, half w, g.sfits))

    pub flipped_fits : T (non_neg (to_z w (ones w - of_z w z))) × Fits w (nat_abs (to_z w (ones w - of_z w z)))
    flipped_fits = cast w (to_z w (ones w - of_z w z)) (ones w - of_z w z) flipped (omega (arith, low))

    pub flipped_below : nat_abs (to_z w (ones w - of_z w z)) ≤ ones w
    flipped_below = omega (arith, ap nat_abs flipped)

    pub flipped_back : ones w - nat_abs (to_z w (ones w - of_z w z)) ≡ of_z w z
    flipped_back = omega (arith, ap nat_abs flipped, low)

  -- any other number is its own pattern
  module _ (positive : lt_z (to_z w (of_z w z)) (pos 0) ≡ false) where
    kept : to_z w (of_z w z) ≡ pos (of_z w z)
    kept = by z f (rw (to_z-of_z {w = w} {z = z} f) at positive)
      where
        by : (y : ℤ) → SFits w y → lt_z y (pos 0) ≡ false → to_z w (of_z w y) ≡ pos (of_z w y)
        by (pos n) g t = to_z-of_z g
        by (negsuc k) g t = absurd (subst T t tt)

    pub kept_fits : T (non_neg (to_z w (of_z w z))) × Fits w (nat_abs (to_z w (of_z w z)))
    kept_fits = cast w (to_z w (of_z w z)) (of_z w z) kept low

    pub kept_back : nat_abs (to_z w (of_z w z)) ≡ of_z w z
    kept_back = ap nat_abs kept

-- a signed number passes into a value and out of it by its pattern
module _ (w : Width) (z : ℤ) (small : mag z < 2 ^ hbits w) where
  pub into : to_z w (of_z w z) ≡ z
  into = to_z-of_z (record { sfits = small })

  pub out_of : {n : ℕ} → n ≡ of_z w (to_z w (of_z w z)) → n ≡ of_z w z
  out_of e = e ∙ ap (of_z w) into
