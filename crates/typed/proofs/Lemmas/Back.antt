-- From a value to its bytes and back.
use Rattle.std.specs.Prelude.{ℕ, ◌<◌, ◌^◌, ◌≡◌, refl, true, false, not, ℤ, Ok}
use Rattle.std.proofs.Common.{ap, ap₂, ◌∙◌, lit<, to_z-of_z}
use Rattle.std.specs.Float.{binary32}
use Rattle.std.specs.Float.Ieee.{is_nan}
use Rattle.std.specs.Float.Ieee.Bits.{to_bits-lt}
use Rattle.std.specs.Int.{Width, w8, w16, w32}
use mir.Val.{SFits, bits, of_z}
use Rattle.std.proofs.Math.Facts.{Fits-of_z}
use Rattle.std.proofs.lemmas.Bool.{not-false}
use Rattle.octets.specs.Number.{number_of, bytes_of}
use Rattle.octets.proofs.Number.{number_bytes}
use Rattle.octets.specs.Front.{fine}
use Rattle.octets.proofs.Fixed.{passed}
use Rattle.float.specs.Float.{is_nan_pattern}
use Rattle.float.proofs.Float.{number_back}
use Rattle.typed.specs.Value.{one, two, four, Kind, boolean, signed, unsigned, floating, code_in, kind_of, width_in, kind_in, code_of, pattern_in, InRange, floating_value, value_of}
use Rattle.typed.specs.Reading.{read_of}
use Rattle.typed.specs.Writing.{verdict_of, bytes_for}
use Rattle.typed.specs.declared.value.Value.{Value}
use Rattle.typed.specs.declared.value.Value.TheVariants.{Boolean, I8, I16, I32, U8, U16, U32, Float, Nan}

-- each kind is that of its code
pub kind_back : (k : Kind) → kind_of (code_in k) ≡ k
unfolding kind_of
kind_back boolean = refl
kind_back (signed one) = refl
kind_back (signed two) = refl
kind_back (signed four) = refl
kind_back (unsigned one) = refl
kind_back (unsigned two) = refl
kind_back (unsigned four) = refl
kind_back floating = refl

-- the pattern of a signed number fits its width
signed_small : (w : Width) (z : ℤ) → SFits w z → of_z w z < 2 ^ bits w
signed_small w z r = (Fits-of_z {w = w} {z = z} r).fits

-- so the pattern of a value fits the bytes behind its code
pattern_small : (v : Value) → InRange v → pattern_in v < 256 ^ width_in (kind_in v)
pattern_small (Boolean true) r = lit< tt
pattern_small (Boolean false) r = lit< tt
pattern_small (I8 z) r = signed_small w8 z r
pattern_small (I16 z) r = signed_small w16 z r
pattern_small (I32 z) r = signed_small w32 z r
pattern_small (U8 n) r = r
pattern_small (U16 n) r = r
pattern_small (U32 n) r = r
pattern_small (Float x) r = to_bits-lt binary32 x r
pattern_small (Nan n) r = r

-- a value that may be written is the value of its kind and its pattern
value_back : (v : Value) → InRange v → verdict_of v ≡ fine → value_of (kind_in v) (pattern_in v) ≡ v
unfolding value_of
value_back (Boolean true) r e = refl
value_back (Boolean false) r e = refl
value_back (I8 z) r e = ap I8 (to_z-of_z r)
value_back (I16 z) r e = ap I16 (to_z-of_z r)
value_back (I32 z) r e = ap I32 (to_z-of_z r)
value_back (U8 n) r e = refl
value_back (U16 n) r e = refl
value_back (U32 n) r e = refl
value_back (Float x) r e = ap floating_value (number_back x r (passed 12 (is_nan x) fine e).0)
value_back (Nan n) r e = simp (not-false (is_nan_pattern n) (passed 12 (not (is_nan_pattern n)) fine e).0)

-- its bytes pass every test of the reader
accepted : (v : Value) → read_of (bytes_for v) ≡ Ok (value_of (kind_of (code_of v)) (number_of (bytes_of (width_in (kind_in v)) (pattern_in v))))
unfolding kind_of read_of
accepted (Boolean true) = refl
accepted (Boolean false) = refl
accepted (I8 z) = refl
accepted (I16 z) = refl
accepted (I32 z) = refl
accepted (U8 n) = refl
accepted (U16 n) = refl
accepted (U32 n) = refl
accepted (Float x) = refl
accepted (Nan n) = refl

pub back : (v : Value) → InRange v → verdict_of v ≡ fine → read_of (bytes_for v) ≡ Ok v
back v r e =
    accepted v
    ∙ ap₂ (λ (k : Kind) (n : ℕ). Ok (value_of k n)) (kind_back (kind_in v)) (number_bytes (width_in (kind_in v)) (pattern_in v) (pattern_small v r))
    ∙ ap Ok (value_back v r e)
