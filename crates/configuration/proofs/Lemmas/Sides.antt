-- Sides that may be written, and the bytes that say them.
use Rattle.std.specs.Prelude.{◌≡◌, refl, Bool, true, false, not, List, ℕ, ◌+◌, ◌≤◌, length, eqb, leb}
use Rattle.std.specs.Bool.{beq}
use Rattle.std.proofs.Common.{arith, length-append, leb-true, le-leb, ne_eqb}
use Rattle.std.proofs.lemmas.Bool.{eqb-false, not-true}
use Rattle.octets.specs.Choice.{◌and◌}
use Rattle.octets.proofs.Choice.{and_left, and_right, never}
use Rattle.configuration.specs.Writing.{bit, presence, side_byte, good_units, good_side, good_general, either_side, side_bytes, special_bytes}
use Rattle.configuration.specs.declared.fields.Side.{Side}
use Rattle.configuration.specs.declared.fields.Side.TheVariants.{Absent, Present}

pub bit_small : (b : Bool) → bit b ≤ 1
bit_small true = omega arith
bit_small false = omega arith

pub present_small : (side : Side) → presence side ≤ 1
present_small Absent = omega arith
present_small (Present n w c) = omega arith

-- ---- units

pub record Units (most n : ℕ) : Type 0 where
  pub low : 1 ≤ n
  pub high : n ≤ most

pub units : (most n : ℕ) → good_units most n ≡ true → Units most n
units most n e =
    let some : n ≡ 0 → ⊥ = eqb-false n 0 (not-true (eqb n 0) (and_left (not (eqb n 0)) (leb n most) e)) in
    record { low = omega arith; high = leb-true n most (and_right (not (eqb n 0)) (leb n most) e) }

pub good_units_lem : (most n : ℕ) → 1 ≤ n → n ≤ most → good_units most n ≡ true
good_units_lem most n a b =
    let some : n ≡ 0 → ⊥ = λ e. omega arith in
    simp (ne_eqb _ _ some, le-leb _ _ b)

-- ---- a side's byte: the units and two bits

pub side_byte_small : (most : ℕ) (side : Side) → 1 ≤ most → good_side most side ≡ true → side_byte side + 1 ≤ most + 192
side_byte_small most Absent h e = omega arith
side_byte_small most (Present n w c) h e = omega (arith, units most n e, bit_small w, bit_small c)

-- ---- the sides of the general format

pub either_good : (i o : Side) → good_general i o ≡ true → good_side 16 (either_side i o) ≡ true
unfolding good_general
either_good Absent Absent e = absurd (never e)
either_good Absent (Present n w c) e = e
either_good (Present n w c) Absent e = e
either_good (Present n w c) (Present k x d) e =
    let good : Bool = good_units 16 n in
    let flags : Bool = beq d c and good in
    and_right (beq d c) good (and_right (beq x w) flags (and_right (eqb k n) (beq x w and flags) e))

pub wider : (side : Side) → good_side 16 side ≡ true → good_side 64 side ≡ true
wider Absent e = refl
wider (Present n w c) e =
    let u = units 16 n e in
    good_units_lem 64 n u.low (omega (arith, u.high))

-- ---- lengths

pub side_bytes_length : (side : Side) → length (side_bytes side) ≡ presence side
side_bytes_length Absent = refl
side_bytes_length (Present n w c) = refl

pub special_length_lem : (i o : Side) (vendor : List ℕ) → length (special_bytes i o vendor) ≡ 1 + presence o + presence i + length vendor
unfolding special_bytes
special_length_lem i o vendor = simp length-append (omega (arith, side_bytes_length i, side_bytes_length o))
