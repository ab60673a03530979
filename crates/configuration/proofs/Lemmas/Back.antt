-- What is written reads back.
use Rattle.std.specs.Prelude.{◌≡◌, Bool, true, false, not, List, ◌∷◌, ◌++◌, ℕ, ◌+◌, ◌*◌, ◌/◌, ◌%◌, ◌≤◌, get_or, eqb, ltb}
use Rattle.std.proofs.Math.Path.{refl, ap}
use Rattle.std.proofs.Common.{sym, ap₂, ◌∙◌, append_assoc, length-append}
use Rattle.std.specs.Bool.{beq}
use native.Mathlib.Omega.{arith}
use Rattle.std.proofs.Math.ListN.{length}
use borrow.Author.Tests.{le-ltb, ne_eqb, eqb-true, eqb-false, ltb-false, not-false}
use Rattle.octets.specs.Choice.{pick, ◌and◌}
use Rattle.octets.proofs.Choice.{and_left, and_right, never}
use Rattle.octets.specs.Front.{fine, fault}
use Rattle.octets.proofs.Fixed.{passed}
use Rattle.configuration.specs.Fields.{side_of, general_of, length_byte, special_of}
use Rattle.configuration.specs.Walk.{one, barred, special_in, module_in}
use Rattle.configuration.specs.Writing.{bit, presence, side_byte, good_units, good_side, good_general, general_byte, general_verdict, side_bytes, special_byte, special_bytes, special_verdict, verdict_by, bytes_by, vendor_by}
use Rattle.configuration.proofs.Lemmas.Sides.{bit_small, present_small, Units, units, side_bytes_length}
use Rattle.configuration.specs.declared.fields.Side.{Side}
use Rattle.configuration.specs.declared.fields.Side.TheVariants.{Absent, Present}
use Rattle.configuration.specs.declared.fields.Identifier.{Identifier}
use Rattle.configuration.specs.declared.fields.Identifier.TheVariants.{General, Special}
use Rattle.configuration.specs.declared.fields.Module.{Module}

-- a flag is read off its bit
flag_back : {k : ℕ} (b : Bool) → k ≡ bit b → eqb k 1 ≡ b
flag_back true e = rw e
flag_back false e = rw e

beq_eq : (a b : Bool) → beq a b ≡ true → a ≡ b
beq_eq true true e = refl
beq_eq true false e = sym e
beq_eq false true e = e
beq_eq false false e = refl

-- ---- a byte that has a side's units and flags, and other bits below the flags

side_back : (x other n most : ℕ) (w c : Bool) → x ≡ other + side_byte (Present n w c) → 1 ≤ n → other + n ≤ 64 → x % most + 1 ≡ n
    → side_of (x % most + 1) x ≡ Present n w c
side_back x other n most w c e low h m =
    let ws = bit_small w in
    let cs = bit_small c in
    let high : x / 64 ≡ bit w + 2 * bit c = omega arith in
    let top : x / 128 ≡ bit c = omega arith in
    let b : x / 64 % 2 ≡ bit w = omega arith in
    let d : x / 128 % 2 ≡ bit c = omega arith in
    rw (m, flag_back w b, flag_back c d)

-- ---- the general format

-- with n units of input where p is 1, and of output where q is
module _ (x n p q : ℕ) (w c : Bool) (e : x ≡ 16 * p + 32 * q + side_byte (Present n w c)) (u : Units 16 n) (p1 : p ≤ 1) (q1 : q ≤ 1) where
  quarter : x / 16 ≡ p + 2 * q + 4 * bit w + 8 * bit c
  quarter = omega (arith, u.low, u.high)

  general-back :
      general_of x ≡ record { identifier = General; input = pick (eqb p 1) (Present n w c) Absent; output = pick (eqb q 1) (Present n w c) Absent }
  unfolding general_of
  general-back =
      let a : x / 16 % 2 ≡ p = omega (arith, quarter) in
      let half : x / 32 ≡ q + 2 * bit w + 4 * bit c = omega (arith, u.low, u.high) in
      let b : x / 32 % 2 ≡ q = omega arith in
      let s = side_back x (16 * p + 32 * q) n 16 w c e u.low (omega (arith, u.high)) (omega (arith, quarter, u.low)) in
      rw (a, b, s)

  general_here : 1 ≤ p + q → (r : List ℕ) → get_or r 0 0 ≡ x
      → module_in r ≡ one (record { identifier = General; input = pick (eqb p 1) (Present n w c) Absent; output = pick (eqb q 1) (Present n w c) Absent }) 1 0
  unfolding module_in
  general_here h r g =
      let ne : x / 16 % 4 ≡ 0 → ⊥ = λ z. omega (arith, quarter) in
      rw g (simp (ne_eqb _ _ ne) (ap (λ (k : ℕ). one (general_of k) 1 0) g ∙ ap (λ (m : Module). one m 1 0) general-back))

general_read : (i o : Side) (rest : List ℕ) → good_general i o ≡ true
    → module_in (general_byte i o ∷ rest) ≡ one (record { identifier = General; input = i; output = o }) 1 0
unfolding good_general
general_read Absent Absent rest e = absurd (never e)
general_read Absent (Present n w c) rest e =
    general_here _ n 0 1 w c refl (units 16 n e) (omega arith) (omega arith) (omega arith) _ refl
general_read (Present n w c) Absent rest e =
    general_here _ n 1 0 w c refl (units 16 n e) (omega arith) (omega arith) (omega arith) _ refl
general_read (Present n w c) (Present k x d) rest e =
    let good : Bool = good_units 16 n in
    let third : Bool = beq d c and good in
    let second : Bool = beq x w and third in
    let f = and_right (eqb k n) second e in
    let g = and_right (beq x w) third f in
    let a : k ≡ n = eqb-true k n (and_left (eqb k n) second e) in
    let b : x ≡ w = beq_eq x w (and_left (beq x w) third f) in
    let h : d ≡ c = beq_eq d c (and_left (beq d c) good g) in
    rw (a, b, h) (general_here _ n 1 1 w c refl (units 16 n (and_right (beq d c) good g)) (omega arith) (omega arith) (omega arith) _ refl)

-- ---- the special format

length_back : (side : Side) (y : ℕ) → good_side 64 side ≡ true → (presence side ≡ 1 → y ≡ side_byte side) → length_byte (presence side) y ≡ side
length_back Absent y g e = refl
length_back (Present n w c) y g e =
    let u = units 64 n g in
    let z : y ≡ side_byte (Present n w c) = e refl in
    let m : y % 64 + 1 ≡ n = omega (arith, bit_small w, bit_small c, u.low, u.high) in
    side_back y 0 n 64 w c (omega arith) u.low (omega (arith, u.high)) m

-- where the length bytes stand
at_output : (o : Side) (h : ℕ) (rest : List ℕ) → presence o ≡ 1 → get_or (h ∷ (side_bytes o ++ rest)) 1 0 ≡ side_byte o
at_output Absent h rest e = absurd (omega arith)
at_output (Present n w c) h rest e = refl

at_input : (o i : Side) (h : ℕ) (rest : List ℕ) → presence i ≡ 1 → get_or (h ∷ (side_bytes o ++ (side_bytes i ++ rest))) (1 + presence o) 0 ≡ side_byte i
at_input o Absent h rest e = absurd (omega arith)
at_input Absent (Present n w c) h rest e = refl
at_input (Present k x d) (Present n w c) h rest e = refl

-- the bits of an identifier byte
record Bits (x p q n : ℕ) : Type 0 where
  special : x / 16 % 4 ≡ 0
  count : x % 16 ≡ n
  output : x / 128 % 2 ≡ p
  input : x / 64 % 2 ≡ q

bits : (x p q n : ℕ) → x ≡ 128 * p + 64 * q + n → p ≤ 1 → q ≤ 1 → n ≤ 14 → Bits x p q n
bits x p q n e a b c =
    let quarter : x / 16 ≡ 8 * p + 4 * q = omega arith in
    let high : x / 64 ≡ 2 * p + q = omega arith in
    let top : x / 128 ≡ p = omega arith in
    record { special = omega arith; count = omega arith; output = omega arith; input = omega arith }

module _ (i o : Side) (vendor rest : List ℕ) (go : good_side 64 o ≡ true) (gi : good_side 64 i ≡ true) (small : length vendor ≤ 14) where
  abbrev x : ℕ
  x = special_byte i o vendor

  abbrev r : List ℕ
  r = x ∷ (side_bytes o ++ (side_bytes i ++ (vendor ++ rest)))

  long : 1 + presence o + presence i + length vendor ≤ length r
  long = simp length-append (omega (arith, side_bytes_length i, side_bytes_length o))

  special_in_lem : module_in r ≡ one (record { identifier = Special; input = i; output = o }) (1 + presence o + presence i) (length vendor)
  unfolding module_in special_in special_of
  special_in_lem =
      let b = bits x (presence o) (presence i) (length vendor) refl (present_small o) (present_small i) small in
      let ne : length vendor ≡ barred → ⊥ = λ e. omega (arith, small) in
      simp (b.special, b.count, b.output, b.input, ne_eqb _ _ ne, le-ltb _ _ long)
      (ap₂ (λ (input output : Side). one (record { identifier = Special; input = input; output = output }) (1 + presence o + presence i) (length vendor))
      (length_back i _ gi (at_input o i x (vendor ++ rest)))
      (length_back o _ go (at_output o x (side_bytes i ++ (vendor ++ rest)))))

  special_read : module_in (special_bytes i o vendor ++ rest) ≡ one (record { identifier = Special; input = i; output = o }) (1 + presence o + presence i) (length vendor)
  unfolding special_bytes
  special_read = rw (append_assoc, append_assoc) special_in_lem

-- ---- a module

-- the general format has no vendor bytes
pub no_vendor : (i o : Side) (vendor : List ℕ) → general_verdict i o vendor ≡ fine → 0 ≡ length vendor
unfolding general_verdict
no_vendor i o vendor e =
    let a = passed 20 (ltb 0 (length vendor)) (pick (not (good_general i o)) (fault 21) fine) e in
    omega (arith, ltb-false 0 (length vendor) a.0)

-- whatever follows it
pub module_read : (k : Identifier) (i o : Side) (vendor rest : List ℕ) → verdict_by k i o vendor ≡ fine
    → module_in (bytes_by k i o vendor ++ rest) ≡ one (record { identifier = k; input = i; output = o }) (vendor_by k i o) (length vendor)
unfolding general_verdict special_verdict
module_read General i o vendor rest e =
    let a = passed 20 (ltb 0 (length vendor)) (pick (not (good_general i o)) (fault 21) fine) e in
    general_read i o rest (not-false (good_general i o) (passed 21 (not (good_general i o)) fine a.1).0)
    ∙ ap (one (record { identifier = General; input = i; output = o }) 1) (no_vendor i o vendor e)
module_read Special i o vendor rest e =
    let last = pick (not (good_side 64 i)) (fault 21) fine in
    let sides = pick (not (good_side 64 o)) (fault 21) last in
    let a = passed 21 (ltb 15 (length vendor)) (pick (eqb (length vendor) 15) (fault 26) sides) e in
    let b = passed 26 (eqb (length vendor) 15) sides a.1 in
    let c = passed 21 (not (good_side 64 o)) last b.1 in
    let d = passed 21 (not (good_side 64 i)) fine c.1 in
    let few : length vendor ≤ 14 = omega (arith, ltb-false 15 (length vendor) a.0, eqb-false (length vendor) 15 b.0) in
    special_read i o vendor rest (not-false (good_side 64 o) c.0) (not-false (good_side 64 i) d.0) few
