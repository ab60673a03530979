-- What is read, written again, gives the same bytes.
use Rattle.std.specs.Prelude.{◌≡◌, refl, Bool, true, false, get_or, drop, eqb, ltb}
use Rattle.std.proofs.Math.Path.{sym, ap}
use Rattle.std.proofs.Common.{ap₂, ◌∙◌, subst, length-drop, drop-drop, take-add, length-take-le}
use Rattle.std.specs.Bool.{beq}
use mathlib.Core.List.{List, [], ◌∷◌, ◌++◌}
use Prim.Native.Nat.{ℕ, ◌+◌, ◌*◌, ◌/◌, ◌%◌, ◌≤◌, ◌<◌}
use native.Mathlib.Omega.{arith}
use Rattle.std.proofs.Math.ListN.{length, take}
use borrow.Author.Tests.{eq-eqb, ne_eqb, eqb-true, eqb-false, ltb-false, le-leb, le-ltb}
use Rattle.octets.specs.Choice.{pick}
use Rattle.octets.proofs.Choice.{by_pick}
use Rattle.octets.specs.Bytes.{Bytes}
use Rattle.octets.proofs.Elements.{part_elements}
use Rattle.octets.specs.Part.{part_of}
use Rattle.octets.specs.Front.{fine}
use Rattle.configuration.specs.Fields.{side_of, general_of, length_byte, special_of}
use Rattle.configuration.specs.Walk.{Found, one, unfit, front_of, barred, special_in, module_by, module_in}
use Rattle.configuration.specs.Writing.{bit, presence, side_byte, good_side, good_general, general_byte, general_verdict, side_bytes, special_bytes, special_verdict, module_verdict, module_bytes}
use Rattle.configuration.proofs.Lemmas.Sides.{Units, good_units_lem}
use Rattle.configuration.proofs.Lemmas.Steps.{by_format}
use Rattle.configuration.specs.declared.fields.Side.{Side}
use Rattle.configuration.specs.declared.fields.Side.TheVariants.{Absent, Present}
use Rattle.configuration.specs.declared.fields.Identifier.{Identifier}
use Rattle.configuration.specs.declared.fields.Module.{Module}

-- a bit is read as a flag
flag_again : (k : ℕ) → k ≤ 1 → bit (eqb k 1) ≡ k
flag_again k h =
    by_flag (eqb k 1) refl
  where
    by_flag : (b : Bool) → eqb k 1 ≡ b → bit b ≡ k
    by_flag true e = sym (eqb-true k 1 e)
    by_flag false e = let ne : k ≡ 1 → ⊥ = eqb-false k 1 e in omega arith

beq_same : (b : Bool) → beq b b ≡ true
beq_same true = refl
beq_same false = refl

-- the byte of a side that was read off byte x
side_byte_again : (n x : ℕ) → side_byte (side_of (n + 1) x) ≡ n + 64 * (x / 64 % 2) + 128 * (x / 128 % 2)
side_byte_again n x =
    let a = flag_again (x / 64 % 2) (omega arith) in
    let b = flag_again (x / 128 % 2) (omega arith) in
    rw (a, b) (omega arith)

-- ---- the general format

-- with a side as input where a holds, and as output where b does
general_again : (a b w c : Bool) (n : ℕ) → Units 16 n → 1 ≤ bit a + bit b
    → (good_general (pick a (Present n w c) Absent) (pick b (Present n w c) Absent) ≡ true)
    × (general_byte (pick a (Present n w c) Absent) (pick b (Present n w c) Absent) ≡ 16 * bit a + 32 * bit b + side_byte (Present n w c))
unfolding good_general
general_again true true w c n u h =
    (simp (eq-eqb n n refl, beq_same, good_units_lem 16 n u.low u.high), refl)
general_again true false w c n u h = (good_units_lem 16 n u.low u.high, refl)
general_again false true w c n u h = (good_units_lem 16 n u.low u.high, refl)
general_again false false w c n u h = absurd (omega arith)

-- a byte is its bits
from_halves : (x a b c d r p q s t : ℕ) → x ≡ 16 * a + r → a ≡ 2 * b + p → b ≡ 2 * c + q → c ≡ 2 * d + s → d ≡ t
    → 16 * p + 32 * q + (r + 64 * s + 128 * t) ≡ x
from_halves x a b c d r p q s t e0 e1 e2 e3 e4 = omega arith

bits_again : (x : ℕ) → x < 256 → 16 * (x / 16 % 2) + 32 * (x / 32 % 2) + (x % 16 + 64 * (x / 64 % 2) + 128 * (x / 128 % 2)) ≡ x
bits_again x h =
    let a : x / 16 ≡ 2 * (x / 32) + x / 16 % 2 = omega arith in
    let b : x / 32 ≡ 2 * (x / 64) + x / 32 % 2 = omega arith in
    let c : x / 64 ≡ 2 * (x / 128) + x / 64 % 2 = omega arith in
    from_halves x (x / 16) (x / 32) (x / 64) (x / 128) (x % 16) (x / 16 % 2) (x / 32 % 2) (x / 64 % 2) (x / 128 % 2)
    (omega arith) a b c (omega arith)

-- bits 5-4
two_bits : (x : ℕ) → x / 16 % 4 ≡ x / 16 % 2 + 2 * (x / 32 % 2)
two_bits x =
    let a : x / 16 ≡ 2 * (x / 32) + x / 16 % 2 = omega arith in
    let b : x / 32 ≡ 2 * (x / 64) + x / 32 % 2 = omega arith in
    let c : x / 16 ≡ 4 * (x / 64) + x / 16 % 4 = omega arith in
    omega arith

-- ---- the special format

low_again : (y : ℕ) → y < 256 → side_byte (side_of (y % 64 + 1) y) ≡ y
low_again y h =
    let c : y / 64 ≡ 2 * (y / 128) + y / 64 % 2 = omega arith in
    let d : y / 128 % 2 ≡ y / 128 = omega arith in
    side_byte_again (y % 64) y ∙ omega arith

-- a length byte that follows where b is 1, as it stands at a place
module _ (r : List ℕ) (k b : ℕ) where
  record LengthAgain (side : Side) : Type 0 where
    good : good_side 64 side ≡ true
    counts : presence side ≡ b
    bytes : side_bytes side ≡ take b (drop k r)

  length_again : b ≤ 1 → k + b ≤ length r → get_or r k 0 < 256 → LengthAgain (length_byte b (get_or r k 0))
  length_again small fits byte =
      let y : ℕ = get_or r k 0 in
      by_pick LengthAgain (eqb b 1)
      (λ e.
      let once : b ≡ 1 = eqb-true b 1 e in
      record {
        good = good_units_lem 64 (y % 64 + 1) (omega arith) (omega arith);
        counts = sym once;
        bytes = ap (λ (z : ℕ). z ∷ []) (low_again y byte) ∙ sym (part_elements 1 k r (omega arith)) ∙ ap (λ (j : ℕ). take j (drop k r)) (sym once);
      })
      (λ e.
      let ne : b ≡ 1 → ⊥ = eqb-false b 1 e in
      let none : b ≡ 0 = omega arith in
      record { good = refl; counts = sym none; bytes = ap (λ (j : ℕ). take j (drop k r)) (sym none) })

-- ---- a module at the front of bytes

pub record FrontAgain (r : List ℕ) (m : Module) (start len : ℕ) : Type 0 where
  pub taken : module_verdict m (part_of r start len) ≡ fine
  pub same : module_bytes m (part_of r start len) ≡ take (start + len) r

abbrev AgainIf : List ℕ → Found → Type 0
AgainIf r (one m start len) = FrontAgain r m start len
AgainIf r (unfit k) = Unit

module _ (r : List ℕ) (some : 1 ≤ length r) (bytes : Bytes r) where
  abbrev x : ℕ
  x = get_or r 0 0

  first_again : take 1 r ≡ x ∷ []
  first_again = part_elements 1 0 r some

  -- the general format
  general_here : (x / 16 % 4 ≡ 0 → ⊥) → FrontAgain r (general_of x) 1 0
  unfolding general_of general_verdict part_of
  general_here ne =
      let p : ℕ = x / 16 % 2 in
      let q : ℕ = x / 32 % 2 in
      let a = flag_again p (omega arith) in
      let b = flag_again q (omega arith) in
      let set : 1 ≤ p + q = omega (arith, two_bits x) in
      let g =
      general_again (eqb p 1) (eqb q 1) (eqb (x / 64 % 2) 1) (eqb (x / 128 % 2) 1) (x % 16 + 1)
      (record { low = omega arith; high = omega arith }) (omega arith)
      in
      let whole : 1 + 0 ≤ length r = omega arith in
      record {
        taken = simp (g.0, le-leb _ _ whole);
        same =
            ap (λ (z : ℕ). z ∷ []) (g.1 ∙ rw (a, b) (ap (λ (z : ℕ). 16 * p + 32 * q + z) (side_byte_again (x % 16) x)) ∙ bits_again x (bytes 0))
            ∙ sym first_again;
      }

  -- the special format
  module _ (special : x / 16 % 4 ≡ 0) (ne : x % 16 ≡ barred → ⊥) (fits : front_of x + x % 16 ≤ length r) where
    abbrev p : ℕ
    p = x / 128 % 2

    abbrev q : ℕ
    q = x / 64 % 2

    abbrev n : ℕ
    n = x % 16

    abbrev vendor : List ℕ
    vendor = take n (drop (1 + p + q) r)

    output : LengthAgain r 1 p (length_byte p (get_or r 1 0))
    output = length_again r 1 p (omega arith) (omega arith) (bytes 1)

    input : LengthAgain r (1 + p) q (length_byte q (get_or r (1 + p) 0))
    input = length_again r (1 + p) q (omega arith) (omega arith) (bytes (1 + p))

    vendor_is : part_of r (1 + p + q) n ≡ vendor
    unfolding part_of
    vendor_is = simp (le-leb _ _ fits)

    vendor_long : length vendor ≡ n
    vendor_long = length-take-le n (drop (1 + p + q) r) (simp length-drop (omega arith))

    -- what follows the identifier
    rest_is : take p (drop 1 r) ++ (take q (drop (1 + p) r) ++ vendor) ≡ take (p + (q + n)) (drop 1 r)
    rest_is =
        ap (λ (l : List ℕ). take p (drop 1 r) ++ l)
        (ap (λ (l : List ℕ). take q (drop (1 + p) r) ++ take n l) (sym (drop-drop q (1 + p) r))
        ∙ sym (take-add q n (drop (1 + p) r))
        ∙ ap (take (q + n)) (sym (drop-drop p 1 r)))
        ∙ sym (take-add p (q + n) (drop 1 r))

    -- the identifier
    head : 128 * presence (length_byte p (get_or r 1 0)) + 64 * presence (length_byte q (get_or r (1 + p) 0)) + length vendor ≡ x
    head = rw (output.counts, input.counts, vendor_long) (omega (arith, bits_again x (bytes 0), two_bits x))

    special_here : FrontAgain r (special_of x (get_or r 1 0) (get_or r (1 + p) 0)) (1 + p + q) n
    unfolding special_of special_verdict special_bytes
    special_here =
        let fits : length vendor ≤ 15 = omega (arith, vendor_long) in
        let short : length vendor ≡ 15 → ⊥ = λ e. omega (arith, vendor_long) in
        let all : 1 + (p + (q + n)) ≡ 1 + p + q + n = omega arith in
        record {
          taken = rw vendor_is (simp (le-ltb _ _ fits, ne_eqb _ _ short, output.good, input.good));
          same =
              rw vendor_is
              (ap₂ (λ (z : ℕ) (l : List ℕ). z ∷ l) head (ap₂ (λ (a b : List ℕ). a ++ (b ++ vendor)) output.bytes input.bytes ∙ rest_is)
              ∙ ap (λ (l : List ℕ). l ++ take (p + (q + n)) (drop 1 r)) (sym first_again)
              ∙ sym (take-add 1 (p + (q + n)) r)
              ∙ ap (λ (k : ℕ). take k r) all);
        }

  again : AgainIf r (module_in r)
  unfolding module_in special_in
  again =
      by_format (λ (k : Identifier). AgainIf r (module_by k r)) x
      (λ s. by_pick (AgainIf r) (eqb (x % 16) barred) (λ _. tt)
      (λ v. by_pick (AgainIf r) (ltb (length r) (front_of x + x % 16)) (λ _. tt)
      (λ f. special_here s (eqb-false (x % 16) barred v) (ltb-false (length r) (front_of x + x % 16) f))))
      (λ s. general_here s)

-- what stands at the front of bytes, written again, is these bytes
pub module_again : (r : List ℕ) → 1 ≤ length r → Bytes r → {m : Module} {start len : ℕ} → module_in r ≡ one m start len → FrontAgain r m start len
module_again r some bytes e = subst (AgainIf r) e (again r some bytes)
