-- What the forms say of the count, and how bytes that were made from fields are read.
use Rattle.std.specs.Prelude.{ℕ, ◌-◌, ◌≤◌, ◌≡◌, refl, Bool, true, false, List, [], ◌∷◌, ◌++◌, eqb, ltb}
use Rattle.std.proofs.Math.Path.{ap}
use Rattle.std.proofs.Math.Bool.{not}
use native.Mathlib.Omega.{arith}
use Rattle.std.proofs.Math.ListN.{length, length-append}
use borrow.Author.Tests.{le-ltb, ltb-false, eq-eqb, ne_eqb, eqb-true, not-false}
use Rattle.octets.specs.Choice.{pick}
use Rattle.octets.specs.Front.{fine, fault}
use Rattle.octets.proofs.Fixed.{passed}
use Rattle.acyclic.specs.Numbers.{idle_number}
use Rattle.acyclic.specs.Forms.{alone_of, counted_of, counted_as_of, four, by_number, where_allowed}

-- ---- the count

pub no_bytes : (l : List ℕ) → length l ≤ 0 → l ≡ []
no_bytes [] h = refl
no_bytes (x ∷ xs) h = absurd (omega arith)

pub alone_none : (l : List ℕ) → alone_of (length l) ≡ fine → l ≡ []
unfolding alone_of
alone_none l e = no_bytes l (ltb-false 0 (length l) (passed 20 (ltb 0 (length l)) fine e).0)

pub counted_within : (least count : ℕ) → counted_of least count ≡ fine → (least ≤ count) × (count ≤ 240)
unfolding counted_of
counted_within least count e =
    let p = passed 20 (ltb count least) (pick (ltb 240 count) (fault 20) fine) e in
    let q = passed 20 (ltb 240 count) fine p.1 in
    (ltb-false count least p.0, ltb-false 240 count q.0)

-- the last fixed byte is the count, and the count is in its range
pub counted_as : (len least count : ℕ) → counted_as_of len least count ≡ fine → (count ≡ len) × (counted_of least count ≡ fine)
unfolding counted_as_of
counted_as len least count e =
    let p = passed 20 (not (eqb count len)) (counted_of least count) e in
    (eqb-true count len (not-false (eqb count len) p.0), p.1)

-- a count always says itself
pub counted_itself : (least count : ℕ) → counted_as_of count least count ≡ counted_of least count
unfolding counted_as_of
counted_itself least count = simp (eq-eqb count count refl)

-- ---- from the fields

module _ {A : Type 0} (refuse : ℕ → A) (none : A) (allowed : ℕ → Bool) (idle : ℕ → A) (four_bytes : (n a b l count : ℕ) → A) where
  abbrev read : List ℕ → A
  read s = where_allowed refuse none allowed (by_number refuse idle four_bytes s) s

  pub read_four : (n a b l : ℕ) (part : List ℕ) → allowed n ≡ true → eqb n idle_number ≡ false → read (four n a b l ++ part) ≡ four_bytes n a b l (length part)
  unfolding by_number where_allowed
  read_four n a b l part good other =
      let s = four n a b l ++ part in
      let z : length s ≡ 0 → ⊥ = omega (arith, length-append (four n a b l) part) in
      let h : 4 ≤ length s = omega (arith, length-append (four n a b l) part) in
      let c : length s - 4 ≡ length part = omega (arith, length-append (four n a b l) part) in
      simp (ne_eqb _ _ z, ap not good, other, le-ltb _ _ h, c)

  pub read_idle : (part : List ℕ) → allowed idle_number ≡ true → read (idle_number ∷ part) ≡ idle (length part)
  unfolding by_number where_allowed
  read_idle part good =
      let s = idle_number ∷ part in
      let z : length s ≡ 0 → ⊥ = omega arith in
      let c : length s - 1 ≡ length part = omega arith in
      simp (ne_eqb _ _ z, ap not good, c)
