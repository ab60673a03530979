-- Which bytes are a typed value (document 01, "Typed values"), in plain arithmetic: the code, then as many bytes as its type has.
use Prim.Native.Nat.{ℕ, suc, ◌+◌, ◌≤◌}
use Rattle.std.specs.Prelude.{◌≡◌, refl, Bool, true, false, not, List, [], ◌∷◌, ◌↔◌, length, eqb, leb, Ok, Err}
use Rattle.std.proofs.Common.{arith}
use Rattle.std.proofs.Math.ListN.{get_or}
use borrow.Author.Tests.{eqb-true, eqb-false, leb-true, not-true, not-false}
use Rattle.octets.proofs.Choice.{never, by_pick, and_left, and_right, by_or}
use Rattle.typed.specs.Value.{one, two, four, Kind, boolean, signed, unsigned, floating, kind_of, width_in, width_of, value_of}
use Rattle.typed.specs.Reading.{good_code, good_boolean, read_of, Reading}
use Rattle.typed.specs.declared.value.Value.TheVariants.{Boolean}

abbrev pub accepted : Reading → Bool
accepted (Ok v) = true
accepted (Err r) = false

-- A Boolean is 00 or FF; the bytes of every other type are free, those of a NaN too.
pub data ValueBytes (s : List ℕ) : Type 0 where
  boolean_false : get_or s 0 0 ≡ 1 → length s ≡ 2 → get_or s 1 0 ≡ 0 → ValueBytes s
  boolean_true : get_or s 0 0 ≡ 1 → length s ≡ 2 → get_or s 1 0 ≡ 255 → ValueBytes s
  signed_8 : get_or s 0 0 ≡ 2 → length s ≡ 2 → ValueBytes s
  signed_16 : get_or s 0 0 ≡ 3 → length s ≡ 3 → ValueBytes s
  signed_32 : get_or s 0 0 ≡ 4 → length s ≡ 5 → ValueBytes s
  unsigned_8 : get_or s 0 0 ≡ 5 → length s ≡ 2 → ValueBytes s
  unsigned_16 : get_or s 0 0 ≡ 6 → length s ≡ 3 → ValueBytes s
  unsigned_32 : get_or s 0 0 ≡ 7 → length s ≡ 5 → ValueBytes s
  floating_point : get_or s 0 0 ≡ 8 → length s ≡ 5 → ValueBytes s

-- a number from k on that is not k
above : (k c : ℕ) → k ≤ c → eqb c k ≡ false → suc k ≤ c
above k c h e = let n : c ≡ k → ⊥ = eqb-false c k e in omega arith

module _ (s : List ℕ) where
  abbrev If : Reading → Type 0
  If r = accepted r ≡ true → ValueBytes s

  abbrev Long : Kind → Type 0
  Long k = length s ≡ 1 + width_in k → ValueBytes s

  by_boolean : good_boolean (get_or s 0 0) (get_or s 1 0) ≡ true → get_or s 0 0 ≡ 1 → length s ≡ 2 → ValueBytes s
  by_boolean t c l =
      let x : ℕ = get_or s 1 0 in
      by_or (eqb x 0) (eqb x 255) (simp c at t) (λ e. boolean_false c l (eqb-true x 0 e)) (λ e. boolean_true c l (eqb-true x 255 e))

  -- a code of 1..8, the length of its kind, and the byte of a Boolean
  by_code : good_code (get_or s 0 0) ≡ true → good_boolean (get_or s 0 0) (get_or s 1 0) ≡ true → Long (kind_of (get_or s 0 0))
  unfolding kind_of
  by_code g t =
      let c : ℕ = get_or s 0 0 in
      let most : c ≤ 8 = leb-true c 8 (and_right (not (eqb c 0)) (leb c 8) g) in
      let a1 : 1 ≤ c = above 0 c (omega arith) (not-true _ (and_left (not (eqb c 0)) (leb c 8) g)) in
      by_pick Long (eqb c 1) (λ e. by_boolean t (eqb-true c 1 e))
      (λ n1. by_pick Long (eqb c 2) (λ e. signed_8 (eqb-true c 2 e))
      (λ n2. by_pick Long (eqb c 3) (λ e. signed_16 (eqb-true c 3 e))
      (λ n3. by_pick Long (eqb c 4) (λ e. signed_32 (eqb-true c 4 e))
      (λ n4. by_pick Long (eqb c 5) (λ e. unsigned_8 (eqb-true c 5 e))
      (λ n5. by_pick Long (eqb c 6) (λ e. unsigned_16 (eqb-true c 6 e))
      (λ n6. by_pick Long (eqb c 7) (λ e. unsigned_32 (eqb-true c 7 e))
      (λ n7.
      let a4 : 4 ≤ c = above 3 c (above 2 c (above 1 c a1 n1) n2) n3 in
      let a8 : 8 ≤ c = above 7 c (above 6 c (above 5 c (above 4 c a4 n4) n5) n6) n7 in
      floating_point (omega arith))))))))

  read_bytes : If (read_of s)
  unfolding read_of
  read_bytes =
      let c : ℕ = get_or s 0 0 in
      by_pick If (eqb (length s) 0) (λ _ a. absurd (never a))
      (λ _. by_pick If (not (good_code c)) (λ _ a. absurd (never a))
      (λ g. by_pick If (not (eqb (length s) (1 + width_of c))) (λ _ a. absurd (never a))
      (λ l. by_pick If (not (good_boolean c (get_or s 1 0))) (λ _ a. absurd (never a))
      (λ t _. by_code (not-false _ g) (not-false _ t) (eqb-true _ _ (not-false _ l))))))

  bytes_read : ValueBytes s → accepted (read_of s) ≡ true
  unfolding read_of kind_of
  bytes_read (boolean_false c l x) = simp (c, l, x)
  bytes_read (boolean_true c l x) = simp (c, l, x)
  bytes_read (signed_8 c l) = simp (c, l)
  bytes_read (signed_16 c l) = simp (c, l)
  bytes_read (signed_32 c l) = simp (c, l)
  bytes_read (unsigned_8 c l) = simp (c, l)
  bytes_read (unsigned_16 c l) = simp (c, l)
  bytes_read (unsigned_32 c l) = simp (c, l)
  bytes_read (floating_point c l) = simp (c, l)

  -- Accepted exactly when the code is 1..8 with its type's length behind it, and a Boolean is 00 or FF.
  pub value_accepted : accepted (read_of s) ≡ true ↔ ValueBytes s
  value_accepted = (read_bytes, bytes_read)

-- Each code of document 01 names its type.
pub codes_computed :
    (kind_of 1 ≡ boolean)
    × (kind_of 2 ≡ signed one) × (kind_of 3 ≡ signed two) × (kind_of 4 ≡ signed four)
    × (kind_of 5 ≡ unsigned one) × (kind_of 6 ≡ unsigned two) × (kind_of 7 ≡ unsigned four)
    × (kind_of 8 ≡ floating)
unfolding kind_of
codes_computed = (refl, refl, refl, refl, refl, refl, refl, refl)

-- FF is true, 00 is false, and a NaN is a value.
pub values_computed :
    (read_of (1 ∷ 255 ∷ []) ≡ Ok (Boolean true))
    × (read_of (1 ∷ 0 ∷ []) ≡ Ok (Boolean false))
    × (accepted (read_of (8 ∷ 127 ∷ 192 ∷ 0 ∷ 1 ∷ [])) ≡ true)
unfolding read_of kind_of value_of
values_computed = (refl, refl, refl)
