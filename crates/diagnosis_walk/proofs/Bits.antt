-- One byte more of a module map: its bits are counted by `ones`, and searched by `count_trailing_zeros`.
use Rattle.std.specs.Prelude.{Some}
use mathlib.Core.Path.{◌≡◌, refl, sym, ap, ap₂, ◌∙◌}
use mathlib.Core.Bool.{Bool, true, false}
use mathlib.Core.List.{List}
use Prim.Native.Nat.{ℕ, zero, suc, ◌+◌, ◌*◌, ◌-◌, ◌/◌, ◌%◌, ◌^◌, ◌<◌}
use native.Mathlib.Omega.{arith}
use native.Mathlib.Nat.{pow-suc, add-zero, suc-add, zero-add, div-one}
use lib.ListN.{length, get_or}
use lib.Dec.{eqb}
use lib.Pow.{shr-shr}
use lib.Count.{ones, ones_step, ones_in, under, count_trailing_zeros}
use borrow.Author.Tests.{eq-eqb, ne_eqb, eqb-true, eqb-false}
use Rattle.octets.specs.Choice.{pick}
use Rattle.diagnosis.specs.Map.{reports, count_from, lowest_from}
use Rattle.diagnosis.proofs.Lemmas.Map.{bit}

-- the d numbers from k on pass a test as the d lowest bits of x are set
abbrev Bits : (test : ℕ → Bool) (k d x : ℕ) → Type 0
Bits test k d x = (j : ℕ) → j < d → test (k + j) ≡ eqb (x / 2 ^ j % 2) 1

module _ (test : ℕ → Bool) where
  -- the lowest bit, and the others
  first : (k d x : ℕ) → Bits test k (suc d) x → test k ≡ eqb (x % 2) 1
  first k d x b =
      let z : k + 0 ≡ k = omega arith in
      let o : x / 1 ≡ x = div-one x in
      sym (ap test z) ∙ b 0 (omega arith) ∙ ap (λ (y : ℕ). eqb (y % 2) 1) o

  others : (k d x : ℕ) → Bits test k (suc d) x → Bits test (suc k) d (x / 2)
  others k d x b j h =
      let z : suc k + j ≡ k + suc j = omega arith in
      let s : x / 2 / 2 ^ j ≡ x / 2 ^ suc j = shr-shr x 1 j ∙ ap (λ (i : ℕ). x / 2 ^ i) (omega arith) in
      ap test z ∙ b (suc j) (omega arith) ∙ ap (λ (y : ℕ). eqb (y % 2) 1) (sym s)

-- the d lowest bits of a number that has no others
ones_in_lem : (d x : ℕ) → x < 2 ^ d → ones x ≡ ones_in d x
unfolding ones ones_in
ones_in_lem zero x h = let z : x ≡ 0 = omega arith in ap ones z
ones_in_lem (suc d) x h =
    let b : x / 2 < 2 ^ d = omega (arith, rw (pow-suc 2 d) at h) in
    ones_step x ∙ ap (λ (n : ℕ). x % 2 + n) (ones_in_lem d (x / 2) b)

module _ (test : ℕ → Bool) where
  count_bits : (d k x n : ℕ) → Bits test k d x → count_from test k (d + n) ≡ ones_in d x + count_from test (k + d) n
  unfolding count_from ones_in
  count_bits zero k x n b = ap₂ (count_from test) (sym (add-zero k)) (zero-add n) ∙ sym (zero-add (count_from test (k + 0) n))
  count_bits (suc d) k x n b =
      let e : suc k + d ≡ k + suc d = omega arith in
      let t : pick (test k) 1 0 ≡ x % 2 = ap (λ (v : Bool). pick v 1 0) (first test k d x b) ∙ bit x in
      let r = count_bits d (suc k) (x / 2) n (others test k d x b) in
      let s : count_from test (suc k + d) n ≡ count_from test (k + suc d) n = ap (λ (i : ℕ). count_from test i n) e in
      ap (count_from test k) (suc-add d n) ∙ omega arith

  lowest_bits : (d k x n : ℕ) → x < 2 ^ d → Bits test k d x
      → lowest_from test k (d + n) ≡ pick (eqb x 0) (lowest_from test (k + d) n) (Some (k + count_trailing_zeros d x))
  unfolding lowest_from count_trailing_zeros
  lowest_bits zero k x n h b =
      let z : x ≡ 0 = omega arith in
      simp (eq-eqb x 0 z) (ap₂ (lowest_from test) (sym (add-zero k)) (zero-add n))
  lowest_bits (suc d) k x n h b =
      let s : x / 2 < 2 ^ d = omega (arith, rw (pow-suc 2 d) at h) in
      ap (lowest_from test k) (suc-add d n)
      ∙ ap (λ (v : Bool). pick v (Some k) (lowest_from test (suc k) (d + n))) (first test k d x b)
      ∙ parity (lowest_bits d (suc k) (x / 2) n s (others test k d x b)) (x % 2) refl
    where
      -- an even number is 0 where its half is
      half : x % 2 ≡ 0 → (v : Bool) → eqb x 0 ≡ v → eqb (x / 2) 0 ≡ v
      half e true p =
          let z : x ≡ 0 = eqb-true x 0 p in
          eq-eqb (x / 2) 0 (omega arith)
      half e false p =
          let z : x / 2 ≡ 0 → ⊥ = λ q. eqb-false x 0 p (omega arith) in
          ne_eqb _ _ z

      parity :
          lowest_from test (suc k) (d + n) ≡ pick (eqb (x / 2) 0) (lowest_from test (suc k + d) n) (Some (suc k + count_trailing_zeros d (x / 2)))
          → (r : ℕ) → x % 2 ≡ r
          → pick (eqb r 1) (Some k) (lowest_from test (suc k) (d + n))
          ≡ pick (eqb x 0) (lowest_from test (k + suc d) n) (Some (k + under r (count_trailing_zeros d (x / 2))))
      parity others-are zero e =
          let t : suc k + count_trailing_zeros d (x / 2) ≡ k + suc (count_trailing_zeros d (x / 2)) = omega arith in
          let l : suc k + d ≡ k + suc d = omega arith in
          others-are
          ∙ ap (λ (v : Bool). pick v (lowest_from test (suc k + d) n) (Some (suc k + count_trailing_zeros d (x / 2)))) (half e (eqb x 0) refl)
          ∙ ap₂ (λ (i j : ℕ). pick (eqb x 0) (lowest_from test i n) (Some j)) l t
      parity others-are (suc zero) e =
          let z : x ≡ 0 → ⊥ = λ q. omega arith in
          simp (ne_eqb x 0 z, add-zero)
      parity others-are (suc (suc r)) e = absurd (omega arith)

-- ---- the byte at a place of a map

module _ (map : List ℕ) (i : ℕ) (h : i < length map) (b : get_or map i 0 < 256) where
  here : Bits (reports map) (8 * i) 8 (get_or map i 0)
  unfolding reports
  here j l =
      let q : (8 * i + j) / 8 ≡ i = omega arith in
      let r : (8 * i + j) % 8 ≡ j = omega arith in
      ap₂ (λ (x y : ℕ). eqb (get_or map x 0 / 2 ^ y % 2) 1) q r

  left : 8 * (length map - i) ≡ 8 + 8 * (length map - (i + 1))
  left = omega arith

  next : 8 * i + 8 ≡ 8 * (i + 1)
  next = omega arith

  pub count_byte : count_from (reports map) (8 * i) (8 * (length map - i))
      ≡ ones (get_or map i 0) + count_from (reports map) (8 * (i + 1)) (8 * (length map - (i + 1)))
  count_byte =
      ap (count_from (reports map) (8 * i)) left
      ∙ count_bits (reports map) 8 (8 * i) (get_or map i 0) (8 * (length map - (i + 1))) here
      ∙ ap₂ (λ (x y : ℕ). x + count_from (reports map) y (8 * (length map - (i + 1)))) (sym (ones_in_lem 8 (get_or map i 0) b)) next

  pub lowest_byte : lowest_from (reports map) (8 * i) (8 * (length map - i))
      ≡ pick (eqb (get_or map i 0) 0) (lowest_from (reports map) (8 * (i + 1)) (8 * (length map - (i + 1))))
      (Some (8 * i + count_trailing_zeros 8 (get_or map i 0)))
  lowest_byte =
      ap (lowest_from (reports map) (8 * i)) left
      ∙ lowest_bits (reports map) 8 (8 * i) (get_or map i 0) (8 * (length map - (i + 1))) b here
      ∙ ap
      (λ (y : ℕ).
      pick (eqb (get_or map i 0) 0) (lowest_from (reports map) y (8 * (length map - (i + 1)))) (Some (8 * i + count_trailing_zeros 8 (get_or map i 0))))
      next
