-- More than 255 bytes are refused, and which number they get is said by their first four bytes.
use Rattle.std.specs.Prelude.{◌≡◌, Bool, not, List, ℕ, ◌+◌, ◌-◌, ◌≤◌, ◌<◌, get_or, take, eqb}
use Rattle.std.proofs.Math.Path.{refl}
use Rattle.std.proofs.Common.{sym, ap, ap₂, ◌∙◌, lt_of_not-le, take_all, get_or-take, length-take-le}
use Rattle.std.proofs.Math.Bool.{true, false}
use native.Mathlib.Omega.{arith}
use Rattle.std.proofs.Math.Decide.{dec_le}
use Rattle.std.proofs.Math.ListN.{length}
use Rattle.std.proofs.Math.Dec.{ltb}
use borrow.Author.Tests.{lt-ltb, le-ltb, ne_eqb, ltb-false}
use Rattle.octets.specs.Choice.{pick}
use Rattle.fdl.specs.Telegram.{start_byte, token_byte, confirmation_byte}
use Rattle.fdl.specs.Reading.{refused, most_le, framed_of, sd2_of, token_of, read_by, Reading}
use Rattle.function_code.specs.declared.code.Class.{Class}
use Rattle.fdl.specs.declared.telegram.Format.{Format}
use Rattle.fdl.specs.declared.telegram.Format.TheVariants.{Sd1, Sd2, Sd3}

overlong_sd2 : (le again second : ℕ) → Reading
overlong_sd2 le again second =
    pick (ltb le 4) (refused 3)
    (pick (ltb most_le le) (refused 3) (pick (not (eqb again le)) (refused 3) (pick (not (eqb second (start_byte Sd2))) (refused 3) (refused 4))))

overlong : (start le again second : ℕ) → Reading
overlong start le again second =
    pick (eqb start (start_byte Sd1)) (refused 4)
    (pick (eqb start (start_byte Sd2)) (overlong_sd2 le again second)
    (pick (eqb start (start_byte Sd3)) (refused 4) (pick (eqb start token_byte) (refused 4) (pick (eqb start confirmation_byte) (refused 4) (refused 2)))))

module _ (classes : ℕ → Class) (s : List ℕ) (h : 255 < length s) where
  framed_long : (f : Format) (at pdu : ℕ) → at ≤ 4 → pdu ≤ 246 → framed_of classes s f at pdu ≡ refused 4
  unfolding framed_of
  framed_long f at pdu a b =
      let p : at + pdu + 5 ≤ length s = omega arith in
      let q : at + pdu + 5 < length s = omega arith in
      simp (le-ltb _ _ p, lt-ltb _ _ q)

  sd2_long : sd2_of classes s ≡ overlong_sd2 (get_or s 1 0) (get_or s 2 0) (get_or s 3 0)
  unfolding sd2_of overlong_sd2
  sd2_long =
      let p : 4 ≤ length s = omega arith in
      simp (le-ltb _ _ p) (high (ltb most_le (get_or s 1 0)) refl)
    where
      high : (b : Bool) → ltb most_le (get_or s 1 0) ≡ b
          → pick (ltb (get_or s 1 0) 4) (refused 3)
          (pick b (refused 3)
          (pick (not (eqb (get_or s 2 0) (get_or s 1 0))) (refused 3)
          (pick (not (eqb (get_or s 3 0) (start_byte Sd2))) (refused 3) (framed_of classes s Sd2 4 (get_or s 1 0 - 3)))))
          ≡ pick (ltb (get_or s 1 0) 4) (refused 3)
          (pick b (refused 3) (pick (not (eqb (get_or s 2 0) (get_or s 1 0))) (refused 3) (pick (not (eqb (get_or s 3 0) (start_byte Sd2))) (refused 3) (refused 4))))
      high true e = refl
      high false e = simp (framed_long Sd2 4 (get_or s 1 0 - 3) (omega arith) (omega (arith, ltb-false most_le (get_or s 1 0) e)))

  token_long : token_of s ≡ refused 4
  unfolding token_of
  token_long =
      let p : 3 ≤ length s = omega arith in
      let q : 3 < length s = omega arith in
      simp (le-ltb _ _ p, lt-ltb _ _ q)

  read_long : read_by classes s ≡ overlong (get_or s 0 0) (get_or s 1 0) (get_or s 2 0) (get_or s 3 0)
  unfolding read_by overlong
  read_long =
      let some : length s ≡ 0 → ⊥ = λ e. omega arith in
      let more : length s ≡ 1 → ⊥ = λ e. omega arith in
      simp
      (ne_eqb _ _ some, ne_eqb _ _ more, framed_long Sd1 1 0 (omega arith) (omega arith), framed_long Sd3 1 8 (omega arith) (omega arith), sd2_long, token_long)

pub first_bytes : (classes : ℕ → Class) (s : List ℕ) → read_by classes (take 256 s) ≡ read_by classes s
first_bytes classes s =
    elim (dec_le (length s) 256) [
      | yes h ↦ ap (read_by classes) (take_all 256 s h)
      | no h ↦
          let l : 256 < length s = lt_of_not-le h in
          let m : length (take 256 s) ≡ 256 = length-take-le 256 s (omega arith) in
          let same : (i : ℕ) → i < 256 → get_or (take 256 s) i 0 ≡ get_or s i 0 = λ i k. get_or-take 256 s i 0 k in
          read_long classes (take 256 s) (omega arith)
          ∙ ap₂ (λ (a b : ℕ). overlong a b (get_or (take 256 s) 2 0) (get_or (take 256 s) 3 0)) (same 0 (omega arith)) (same 1 (omega arith))
          ∙ ap₂ (λ (c d : ℕ). overlong (get_or s 0 0) (get_or s 1 0) c d) (same 2 (omega arith)) (same 3 (omega arith))
          ∙ sym (read_long classes s (omega arith))
    ]
