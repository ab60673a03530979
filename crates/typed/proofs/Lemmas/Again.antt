-- From the bytes of a value to the value and back.
use Rattle.std.specs.Prelude.{ℕ, ◌+◌, ◌≤◌, ◌<◌, ◌^◌, ◌≡◌, refl, Bool, true, false, not, List, ◌∷◌, length, get_or, drop, eqb, leb, ℤ, Ok, Err}
use Rattle.std.proofs.Common.{sym, ap, ap₂, ◌∙◌, arith, zero-add, length-drop, drop-cons, get_or-drop}
use Rattle.std.specs.Float.{binary32}
use Rattle.std.specs.Float.Ieee.{of_bits}
use mir.Val.{bytes, bits, to_z, of_z}
use Rattle.std.proofs.Math.Facts.{of_z-to_z}
use borrow.Author.Tests.{eqb-true, eqb-false, leb-true, not-true, not-false}
use Rattle.octets.specs.Choice.{pick, ◌or◌}
use Rattle.octets.proofs.Choice.{never, by_pick, and_left, and_right, by_or}
use Rattle.octets.specs.Bytes.{Bytes}
use Rattle.octets.proofs.Elements.{rest_elements}
use Rattle.octets.specs.Number.{number_of, bytes_of}
use Rattle.octets.proofs.Number.{bytes_number, number_small}
use Rattle.octets.specs.Front.{fine}
use Rattle.float.specs.Float.{is_nan_pattern, floating_of}
use Rattle.float.proofs.Float.{pattern_back, known}
use Rattle.float.specs.declared.Floating.{Floating}
use Rattle.typed.specs.Value.{Size, one, two, four, bits_of, Kind, boolean, signed, unsigned, floating, code_in, kind_of, width_in, width_of, kind_in, boolean_byte, pattern_in, signed_value, unsigned_value, floating_value, value_of}
use Rattle.typed.specs.Reading.{good_code, good_boolean, read_of, Reading}
use Rattle.typed.specs.Writing.{verdict_of, bytes_for}
use Rattle.typed.specs.declared.value.Value.{Value}

-- ---- codes

-- the kind of a code has that code
module _ (c : ℕ) (good : good_code c ≡ true) where
  step : (k l : Kind) → code_in k ≤ c → (code_in k + 1 ≤ c → code_in l ≡ c) → code_in (pick (eqb c (code_in k)) k l) ≡ c
  step k l h f =
      by_pick (λ (x : Kind). code_in x ≡ c) (eqb c (code_in k)) (λ t. sym (eqb-true c (code_in k) t))
      (λ t. f (let other : c ≡ code_in k → ⊥ = eqb-false c (code_in k) t in omega arith))

  code_kept : code_in (kind_of c) ≡ c
  unfolding kind_of
  code_kept =
      let some : c ≡ 0 → ⊥ = eqb-false c 0 (not-true _ (and_left (not (eqb c 0)) (leb c (code_in floating)) good)) in
      let most : c ≤ code_in floating = leb-true c (code_in floating) (and_right (not (eqb c 0)) (leb c (code_in floating)) good) in
      step boolean _ (omega arith)
      (λ h. step (signed one) _ h
      (λ h. step (signed two) _ h
      (λ h. step (signed four) _ h
      (λ h. step (unsigned one) _ h
      (λ h. step (unsigned two) _ h
      (λ h. step (unsigned four) _ h
      (λ h. omega arith)))))))

value_kind : (k : Kind) (n : ℕ) → kind_in (value_of k n) ≡ k
unfolding value_of
value_kind boolean n = refl
value_kind (signed one) n = refl
value_kind (signed two) n = refl
value_kind (signed four) n = refl
value_kind (unsigned one) n = refl
value_kind (unsigned two) n = refl
value_kind (unsigned four) n = refl
value_kind floating n = by_pick (λ (f : Floating). kind_in (floating_value f) ≡ floating) (is_nan_pattern n) (λ _. refl) (λ _. refl)

-- ---- patterns

-- the value may be written, and has that pattern
abbrev Keeps : (pattern : ℕ) → Value → Type 0
Keeps n v = (verdict_of v ≡ fine) × (pattern_in v ≡ n)

boolean_keeps : (n : ℕ) (yes : Bool) → eqb n (boolean_byte true) ≡ yes → (eqb n (boolean_byte false) or yes) ≡ true → boolean_byte yes ≡ n
boolean_keeps n true e either = sym (eqb-true n (boolean_byte true) e)
boolean_keeps n false e either = by_or (eqb n (boolean_byte false)) false either (λ t. sym (eqb-true n (boolean_byte false) t)) (λ t. absurd (never t))

-- integers, once for every width
signed_keeps : (s : Size) (z : ℤ) (n : ℕ) → of_z (bits_of s) z ≡ n → Keeps n (signed_value s z)
signed_keeps one z n e = (refl, e)
signed_keeps two z n e = (refl, e)
signed_keeps four z n e = (refl, e)

unsigned_keeps : (s : Size) (n : ℕ) → Keeps n (unsigned_value s n)
unsigned_keeps one n = (refl, refl)
unsigned_keeps two n = (refl, refl)
unsigned_keeps four n = (refl, refl)

as_bits : (s : Size) → 256 ^ bytes (bits_of s) ≡ 2 ^ bits (bits_of s)
as_bits one = refl
as_bits two = refl
as_bits four = refl

floating_keeps : (n : ℕ) → n < 2 ^ 32 → Keeps n (floating_value (floating_of n))
floating_keeps n h =
    by_pick (λ (f : Floating). Keeps n (floating_value f)) (is_nan_pattern n) (λ t. (simp t, refl))
    (λ t. let k = known (of_bits binary32 n) (rw t at (pattern_back n h)) in (rw k.0, k.1))

keeps : (k : Kind) (n : ℕ) → n < 256 ^ width_in k → (k ≡ boolean → (eqb n (boolean_byte false) or eqb n (boolean_byte true)) ≡ true) → Keeps n (value_of k n)
unfolding value_of
keeps boolean n h e = (refl, boolean_keeps n (eqb n (boolean_byte true)) refl (e refl))
keeps (signed s) n h e = signed_keeps s (to_z (bits_of s) n) n (of_z-to_z {w = bits_of s} (record { fits = rw (as_bits s) at h }))
keeps (unsigned s) n h e = unsigned_keeps s n
keeps floating n h e = floating_keeps n h

-- ---- bytes

-- one byte is a number by itself
pub single : (s : List ℕ) → length s ≡ 2 → get_or s 1 0 ≡ number_of (drop 1 s)
single s h = sym (zero-add (get_or s 1 0)) ∙ ap number_of (sym (rest_elements 1 1 s (sym h)))

module _ (s : List ℕ) (all : Bytes s) where
  abbrev pub Again : Reading → Type 0
  Again (Ok v) = (verdict_of v ≡ fine) × (pattern_in v ≡ number_of (drop 1 s)) × (bytes_for v ≡ s)
  Again (Err r) = Unit

  abbrev code : ℕ
  code = get_or s 0 0

  abbrev pattern : ℕ
  pattern = number_of (drop 1 s)

  behind_bytes : Bytes (drop 1 s)
  behind_bytes i = rw get_or-drop (all (1 + i))

  module _ (good : good_code code ≡ true) (sized : length s ≡ 1 + width_of code) (first : good_boolean code (get_or s 1 0) ≡ true) where
    behind_long : length (drop 1 s) ≡ width_of code
    behind_long = omega (arith, length-drop 1 s)

    small : pattern < 256 ^ width_of code
    small = rw behind_long at (number_small (drop 1 s) behind_bytes)

    -- of a Boolean, the byte is the pattern
    bool : kind_of code ≡ boolean → (eqb pattern (boolean_byte false) or eqb pattern (boolean_byte true)) ≡ true
    bool e =
        let c : code ≡ code_in boolean = sym (code_kept code good) ∙ ap code_in e in
        let two : length s ≡ 2 = sized ∙ ap (λ (k : Kind). 1 + width_in k) e in
        rw (single s two) at (rw c at first)

    kept : Keeps pattern (value_of (kind_of code) pattern)
    kept = keeps (kind_of code) pattern small bool

    same : bytes_for (value_of (kind_of code) pattern) ≡ s
    same =
        ap₂ (λ (k : Kind) (n : ℕ). code_in k ∷ bytes_of (width_in k) n) (value_kind (kind_of code) pattern) kept.1
        ∙ ap₂ (λ (c w : ℕ). c ∷ bytes_of w pattern) (code_kept code good) (sym behind_long)
        ∙ ap (λ (l : List ℕ). code ∷ l) (bytes_number (drop 1 s) behind_bytes)
        ∙ sym (drop-cons s 0 0 (omega arith))

  pub again : Again (read_of s)
  unfolding read_of
  again =
      by_pick Again (eqb (length s) 0) (λ _. tt)
      (λ _. by_pick Again (not (good_code code)) (λ _. tt)
      (λ g. by_pick Again (not (eqb (length s) (1 + width_of code))) (λ _. tt)
      (λ l. by_pick Again (not (good_boolean code (get_or s 1 0))) (λ _. tt)
      (λ f.
      let good = not-false (good_code code) g in
      let sized = eqb-true (length s) (1 + width_of code) (not-false _ l) in
      let first = not-false (good_boolean code (get_or s 1 0)) f in
      let k = kept good sized first in
      (k.0, k.1, same good sized first)))))
