-- From a call and from an answer to the plain conditions on its bytes, and from these to the reading.
use Prim.Native.Nat.{ℕ, ◌+◌, ◌-◌, ◌/◌, ◌%◌, ◌≤◌, ◌<◌}
use Rattle.std.specs.Prelude.{◌≡◌, Bool, true, false, not, List, ltb, leb}
use Rattle.std.proofs.Math.Path.{refl, ap}
use Rattle.std.proofs.Common.{◌∙◌}
use native.Mathlib.Omega.{arith}
use Rattle.std.proofs.Math.ListN.{length, get_or}
use Rattle.std.proofs.Math.Dec.{eqb}
use borrow.Author.Tests.{eqb-true, ne_eqb, eq-eqb, ltb-false, le-ltb, leb-true, le-leb, lt-leb, not-false}
use Rattle.octets.specs.Choice.{◌or◌}
use Rattle.octets.proofs.Choice.{by_pick, by_or}
use Rattle.octets.specs.Front.{fine}
use Rattle.octets.proofs.Fixed.{passed}
use Rattle.acyclic.specs.Numbers.{idle_number, negative_number, failed_by, allowed_in_calls, allowed_in_answers}
use Rattle.acyclic.specs.Errors.{good_decode, named_in, good_code1}
use Rattle.acyclic.specs.Forms.{alone_of, ranged_of, counted_of, counted_as_of, negative_of, by_number, where_allowed}
use Rattle.acyclic.specs.Calls as calls
use Rattle.acyclic.specs.Answers as answers
use Rattle.acyclic.specs.Bytes.{call_accepted, answer_accepted, CallBytes, poll, read_call, write_call, alarm_ack_call, idle_call, transport_call, FailedNumber, read_failed, write_failed, alarm_ack_failed, transport_failed, ErrorBytes, class_10_low, class_10_high, class_11, class_12_low, class_12_high, class_13_on, decode_254, decode_255, AnswerBytes, read_answer, write_answer, alarm_ack_answer, idle_answer, transport_answer, negative_answer}
use Rattle.acyclic.proofs.Lemmas.Forms.{counted_within}
use Rattle.acyclic.specs.declared.numbers.Function.{Function}
use Rattle.acyclic.specs.declared.numbers.Function.TheVariants as function
use Rattle.acyclic.specs.declared.calls.Call.{Call}
use Rattle.acyclic.specs.declared.calls.Call.TheVariants as call
use Rattle.acyclic.specs.declared.answers.Answer.{Answer}
use Rattle.acyclic.specs.declared.answers.Answer.TheVariants as answer

-- ---- from the forms

alone_zero : (count : ℕ) → alone_of count ≡ fine → count ≡ 0
unfolding alone_of
alone_zero count v = omega (arith, ltb-false 0 count (passed 20 (ltb 0 count) _ v).0)

ranged_zero : (len count : ℕ) → ranged_of len count ≡ fine → (count ≡ 0) × (len ≤ 240)
unfolding ranged_of
ranged_zero len count v =
    let p = passed 20 (ltb 0 count) _ v in
    (omega (arith, ltb-false 0 count p.0), ltb-false 240 len (passed 21 (ltb 240 len) _ p.1).0)

counted_right : (least count : ℕ) → least ≤ count → count ≤ 240 → counted_as_of count least count ≡ fine
unfolding counted_of counted_as_of
counted_right least count h m = simp (eq-eqb count count refl, le-ltb _ _ h, le-ltb _ _ m)

-- ---- the errors of a negative answer

module _ (decode code1 : ℕ) where
  abbrev If : Bool → Type 0
  If b = b ≡ true → ErrorBytes decode code1

  by_class : decode ≡ 128 → named_in (code1 / 16) (code1 % 16) ≡ true → ErrorBytes decode code1
  unfolding named_in
  by_class d =
      let class : ℕ = code1 / 16 in
      let code : ℕ = code1 % 16 in
      by_pick If (eqb class 10)
      (λ e t. by_or (leb code 2) (leb 8 code) t (λ l. class_10_low d (eqb-true class 10 e) (leb-true code 2 l)) (λ l. class_10_high d (eqb-true class 10 e) (leb-true 8 code l)))
      (λ _. by_pick If (eqb class 11) (λ e _. class_11 d (eqb-true class 11 e))
      (λ _. by_pick If (eqb class 12)
      (λ e t. by_or (leb code 3) (leb 8 code) t (λ l. class_12_low d (eqb-true class 12 e) (leb-true code 3 l)) (λ l. class_12_high d (eqb-true class 12 e) (leb-true 8 code l)))
      (λ _ t. class_13_on d (leb-true 13 class t))))

  error_bytes : good_decode decode ≡ true → good_code1 decode code1 ≡ true → ErrorBytes decode code1
  unfolding good_code1
  error_bytes g c =
      by_or (eqb decode 128) (eqb decode 254 or eqb decode 255) g (λ e. by_class (eqb-true decode 128 e) (simp e at c))
      (λ t. by_or (eqb decode 254) (eqb decode 255) t (λ e. decode_254 (eqb-true decode 254 e)) (λ e. decode_255 (eqb-true decode 255 e)))

  negative_zero : (count : ℕ) → negative_of decode code1 count ≡ fine → (count ≡ 0) × ErrorBytes decode code1
  unfolding negative_of
  negative_zero count v =
      let p = passed 20 (ltb 0 count) _ v in
      let q = passed 21 (not (good_decode decode)) _ p.1 in
      let r = passed 28 (not (good_code1 decode code1)) _ q.1 in
      (omega (arith, ltb-false 0 count p.0), error_bytes (not-false _ q.0) (not-false _ r.0))

  negative_right : ErrorBytes decode code1 → negative_of decode code1 0 ≡ fine
  unfolding negative_of good_code1 named_in
  negative_right (class_10_low d c l) = simp (d, c, le-leb _ _ l)
  negative_right (class_10_high d c l) = let h : 2 < code1 % 16 = omega arith in simp (d, c, lt-leb _ _ h, le-leb _ _ l)
  negative_right (class_11 d c) = simp (d, c)
  negative_right (class_12_low d c l) = simp (d, c, le-leb _ _ l)
  negative_right (class_12_high d c l) = let h : 3 < code1 % 16 = omega arith in simp (d, c, lt-leb _ _ h, le-leb _ _ l)
  negative_right (class_13_on d l) =
      let a : code1 / 16 ≡ 10 → ⊥ = omega arith in
      let b : code1 / 16 ≡ 11 → ⊥ = omega arith in
      let c : code1 / 16 ≡ 12 → ⊥ = omega arith in
      simp (d, ne_eqb _ _ a, ne_eqb _ _ b, ne_eqb _ _ c, le-leb _ _ l)
  negative_right (decode_254 d) = simp d
  negative_right (decode_255 d) = simp d

-- ---- from the fields to the bytes

pub call_bytes : (c : Call) (part : List ℕ) → calls.verdict_for c part ≡ fine → CallBytes (calls.bytes_for c part)
call_bytes call.Poll part v = poll (alone_zero (length part) v)
call_bytes (call.Read slot index len) part v =
    let r = ranged_zero len (length part) v in
    read_call refl (omega arith) r.1
call_bytes (call.Write slot index) part v =
    let r = counted_within 1 (length part) v in
    write_call refl (omega arith) r.0 r.1
call_bytes (call.AlarmAck slot alarm specifier) part v = alarm_ack_call refl (omega (arith, alone_zero (length part) v))
call_bytes call.Idle part v = idle_call refl (omega (arith, alone_zero (length part) v))
call_bytes (call.Transport slot index) part v = transport_call refl (omega arith) (counted_within 0 (length part) v).1

failed_number : (f : Function) → FailedNumber (negative_number f)
failed_number function.Read = read_failed refl
failed_number function.Write = write_failed refl
failed_number function.AlarmAck = alarm_ack_failed refl
failed_number function.Transport = transport_failed refl

pub answer_bytes : (x : Answer) (part : List ℕ) → answers.verdict_for x part ≡ fine → AnswerBytes (answers.bytes_for x part)
answer_bytes (answer.Read slot index) part v = read_answer refl (omega arith) (counted_within 0 (length part) v).1
answer_bytes (answer.Write slot index len) part v =
    let r = ranged_zero len (length part) v in
    write_answer refl (omega arith) r.1
answer_bytes (answer.AlarmAck slot alarm specifier) part v = alarm_ack_answer refl (omega (arith, alone_zero (length part) v))
answer_bytes answer.Idle part v = idle_answer refl (omega (arith, alone_zero (length part) v))
answer_bytes (answer.Transport slot index) part v = transport_answer refl (omega arith) (counted_within 0 (length part) v).1
answer_bytes (answer.Negative f decode code1 code2) part v =
    let r = negative_zero decode code1 (length part) v in
    negative_answer (failed_number f) (omega arith) r.1

-- ---- from the bytes to the reading

module _ {A : Type 0} (refuse : ℕ → A) (none : A) (allowed : ℕ → Bool) (idle : ℕ → A) (four_bytes : (n a b l count : ℕ) → A) (s : List ℕ) where
  abbrev read : A
  read = where_allowed refuse none allowed (by_number refuse idle four_bytes s) s

  -- four bytes or more, with a number that has them
  reads_four : (n count : ℕ) → get_or s 0 0 ≡ n → allowed n ≡ true → eqb n idle_number ≡ false → length s ≡ 4 + count
      → read ≡ four_bytes n (get_or s 1 0) (get_or s 2 0) (get_or s 3 0) count
  unfolding where_allowed by_number
  reads_four n count e good other l =
      let z : length s ≡ 0 → ⊥ = omega arith in
      let h : 4 ≤ length s = omega arith in
      let c : length s - 4 ≡ count = omega arith in
      simp (ne_eqb _ _ z, e, good, other, le-ltb _ _ h, c)

  reads_idle : get_or s 0 0 ≡ idle_number → allowed idle_number ≡ true → length s ≡ 1 → read ≡ idle 0
  unfolding where_allowed by_number
  reads_idle e good l = simp (e, good, l)

module _ (s : List ℕ) where
  four_call : (n count : ℕ) → get_or s 0 0 ≡ n → allowed_in_calls n ≡ true → eqb n idle_number ≡ false → length s ≡ 4 + count
      → calls.read_call_of s ≡ calls.four_of n (get_or s 1 0) (get_or s 2 0) (get_or s 3 0) count
  unfolding calls.read_call_of
  four_call = reads_four calls.refused _ allowed_in_calls calls.idle_of calls.four_of s

  pub call_read : CallBytes s → call_accepted (calls.read_call_of s) ≡ true
  unfolding calls.read_call_of calls.four_of alone_of ranged_of where_allowed
  call_read (poll l) = simp l
  call_read (read_call e l m) = ap call_accepted (four_call 94 0 e refl refl l) ∙ simp (le-ltb _ _ m)
  call_read (write_call e l h m) = ap call_accepted (four_call 95 (get_or s 3 0) e refl refl l) ∙ simp (counted_right 1 _ h m)
  call_read (alarm_ack_call e l) = ap call_accepted (four_call 92 0 e refl refl l)
  call_read (idle_call e l) = ap call_accepted (reads_idle calls.refused _ allowed_in_calls calls.idle_of calls.four_of s e refl l)
  call_read (transport_call e l m) =
      let h : 0 ≤ get_or s 3 0 = omega arith in
      ap call_accepted (four_call 81 (get_or s 3 0) e refl refl l) ∙ simp (counted_right 0 _ h m)

  four_answer : (n count : ℕ) → get_or s 0 0 ≡ n → allowed_in_answers n ≡ true → eqb n idle_number ≡ false → length s ≡ 4 + count
      → answers.read_answer_of s ≡ answers.four_of n (get_or s 1 0) (get_or s 2 0) (get_or s 3 0) count
  unfolding answers.read_answer_of
  four_answer = reads_four answers.refused _ allowed_in_answers answers.idle_of answers.four_of s

  negative_read : length s ≡ 4 → ErrorBytes (get_or s 1 0) (get_or s 2 0) → FailedNumber (get_or s 0 0) → answer_accepted (answers.read_answer_of s) ≡ true
  unfolding answers.four_of failed_by
  negative_read l m (read_failed e) = ap answer_accepted (four_answer 222 0 e refl refl l) ∙ simp (negative_right _ _ m)
  negative_read l m (write_failed e) = ap answer_accepted (four_answer 223 0 e refl refl l) ∙ simp (negative_right _ _ m)
  negative_read l m (alarm_ack_failed e) = ap answer_accepted (four_answer 220 0 e refl refl l) ∙ simp (negative_right _ _ m)
  negative_read l m (transport_failed e) = ap answer_accepted (four_answer 209 0 e refl refl l) ∙ simp (negative_right _ _ m)

  pub answer_read : AnswerBytes s → answer_accepted (answers.read_answer_of s) ≡ true
  unfolding answers.read_answer_of answers.four_of alone_of ranged_of
  answer_read (read_answer e l m) =
      let h : 0 ≤ get_or s 3 0 = omega arith in
      ap answer_accepted (four_answer 94 (get_or s 3 0) e refl refl l) ∙ simp (counted_right 0 _ h m)
  answer_read (write_answer e l m) = ap answer_accepted (four_answer 95 0 e refl refl l) ∙ simp (le-ltb _ _ m)
  answer_read (alarm_ack_answer e l) = ap answer_accepted (four_answer 92 0 e refl refl l)
  answer_read (idle_answer e l) = ap answer_accepted (reads_idle answers.refused _ allowed_in_answers answers.idle_of answers.four_of s e refl l)
  answer_read (transport_answer e l m) =
      let h : 0 ≤ get_or s 3 0 = omega arith in
      ap answer_accepted (four_answer 81 (get_or s 3 0) e refl refl l) ∙ simp (counted_right 0 _ h m)
  answer_read (negative_answer f l m) = negative_read l m f
