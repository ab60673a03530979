-- The four fields of a call or an answer name it again, and what four fields name has them in every place that it has.
use Rattle.std.specs.Prelude.{ℕ, ◌≡◌, refl, List, [], ◌∷◌, get_or, take, Some, None}
use Rattle.std.proofs.Common.{subst, eqb-true}
use Rattle.std.proofs.Math.Bool.{true}
use Rattle.std.proofs.Math.Dec.{eqb}
use Rattle.octets.proofs.Choice.{by_pick}
use Rattle.acyclic.specs.Numbers.{read_number, write_number, alarm_ack_number, idle_number, transport_number, negative_number, failed_by, Failed}
use Rattle.acyclic.specs.declared.numbers.Function.{Function}
use Rattle.acyclic.specs.declared.numbers.Function.TheVariants as function
use Rattle.acyclic.specs.declared.calls.Call.{Call}
use Rattle.acyclic.specs.declared.calls.Call.TheVariants as call
use Rattle.acyclic.specs.declared.answers.Answer.{Answer}
use Rattle.acyclic.specs.declared.answers.Answer.TheVariants as answer
use Rattle.acyclic_fields.specs.Four.{call_four, answer_four, call_named, negative_named, answer_named, call_places, answer_places, Case}
use Rattle.acyclic_fields.specs.declared.four.Case.TheVariants as case

-- ---- from a case to its fields and back

-- The fields of a call name it.
pub call_four_named : (c : Call) → let f = call_four c in call_named (get_or f 0 0) (get_or f 1 0) (get_or f 2 0) (get_or f 3 0) ≡ Some (case.Call c)
unfolding call_named
call_four_named call.Poll = refl
call_four_named (call.Read slot index l) = refl
call_four_named (call.Write slot index) = refl
call_four_named (call.AlarmAck slot alarm specifier) = refl
call_four_named call.Idle = refl
call_four_named (call.Transport slot index) = refl

-- The fields of an answer name it.
pub answer_four_named : (x : Answer) → let f = answer_four x in answer_named (get_or f 0 0) (get_or f 1 0) (get_or f 2 0) (get_or f 3 0) ≡ Some (case.Answer x)
unfolding answer_named failed_by
answer_four_named (answer.Read slot index) = refl
answer_four_named (answer.Write slot index l) = refl
answer_four_named (answer.AlarmAck slot alarm specifier) = refl
answer_four_named answer.Idle = refl
answer_four_named (answer.Transport slot index) = refl
answer_four_named (answer.Negative function.Read decode code1 code2) = refl
answer_four_named (answer.Negative function.Write decode code1 code2) = refl
answer_four_named (answer.Negative function.AlarmAck decode code1 code2) = refl
answer_four_named (answer.Negative function.Transport decode code1 code2) = refl

-- ---- from four fields to what they name and back

module _ (n a b d : ℕ) where
  abbrev given : List ℕ
  given = n ∷ a ∷ b ∷ d ∷ []

  -- a call with the same fields, or nothing
  abbrev AsCall : Case → Type 0
  AsCall (Some (case.Call c)) = take (call_places c) (call_four c) ≡ take (call_places c) given
  AsCall (Some (case.Answer x)) = ⊥
  AsCall None = Unit

  as_call : AsCall (call_named n a b d)
  unfolding call_named
  as_call =
      by_pick AsCall (eqb n 0) (λ e. rw (eqb-true n 0 e))
      (λ _. by_pick AsCall (eqb n read_number) (λ e. rw (eqb-true n read_number e))
      (λ _. by_pick AsCall (eqb n write_number) (λ e. rw (eqb-true n write_number e))
      (λ _. by_pick AsCall (eqb n alarm_ack_number) (λ e. rw (eqb-true n alarm_ack_number e))
      (λ _. by_pick AsCall (eqb n idle_number) (λ e. rw (eqb-true n idle_number e))
      (λ _. by_pick AsCall (eqb n transport_number) (λ e. rw (eqb-true n transport_number e)) (λ _. tt))))))

  -- A call that four fields name has them in every place that it has.
  pub call_named_four : {c : Call} → call_named n a b d ≡ Some (case.Call c) → take (call_places c) (call_four c) ≡ take (call_places c) (n ∷ a ∷ b ∷ d ∷ [])
  call_named_four e = subst AsCall e as_call

  -- They name no answer.
  pub call_named_no_answer : {x : Answer} → call_named n a b d ≡ Some (case.Answer x) → ⊥
  call_named_no_answer e = subst AsCall e as_call

  -- an answer with the same fields, or nothing
  abbrev AsAnswer : Case → Type 0
  AsAnswer (Some (case.Call c)) = ⊥
  AsAnswer (Some (case.Answer x)) = take (answer_places x) (answer_four x) ≡ take (answer_places x) given
  AsAnswer None = Unit

  as_negative : AsAnswer (negative_named (failed_by n) a b d)
  unfolding failed_by
  as_negative =
      let P : Failed → Type 0 = λ x. AsAnswer (negative_named x a b d) in
      let same : (f : Function) → eqb n (negative_number f) ≡ true → P (Some f) = λ f e. rw (eqb-true n (negative_number f) e) in
      by_pick P (eqb n (negative_number function.Read)) (same function.Read)
      (λ _. by_pick P (eqb n (negative_number function.Write)) (same function.Write)
      (λ _. by_pick P (eqb n (negative_number function.AlarmAck)) (same function.AlarmAck)
      (λ _. by_pick P (eqb n (negative_number function.Transport)) (same function.Transport) (λ _. tt))))

  as_answer : AsAnswer (answer_named n a b d)
  unfolding answer_named
  as_answer =
      by_pick AsAnswer (eqb n read_number) (λ e. rw (eqb-true n read_number e))
      (λ _. by_pick AsAnswer (eqb n write_number) (λ e. rw (eqb-true n write_number e))
      (λ _. by_pick AsAnswer (eqb n alarm_ack_number) (λ e. rw (eqb-true n alarm_ack_number e))
      (λ _. by_pick AsAnswer (eqb n idle_number) (λ e. rw (eqb-true n idle_number e))
      (λ _. by_pick AsAnswer (eqb n transport_number) (λ e. rw (eqb-true n transport_number e)) (λ _. as_negative)))))

  -- An answer that four fields name has them in every place that it has.
  pub answer_named_four : {x : Answer} → answer_named n a b d ≡ Some (case.Answer x)
      → take (answer_places x) (answer_four x) ≡ take (answer_places x) (n ∷ a ∷ b ∷ d ∷ [])
  answer_named_four e = subst AsAnswer e as_answer

  -- They name no call.
  pub answer_named_no_call : {c : Call} → answer_named n a b d ≡ Some (case.Call c) → ⊥
  answer_named_no_call e = subst AsAnswer e as_answer

-- ---- how many places each case has, in plain numbers

pub record Places : Type 0 where
  pub poll : call_places call.Poll ≡ 1
  pub read : (slot index l : ℕ) → call_places (call.Read slot index l) ≡ 4
  pub write : (slot index : ℕ) → call_places (call.Write slot index) ≡ 3
  pub alarm_ack : (slot alarm specifier : ℕ) → call_places (call.AlarmAck slot alarm specifier) ≡ 4
  pub idle : call_places call.Idle ≡ 1
  pub transport : (slot index : ℕ) → call_places (call.Transport slot index) ≡ 3
  pub read_answer : (slot index : ℕ) → answer_places (answer.Read slot index) ≡ 3
  pub write_answer : (slot index l : ℕ) → answer_places (answer.Write slot index l) ≡ 4
  pub alarm_ack_answer : (slot alarm specifier : ℕ) → answer_places (answer.AlarmAck slot alarm specifier) ≡ 4
  pub idle_answer : answer_places answer.Idle ≡ 1
  pub transport_answer : (slot index : ℕ) → answer_places (answer.Transport slot index) ≡ 3
  pub negative_answer : (f : Function) (decode code1 code2 : ℕ) → answer_places (answer.Negative f decode code1 code2) ≡ 4

pub places_computed : Places
places_computed =
    record {
      poll = refl;
      read = λ _ _ _. refl;
      write = λ _ _. refl;
      alarm_ack = λ _ _ _. refl;
      idle = refl;
      transport = λ _ _. refl;
      read_answer = λ _ _. refl;
      write_answer = λ _ _ _. refl;
      alarm_ack_answer = λ _ _ _. refl;
      idle_answer = refl;
      transport_answer = λ _ _. refl;
      negative_answer = λ _ _ _ _. refl;
    }
