-- Both ways between an answer and its bytes.
use Rattle.std.specs.Prelude.{ℕ, ◌-◌, ◌≤◌, ◌≡◌, true, false, List, ◌++◌, length, eqb, Ok, Err, Some}
use Rattle.std.proofs.Math.Path.{refl}
use Rattle.std.proofs.Common.{ap, ◌∙◌}
use Rattle.std.proofs.Math.ListN.{get_or}
use Rattle.octets.proofs.Choice.{by_pick}
use Rattle.octets.specs.Front.{Verdict}
use Rattle.acyclic.specs.Numbers.{read_number, write_number, alarm_ack_number, idle_number, transport_number, negative_number, failed_by, allowed_in_answers, Failed}
use Rattle.acyclic.specs.Forms.{four}
use Rattle.acyclic.specs.Answers.{refused, answer_at, negative_for, four_of, idle_of, read_answer_of, fixed_bytes, bytes_for, verdict_of, verdict_for, AnswerReading}
use Rattle.acyclic.proofs.Lemmas.Forms.{counted_itself, read_four, read_idle}
use Rattle.acyclic.proofs.Lemmas.Again.{Again, Way, idle_again, plain_again, counted_again, by_reading}
use Rattle.acyclic.specs.declared.numbers.Function.{Function}
use Rattle.acyclic.specs.declared.numbers.Function.TheVariants as function
use Rattle.acyclic.specs.declared.answers.Answer.{Answer}
use Rattle.acyclic.specs.declared.answers.Answer.TheVariants as answer

-- ---- from the fields

-- four fixed bytes with an allowed number
of_four : (n a b l : ℕ) (part : List ℕ) → allowed_in_answers n ≡ true → eqb n idle_number ≡ false → read_answer_of (four n a b l ++ part) ≡ four_of n a b l (length part)
unfolding read_answer_of
of_four = read_four refused (refused 20) allowed_in_answers idle_of four_of

-- an answer is read by the verdict on its fields
pub alike : (x : Answer) (part : List ℕ)
    → read_answer_of (bytes_for x part) ≡ answer_at (length (fixed_bytes x (length part))) (length part) (verdict_for x part) x
unfolding failed_by four_of read_answer_of
alike (answer.Read slot index) part =
    of_four read_number slot index (length part) part refl refl
    ∙ ap (λ (v : Verdict). answer_at 4 (length part) v (answer.Read slot index)) (counted_itself 0 (length part))
alike (answer.Write slot index len) part = of_four write_number slot index len part refl refl
alike (answer.AlarmAck slot alarm specifier) part = of_four alarm_ack_number slot alarm specifier part refl refl
alike answer.Idle part = read_idle refused (refused 20) allowed_in_answers idle_of four_of part refl
alike (answer.Transport slot index) part =
    of_four transport_number slot index (length part) part refl refl
    ∙ ap (λ (v : Verdict). answer_at 4 (length part) v (answer.Transport slot index)) (counted_itself 0 (length part))
alike (answer.Negative function.Read decode code1 code2) part = of_four (negative_number function.Read) decode code1 code2 part refl refl
alike (answer.Negative function.Write decode code1 code2) part = of_four (negative_number function.Write) decode code1 code2 part refl refl
alike (answer.Negative function.AlarmAck decode code1 code2) part = of_four (negative_number function.AlarmAck) decode code1 code2 part refl refl
alike (answer.Negative function.Transport decode code1 code2) part = of_four (negative_number function.Transport) decode code1 code2 part refl refl

-- ---- from the bytes

abbrev pub AgainIn : List ℕ → AnswerReading → Type 0
AgainIn s (Ok found) = Again fixed_bytes verdict_of s found.fields found.start found.len
AgainIn s (Err r) = Unit

abbrev found : Answer → (start len : ℕ) → AnswerReading
found x start len = Ok (record { fields = x; start = start; len = len })

abbrev answers : (s : List ℕ) → Way fixed_bytes verdict_of refused found s
answers s = record { Holds = AgainIn s; of_refusals = λ k. tt; of_accepted = λ x start len a. a }

module _ (s : List ℕ) where
  -- of the function that the number names
  failed_again : 4 ≤ length s → (f : Function) → eqb (get_or s 0 0) (negative_number f) ≡ true
      → AgainIn s (negative_for (Some f) (get_or s 1 0) (get_or s 2 0) (get_or s 3 0) (length s - 4))
  failed_again long f e =
      rw e at (plain_again (answers s) long (answer.Negative f _ _ _) (refused 28) refl tt)

  negative_again : 4 ≤ length s → AgainIn s (negative_for (failed_by (get_or s 0 0)) (get_or s 1 0) (get_or s 2 0) (get_or s 3 0) (length s - 4))
  unfolding failed_by
  negative_again long =
      let R : Failed → Type 0 = λ x. AgainIn s (negative_for x (get_or s 1 0) (get_or s 2 0) (get_or s 3 0) (length s - 4)) in
      let n = get_or s 0 0 in
      by_pick R (eqb n (negative_number function.Read)) (failed_again long function.Read)
      (λ _. by_pick R (eqb n (negative_number function.Write)) (failed_again long function.Write)
      (λ _. by_pick R (eqb n (negative_number function.AlarmAck)) (failed_again long function.AlarmAck)
      (λ _. by_pick R (eqb n (negative_number function.Transport)) (failed_again long function.Transport) (λ _. tt))))

  four_again : 4 ≤ length s → AgainIn s (four_of (get_or s 0 0) (get_or s 1 0) (get_or s 2 0) (get_or s 3 0) (length s - 4))
  unfolding four_of
  four_again long =
      counted_again (answers s) long (answer.Read _ _) _ 0 refl refl
      (plain_again (answers s) long (answer.Write _ _ _) _ refl
      (plain_again (answers s) long (answer.AlarmAck _ _ _) _ refl
      (counted_again (answers s) long (answer.Transport _ _) _ 0 refl refl (negative_again long))))

  pub again : AgainIn s (read_answer_of s)
  unfolding read_answer_of
  again =
      by_reading (answers s) (refused 20) allowed_in_answers idle_of four_of (λ _. tt) (λ h e. idle_again (answers s) h e answer.Idle refl) four_again
