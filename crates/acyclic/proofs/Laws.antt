-- The customer's second demand for calls and answers, over every case, and what a reading says of the first byte and of the data.
use Rattle.std.specs.Prelude.{ℕ, ◌+◌, ◌≤◌, ◌≡◌, List, [], ◌∷◌, length, get_or, take, Ok}
use Rattle.std.proofs.Common.{sym, ap, ◌∙◌, subst, arith}
use Rattle.octets.specs.Part.{part_of}
use Rattle.octets.specs.Front.{Verdict, fine, fault}
use Rattle.octets.proofs.Fixed.{part_behind}
use Rattle.acyclic.specs.Numbers.{write_number, function_number, call_number, answer_number}
use Rattle.acyclic.specs.Calls as calls
use Rattle.acyclic.specs.Answers as answers
use Rattle.acyclic.proofs.Lemmas.Forms.{counted_within}
use Rattle.acyclic.proofs.Lemmas.Again.{part_count}
use Rattle.acyclic.proofs.Lemmas.Small.{call_fits, answer_fits, small}
use Rattle.acyclic.proofs.Lemmas.Calls as call-lemmas
use Rattle.acyclic.proofs.Lemmas.Answers as answer-lemmas
use Rattle.acyclic.specs.declared.numbers.Function.{Function}
use Rattle.acyclic.specs.declared.calls.Call.{Call}
use Rattle.acyclic.specs.declared.calls.Call.TheVariants as call
use Rattle.acyclic.specs.declared.answers.Answer.{Answer}
use Rattle.acyclic.specs.declared.answers.Answer.TheVariants as answer

-- ---- what is written

module _ (c : Call) (part : List ℕ) where
  -- (a) What is written reads back as the same fields and the same data.
  pub call_reads_back : calls.verdict_for c part ≡ fine → let start = length (calls.fixed_bytes c (length part)) in
      (calls.read_call_of (calls.bytes_for c part) ≡ Ok (record { fields = c; start = start; len = length part })) × (part_of (calls.bytes_for c part) start (length part) ≡ part)
  call_reads_back e = (call-lemmas.back c part e, part_behind (calls.fixed_bytes c (length part)) part)

  -- What the writer refuses, the reader would refuse with the same number, a poll excepted: it has no byte to be refused by.
  pub call_refused_alike : {n k : ℕ} → call_number c ≡ n ∷ [] → calls.verdict_for c part ≡ fault k → calls.read_call_of (calls.bytes_for c part) ≡ calls.refused k
  call_refused_alike h e =
      call-lemmas.alike c part h ∙ ap (λ (v : Verdict). calls.call_at (length (calls.fixed_bytes c (length part))) (length part) v c) e

module _ (x : Answer) (part : List ℕ) where
  -- (a)
  pub answer_reads_back : answers.verdict_for x part ≡ fine → let start = length (answers.fixed_bytes x (length part)) in
      (answers.read_answer_of (answers.bytes_for x part) ≡ Ok (record { fields = x; start = start; len = length part })) × (part_of (answers.bytes_for x part) start (length part) ≡ part)
  answer_reads_back e =
      (answer-lemmas.alike x part ∙ ap (λ (v : Verdict). answers.answer_at (length (answers.fixed_bytes x (length part))) (length part) v x) e, part_behind (answers.fixed_bytes x (length part)) part)

  -- refused alike
  pub answer_refused_alike : {k : ℕ} → answers.verdict_for x part ≡ fault k → answers.read_answer_of (answers.bytes_for x part) ≡ answers.refused k
  answer_refused_alike e =
      answer-lemmas.alike x part ∙ ap (λ (v : Verdict). answers.answer_at (length (answers.fixed_bytes x (length part))) (length part) v x) e

-- ---- what is read

module _ (s : List ℕ) {c : Call} {start len : ℕ} (e : calls.read_call_of s ≡ Ok (record { fields = c; start = start; len = len })) where
  -- (b) What is read may be written, and gives the same bytes again.
  pub call_writes_back : (calls.verdict_for c (part_of s start len) ≡ fine) × (calls.bytes_for c (part_of s start len) ≡ s)
  call_writes_back = let a = subst (call-lemmas.AgainIn s) e (call-lemmas.again s) in (a.0, a.1)

  -- The data lie inside the bytes, and reach to their end.
  pub call_data_inside : start + len ≡ length s
  call_data_inside = (subst (call-lemmas.AgainIn s) e (call-lemmas.again s)).2

  -- The first byte alone names the case; a poll has none.
  pub call_named_by_first_byte : take 1 s ≡ call_number c
  call_named_by_first_byte = ap (take 1) (sym call_writes_back.1) ∙ call-lemmas.first c (part_of s start len) call_writes_back.0

module _ (s : List ℕ) {x : Answer} {start len : ℕ} (e : answers.read_answer_of s ≡ Ok (record { fields = x; start = start; len = len })) where
  -- (b)
  pub answer_writes_back : (answers.verdict_for x (part_of s start len) ≡ fine) × (answers.bytes_for x (part_of s start len) ≡ s)
  answer_writes_back = let a = subst (answer-lemmas.AgainIn s) e (answer-lemmas.again s) in (a.0, a.1)

  -- the data
  pub answer_data_inside : start + len ≡ length s
  answer_data_inside = (subst (answer-lemmas.AgainIn s) e (answer-lemmas.again s)).2

  -- the first byte
  pub answer_named_by_first_byte : get_or s 0 0 ≡ answer_number x
  answer_named_by_first_byte = ap (λ (t : List ℕ). get_or t 0 0) (sym answer_writes_back.1)

-- A positive write answer is read only from 5F.
pub positive_write_only_from_5_f : (s : List ℕ) {slot index written start len : ℕ}
    → answers.read_answer_of s ≡ Ok (record { fields = answer.Write slot index written; start = start; len = len }) → get_or s 0 0 ≡ write_number
positive_write_only_from_5_f s e = answer_named_by_first_byte s e

-- A negative answer is read only from its function's number plus 80 hex, so no reading takes one of the two for the other.
pub negative_only_with_80 : (s : List ℕ) {f : Function} {decode code1 code2 start len : ℕ}
    → answers.read_answer_of s ≡ Ok (record { fields = answer.Negative f decode code1 code2; start = start; len = len }) → get_or s 0 0 ≡ 128 + function_number f
negative_only_with_80 s e = answer_named_by_first_byte s e

-- The data of a write call are as many as its length byte says, 1..240.
pub write_call_counted : (s : List ℕ) {slot index start len : ℕ} → calls.read_call_of s ≡ Ok (record { fields = call.Write slot index; start = start; len = len })
    → (get_or s 3 0 ≡ len) × (1 ≤ len) × (len ≤ 240)
write_call_counted s {start = start} {len = len} e =
    let w = call_writes_back s e in
    let n = part_count s start len (call_data_inside s e) in
    let r = counted_within 1 (length (part_of s start len)) w.0 in
    (ap (λ (t : List ℕ). get_or t 3 0) (sym w.1) ∙ n, omega arith, omega arith)

-- ---- how large a reading is

-- At most four bytes stand before the data, and the data are at most 240.
pub call_small : (s : List ℕ) {c : Call} {start len : ℕ} → calls.read_call_of s ≡ Ok (record { fields = c; start = start; len = len }) → (start ≤ 4) × (len ≤ 240)
call_small s {c} {start} {len} e =
    let w = call_writes_back s e in
    small s (calls.fixed_bytes c (length (part_of s start len))) start len (call_data_inside s e) w.1 (call_fits c _ w.0)

-- the same of answers
pub answer_small : (s : List ℕ) {x : Answer} {start len : ℕ} → answers.read_answer_of s ≡ Ok (record { fields = x; start = start; len = len }) → (start ≤ 4) × (len ≤ 240)
answer_small s {x} {start} {len} e =
    let w = answer_writes_back s e in
    small s (answers.fixed_bytes x (length (part_of s start len))) start len (answer_data_inside s e) w.1 (answer_fits x _ w.0)
