-- Both ways between an answer and its six fields.
use Rattle.std.specs.Prelude.{ℕ, ◌≡◌, refl, List, length, Ok, Err, Some, None}
use Rattle.std.proofs.Common.{◌∙◌}
use Rattle.octets.specs.Elements.{elements}
use Rattle.octets.specs.Part.{part_of}
use Rattle.octets.specs.Front.{fine}
use Rattle.octets.proofs.Fixed.{fault_fine}
use Rattle.acyclic.specs.Answers as answers
use Rattle.acyclic.proofs.Laws.{answer_reads_back, answer_writes_back}
use Rattle.acyclic.specs.declared.answers.Answer.{Answer}
use Rattle.acyclic.specs.declared.answers.Answer.TheVariants as answer
use Rattle.acyclic.specs.Answers.{AnswerReading}
use Rattle.acyclic_fields.specs.Four.{answer_four, answer_places, places_in, Case}
use Rattle.acyclic_fields.proofs.Laws.{answer_four_named, answer_named_four, answer_named_no_call}
use Rattle.acyclic_fields.specs.declared.four.Case.TheVariants as case
use Rattle.capi_acyclic.specs.Acyclic.{all_fields, answer_refusal, answer_after, answer_in, verdict_at, bytes_at, part_in}
use Rattle.capi_acyclic.proofs.Lemmas.Told.{AnswerTells}

-- ---- from the bytes

-- the six fields of an answer name it, and its data
again : (s : List ℕ) (x : Answer) (start len : ℕ) → let fields = all_fields (answer_four x) start len in
    (answer_in fields ≡ Some (case.Answer x)) × (part_in s fields ≡ part_of s start len)
again s (answer.Read slot index) start len = (answer_four_named (answer.Read slot index), refl)
again s (answer.Write slot index l) start len = (answer_four_named (answer.Write slot index l), refl)
again s (answer.AlarmAck slot alarm specifier) start len = (answer_four_named (answer.AlarmAck slot alarm specifier), refl)
again s answer.Idle start len = (answer_four_named answer.Idle, refl)
again s (answer.Transport slot index) start len = (answer_four_named (answer.Transport slot index), refl)
again s (answer.Negative f decode code1 code2) start len = (answer_four_named (answer.Negative f decode code1 code2), refl)

-- what was read is written again
pub writes : (s before : List ℕ) (r : AnswerReading) → answers.read_answer_of s ≡ r → AnswerTells r → answer_refusal r ≡ 0
    → let k = answer_in (answer_after r before) in
    let part = part_in s (answer_after r before) in
    (verdict_at k part ≡ fine) × (bytes_at k part ≡ s)
writes s before (Ok found) e t z = let a = again s found.fields found.start found.len in rw (a.0, a.1) (answer_writes_back s e)
writes s before (Err r) e t z = absurd (t z)

-- ---- from the fields

-- an answer's four are the fields that named it, in every place that it has
same : (fields : List ℕ) (x : Answer) (start len : ℕ) → answer_in fields ≡ Some (case.Answer x)
    → elements (answer_places x) 0 (all_fields (answer_four x) start len) ≡ elements (answer_places x) 0 fields
same fields (answer.Read slot index) start len e = answer_named_four _ _ _ _ e
same fields (answer.Write slot index l) start len e = answer_named_four _ _ _ _ e
same fields (answer.AlarmAck slot alarm specifier) start len e = answer_named_four _ _ _ _ e
same fields answer.Idle start len e = answer_named_four _ _ _ _ e
same fields (answer.Transport slot index) start len e = answer_named_four _ _ _ _ e
same fields (answer.Negative f decode code1 code2) start len e = answer_named_four _ _ _ _ e

-- bytes t are read as the fields in every place that their case has, with this part
abbrev ReadAs : (places : ℕ) (fields part t before : List ℕ) → AnswerReading → Type 0
ReadAs places fields part t before r =
    (answer_refusal r ≡ 0) × (elements places 0 (answer_after r before) ≡ elements places 0 fields) × (part_in t (answer_after r before) ≡ part)

-- what was written is read again
pub reads : (fields part before : List ℕ) (k : Case) → answer_in fields ≡ k → verdict_at k part ≡ fine
    → let t = bytes_at k part in ReadAs (places_in k) fields part t before (answers.read_answer_of t)
reads fields part before (Some (case.Answer x)) e v =
    let r = answer_reads_back x part v in
    let t = answers.bytes_for x part in
    let start = length (answers.fixed_bytes x (length part)) in
    rw r.0 (refl, same fields x start (length part) e, (again t x start (length part)).1 ∙ r.1)
reads fields part before (Some (case.Call c)) e v = absurd (answer_named_no_call _ _ _ _ e)
reads fields part before None e v = absurd (fault_fine v)
