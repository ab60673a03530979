-- Both ways between a call and its six fields.
use Rattle.std.specs.Prelude.{ℕ, ◌≡◌, refl, List, length, Ok, Err, Some, None}
use Rattle.std.proofs.Common.{◌∙◌}
use Rattle.octets.specs.Elements.{elements}
use Rattle.octets.specs.Part.{part_of}
use Rattle.octets.specs.Front.{fine}
use Rattle.octets.proofs.Fixed.{fault_fine}
use Rattle.acyclic.specs.Calls as calls
use Rattle.acyclic.proofs.Laws.{call_reads_back, call_writes_back}
use Rattle.acyclic.specs.declared.calls.Call.{Call}
use Rattle.acyclic.specs.declared.calls.Call.TheVariants as call
use Rattle.acyclic.specs.Calls.{CallReading}
use Rattle.acyclic_fields.specs.Four.{call_four, call_places, places_in, Case}
use Rattle.acyclic_fields.proofs.Laws.{call_four_named, call_named_four, call_named_no_answer}
use Rattle.acyclic_fields.specs.declared.four.Case.TheVariants as case
use Rattle.capi_acyclic.specs.Acyclic.{all_fields, call_refusal, call_after, call_in, verdict_at, bytes_at, part_in}
use Rattle.capi_acyclic.proofs.Lemmas.Told.{CallTells}

-- ---- from the bytes

-- the six fields of a call name it, and its data
again : (s : List ℕ) (c : Call) (start len : ℕ) → let fields = all_fields (call_four c) start len in
    (call_in fields ≡ Some (case.Call c)) × (part_in s fields ≡ part_of s start len)
again s call.Poll start len = (call_four_named call.Poll, refl)
again s (call.Read slot index l) start len = (call_four_named (call.Read slot index l), refl)
again s (call.Write slot index) start len = (call_four_named (call.Write slot index), refl)
again s (call.AlarmAck slot alarm specifier) start len = (call_four_named (call.AlarmAck slot alarm specifier), refl)
again s call.Idle start len = (call_four_named call.Idle, refl)
again s (call.Transport slot index) start len = (call_four_named (call.Transport slot index), refl)

-- what was read is written again
pub writes : (s before : List ℕ) (r : CallReading) → calls.read_call_of s ≡ r → CallTells r → call_refusal r ≡ 0
    → let k = call_in (call_after r before) in
    let part = part_in s (call_after r before) in
    (verdict_at k part ≡ fine) × (bytes_at k part ≡ s)
writes s before (Ok found) e t z = let a = again s found.fields found.start found.len in rw (a.0, a.1) (call_writes_back s e)
writes s before (Err r) e t z = absurd (t z)

-- ---- from the fields

-- a call's four are the fields that named it, in every place that it has
same : (fields : List ℕ) (c : Call) (start len : ℕ) → call_in fields ≡ Some (case.Call c)
    → elements (call_places c) 0 (all_fields (call_four c) start len) ≡ elements (call_places c) 0 fields
same fields call.Poll start len e = call_named_four _ _ _ _ e
same fields (call.Read slot index l) start len e = call_named_four _ _ _ _ e
same fields (call.Write slot index) start len e = call_named_four _ _ _ _ e
same fields (call.AlarmAck slot alarm specifier) start len e = call_named_four _ _ _ _ e
same fields call.Idle start len e = call_named_four _ _ _ _ e
same fields (call.Transport slot index) start len e = call_named_four _ _ _ _ e

-- bytes t are read as the fields in every place that their case has, with this part
abbrev ReadAs : (places : ℕ) (fields part t before : List ℕ) → CallReading → Type 0
ReadAs places fields part t before r =
    (call_refusal r ≡ 0) × (elements places 0 (call_after r before) ≡ elements places 0 fields) × (part_in t (call_after r before) ≡ part)

-- what was written is read again
pub reads : (fields part before : List ℕ) (k : Case) → call_in fields ≡ k → verdict_at k part ≡ fine
    → let t = bytes_at k part in ReadAs (places_in k) fields part t before (calls.read_call_of t)
reads fields part before (Some (case.Call c)) e v =
    let r = call_reads_back c part v in
    let t = calls.bytes_for c part in
    let start = length (calls.fixed_bytes c (length part)) in
    rw r.0 (refl, same fields c start (length part) e, (again t c start (length part)).1 ∙ r.1)
reads fields part before (Some (case.Answer x)) e v = absurd (call_named_no_answer _ _ _ _ e)
reads fields part before None e v = absurd (fault_fine v)
