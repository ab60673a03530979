-- Calls (document 01, "DPV1"): reading and writing.
use Rattle.std.specs.Prelude.{ℕ, List, [], ◌∷◌, ◌++◌, length, eqb, Ok, Err, Result}
use Rattle.octets.specs.Choice.{pick}
use Rattle.octets.specs.Front.{Verdict}
use Rattle.octets.specs.Fixed.{judged}
use Rattle.acyclic.specs.Numbers.{read_number, write_number, alarm_ack_number, transport_number, call_number, allowed_in_calls}
use Rattle.acyclic.specs.Forms.{alone_of, ranged_of, counted_of, counted_as_of, by_number, where_allowed}
use Rattle.acyclic.specs.declared.calls.Call.{Call}
use Rattle.acyclic.specs.declared.calls.Call.TheVariants as call
use Rattle.octets.specs.declared.Read.{Read}

-- what reading answers: the call and where its data stand, or a refusal's number
abbrev pub CallReading : Type 0
CallReading = Result (Read Call) ℕ

-- ---- reading

abbrev pub refused : ℕ → CallReading
refused k = Err k

-- the call c with count bytes from start, where the verdict lets it stand
abbrev pub call_at : (start count : ℕ) → Verdict → Call → CallReading
call_at start count v c = judged refused v (Ok (record { fields = c; start = start; len = count }))

-- how each number is read whose call has four fixed bytes: n, a, b and l, and count bytes behind them; one that none has is
-- reserved
unfoldable pub four_of : (n a b l count : ℕ) → CallReading
four_of n a b l count =
    pick (eqb n read_number) (call_at 4 count (ranged_of l count) (call.Read a b l))
    (pick (eqb n write_number) (call_at 4 count (counted_as_of l 1 count) (call.Write a b))
    (pick (eqb n alarm_ack_number) (call_at 4 count (alone_of count) (call.AlarmAck a b l))
    (pick (eqb n transport_number) (call_at 4 count (counted_as_of l 0 count) (call.Transport a b)) (refused 28))))

abbrev pub idle_of : (count : ℕ) → CallReading
idle_of count = call_at 1 count (alone_of count) call.Idle

-- an empty call is a poll
unfoldable pub read_call_of : List ℕ → CallReading
read_call_of s = where_allowed refused (Ok (record { fields = call.Poll; start = 0; len = 0 })) allowed_in_calls (by_number refused idle_of four_of s) s

-- ---- writing

-- the fixed bytes behind the number, where so many data follow
abbrev pub fields_of : Call → (count : ℕ) → List ℕ
fields_of call.Poll count = []
fields_of (call.Read slot index len) count = slot ∷ index ∷ len ∷ []
fields_of (call.Write slot index) count = slot ∷ index ∷ count ∷ []
fields_of (call.AlarmAck slot alarm specifier) count = slot ∷ alarm ∷ specifier ∷ []
fields_of call.Idle count = []
fields_of (call.Transport slot index) count = slot ∷ index ∷ count ∷ []

abbrev pub fixed_bytes : Call → (count : ℕ) → List ℕ
fixed_bytes c count = call_number c ++ fields_of c count

abbrev pub bytes_for : Call → (part : List ℕ) → List ℕ
bytes_for c part = fixed_bytes c (length part) ++ part

-- each call has the form that reading asks of its number, with no length byte to agree: it is made from the part
abbrev pub verdict_of : Call → (count : ℕ) → Verdict
verdict_of call.Poll count = alone_of count
verdict_of (call.Read slot index len) count = ranged_of len count
verdict_of (call.Write slot index) count = counted_of 1 count
verdict_of (call.AlarmAck slot alarm specifier) count = alone_of count
verdict_of call.Idle count = alone_of count
verdict_of (call.Transport slot index) count = counted_of 0 count

abbrev pub verdict_for : Call → (part : List ℕ) → Verdict
verdict_for c part = verdict_of c (length part)
