-- What a telegram is to a printer and what it does to it, in the words of framing, of the classes of function codes and of the
-- service reader. Of the printer's own definition only the fields of a station stand here, and what a write does to the slots:
-- so a printer that is defined otherwise is refused by the laws.
use Rattle.std.specs.Prelude.{ℕ, zero, suc, ◌+◌, ◌%◌, ◌/◌, ◌≤◌, ◌<◌, min, ◌≡◌, Bool, true, false, List, [], ◌∷◌, length, Ok, Err, Some}
use Rattle.octets.specs.Front.{over}
use Rattle.octets.specs.Part.{part_of}
use Rattle.octets.specs.declared.Mode.TheVariants as mode
use Rattle.function_code.specs.Code.{class_of}
use Rattle.function_code.specs.declared.code.Class.{Class}
use Rattle.function_code.specs.declared.code.Class.TheVariants as class
use Rattle.fdl.specs.Reading as telegram
use Rattle.fdl.specs.Writing.{telegram_of}
use Rattle.fdl.specs.declared.reading.Reading.TheVariants as telegram-reading
use Rattle.fdl.specs.declared.telegram.Format.{Format}
use Rattle.fdl.specs.declared.telegram.Format.TheVariants.{Sd2}
use Rattle.fdl.specs.declared.telegram.Header.{Header}
use Rattle.acyclic.specs.declared.calls.Call.TheVariants as call
use Rattle.content.specs.declared.fields.Content.{Content}
use Rattle.content.specs.declared.fields.Content.TheVariants as content
use Rattle.service.specs.Reading as service
use Rattle.service.specs.declared.reading.Way.{Way}
use Rattle.protocol.specs.Slots.{Slots, written}
use Rattle.protocol.specs.Printer.{Station, Heard}
use Rattle.protocol.specs.declared.printer.Outcome.{Outcome}
use Rattle.protocol.specs.declared.printer.Outcome.TheVariants as outcome
use Rattle.protocol.specs.declared.printer.Pending.{Pending}
use Rattle.protocol.specs.declared.printer.Pending.TheVariants as pending
use Rattle.protocol.specs.declared.printer.Printer.{Printer}

-- ---- what a telegram is

-- framing reads s as a telegram with the header h, whose function code is of the class k
pub record Framed (s : List ℕ) (k : Class) (h : Header) : Type 0 where
  pub format : Format
  pub start : ℕ
  pub len : ℕ
  pub read : telegram.read_of s ≡ Ok (telegram-reading.Telegram format h start len)
  pub code : class_of h.fc ≡ k

-- the classes of answers, and of calls
pub data IsAnswer : Class → Type 0 where
  bare : IsAnswer class.Bare
  carrying : IsAnswer class.Data

pub data IsCall : Class → Type 0 where
  opening : IsCall class.Opening
  counted : IsCall class.Counted
  uncounted : IsCall class.Uncounted

-- the telegram s calls the station x
pub record Calls (x : Station) (s : List ℕ) (k : Class) (h : Header) : Type 0 where
  pub framed : Framed s k h
  pub own : h.da ≡ x.printer.address

abbrev pub bit_of : Bool → ℕ
bit_of false = 0
bit_of true = 1

-- SA and FCB, bit 5 of the function code, are those remembered
pub record Remembered (p : Printer) (h : Header) : Type 0 where
  pub source : h.sa ≡ p.sa
  pub bit : h.fc / 32 % 2 ≡ bit_of p.fcb

-- a counted call that is new: its SA or its FCB is another
pub record New (x : Station) (s : List ℕ) (h : Header) : Type 0 where
  pub calls : Calls x s class.Counted h
  pub other : Remembered x.printer h → ⊥

-- an opening call, or a new one
pub data Taken (x : Station) (s : List ℕ) (h : Header) : Type 0 where
  opening : Calls x s class.Opening h → Taken x s h
  new : New x s h → Taken x s h

-- send and request data, low or high
pub data Srd (fc : ℕ) : Type 0 where
  low : fc % 16 ≡ 12 → Srd fc
  high : fc % 16 ≡ 13 → Srd fc

-- the service reader reads the content c with these bytes as its part; parameters are read as DPV1
pub record Carries (s : List ℕ) (c : Content) (part : List ℕ) : Type 0 where
  pub format : Format
  pub header : Header
  pub way : Way
  pub start : ℕ
  pub len : ℕ
  pub read : service.read_of s mode.Dpv1 ≡ Ok (record { format = format; header = header; way = way; content = c; start = start; len = len })
  pub bytes : part_of s start len ≡ part

-- an SRD call with this content
pub record Asks (s : List ℕ) (h : Header) (c : Content) (part : List ℕ) : Type 0 where
  pub srd : Srd h.fc
  pub carries : Carries s c part

-- an SRD call that is refused with this number
pub record Fails (s : List ℕ) (h : Header) (k : ℕ) : Type 0 where
  pub srd : Srd h.fc
  pub read : service.read_of s mode.Dpv1 ≡ Err k

-- ---- what is sent: station type 0 in every reply

abbrev pub short_confirmation : List ℕ
short_confirmation = 0xE5 ∷ []

-- SD1 DA SA FC FCS ED
abbrev pub bare_reply : (to from function : ℕ) → List ℕ
bare_reply to from function = 0x10 ∷ to ∷ from ∷ function ∷ (to + from + function) % 256 ∷ 0x16 ∷ []

-- data as function 8 in SD2, with both access points
abbrev pub data_reply : (to from dsap ssap : ℕ) → (user : List ℕ) → List ℕ
data_reply to from dsap ssap user =
    telegram_of Sd2 (record { da = to; sa = from; fc = 8; dsap = Some dsap; ssap = Some ssap }) user

abbrev pub diagnosis_reply : (to from : ℕ) → (diag : List ℕ) → List ℕ
diagnosis_reply to from diag = data_reply to from 62 60 diag

-- 5F with slot, index and length, or DF with decode 128 and both codes
abbrev pub result_data : Outcome → List ℕ
result_data (outcome.Positive slot index len) = 0x5F ∷ slot ∷ index ∷ len ∷ []
result_data (outcome.Negative code1 code2) = 0xDF ∷ 128 ∷ code1 ∷ code2 ∷ []

abbrev pub result_reply : (to from : ℕ) → Outcome → List ℕ
result_reply to from o = data_reply to from 51 51 (result_data o)

-- these bytes stand at the front of the buffer and are sent, none where there are none; the rest of the buffer stays
pub record Sent (x : Station) (bytes : List ℕ) (y : Heard) : Type 0 where
  pub reply : y.reply ≡ length bytes
  pub buffer : y.station.buffer ≡ over bytes x.buffer

-- ---- what the printer is then

-- what no telegram changes
pub record Same (x y : Station) : Type 0 where
  pub address : y.printer.address ≡ x.printer.address
  pub boarding : y.printer.boarding ≡ x.printer.boarding

-- the held reply is dropped, and nothing else is changed
pub record Dropped (x : Station) (bytes : List ℕ) (y : Heard) : Type 0 where
  pub same : Same x y.station
  pub fcb : y.station.printer.fcb ≡ x.printer.fcb
  pub sa : y.station.printer.sa ≡ x.printer.sa
  pub held : y.station.printer.held ≡ 0
  pub pending : y.station.printer.pending ≡ x.printer.pending
  pub writes : y.station.printer.writes ≡ x.printer.writes
  pub slots : y.station.slots ≡ x.slots
  pub sent : Sent x bytes y

-- after an opening call: FCB 1 and SA remembered, no held reply, no pending result, no write counted
pub record Opened (x : Station) (h : Header) (bytes : List ℕ) (y : Heard) : Type 0 where
  pub same : Same x y.station
  pub fcb : y.station.printer.fcb ≡ true
  pub sa : y.station.printer.sa ≡ h.sa
  pub held : y.station.printer.held ≡ 0
  pub pending : y.station.printer.pending ≡ pending.Nothing
  pub writes : y.station.printer.writes ≡ 0
  pub slots : y.station.slots ≡ x.slots
  pub sent : Sent x bytes y

-- after a new call: FCB and SA remembered, the reply held, the pending result p, n writes counted, the slots z
pub record Renewed (x : Station) (h : Header) (p : Pending) (n : ℕ) (z : Slots) (bytes : List ℕ) (y : Heard) : Type 0 where
  pub same : Same x y.station
  pub fcb : bit_of y.station.printer.fcb ≡ h.fc / 32 % 2
  pub sa : y.station.printer.sa ≡ h.sa
  pub held : y.station.printer.held ≡ length bytes
  pub pending : y.station.printer.pending ≡ p
  pub writes : y.station.printer.writes ≡ n
  pub slots : y.station.slots ≡ z
  pub sent : Sent x bytes y

-- after a new call that changes no more than that
abbrev pub Told : Station → Header → (bytes : List ℕ) → Heard → Type 0
Told x h bytes y = Renewed x h x.printer.pending x.printer.writes x.slots bytes y

-- after a call that gets its reply and does nothing besides
abbrev pub Replied : {x : Station} {s : List ℕ} {h : Header} → Taken x s h → (bytes : List ℕ) → Heard → Type 0
Replied {x} {s} {h} (opening c) bytes y = Opened x h bytes y
Replied {x} {s} {h} (new n) bytes y = Told x h bytes y

-- ---- a write

-- its result and the slots then: the first that fits decides
pub data Judged (boarding : Bool) (slot index : ℕ) (body : List ℕ) (before : Slots) : Outcome → Slots → Type 0 where
  other_slot : (slot ≡ 1 → ⊥) → Judged boarding slot index body before (outcome.Negative 0xB2 0) before
  beyond : slot ≡ 1 → 15 < index → Judged boarding slot index body before (outcome.Negative 0xB0 0) before
  too_long : slot ≡ 1 → index ≤ 15 → 200 < length body → Judged boarding slot index body before (outcome.Negative 0xB1 0) before
  guarded : slot ≡ 1 → index ≡ 7 → length body ≤ 200 → boarding ≡ true → Judged boarding slot index body before (outcome.Negative 0xB6 0) before
  stored : slot ≡ 1 → index ≤ 15 → length body ≤ 200 → (index ≡ 7 → boarding ≡ true → ⊥)
      → Judged boarding slot index body before (outcome.Positive slot index (length body)) (written index body before)

-- after a write with no result pending: SC, and the result pending, with its number of "not yet"; one write more, staying at 255
pub record Wrote (x : Station) (h : Header) (not_yet slot index : ℕ) (body : List ℕ) (y : Heard) : Type 0 where
  pub outcome : Outcome
  pub slots : Slots
  pub judged : Judged x.printer.boarding slot index body x.slots outcome slots
  pub renewed : Renewed x h (pending.Result outcome not_yet) (min 255 (suc x.printer.writes)) slots short_confirmation y

-- ---- what may become of the pending result, of the count of writes and of the slots

pub data Becomes (not_yet : ℕ) (s : List ℕ) (x : Station) : Pending → ℕ → Slots → Type 0 where
  kept : Becomes not_yet s x x.printer.pending x.printer.writes x.slots
  -- by an opening call: none, and 0
  opened : {h : Header} → Calls x s class.Opening h → Becomes not_yet s x pending.Nothing 0 x.slots
  -- by a new write with none pending: its result, and one more, staying at 255
  wrote : {h : Header} {slot index : ℕ} {body : List ℕ} {o : Outcome} {z : Slots}
      → New x s h → Asks s h (content.Dpv1Call (call.Write slot index)) body → x.printer.pending ≡ pending.Nothing
      → Judged x.printer.boarding slot index body x.slots o z → Becomes not_yet s x (pending.Result o not_yet) (min 255 (suc x.printer.writes)) z
  -- by a new poll of a pending result: one "not yet" less, or none pending
  waited : {h : Header} {part : List ℕ} {o : Outcome} {wait : ℕ}
      → New x s h → Asks s h (content.Dpv1Call call.Poll) part → x.printer.pending ≡ pending.Result o (suc wait)
      → Becomes not_yet s x (pending.Result o wait) x.printer.writes x.slots
  fetched : {h : Header} {part : List ℕ} {o : Outcome}
      → New x s h → Asks s h (content.Dpv1Call call.Poll) part → x.printer.pending ≡ pending.Result o zero
      → Becomes not_yet s x pending.Nothing x.printer.writes x.slots
