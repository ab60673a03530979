-- The printer's step (document 01, "Printer rules", first that fits): what a telegram is to the printer, what it does,
-- and what it sends back.
use Rattle.std.specs.Prelude.{ℕ, zero, suc, ◌%◌, ◌/◌, min, Bool, true, false, not, List, eqb, ltb, length, Ok, Err, Result}
use Rattle.octets.specs.Choice.{pick, ◌and◌, ◌or◌}
use Rattle.octets.specs.Front.{Verdict, fine, fault, over}
use Rattle.octets.specs.Part.{part_of}
use Rattle.octets.specs.declared.Mode.TheVariants as mode
use Rattle.function_code.specs.Code.{class_of}
use Rattle.fdl.specs.Reading as telegram
use Rattle.function_code.specs.declared.code.Class.{Class}
use Rattle.function_code.specs.declared.code.Class.TheVariants as class
use Rattle.fdl.specs.declared.telegram.Header.{Header}
use Rattle.fdl.specs.declared.reading.Reading.TheVariants as telegram-reading
use Rattle.diagnosis.specs.Reading as diagnosis-format
use Rattle.acyclic.specs.declared.calls.Call.{Call}
use Rattle.acyclic.specs.declared.calls.Call.TheVariants as call
use Rattle.content.specs.declared.fields.Content.{Content}
use Rattle.content.specs.declared.fields.Content.TheVariants as content
use Rattle.service.specs.Reading as service
use Rattle.protocol.specs.Bits.{bits_agree}
use Rattle.protocol.specs.Slots.{Slots, written, too_long}
use Rattle.protocol.specs.Telegrams.{bare_bytes, diagnosis_bytes, outcome_bytes}
use Rattle.fdl.specs.Writing.{confirmation_bytes}
use Rattle.protocol.specs.declared.printer.Outcome.{Outcome}
use Rattle.protocol.specs.declared.printer.Outcome.TheVariants as outcome
use Rattle.protocol.specs.declared.printer.Pending.{Pending}
use Rattle.protocol.specs.declared.printer.Pending.TheVariants as pending
use Rattle.protocol.specs.declared.printer.Printer.{Printer}
use Rattle.protocol.specs.declared.printer.Reaction as heard

-- what the printer makes of a telegram, or a refusal's number
abbrev pub Reaction : Type 0
Reaction = Result heard.Reaction ℕ

-- ---- what a telegram is to the printer

-- what an opening or a counted call asks for
pub data Ask : Type 0 where
  slave_diag : Ask
  write : (slot index : ℕ) (body : List ℕ) → Ask
  poll : Ask
  -- not SRD, refused with 10, or any other service or DPV1 function
  unknown : Ask
  -- other undecodable data
  undecodable : Ask

pub data Received : Type 0 where
  -- refused bytes, a token, SC, an answer
  nothing : Received
  -- a call to another station
  elsewhere : Received
  -- FDL status, from the station sa
  status : (sa : ℕ) → Received
  uncounted : Received
  opening : (sa : ℕ) → Ask → Received
  counted : (fcb : Bool) (sa : ℕ) → Ask → Received

abbrev pub ask_of_dpv1 : Call → (part : List ℕ) → Ask
ask_of_dpv1 call.Poll part = poll
ask_of_dpv1 (call.Read slot index len) part = unknown
ask_of_dpv1 (call.Write slot index) part = write slot index part
ask_of_dpv1 (call.AlarmAck slot alarm specifier) part = unknown
ask_of_dpv1 call.Idle part = unknown
ask_of_dpv1 (call.Transport slot index) part = unknown

abbrev pub ask_of : Content → (part : List ℕ) → Ask
ask_of content.DataExchange part = unknown
ask_of (content.Dpv1Call c) part = ask_of_dpv1 c part
ask_of (content.Dpv1Answer x) part = unknown
ask_of content.ExtUserPrm part = unknown
ask_of (content.SetSlaveAdr f) part = unknown
ask_of content.RdInp part = unknown
ask_of content.RdOutp part = unknown
ask_of (content.GlobalControl f) part = unknown
ask_of content.GetCfg part = unknown
ask_of content.SlaveDiagCall part = slave_diag
ask_of (content.SlaveDiag h) part = unknown
ask_of (content.SetPrm f) part = unknown
ask_of content.ChkCfg part = unknown

-- by the service reader; 10 is apart from its other refusals
abbrev pub ask_by : List ℕ → service.Reading → Ask
ask_by s (Ok found) = ask_of found.content (part_of s found.start found.len)
ask_by s (Err r) = pick (eqb r 10) unknown undecodable

-- send and request data (SRD), low or high
abbrev pub is_srd : (fc : ℕ) → Bool
is_srd fc = eqb (fc % 16) 12 or eqb (fc % 16) 13

-- the printer reads parameters as DPV1
unfoldable pub ask_in : List ℕ → (fc : ℕ) → Ask
ask_in s fc = pick (is_srd fc) (ask_by s (service.read_of s mode.Dpv1)) unknown

-- FCB is bit 5
abbrev pub fcb_of : (fc : ℕ) → Bool
fcb_of fc = eqb (fc / 32 % 2) 1

-- a call to this printer, by its class; FDL status is function 9
abbrev pub called_by : Class → List ℕ → Header → Received
called_by class.Opening s h = opening h.sa (ask_in s h.fc)
called_by class.Counted s h = counted (fcb_of h.fc) h.sa (ask_in s h.fc)
called_by class.Uncounted s h = pick (eqb (h.fc % 16) 9) (status h.sa) uncounted
called_by class.Bare s h = nothing
called_by class.Data s h = nothing
called_by class.Reserved s h = nothing

abbrev pub is_call : Class → Bool
is_call class.Opening = true
is_call class.Counted = true
is_call class.Uncounted = true
is_call class.Bare = false
is_call class.Data = false
is_call class.Reserved = false

-- what was read is a call
abbrev pub is_call_of : telegram.Reading → Bool
is_call_of (Ok telegram-reading.Confirmation) = false
is_call_of (Ok (telegram-reading.Token da sa)) = false
is_call_of (Ok (telegram-reading.Telegram f h start len)) = is_call (class_of h.fc)
is_call_of (Err r) = false

abbrev pub received_by : (address : ℕ) → List ℕ → telegram.Reading → Received
received_by address s (Ok telegram-reading.Confirmation) = nothing
received_by address s (Ok (telegram-reading.Token da sa)) = nothing
received_by address s (Ok (telegram-reading.Telegram f h start len)) =
    pick (is_call (class_of h.fc)) (pick (eqb h.da address) (called_by (class_of h.fc) s h) elsewhere) nothing
received_by address s (Err r) = nothing

unfoldable pub received_of : (address : ℕ) → List ℕ → Received
received_of address s = received_by address s (telegram.read_of s)

-- ---- what it does

-- what is sent back, other than the held reply
pub data Reply : Type 0 where
  confirmation : Reply
  bare : (function : ℕ) → Reply
  diagnosis : Reply
  result : Outcome → Reply

-- the slots that are not changed while boarding
abbrev pub guarded : (boarding : Bool) → (index : ℕ) → Bool
guarded boarding index = boarding and eqb index 7

abbrev pub negative : ℕ → Outcome
negative code1 = outcome.Negative code1 0

-- the result of a write, the first that fits deciding
unfoldable pub judge : (boarding : Bool) → (slot index len : ℕ) → Outcome
judge boarding slot index len =
    pick (not (eqb slot 1)) (negative 0xB2)
    (pick (ltb 15 index) (negative 0xB0)
    (pick (ltb 200 len) (negative 0xB1)
    (pick (guarded boarding index) (negative 0xB6) (outcome.Positive slot index len))))

-- the slots after a write with this result
abbrev pub slots_after : Outcome → (index : ℕ) → (body : List ℕ) → Slots → Slots
slots_after (outcome.Positive slot i len) index body s = written index body s
slots_after (outcome.Negative code1 code2) index body s = s

-- what a new call does
pub record Deed : Type 0 where
  pub pending : Pending
  pub slots : Slots
  pub writes : ℕ
  pub reply : Reply

abbrev pub only : Pending → Slots → (writes : ℕ) → Reply → Deed
only p s n r = record { pending = p; slots = s; writes = n; reply = r }

-- a write is performed at once where no result is pending, and counted, the count staying at 255
abbrev pub write_deed : (boarding : Bool) (not_yet : ℕ) → Pending → Slots → (writes : ℕ) → (slot index : ℕ) (body : List ℕ) → Deed
write_deed boarding not_yet pending.Nothing s n slot index body =
    record {
      pending = pending.Result (judge boarding slot index (length body)) not_yet;
      slots = slots_after (judge boarding slot index (length body)) index body s;
      writes = min 255 (suc n);
      reply = confirmation;
    }
write_deed boarding not_yet (pending.Result o wait) s n slot index body = only (pending.Result o wait) s n (bare 2)

-- a poll gets SC while none is pending or the number of "not yet" is not used up, then the result
abbrev pub waited : Outcome → (wait : ℕ) → Slots → (writes : ℕ) → Deed
waited o zero s n = only pending.Nothing s n (result o)
waited o (suc wait) s n = only (pending.Result o wait) s n confirmation

abbrev pub poll_deed : Pending → Slots → (writes : ℕ) → Deed
poll_deed pending.Nothing s n = only pending.Nothing s n confirmation
poll_deed (pending.Result o wait) s n = waited o wait s n

abbrev pub perform : (boarding : Bool) (not_yet : ℕ) → Pending → Slots → (writes : ℕ) → Ask → Deed
perform boarding not_yet p s n slave_diag = only p s n diagnosis
perform boarding not_yet p s n (write slot index body) = write_deed boarding not_yet p s n slot index body
perform boarding not_yet p s n poll = poll_deed p s n
perform boarding not_yet p s n unknown = only p s n (bare 3)
perform boarding not_yet p s n undecodable = only p s n (bare 1)

abbrev pub opening_reply : Ask → Reply
opening_reply slave_diag = diagnosis
opening_reply (write slot index body) = bare 3
opening_reply poll = bare 3
opening_reply unknown = bare 3
opening_reply undecodable = bare 1

-- ---- the step

-- the printer with what it is lent: its slots, and the buffer with the held reply at its front
pub record Station : Type 0 where
  pub printer : Printer
  pub slots : Slots
  pub buffer : List ℕ

-- as code has it: the state by value, and what is lent
abbrev pub lending : Printer → (lengths bodies buffer : List ℕ) → Station
lending p lengths bodies buffer = record { printer = p; slots = record { lengths = lengths; bodies = bodies }; buffer = buffer }

-- after a telegram, and how many bytes of the buffer are sent
pub record Heard : Type 0 where
  pub station : Station
  pub reply : ℕ

abbrev pub drop_held : Printer → Printer
drop_held p =
    record {
      address = p.address;
      boarding = p.boarding;
      fcb = p.fcb;
      sa = p.sa;
      held = 0;
      pending = p.pending;
      writes = p.writes;
    }

-- after an opening call: FCB 1 and SA remembered, no held reply, no pending result, no write counted
abbrev pub opened : Printer → (sa : ℕ) → Printer
opened p sa =
    record {
      address = p.address;
      boarding = p.boarding;
      fcb = true;
      sa = sa;
      held = 0;
      pending = pending.Nothing;
      writes = 0;
    }

-- after a new call, which holds its reply of so many bytes
abbrev pub renewed : Printer → (fcb : Bool) (sa held : ℕ) → Deed → Printer
renewed p fcb sa held d =
    record {
      address = p.address;
      boarding = p.boarding;
      fcb = fcb;
      sa = sa;
      held = held;
      pending = d.pending;
      writes = d.writes;
    }

-- is a counted call the last one again
abbrev pub is_repeat : Printer → (fcb : Bool) (sa : ℕ) → Bool
is_repeat p fcb sa = eqb sa p.sa and bits_agree fcb p.fcb

-- the bytes of a new reply to the station `to`
abbrev pub reply_bytes : (diag : List ℕ) (address to : ℕ) → Reply → List ℕ
reply_bytes diag address to confirmation = confirmation_bytes
reply_bytes diag address to (bare function) = bare_bytes to address function
reply_bytes diag address to diagnosis = diagnosis_bytes to address diag
reply_bytes diag address to (result o) = outcome_bytes to address o

abbrev pub quiet : Printer → Slots → (buffer : List ℕ) → Heard
quiet p s buffer = record { station = record { printer = p; slots = s; buffer = buffer }; reply = 0 }

-- bytes stored at the front of the buffer and sent
abbrev pub saying : Printer → Slots → (buffer bytes : List ℕ) → Heard
saying p s buffer bytes = record { station = record { printer = p; slots = s; buffer = over bytes buffer }; reply = length bytes }

abbrev pub new_call : (diag : List ℕ) → Station → (fcb : Bool) (sa : ℕ) → Deed → Heard
new_call diag x fcb sa d =
    saying (renewed x.printer fcb sa (length (reply_bytes diag x.printer.address sa d.reply)) d) d.slots x.buffer
    (reply_bytes diag x.printer.address sa d.reply)

abbrev pub heard_by : (diag : List ℕ) (not_yet : ℕ) → Received → Station → Heard
heard_by diag not_yet nothing x = record { station = x; reply = 0 }
heard_by diag not_yet elsewhere x = quiet (drop_held x.printer) x.slots x.buffer
heard_by diag not_yet uncounted x = quiet (drop_held x.printer) x.slots x.buffer
heard_by diag not_yet (status sa) x =
    saying (drop_held x.printer) x.slots x.buffer (bare_bytes sa x.printer.address 0)
heard_by diag not_yet (opening sa ask) x =
    saying (opened x.printer sa) x.slots x.buffer (reply_bytes diag x.printer.address sa (opening_reply ask))
heard_by diag not_yet (counted fcb sa ask) x =
    pick (is_repeat x.printer fcb sa) (record { station = x; reply = x.printer.held })
    (new_call diag x fcb sa (perform x.printer.boarding not_yet x.printer.pending x.slots x.printer.writes ask))

unfoldable pub hear : (diag : List ℕ) (not_yet : ℕ) → (telegram : List ℕ) → Station → Heard
hear diag not_yet s x = heard_by diag not_yet (received_of x.printer.address s) x

-- ---- what is refused, before any change

abbrev pub is_refused : diagnosis-format.Reading → Bool
is_refused (Ok found) = false
is_refused (Err r) = true

unfoldable pub verdict_of : (diag : List ℕ) → Station → Verdict
verdict_of diag x =
    pick (ltb 126 x.printer.address) (fault 12)
    (pick (too_long x.slots.lengths) (fault 12)
    (pick (is_refused (diagnosis-format.read_of diag)) (fault 12)
    (pick (ltb (length x.buffer) 255) (fault 11) fine)))

-- the answer of the step, and what every lent byte is then
pub record Stepped : Type 0 where
  pub answer : Reaction
  pub slots : Slots
  pub buffer : List ℕ

abbrev pub leaving : Reaction → (lengths bodies buffer : List ℕ) → Stepped
leaving r lengths bodies buffer = record { answer = r; slots = record { lengths = lengths; bodies = bodies }; buffer = buffer }

abbrev pub stepped : Heard → Stepped
stepped h =
    record {
      answer = Ok (record { printer = h.station.printer; reply = h.reply });
      slots = h.station.slots;
      buffer = h.station.buffer;
    }

abbrev pub step_by : Verdict → (diag : List ℕ) (not_yet : ℕ) → (telegram : List ℕ) → Station → Stepped
step_by fine diag not_yet s x = stepped (hear diag not_yet s x)
step_by (fault k) diag not_yet s x = record { answer = Err k; slots = x.slots; buffer = x.buffer }

unfoldable pub step_of : (diag : List ℕ) (not_yet : ℕ) → (telegram : List ℕ) → Station → Stepped
step_of diag not_yet s x = step_by (verdict_of diag x) diag not_yet s x
