-- The controller's step (document 01, "The controller's step"): what a reply is to the controller, the next request or the end.
use Rattle.std.specs.Prelude.{ℕ, zero, suc, ◌-◌, ◌%◌, Bool, true, false, not, List, [], ◌∷◌, eqb, ltb, length, drop, Ok, Err, Result}
use Rattle.octets.specs.Choice.{pick, ◌and◌, ◌or◌}
use Rattle.octets.specs.Front.{Verdict, fine, fault, over}
use Rattle.octets.specs.Fixed.{judged}
use Rattle.octets.specs.declared.Mode.TheVariants as mode
use Rattle.fdl.specs.Reading as telegram
use Rattle.fdl.specs.declared.telegram.Format.{Format}
use Rattle.fdl.specs.declared.telegram.Format.TheVariants.{Sd1, Sd2, Sd3}
use Rattle.fdl.specs.declared.telegram.Header.{Header}
use Rattle.fdl.specs.declared.reading.Reading.TheVariants as telegram-reading
use Rattle.acyclic.specs.declared.answers.Answer.{Answer}
use Rattle.acyclic.specs.declared.answers.Answer.TheVariants as answer
use Rattle.acyclic.specs.declared.numbers.Function.{Function}
use Rattle.acyclic.specs.declared.numbers.Function.TheVariants as function
use Rattle.content.specs.declared.fields.Content.{Content}
use Rattle.content.specs.declared.fields.Content.TheVariants as content
use Rattle.service.specs.Reading as service
use Rattle.book.specs.Contents.{Entry, templates_of}
use Rattle.book.specs.Reading as book-format
use Rattle.book.specs.Refusals as book-refusals
use Rattle.protocol.specs.Bits.{bits_agree}
use Rattle.protocol.specs.Line.{go, stop}
use Rattle.protocol.specs.Line as line
use Rattle.protocol.specs.Telegrams.{reply_code, opening_bytes, write_bytes, poll_bytes}
use Rattle.protocol.specs.declared.controller.Settings.{Settings}
use Rattle.protocol.specs.declared.controller.Job.{Job}
use Rattle.protocol.specs.declared.controller.Job.TheVariants as job
use Rattle.protocol.specs.declared.controller.Controller.{Controller}
use Rattle.protocol.specs.declared.controller.Controller.TheVariants as controller
use Rattle.protocol.specs.declared.controller.Ending.{Ending}
use Rattle.protocol.specs.declared.controller.Ending.TheVariants as ending
use Rattle.protocol.specs.declared.controller.Action as act
use Rattle.protocol.specs.declared.controller.Action.TheVariants as action

-- what the controller does next, or a refusal's number
abbrev pub Action : Type 0
Action = Result act.Action ℕ

-- ---- what a reply is to the controller

pub data Got : Type 0 where
  -- no bytes, or bytes that framing refuses
  nothing : Got
  confirmation : Got
  -- the printer's diagnosis
  diagnosis : Got
  -- the printer's 5F
  positive : (slot index len : ℕ) → Got
  -- the printer's DF
  negative : (code1 code2 : ℕ) → Got
  -- any other that framing accepts
  other : Got

abbrev pub is_sd2 : Format → Bool
is_sd2 Sd1 = false
is_sd2 Sd2 = true
is_sd2 Sd3 = false

-- the printer's: SD2 with function code 08, from the printer address set to the controller address set
abbrev pub is_printers : Settings → Format → Header → Bool
is_printers c f h = is_sd2 f and eqb h.fc reply_code and eqb h.sa c.printer and eqb h.da c.controller

abbrev pub negative_of : Function → (code1 code2 : ℕ) → Got
negative_of function.Read code1 code2 = other
negative_of function.Write code1 code2 = negative code1 code2
negative_of function.AlarmAck code1 code2 = other
negative_of function.Transport code1 code2 = other

abbrev pub got_of_dpv1 : Answer → Got
got_of_dpv1 (answer.Read slot index) = other
got_of_dpv1 (answer.Write slot index len) = positive slot index len
got_of_dpv1 (answer.AlarmAck slot alarm specifier) = other
got_of_dpv1 answer.Idle = other
got_of_dpv1 (answer.Transport slot index) = other
got_of_dpv1 (answer.Negative f decode code1 code2) = negative_of f code1 code2

abbrev pub got_of : Content → Got
got_of content.DataExchange = other
got_of (content.Dpv1Call c) = other
got_of (content.Dpv1Answer x) = got_of_dpv1 x
got_of content.ExtUserPrm = other
got_of (content.SetSlaveAdr f) = other
got_of content.RdInp = other
got_of content.RdOutp = other
got_of (content.GlobalControl f) = other
got_of content.GetCfg = other
got_of content.SlaveDiagCall = other
got_of (content.SlaveDiag h) = diagnosis
got_of (content.SetPrm f) = other
got_of content.ChkCfg = other

abbrev pub got_by : service.Reading → Got
got_by (Ok found) = got_of found.content
got_by (Err r) = other

abbrev pub got_from : Settings → List ℕ → telegram.Reading → Got
got_from c s (Ok telegram-reading.Confirmation) = confirmation
got_from c s (Ok (telegram-reading.Token da sa)) = other
got_from c s (Ok (telegram-reading.Telegram f h start len)) = pick (is_printers c f h) (got_by (service.read_of s mode.Dpv1)) other
got_from c s (Err r) = nothing

unfoldable pub got_in : Settings → (reply : List ℕ) → Got
got_in c s = got_from c s (telegram.read_of s)

-- ---- the next request, or the end

abbrev pub Move : Type 0
Move = line.Move Controller Ending

abbrev pub request_bytes : Settings → Job → (fcb : Bool) → Entry → List ℕ
request_bytes c job.Write fcb t = write_bytes c.printer c.controller fcb t.slot t.body
request_bytes c (job.Poll left) fcb t = poll_bytes c.printer c.controller fcb

-- a job for template k, at the front of what is left of the book; with none left, done
abbrev pub ask_for : Settings → (k : ℕ) → Job → (fcb : Bool) (repeats : ℕ) → List Entry → Move
ask_for c k j fcb repeats [] = stop ending.Done
ask_for c k j fcb repeats (t ∷ ts) = go (request_bytes c j fcb t) (controller.Asking k j fcb repeats)

-- 5F with the write's slot, index and length: the next template; any other is strange
abbrev pub settled : Settings → (k : ℕ) (fcb : Bool) (slot index len : ℕ) → List Entry → Move
settled c k fcb slot index len [] = stop ending.Done
settled c k fcb slot index len (t ∷ ts) =
    pick (eqb slot 1 and eqb index t.slot and eqb len (length t.body))
    (ask_for c (suc k) job.Write (not fcb) c.repeats ts)
    (stop (ending.Strange k))

-- SC to a poll: another poll, P at most
abbrev pub poll_again : Settings → (k : ℕ) (fcb : Bool) (left : ℕ) → List Entry → Move
poll_again c k fcb zero ts = stop (ending.NotReady k)
poll_again c k fcb (suc left) ts = ask_for c k (job.Poll left) (not fcb) c.repeats ts

-- no reply: the same request again, R times at most
abbrev pub again : Settings → (k : ℕ) → Job → (fcb : Bool) (repeats : ℕ) → List Entry → Move
again c k j fcb zero ts = stop (ending.NoAnswer k)
again c k j fcb (suc repeats) ts = ask_for c k j fcb repeats ts

abbrev pub after_write : Settings → (k : ℕ) (fcb : Bool) (repeats : ℕ) → List Entry → Got → Move
after_write c k fcb repeats ts nothing = again c k job.Write fcb repeats ts
after_write c k fcb repeats ts confirmation = ask_for c k (job.Poll (c.polls - 1)) (not fcb) c.repeats ts
after_write c k fcb repeats ts diagnosis = stop (ending.Strange k)
after_write c k fcb repeats ts (positive slot index len) = stop (ending.Strange k)
after_write c k fcb repeats ts (negative code1 code2) = stop (ending.Strange k)
after_write c k fcb repeats ts other = stop (ending.Strange k)

abbrev pub after_poll : Settings → (k left : ℕ) (fcb : Bool) (repeats : ℕ) → List Entry → Got → Move
after_poll c k left fcb repeats ts nothing = again c k (job.Poll left) fcb repeats ts
after_poll c k left fcb repeats ts confirmation = poll_again c k fcb left ts
after_poll c k left fcb repeats ts diagnosis = stop (ending.Strange k)
after_poll c k left fcb repeats ts (positive slot index len) = settled c k fcb slot index len ts
after_poll c k left fcb repeats ts (negative code1 code2) = stop (ending.Refused k code1 code2)
after_poll c k left fcb repeats ts other = stop (ending.Strange k)

-- without a diagnosis back there is no opening; else the first template's write with FCB 0
abbrev pub after_opening : Settings → List Entry → Got → Move
after_opening c ts nothing = stop ending.NoOpening
after_opening c ts confirmation = stop ending.NoOpening
after_opening c ts diagnosis = ask_for c 1 job.Write false c.repeats ts
after_opening c ts (positive slot index len) = stop ending.NoOpening
after_opening c ts (negative code1 code2) = stop ending.NoOpening
after_opening c ts other = stop ending.NoOpening

abbrev pub after_job : Settings → (k : ℕ) → Job → (fcb : Bool) (repeats : ℕ) → List Entry → Got → Move
after_job c k job.Write fcb repeats ts g = after_write c k fcb repeats ts g
after_job c k (job.Poll left) fcb repeats ts g = after_poll c k left fcb repeats ts g

-- a fresh controller opens, whatever the reply
abbrev pub move_by : Settings → List Entry → Controller → Got → Move
move_by c book controller.Fresh g = go (opening_bytes c.printer c.controller) controller.Opening
move_by c book controller.Opening g = after_opening c book g
move_by c book (controller.Asking k j fcb repeats) g = after_job c k j fcb repeats (drop (k - 1) book) g

unfoldable pub move_of : Settings → List Entry → Controller → (reply : List ℕ) → Move
move_of c book o reply = move_by c book o (got_in c reply)

-- ---- what is refused, before any change

-- R 0..7, P 1..31, printer and controller 0..126, unequal
unfoldable pub settings_verdict : Settings → Verdict
settings_verdict c =
    pick (ltb 126 c.printer) (fault 12)
    (pick (ltb 126 c.controller) (fault 12)
    (pick (eqb c.printer c.controller) (fault 12)
    (pick (ltb 7 c.repeats) (fault 12)
    (pick (ltb c.polls 1) (fault 12)
    (pick (ltb 31 c.polls) (fault 12) fine)))))

-- the book's own refusal
abbrev pub book_verdict : book-format.Reading → Verdict
book_verdict r = book-refusals.verdict_in r

-- a state that no run leads to: at a template that the book has not, with more repeats or polls left than set, or with the
-- wrong FCB where it is known. It is at the first template, and where a template has one poll; else either may be.
abbrev pub requests_before : Settings → Job → ℕ
requests_before c job.Write = 0
requests_before c (job.Poll left) = c.polls - left

abbrev pub wrong_fcb : Settings → (k : ℕ) → Job → (fcb : Bool) → Bool
wrong_fcb c k j fcb = (eqb k 1 or eqb c.polls 1) and not (bits_agree fcb (eqb (requests_before c j % 2) 1))

abbrev pub too_many_polls : Settings → Job → Bool
too_many_polls c job.Write = false
too_many_polls c (job.Poll left) = not (ltb left c.polls)

unfoldable pub state_verdict : Settings → (templates : ℕ) → Controller → Verdict
state_verdict c n controller.Fresh = fine
state_verdict c n controller.Opening = fine
state_verdict c n (controller.Asking k j fcb repeats) =
    pick (ltb k 1) (fault 12)
    (pick (ltb n k) (fault 12)
    (pick (too_many_polls c j) (fault 12)
    (pick (ltb c.repeats repeats) (fault 12)
    (pick (wrong_fcb c k j fcb) (fault 12) fine))))

unfoldable pub verdict_of : Settings → (book : List ℕ) → Controller → Verdict
verdict_of c book o =
    judged fault (settings_verdict c)
    (judged fault (book_verdict (book-format.read_of book)) (state_verdict c (length (templates_of book)) o))

-- ---- the step: the answer, and what the lent buffer is then

pub record Acted : Type 0 where
  pub answer : Action
  pub buffer : List ℕ

abbrev pub leaving : Action → (buffer : List ℕ) → Acted
leaving a buffer = record { answer = a; buffer = buffer }

-- the request stands at the front of the buffer; 11 where it does not fit
abbrev pub acted : Move → (buffer : List ℕ) → Acted
acted (go request o) buffer =
    pick (ltb (length buffer) (length request)) (record { answer = Err 11; buffer = buffer })
    (record { answer = Ok (action.Send o (length request)); buffer = over request buffer })
acted (stop e) buffer = record { answer = Ok (action.End e); buffer = buffer }

abbrev pub step_by : Verdict → Move → (buffer : List ℕ) → Acted
step_by fine m buffer = acted m buffer
step_by (fault k) m buffer = record { answer = Err k; buffer = buffer }

unfoldable pub step_of : Settings → (book : List ℕ) → Controller → (reply buffer : List ℕ) → Acted
step_of c book o reply buffer = step_by (verdict_of c book o) (move_of c (templates_of book) o reply) buffer
