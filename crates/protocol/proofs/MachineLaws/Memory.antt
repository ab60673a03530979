-- What the printer keeps, and what alone changes its pending result, its count of writes and its slots: at every state and every
-- telegram.
use Rattle.std.specs.Prelude.{ℕ, zero, suc, ◌%◌, ◌≡◌, refl, Bool, true, false, List, eqb, Ok, Err}
use Rattle.std.proofs.Common.{sym, ◌∙◌, subst, eqb-true}
use Rattle.octets.specs.Choice.{◌or◌}
use Rattle.octets.proofs.Choice.{by_pick, never}
use Rattle.octets.specs.Part.{part_of}
use Rattle.octets.specs.declared.Mode.TheVariants as mode
use Rattle.function_code.specs.Code.{class_of}
use Rattle.function_code.specs.declared.code.Class.{Class}
use Rattle.function_code.specs.declared.code.Class.TheVariants as class
use Rattle.fdl.specs.Reading as telegram
use Rattle.fdl.specs.declared.reading.Reading.TheVariants as telegram-reading
use Rattle.fdl.specs.declared.telegram.Header.{Header}
use Rattle.acyclic.specs.declared.calls.Call.TheVariants as call
use Rattle.content.specs.declared.fields.Content.{Content}
use Rattle.content.specs.declared.fields.Content.TheVariants as content
use Rattle.service.specs.Reading as service
use Rattle.protocol.specs.Printer.{Ask, write, poll, Received, nothing, elsewhere, status, uncounted, opening, counted, ask_of, ask_by, is_srd, ask_in, fcb_of, is_call, called_by, received_by, received_of, perform, Station, Heard, is_repeat, heard_by, hear}
use Rattle.protocol.specs.MachineLaws.Effects.{Calls, New, Srd, low, high, Asks, Same, Becomes, kept, opened, wrote, waited, fetched}
use Rattle.protocol.proofs.MachineLaws.Calls.{repeats}
use Rattle.protocol.proofs.MachineLaws.Answers.{judged}
use Rattle.protocol.specs.declared.printer.Pending.{Pending}
use Rattle.protocol.specs.declared.printer.Pending.TheVariants as pending

-- ---- address and boarding

module _ (diag : List ℕ) (not_yet : ℕ) (x : Station) where
  same_heard : (r : Received) → Same x (heard_by diag not_yet r x).station
  same_heard nothing = record { address = refl; boarding = refl }
  same_heard elsewhere = record { address = refl; boarding = refl }
  same_heard uncounted = record { address = refl; boarding = refl }
  same_heard (status sa) = record { address = refl; boarding = refl }
  same_heard (opening sa ask) = record { address = refl; boarding = refl }
  same_heard (counted fcb sa ask) =
      by_pick (λ (h : Heard). Same x h.station) (is_repeat x.printer fcb sa)
      (λ _. record { address = refl; boarding = refl }) (λ _. record { address = refl; boarding = refl })

-- The printer keeps its address, and whether boarding is on, whatever it hears.
pub keeps_itself : (diag : List ℕ) (not_yet : ℕ) (s : List ℕ) (x : Station) → Same x (hear diag not_yet s x).station
unfolding hear
keeps_itself diag not_yet s x = same_heard diag not_yet x (received_of x.printer.address s)

-- ---- pending result, count and slots

srd_told : (fc : ℕ) → is_srd fc ≡ true → Srd fc
srd_told fc e = by (eqb (fc % 16) 12) refl e
  where
    by : (b : Bool) → eqb (fc % 16) 12 ≡ b → (b or eqb (fc % 16) 13) ≡ true → Srd fc
    by true q k = low (eqb-true (fc % 16) 12 q)
    by false q k = high (eqb-true (fc % 16) 13 k)

module _ (diag : List ℕ) (not_yet : ℕ) (s : List ℕ) (x : Station) where
  abbrev After : Heard → Type 0
  After y = Becomes not_yet s x y.station.printer.pending y.station.printer.writes y.station.slots

  -- what a new call does, where p is pending
  abbrev Done : (p : Pending) → Ask → Type 0
  Done p ask =
      let d = perform x.printer.boarding not_yet p x.slots x.printer.writes ask in
      Becomes not_yet s x d.pending d.writes d.slots

  module _ (h : Header) (n : New x s h) where
    by_write : (slot index : ℕ) (body : List ℕ) → Asks s h (content.Dpv1Call (call.Write slot index)) body
        → (p : Pending) → x.printer.pending ≡ p → Done p (write slot index body)
    by_write slot index body a pending.Nothing e = wrote n a e (judged x.printer.boarding slot index body x.slots)
    by_write slot index body a (pending.Result o wait) e =
        subst (λ (p : Pending). Becomes not_yet s x p x.printer.writes x.slots) e kept

    by_poll : (part : List ℕ) → Asks s h (content.Dpv1Call call.Poll) part → (p : Pending) → x.printer.pending ≡ p → Done p poll
    by_poll part a pending.Nothing e = subst (λ (p : Pending). Becomes not_yet s x p x.printer.writes x.slots) e kept
    by_poll part a (pending.Result o zero) e = fetched n a e
    by_poll part a (pending.Result o (suc wait)) e = waited n a e

    by_content : (c : Content) (part : List ℕ) → Asks s h c part → Done x.printer.pending (ask_of c part)
    by_content content.DataExchange part a = kept
    by_content (content.Dpv1Call call.Poll) part a = by_poll part a x.printer.pending refl
    by_content (content.Dpv1Call (call.Read slot index len)) part a = kept
    by_content (content.Dpv1Call (call.Write slot index)) part a = by_write slot index part a x.printer.pending refl
    by_content (content.Dpv1Call (call.AlarmAck slot alarm specifier)) part a = kept
    by_content (content.Dpv1Call call.Idle) part a = kept
    by_content (content.Dpv1Call (call.Transport slot index)) part a = kept
    by_content (content.Dpv1Answer f) part a = kept
    by_content content.ExtUserPrm part a = kept
    by_content (content.SetSlaveAdr f) part a = kept
    by_content content.RdInp part a = kept
    by_content content.RdOutp part a = kept
    by_content (content.GlobalControl f) part a = kept
    by_content content.GetCfg part a = kept
    by_content content.SlaveDiagCall part a = kept
    by_content (content.SlaveDiag f) part a = kept
    by_content (content.SetPrm f) part a = kept
    by_content content.ChkCfg part a = kept

    by_service : Srd h.fc → (r : service.Reading) → service.read_of s mode.Dpv1 ≡ r → Done x.printer.pending (ask_by s r)
    by_service srd (Ok found) e =
        by_content found.content (part_of s found.start found.len)
        (record { srd = srd; carries = record { format = found.format; header = found.header; way = found.way; start = found.start; len = found.len; read = e; bytes = refl } })
    by_service srd (Err r) e = by_pick (Done x.printer.pending) (eqb r 10) (λ _. kept) (λ _. kept)

    by_new : Done x.printer.pending (ask_in s h.fc)
    unfolding ask_in
    by_new =
        by_pick (Done x.printer.pending) (is_srd h.fc) (λ b. by_service (srd_told h.fc b) (service.read_of s mode.Dpv1) refl) (λ _. kept)

  by_class : (k : Class) (h : Header) → Calls x s k h → After (heard_by diag not_yet (called_by k s h) x)
  by_class class.Opening h c = opened c
  by_class class.Counted h c =
      by_pick After (is_repeat x.printer (fcb_of h.fc) h.sa) (λ _. kept) (λ b.
      by_new h (record { calls = c; other = λ r. never (sym b ∙ repeats x.printer h r) }))
  by_class class.Uncounted h c = by_pick (λ r. After (heard_by diag not_yet r x)) (eqb (h.fc % 16) 9) (λ _. kept) (λ _. kept)
  by_class class.Bare h c = kept
  by_class class.Data h c = kept
  by_class class.Reserved h c = kept

  by_reading : (r : telegram.Reading) → telegram.read_of s ≡ r → After (heard_by diag not_yet (received_by x.printer.address s r) x)
  by_reading (Ok telegram-reading.Confirmation) e = kept
  by_reading (Ok (telegram-reading.Token da sa)) e = kept
  by_reading (Ok (telegram-reading.Telegram f h start len)) e =
      by_pick (λ r. After (heard_by diag not_yet r x)) (is_call (class_of h.fc)) (λ _.
      by_pick (λ r. After (heard_by diag not_yet r x)) (eqb h.da x.printer.address) (λ o.
      by_class (class_of h.fc) h
      (record { framed = record { format = f; start = start; len = len; read = e; code = refl }; own = eqb-true h.da x.printer.address o }))
      (λ _. kept)) (λ _. kept)
  by_reading (Err r) e = kept

-- Its pending result, its count of writes and its slots change only by an opening call, by a new write with none pending and by a new
-- poll of a pending result.
pub only_becomes : (diag : List ℕ) (not_yet : ℕ) (s : List ℕ) (x : Station)
    → Becomes not_yet s x (hear diag not_yet s x).station.printer.pending (hear diag not_yet s x).station.printer.writes (hear diag not_yet s x).station.slots
unfolding hear received_of
only_becomes diag not_yet s x = by_reading diag not_yet s x (telegram.read_of s) refl
