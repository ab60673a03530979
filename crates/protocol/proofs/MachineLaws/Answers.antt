-- What each call to the printer is answered, and what it changes: at every state and every telegram.
use Rattle.std.specs.Prelude.{ℕ, zero, suc, ◌%◌, ◌/◌, ◌≤◌, ◌<◌, min, ◌≡◌, Bool, true, List, eqb, length}
use Rattle.std.proofs.Math.Path.{refl}
use Rattle.std.proofs.Common.{sym, ap, ◌∙◌, subst, arith}
use Rattle.std.proofs.Math.Bool.{false}
use Rattle.std.proofs.Math.Dec.{ltb}
use borrow.Author.Tests.{eq-eqb, ne_eqb, le-ltb, lt-ltb, eqb-true, eqb-false, ltb-true, ltb-false}
use Rattle.octets.specs.Choice.{pick}
use Rattle.octets.proofs.Choice.{and_left, and_right, never}
use Rattle.function_code.specs.declared.code.Class.TheVariants as class
use Rattle.fdl.specs.declared.telegram.Header.{Header}
use Rattle.acyclic.specs.declared.calls.Call.TheVariants as call
use Rattle.content.specs.Writing.{bytes_for}
use Rattle.content.specs.declared.fields.Content.{Content}
use Rattle.content.specs.declared.fields.Content.TheVariants as content
use Rattle.service.specs.Writing.{telegram_for}
use Rattle.protocol.specs.Slots.{Slots}
use Rattle.protocol.specs.Telegrams.{diagnosis_bytes, outcome_bytes}
use Rattle.protocol.proofs.Lemmas.Read.{diagnosis_header, result_header}
use Rattle.protocol.specs.Printer.{Ask, write, unknown, undecodable, ask_of, is_srd, ask_in, Reply, confirmation, bare, diagnosis, result, guarded, judge, slots_after, Deed, only, perform, opening_reply, Station, reply_bytes, hear}
use Rattle.protocol.specs.MachineLaws.Effects.{Calls, New, Taken, opening, new, Srd, low, high, Asks, Fails, short_confirmation, bare_reply, diagnosis_reply, result_reply, Opened, Renewed, Told, Replied, Judged, other_slot, beyond, too_long, stored, Wrote}
use Rattle.protocol.specs.MachineLaws.Effects as effects
use Rattle.protocol.proofs.MachineLaws.Calls.{bare_bytes_lem, bit_kept, not_repeated, opening_received, counted_received}
use Rattle.protocol.specs.declared.printer.Outcome.{Outcome}
use Rattle.protocol.specs.declared.printer.Outcome.TheVariants as outcome
use Rattle.protocol.specs.declared.printer.Pending.TheVariants as pending

-- ---- the bytes of the replies

diagnosis_bytes_lem : (to from : ℕ) (diag : List ℕ) → diagnosis_bytes to from diag ≡ diagnosis_reply to from diag
diagnosis_bytes_lem to from diag = rw (diagnosis_header to from)

result_bytes : (to from : ℕ) (o : Outcome) → outcome_bytes to from o ≡ result_reply to from o
unfolding telegram_for bytes_for
result_bytes to from (outcome.Positive slot index len) = rw (result_header to from)
result_bytes to from (outcome.Negative code1 code2) = rw (result_header to from)

-- ---- what is asked

module _ (s : List ℕ) (h : Header) where
  srd : Srd h.fc → is_srd h.fc ≡ true
  srd (low e) = rw e
  srd (high e) = rw e

  not_srd : (Srd h.fc → ⊥) → is_srd h.fc ≡ false
  not_srd n = simp (ne_eqb (h.fc % 16) 12 (λ e. n (low e)), ne_eqb (h.fc % 16) 13 (λ e. n (high e)))

  asked_nothing : (Srd h.fc → ⊥) → ask_in s h.fc ≡ unknown
  unfolding ask_in
  asked_nothing n = rw (not_srd n)

  asked : {c : Content} {part : List ℕ} → Asks s h c part → ask_in s h.fc ≡ ask_of c part
  unfolding ask_in
  asked a = rw (srd a.srd, a.carries.read, a.carries.bytes)

  asked_refused : {k : ℕ} → Fails s h k → ask_in s h.fc ≡ pick (eqb k 10) unknown undecodable
  unfolding ask_in
  asked_refused a = rw (srd a.srd, a.read)

  asked_undecodable : {k : ℕ} → Fails s h k → (k ≡ 10 → ⊥) → ask_in s h.fc ≡ undecodable
  asked_undecodable {k} a n = asked_refused a ∙ rw (ne_eqb k 10 n)

module _ (part : List ℕ) where
  -- what an opening call gets that is no Slave_Diag
  opening_unknown : (c : Content) → (c ≡ content.SlaveDiagCall → ⊥) → opening_reply (ask_of c part) ≡ bare 3
  opening_unknown content.DataExchange d = refl
  opening_unknown (content.Dpv1Call call.Poll) d = refl
  opening_unknown (content.Dpv1Call (call.Read slot index len)) d = refl
  opening_unknown (content.Dpv1Call (call.Write slot index)) d = refl
  opening_unknown (content.Dpv1Call (call.AlarmAck slot alarm specifier)) d = refl
  opening_unknown (content.Dpv1Call call.Idle) d = refl
  opening_unknown (content.Dpv1Call (call.Transport slot index)) d = refl
  opening_unknown (content.Dpv1Answer a) d = refl
  opening_unknown content.ExtUserPrm d = refl
  opening_unknown (content.SetSlaveAdr f) d = refl
  opening_unknown content.RdInp d = refl
  opening_unknown content.RdOutp d = refl
  opening_unknown (content.GlobalControl f) d = refl
  opening_unknown content.GetCfg d = refl
  opening_unknown content.SlaveDiagCall d = absurd (d refl)
  opening_unknown (content.SlaveDiag f) d = refl
  opening_unknown (content.SetPrm f) d = refl
  opening_unknown content.ChkCfg d = refl

  -- what a new call asks for that is no Slave_Diag, no write and no poll
  new_unknown : (c : Content) → (c ≡ content.SlaveDiagCall → ⊥) → ((slot index : ℕ) → c ≡ content.Dpv1Call (call.Write slot index) → ⊥)
      → (c ≡ content.Dpv1Call call.Poll → ⊥) → ask_of c part ≡ unknown
  new_unknown content.DataExchange d w p = refl
  new_unknown (content.Dpv1Call call.Poll) d w p = absurd (p refl)
  new_unknown (content.Dpv1Call (call.Read slot index len)) d w p = refl
  new_unknown (content.Dpv1Call (call.Write slot index)) d w p = absurd (w slot index refl)
  new_unknown (content.Dpv1Call (call.AlarmAck slot alarm specifier)) d w p = refl
  new_unknown (content.Dpv1Call call.Idle) d w p = refl
  new_unknown (content.Dpv1Call (call.Transport slot index)) d w p = refl
  new_unknown (content.Dpv1Answer a) d w p = refl
  new_unknown content.ExtUserPrm d w p = refl
  new_unknown (content.SetSlaveAdr f) d w p = refl
  new_unknown content.RdInp d w p = refl
  new_unknown content.RdOutp d w p = refl
  new_unknown (content.GlobalControl f) d w p = refl
  new_unknown content.GetCfg d w p = refl
  new_unknown content.SlaveDiagCall d w p = absurd (d refl)
  new_unknown (content.SlaveDiag f) d w p = refl
  new_unknown (content.SetPrm f) d w p = refl
  new_unknown content.ChkCfg d w p = refl

-- ---- what is done

-- the result of a write
module _ (boarding : Bool) (slot index len : ℕ) where
  judge_other_slot : (slot ≡ 1 → ⊥) → judge boarding slot index len ≡ outcome.Negative 0xB2 0
  unfolding judge
  judge_other_slot n = simp (ne_eqb slot 1 n)

  judge_beyond : slot ≡ 1 → 15 < index → judge boarding slot index len ≡ outcome.Negative 0xB0 0
  unfolding judge
  judge_beyond one i = simp (eq-eqb slot 1 one, lt-ltb 15 index i)

  judge_too_long : slot ≡ 1 → index ≤ 15 → 200 < len → judge boarding slot index len ≡ outcome.Negative 0xB1 0
  unfolding judge
  judge_too_long one i l = simp (eq-eqb slot 1 one, le-ltb 15 index i, lt-ltb 200 len l)

  judge_guarded : slot ≡ 1 → index ≡ 7 → len ≤ 200 → boarding ≡ true → judge boarding slot index len ≡ outcome.Negative 0xB6 0
  unfolding judge
  judge_guarded one i l b =
      let most : ltb 15 index ≡ false = le-ltb 15 index (omega arith) in
      simp (eq-eqb slot 1 one, most, le-ltb 200 len l, b, eq-eqb index 7 i)

  judge_stored : slot ≡ 1 → index ≤ 15 → len ≤ 200 → guarded boarding index ≡ false → judge boarding slot index len ≡ outcome.Positive slot index len
  unfolding judge
  judge_stored one i l g = rw (eq-eqb slot 1 one, le-ltb 15 index i, le-ltb 200 len l, g)

-- and the slots then
module _ (boarding : Bool) (slot index : ℕ) (body : List ℕ) (z : Slots) where
  abbrev Result : Outcome → Type 0
  Result o = Judged boarding slot index body z o (slots_after o index body z)

  by_guard : slot ≡ 1 → index ≤ 15 → length body ≤ 200 → (b : Bool) → guarded boarding index ≡ b → Result (judge boarding slot index (length body))
  by_guard one i l true g =
      let seven : index ≡ 7 = eqb-true index 7 (and_right boarding (eqb index 7) g) in
      let on : boarding ≡ true = and_left boarding (eqb index 7) g in
      subst Result (sym (judge_guarded boarding slot index (length body) one seven l on)) (effects.guarded one seven l on)
  by_guard one i l false g =
      subst Result (sym (judge_stored boarding slot index (length body) one i l g)) (stored one i l (λ seven on. never (sym g ∙ rw (on, seven))))

  by_length : slot ≡ 1 → index ≤ 15 → (b : Bool) → ltb 200 (length body) ≡ b → Result (judge boarding slot index (length body))
  by_length one i true l =
      let long : 200 < length body = ltb-true 200 (length body) l in
      subst Result (sym (judge_too_long boarding slot index (length body) one i long)) (too_long one i long)
  by_length one i false l = by_guard one i (ltb-false 200 (length body) l) (guarded boarding index) refl

  by_index : slot ≡ 1 → (b : Bool) → ltb 15 index ≡ b → Result (judge boarding slot index (length body))
  by_index one true i =
      let far : 15 < index = ltb-true 15 index i in
      subst Result (sym (judge_beyond boarding slot index (length body) one far)) (beyond one far)
  by_index one false i = by_length one (ltb-false 15 index i) (ltb 200 (length body)) refl

  by_slot : (b : Bool) → eqb slot 1 ≡ b → Result (judge boarding slot index (length body))
  by_slot true e = by_index (eqb-true slot 1 e) (ltb 15 index) refl
  by_slot false e =
      let other : slot ≡ 1 → ⊥ = eqb-false slot 1 e in
      subst Result (sym (judge_other_slot boarding slot index (length body) other)) (other_slot other)

  pub judged : Result (judge boarding slot index (length body))
  judged = by_slot (eqb slot 1) refl

-- what a new call does at a station
abbrev deed_at : Station → (not_yet : ℕ) → Ask → Deed
deed_at x not_yet ask = perform x.printer.boarding not_yet x.printer.pending x.slots x.printer.writes ask

module _ (diag : List ℕ) (not_yet : ℕ) (x : Station) (s : List ℕ) {h : Header} where
  opened_by : Calls x s class.Opening h → (r : Reply) → opening_reply (ask_in s h.fc) ≡ r → {bytes : List ℕ}
      → reply_bytes diag x.printer.address h.sa r ≡ bytes → Opened x h bytes (hear diag not_yet s x)
  unfolding hear
  opened_by c r e b =
      rw (opening_received x s c, e, b)
      (record {
        same = record { address = refl; boarding = refl };
        fcb = refl;
        sa = refl;
        held = refl;
        pending = refl;
        writes = refl;
        slots = refl;
        sent = record { reply = refl; buffer = refl };
      })

  renewed_by : New x s h → (d : Deed) → deed_at x not_yet (ask_in s h.fc) ≡ d → {bytes : List ℕ}
      → reply_bytes diag x.printer.address h.sa d.reply ≡ bytes → Renewed x h d.pending d.writes d.slots bytes (hear diag not_yet s x)
  unfolding hear
  renewed_by n d e b =
      rw (counted_received x s n.calls, not_repeated x.printer h n.other, e, b)
      (record {
        same = record { address = refl; boarding = refl };
        fcb = bit_kept (h.fc / 32);
        sa = refl;
        held = refl;
        pending = refl;
        writes = refl;
        slots = refl;
        sent = record { reply = refl; buffer = refl };
      })

  -- a new call that only gets a reply
  told_by : New x s h → (r : Reply) → deed_at x not_yet (ask_in s h.fc) ≡ only x.printer.pending x.slots x.printer.writes r → {bytes : List ℕ}
      → reply_bytes diag x.printer.address h.sa r ≡ bytes → Told x h bytes (hear diag not_yet s x)
  told_by n r e b = renewed_by n (only x.printer.pending x.slots x.printer.writes r) e b

  -- ---- the laws

  -- An opening or new call that is not SRD gets bare function 3,
  pub not_srd_answered : (t : Taken x s h) → (Srd h.fc → ⊥) → Replied t (bare_reply h.sa x.printer.address 3) (hear diag not_yet s x)
  not_srd_answered (opening c) n = opened_by c (bare 3) (ap opening_reply (asked_nothing s h n)) (bare_bytes_lem _ _ 3)
  not_srd_answered (new c) n = told_by c (bare 3) (ap (deed_at x not_yet) (asked_nothing s h n)) (bare_bytes_lem _ _ 3)

  -- and so does one that is refused with 10.
  pub refused_with_10 : (t : Taken x s h) → Fails s h 10 → Replied t (bare_reply h.sa x.printer.address 3) (hear diag not_yet s x)
  refused_with_10 (opening c) a = opened_by c (bare 3) (ap opening_reply (asked_refused s h a)) (bare_bytes_lem _ _ 3)
  refused_with_10 (new c) a = told_by c (bare 3) (ap (deed_at x not_yet) (asked_refused s h a)) (bare_bytes_lem _ _ 3)

  -- One that is refused with another number gets bare function 1.
  pub refused_otherwise : (t : Taken x s h) {k : ℕ} → Fails s h k → (k ≡ 10 → ⊥) → Replied t (bare_reply h.sa x.printer.address 1) (hear diag not_yet s x)
  refused_otherwise (opening c) {k} a n = opened_by c (bare 1) (ap opening_reply (asked_undecodable s h a n)) (bare_bytes_lem _ _ 1)
  refused_otherwise (new c) {k} a n = told_by c (bare 1) (ap (deed_at x not_yet) (asked_undecodable s h a n)) (bare_bytes_lem _ _ 1)

  -- Slave_Diag gets the diagnosis.
  pub slave_diag_answered : (t : Taken x s h) {part : List ℕ} → Asks s h content.SlaveDiagCall part
      → Replied t (diagnosis_reply h.sa x.printer.address diag) (hear diag not_yet s x)
  slave_diag_answered (opening c) a = opened_by c diagnosis (ap opening_reply (asked s h a)) (diagnosis_bytes_lem h.sa x.printer.address diag)
  slave_diag_answered (new c) a = told_by c diagnosis (ap (deed_at x not_yet) (asked s h a)) (diagnosis_bytes_lem h.sa x.printer.address diag)

  -- Any other opening call gets bare function 3,
  pub opening_otherwise : Calls x s class.Opening h → {c : Content} {part : List ℕ} → Asks s h c part → (c ≡ content.SlaveDiagCall → ⊥)
      → Opened x h (bare_reply h.sa x.printer.address 3) (hear diag not_yet s x)
  opening_otherwise o {c} {part} a d = opened_by o (bare 3) (ap opening_reply (asked s h a) ∙ opening_unknown part c d) (bare_bytes_lem _ _ 3)

  -- and so does any other service and any DPV1 function but a write and a poll.
  pub new_otherwise : New x s h → {c : Content} {part : List ℕ} → Asks s h c part → (c ≡ content.SlaveDiagCall → ⊥)
      → ((slot index : ℕ) → c ≡ content.Dpv1Call (call.Write slot index) → ⊥) → (c ≡ content.Dpv1Call call.Poll → ⊥)
      → Told x h (bare_reply h.sa x.printer.address 3) (hear diag not_yet s x)
  new_otherwise n {c} {part} a d w p = told_by n (bare 3) (ap (deed_at x not_yet) (asked s h a ∙ new_unknown part c d w p)) (bare_bytes_lem _ _ 3)

  -- A write with no result pending is performed at once, gets SC and makes its result pending.
  pub write_performed : New x s h → {slot index : ℕ} {body : List ℕ} → Asks s h (content.Dpv1Call (call.Write slot index)) body
      → x.printer.pending ≡ pending.Nothing → Wrote x h not_yet slot index body (hear diag not_yet s x)
  write_performed n {slot} {index} {body} a e =
      let o : Outcome = judge x.printer.boarding slot index (length body) in
      let z : Slots = slots_after o index body x.slots in
      let d : Deed = only (pending.Result o not_yet) z (min 255 (suc x.printer.writes)) confirmation in
      let does : deed_at x not_yet (write slot index body) ≡ d = rw e in
      record {
        outcome = o;
        slots = z;
        judged = judged x.printer.boarding slot index body x.slots;
        renewed = renewed_by n d (ap (deed_at x not_yet) (asked s h a) ∙ does) refl;
      }

  -- A write with a result pending gets bare function 2, and changes nothing else.
  pub write_while_pending : New x s h → {slot index : ℕ} {body : List ℕ} → Asks s h (content.Dpv1Call (call.Write slot index)) body
      → {o : Outcome} {wait : ℕ} → x.printer.pending ≡ pending.Result o wait → Told x h (bare_reply h.sa x.printer.address 2) (hear diag not_yet s x)
  write_while_pending n a e = told_by n (bare 2) (ap (deed_at x not_yet) (asked s h a) ∙ rw e) (bare_bytes_lem _ _ 2)

  -- A poll with none pending gets SC,
  pub poll_of_none : New x s h → {part : List ℕ} → Asks s h (content.Dpv1Call call.Poll) part → x.printer.pending ≡ pending.Nothing
      → Told x h short_confirmation (hear diag not_yet s x)
  poll_of_none n a e = told_by n confirmation (ap (deed_at x not_yet) (asked s h a) ∙ rw e) refl

  -- and so does one for each "not yet" of the pending result;
  pub poll_not_yet : New x s h → {part : List ℕ} → Asks s h (content.Dpv1Call call.Poll) part → {o : Outcome} {wait : ℕ}
      → x.printer.pending ≡ pending.Result o (suc wait)
      → Renewed x h (pending.Result o wait) x.printer.writes x.slots short_confirmation (hear diag not_yet s x)
  poll_not_yet n a {o} {wait} e =
      renewed_by n (only (pending.Result o wait) x.slots x.printer.writes confirmation) (ap (deed_at x not_yet) (asked s h a) ∙ rw e) refl

  -- the next one gets the result, which is then no longer pending.
  pub poll_fetches : New x s h → {part : List ℕ} → Asks s h (content.Dpv1Call call.Poll) part → {o : Outcome}
      → x.printer.pending ≡ pending.Result o zero
      → Renewed x h pending.Nothing x.printer.writes x.slots (result_reply h.sa x.printer.address o) (hear diag not_yet s x)
  poll_fetches n a {o} e =
      renewed_by n (only pending.Nothing x.slots x.printer.writes (result o)) (ap (deed_at x not_yet) (asked s h a) ∙ rw e)
      (result_bytes h.sa x.printer.address o)
