-- What holds of the printer's step at every state, whatever it hears.
use Rattle.std.specs.Prelude.{ℕ, zero, suc, ◌≤◌, ◌≡◌, refl, Bool, true, false, not, List, eqb, ltb, length}
use Rattle.std.proofs.Common.{sym, ◌∙◌, subst, eq-eqb, ltb-false}
use Rattle.octets.specs.Choice.{pick}
use Rattle.octets.proofs.Choice.{by_pick, never}
use Rattle.protocol.specs.Slots.{Slots, slot_in, written, Sized}
use Rattle.protocol.proofs.Lemmas.Slots.{slot_kept}
use Rattle.protocol.proofs.Lemmas.Hearing.{same_bit}
-- bytes that are no call change nothing and get nothing
pub use Rattle.protocol.proofs.Lemmas.Hearing.{not_a_call}
use Rattle.protocol.specs.Printer.{Ask, slave_diag, write, poll, unknown, undecodable, Received, nothing, elsewhere, status, uncounted, opening, counted, received_of, guarded, judge, slots_after, write_deed, perform, Station, Heard, is_repeat, new_call, heard_by, hear}
use Rattle.protocol.specs.declared.printer.Outcome.TheVariants as outcome
use Rattle.protocol.specs.declared.printer.Pending.{Pending}
use Rattle.protocol.specs.declared.printer.Pending.TheVariants as pending

-- ---- a repeat

module _ (diag : List ℕ) (n m : ℕ) (s : List ℕ) (x : Station) (fcb : Bool) (sa : ℕ) (ask : Ask) (e : received_of x.printer.address s ≡ counted fcb sa ask) where
  abbrev first : Bool → Heard
  first b =
      pick b (record { station = x; reply = x.printer.held })
      (new_call diag x fcb sa (perform x.printer.boarding n x.printer.pending x.slots x.printer.writes ask))

  by_repeat : (b : Bool) → is_repeat x.printer fcb sa ≡ b → heard_by diag m (received_of (first b).station.printer.address s) (first b).station ≡ first b
  by_repeat true r = rw (e, r)
  by_repeat false r = rw (e, eq-eqb sa sa refl, same_bit fcb)

  -- A counted call that was heard changes nothing when it is heard again, and gets the same bytes, whatever the number of
  -- "not yet" that goes with it.
  pub repeat_changes_nothing : hear diag m s (hear diag n s x).station ≡ hear diag n s x
  unfolding hear
  repeat_changes_nothing = rw e (by_repeat (is_repeat x.printer fcb sa) refl)

-- ---- slots

-- what a new call may do to the slots: nothing, or what a write with a positive result does
pub data Changes (boarding : Bool) (before : Slots) : Slots → Type 0 where
  kept : Changes boarding before before
  stored : (index : ℕ) (body : List ℕ) → index ≤ 15 → length body ≤ 200 → guarded boarding index ≡ false → Changes boarding before (written index body before)

by_judge : (boarding : Bool) (s : Slots) (slot index : ℕ) (body : List ℕ) → Changes boarding s (slots_after (judge boarding slot index (length body)) index body s)
unfolding judge
by_judge boarding s slot index body =
    by_pick (λ o. Changes boarding s (slots_after o index body s)) (not (eqb slot 1)) (λ _. kept) (λ _.
    by_pick (λ o. Changes boarding s (slots_after o index body s)) (ltb 15 index) (λ _. kept) (λ i.
    by_pick (λ o. Changes boarding s (slots_after o index body s)) (ltb 200 (length body)) (λ _. kept) (λ l.
    by_pick (λ o. Changes boarding s (slots_after o index body s)) (guarded boarding index) (λ _. kept) (λ f.
    stored index body (ltb-false 15 index i) (ltb-false 200 (length body) l) f))))

by_ask : (boarding : Bool) (n : ℕ) (p : Pending) (s : Slots) (w : ℕ) (ask : Ask) → Changes boarding s (perform boarding n p s w ask).slots
by_ask boarding n p s w slave_diag = kept
by_ask boarding n pending.Nothing s w (write slot index body) = by_judge boarding s slot index body
by_ask boarding n (pending.Result o wait) s w (write slot index body) = kept
by_ask boarding n pending.Nothing s w poll = kept
by_ask boarding n (pending.Result o zero) s w poll = kept
by_ask boarding n (pending.Result o (suc wait)) s w poll = kept
by_ask boarding n p s w unknown = kept
by_ask boarding n p s w undecodable = kept

by_received : (diag : List ℕ) (n : ℕ) (r : Received) (x : Station) → Changes x.printer.boarding x.slots (heard_by diag n r x).station.slots
by_received diag n nothing x = kept
by_received diag n elsewhere x = kept
by_received diag n (status sa) x = kept
by_received diag n uncounted x = kept
by_received diag n (opening sa ask) x = kept
by_received diag n (counted fcb sa ask) x =
    by_pick (λ (h : Heard). Changes x.printer.boarding x.slots h.station.slots) (is_repeat x.printer fcb sa) (λ _. kept)
    (λ _. by_ask x.printer.boarding n x.printer.pending x.slots x.printer.writes ask)

-- Whatever is heard, the slots stay as they are, or one that is not guarded gets a body of at most 200 bytes.
pub slots_change : (diag : List ℕ) (n : ℕ) (s : List ℕ) (x : Station) → Changes x.printer.boarding x.slots (hear diag n s x).station.slots
unfolding hear
slots_change diag n s x = by_received diag n (received_of x.printer.address s) x

seven : {s s' : Slots} → Sized s → Changes true s s' → slot_in s' 7 ≡ slot_in s 7
seven z kept = refl
seven {s} z (stored index body i l f) =
    slot_kept s z index body i l 7 (λ e. never (sym f ∙ eq-eqb index 7 (sym e)))

-- Slot seven is never changed while boarding.
pub slot_seven_kept : (diag : List ℕ) (n : ℕ) (s : List ℕ) (x : Station) → Sized x.slots → x.printer.boarding ≡ true
    → slot_in (hear diag n s x).station.slots 7 ≡ slot_in x.slots 7
slot_seven_kept diag n s x z b =
    seven z (subst (λ (c : Bool). Changes c x.slots (hear diag n s x).station.slots) b (slots_change diag n s x))

by_result : (boarding : Bool) (n : ℕ) (p : Pending) (s : Slots) (w slot index : ℕ) (body : List ℕ) {code1 code2 wait : ℕ}
    → (write_deed boarding n p s w slot index body).pending ≡ pending.Result (outcome.Negative code1 code2) wait → (write_deed boarding n p s w slot index body).slots ≡ s
by_result boarding n pending.Nothing s w slot index body {code1} {code2} e =
    let j : judge boarding slot index (length body) ≡ outcome.Negative code1 code2 = cc in rw j
by_result boarding n (pending.Result o wait) s w slot index body e = refl

-- A write after which a negative result is pending has left every slot as it was.
pub negative_changes_nothing : (diag : List ℕ) (n : ℕ) (s : List ℕ) (x : Station) (fcb : Bool) (sa slot index : ℕ) (body : List ℕ) {code1 code2 wait : ℕ}
    → received_of x.printer.address s ≡ counted fcb sa (write slot index body) → (hear diag n s x).station.printer.pending ≡ pending.Result (outcome.Negative code1 code2) wait
    → (hear diag n s x).station.slots ≡ x.slots
unfolding hear
negative_changes_nothing diag n s x fcb sa slot index body {code1} {code2} {wait} e h = rw e (by (is_repeat x.printer fcb sa) (rw e at h))
  where
    by : (b : Bool)
        → (let y : Heard = pick b (record { station = x; reply = x.printer.held }) (new_call diag x fcb sa (perform x.printer.boarding n x.printer.pending x.slots x.printer.writes (write slot index body))) in
        y.station.printer.pending ≡ pending.Result (outcome.Negative code1 code2) wait → y.station.slots ≡ x.slots)
    by true k = refl
    by false k = by_result x.printer.boarding n x.printer.pending x.slots x.printer.writes slot index body k
