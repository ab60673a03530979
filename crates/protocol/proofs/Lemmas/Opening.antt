-- The first sending of a download: the opening.
use Rattle.std.specs.Prelude.{ℕ, ◌≤◌, ◌≡◌, Bool, List, []}
use Rattle.std.proofs.Math.Path.{refl}
use Rattle.std.proofs.Common.{sym, ap, ◌∙◌}
use Rattle.std.proofs.Math.Bool.{true, false}
use Rattle.std.proofs.Math.Dec.{eqb}
use borrow.Author.Tests.{eqb-true, eq-eqb}
use Rattle.octets.specs.Choice.{pick, ◌and◌}
use Rattle.octets.specs.Front.{over}
use Rattle.fdl.specs.Contents.{accepted}
use Rattle.fdl.specs.Reading as telegram
use Rattle.fdl.specs.Reading.{read_by}
use Rattle.protocol.specs.Line as line
use Rattle.protocol.specs.Line.{Passage, through, request_lost, reply_lost, request_damaged, reply_damaged, Sending, passage_of, rest_of, go, stop, DamagedBy, Damage}
use Rattle.protocol.specs.Telegrams.{opening_bytes, diagnosis_bytes}
use Rattle.protocol.specs.Printer.{Station, drop_held, hear}
use Rattle.protocol.specs.Controller.{Move, move_of, ask_for}
use Rattle.protocol.specs.Download.{Given, hears, steps, begin}
use Rattle.protocol.specs.Words.{arrives, names_station, heard, answered, FramingRefuses}
use Rattle.protocol.proofs.Lemmas.Read.{opening_received, opening_names}
use Rattle.protocol.specs.Verdicts.{Valid}
use Rattle.protocol.proofs.Lemmas.Replies.{got_diagnosis, diagnosis_framed}
use Rattle.protocol.proofs.Lemmas.Hearing.{stored_sent}
use Rattle.protocol.proofs.Lemmas.Runs.{at, damage_first}
use Rattle.protocol.proofs.Lemmas.Ours.{ignores, got_bad, stand}
use Rattle.protocol.specs.declared.controller.Controller.TheVariants as controller
use Rattle.protocol.specs.declared.controller.Ending.TheVariants as ending
use Rattle.protocol.specs.declared.controller.Job.TheVariants as job
use Rattle.protocol.specs.declared.printer.Pending.TheVariants as pending

module _ (g : Given) (x : Station) (to : g.settings.printer ≤ 126) (from : g.settings.controller ≤ 126) (diag : Valid g.diagnosis) where
  abbrev pub q : List ℕ
  q = opening_bytes g.settings.printer g.settings.controller

  -- the opening is the first request, whatever the reply
  pub first_request : steps g controller.Fresh [] ≡ go q controller.Opening
  unfolding move_of
  first_request = refl

  -- ---- a printer that has the address set

  module _ (ours : x.printer.address ≡ g.settings.printer) where
    abbrev pub reply : List ℕ
    reply = diagnosis_bytes g.settings.controller g.settings.printer g.diagnosis

    abbrev pub stood : Station
    stood = stand g x.printer.boarding true g.settings.controller 0 pending.Nothing 0 x.slots (over reply x.buffer)

    pub opening_heard_lem : hears g x q ≡ record { state = stood; reply = reply }
    unfolding hear
    opening_heard_lem =
        rw (opening_received g.settings.printer g.settings.controller to from x.printer.address, ours, eq-eqb g.settings.printer g.settings.printer refl, stored_sent reply x.buffer)

    pub opening_taken : steps g controller.Opening reply ≡ ask_for g.settings 1 job.Write false g.settings.repeats g.book
    unfolding move_of
    opening_taken = rw (got_diagnosis g.settings to from g.diagnosis diag)

    reply_accepted : accepted (telegram.read_of reply) ≡ true
    reply_accepted = ap accepted (diagnosis_framed g.settings.controller g.settings.printer from to g.diagnosis diag)

  pub no_diagnosis : (s : List ℕ) → FramingRefuses s → steps g controller.Opening s ≡ stop ending.NoOpening
  unfolding move_of
  no_diagnosis s e = rw (got_bad g.settings s e)

  -- another printer
  pub other_heard : eqb g.settings.printer x.printer.address ≡ false → hears g x q ≡ record { state = record { printer = drop_held x.printer; slots = x.slots; buffer = x.buffer }; reply = [] }
  unfolding hear
  other_heard e = rw (opening_received g.settings.printer g.settings.controller to from x.printer.address, e)

  -- ---- what comes of it

  abbrev here : ℕ
  here = x.printer.address

  abbrev pub first_sending : (p : Passage) (r : List ℕ) → Sending
  first_sending p r = record { request = q; passage = p; reply = r }

  -- no opening: the printer has heard it or not, but no diagnosis came back
  pub record Unopened (l : List Passage) : Type 0 where
    pub station : Station
    pub reply : List ℕ
    pub ran : line.next (hears g) (steps g) (begin g l x) ≡ at (rest_of l) station (stop ending.NoOpening) 1
    pub sent : line.reply_after (hears g) (steps g) (passage_of l) x q ≡ reply
    pub slots : station.slots ≡ x.slots
    pub unanswered : answered here (first_sending (passage_of l) reply) ≡ false
    pub writes : station.printer.writes ≡ pick (heard here (first_sending (passage_of l) reply)) 0 x.printer.writes

  pub data Opens (l : List Passage) : Type 0 where
    opens : x.printer.address ≡ g.settings.printer → passage_of l ≡ through → Opens l
    fails : Unopened l → Opens l

  -- the first sending, by the printer's end and the reply that comes back
  goes : (l : List Passage) (s : Station) (r : List ℕ) → line.printer_after (hears g) (steps g) (passage_of l) x q ≡ s → line.reply_after (hears g) (steps g) (passage_of l) x q ≡ r
      → line.next (hears g) (steps g) (begin g l x) ≡ at (rest_of l) s (steps g controller.Opening r) 1
  goes l s r e f =
      ap (λ (m : Move). line.next_by (hears g) (steps g) l x m 0) first_request
      ∙ ap (λ (y : Station). at (rest_of l) y (steps g controller.Opening (line.reply_after (hears g) (steps g) (passage_of l) x q)) 1) e
      ∙ ap (λ (t : List ℕ). at (rest_of l) s (steps g controller.Opening t) 1) f

  names : names_station here (telegram.read_of q) ≡ eqb g.settings.printer here
  names = opening_names g.settings.printer g.settings.controller to from here

  no_bytes : FramingRefuses []
  unfolding read_by
  no_bytes = refl

  module _ (l : List Passage) (s : Station) (r : List ℕ) (bad : FramingRefuses r) (same : s.slots ≡ x.slots) where
    failed : line.printer_after (hears g) (steps g) (passage_of l) x q ≡ s → line.reply_after (hears g) (steps g) (passage_of l) x q ≡ r
        → (o : Bool) → (arrives (passage_of l) and eqb g.settings.printer here) ≡ o → s.printer.writes ≡ pick o 0 x.printer.writes → Unopened l
    unfolding heard answered
    failed e f o h w =
        record {
          station = s;
          reply = r;
          ran = goes l s r e f ∙ rw (no_diagnosis r bad);
          sent = f;
          slots = same;
          unanswered = rw (names, h, bad) (off o);
          writes = rw (names, h) w;
        }
      where
        off : (b : Bool) → (b and false) ≡ false
        off true = refl
        off false = refl

  abbrev deafened : Station
  deafened = record { printer = drop_held x.printer; slots = x.slots; buffer = x.buffer }

  -- Every first sending opens the download, or ends it.
  pub first : (l : List Passage) → Damage FramingRefuses l → Opens l
  first l d = by (passage_of l) refl (damage_first FramingRefuses l d) (eqb g.settings.printer here) refl
    where
      is_ours : eqb g.settings.printer here ≡ true → here ≡ g.settings.printer
      is_ours e = sym (eqb-true g.settings.printer here e)

      by : (p : Passage) → passage_of l ≡ p → DamagedBy FramingRefuses p → (o : Bool) → eqb g.settings.printer here ≡ o → Opens l
      by through e b true o = opens (is_ours o) e
      by through e b false o =
          fails (failed l deafened [] no_bytes refl (rw e (ap (λ a. a.state) (other_heard o))) (rw e (ap (λ a. a.reply) (other_heard o))) false (rw (e, o)) refl)
      by request_lost e b o _ = fails (failed l x [] no_bytes refl (rw e) (rw e) false (rw e) refl)
      by reply_lost e b true o =
          fails (failed l (stood (is_ours o)) [] no_bytes refl (rw e (ap (λ a. a.state) (opening_heard_lem (is_ours o)))) (rw e) true (rw (e, o)) refl)
      by reply_lost e b false o = fails (failed l deafened [] no_bytes refl (rw e (ap (λ a. a.state) (other_heard o))) (rw e) false (rw (e, o)) refl)
      by (request_damaged s) e b o _ =
          fails (failed l x [] no_bytes refl (rw e (ap (λ a. a.state) ((ignores g).deaf x s b))) (rw e (ap (λ a. a.reply) ((ignores g).deaf x s b))) false (rw e) refl)
      by (reply_damaged s) e b true o =
          fails (failed l (stood (is_ours o)) s b refl (rw e (ap (λ a. a.state) (opening_heard_lem (is_ours o)))) (rw e) true (rw (e, o)) refl)
      by (reply_damaged s) e b false o = fails (failed l deafened s b refl (rw e (ap (λ a. a.state) (other_heard o))) (rw e) false (rw (e, o)) refl)

  -- where it opens: the printer stands, the first write is asked for, and the opening was answered
  module _ (l : List Passage) (ours : x.printer.address ≡ g.settings.printer) (t : passage_of l ≡ through) where
    pub opened_ran : line.next (hears g) (steps g) (begin g l x) ≡ at (rest_of l) (stood ours) (ask_for g.settings 1 job.Write false g.settings.repeats g.book) 1
    opened_ran =
        goes l (stood ours) (reply ours) (rw t (ap (λ a. a.state) (opening_heard_lem ours))) (rw t (ap (λ a. a.reply) (opening_heard_lem ours)))
        ∙ rw (opening_taken ours)

    pub opened_sent : line.reply_after (hears g) (steps g) (passage_of l) x q ≡ reply ours
    opened_sent = rw t (ap (λ a. a.reply) (opening_heard_lem ours))

    pub opened_answered : (heard here (first_sending (passage_of l) (reply ours)) ≡ true) × (answered here (first_sending (passage_of l) (reply ours)) ≡ true)
    unfolding heard answered
    opened_answered =
        let mine : eqb g.settings.printer here ≡ true = eq-eqb g.settings.printer here (sym ours) in
        (rw (t, names, mine), rw (t, names, mine, reply_accepted ours))
