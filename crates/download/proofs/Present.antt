-- A download while it runs: what is left from the present on comes to the whole.
use Rattle.std.specs.Prelude.{Ok, Err}
use Prim.Native.Nat.{ℕ, suc, ◌+◌, ◌-◌, ◌*◌, ◌≤◌, ◌<◌}
use mathlib.Core.Path.{◌≡◌, refl, sym, ap, ◌∙◌, subst}
use mathlib.Core.List.{List, []}
use native.Mathlib.Omega.{arith}
use native.Mathlib.Decide.{dec_lt}
use native.Mathlib.Nat.{mul-le-mul}
use native.Mathlib.Numerals.{add-one}
use lib.ListN.{length, get_or, take, drop}
use lib.Seq.{take-append_seam}
use borrow.Author.Tests.{le-ltb}
use Rattle.octets.specs.Front.{fine, over}
use Rattle.book.specs.Contents.{templates_of}
use Rattle.protocol.specs.Line as line
use Rattle.protocol.specs.Line.{Passage, go, stop}
use Rattle.protocol.specs.Printer.{Station, Stepped, stepped, Reaction}
use Rattle.protocol.specs.Printer as printer
use Rattle.protocol.specs.Controller.{Move, Acted, acted, state_verdict, Action}
use Rattle.protocol.specs.Controller as controller
use Rattle.protocol.specs.Download.{Given, Config, hears, steps, begin, sendings, bound, download, given, passage_by, passages_of, verdict_of, request_buffer, leaving, whole_by, download_of}
use Rattle.protocol.specs.Demand.{NotRefused}
use Rattle.protocol.proofs.Theorem.{all_are_sent}
use Rattle.protocol.proofs.Lemmas.Accepted.{usable, entry_known, Taken, has_room, taken_so}
use Rattle.protocol.proofs.Lemmas.Runs.{at, run_stop, transcript_stop}
use Rattle.protocol.proofs.MachineLaws.Room.{over_long}
use Rattle.protocol.proofs.MachineLaws.Steps.{usable_after, step_moves, Kept, move_kept}
use Rattle.protocol.specs.declared.controller.Action.TheVariants as action
use Rattle.protocol.specs.declared.controller.Controller.{Controller}
use Rattle.protocol.specs.declared.controller.Controller.TheVariants as state
use Rattle.protocol.specs.declared.controller.Ending.{Ending}
use Rattle.protocol.specs.declared.controller.Settings.{Settings}
use Rattle.protocol.specs.declared.printer.Printer.{Printer}
use Rattle.sending.specs.Laws.{station_after, Sent, sent_so}
use Rattle.sending.specs.Sending.{sent_by, sent_of}
use Rattle.download.proofs.Entries.{passage_at, rest_at}

-- ---- what a move does

-- the action that shows it, and the request's buffer then
data Shows (before : List ℕ) : Move → Action → (request : List ℕ) → Type 0 where
  sends : {q : List ℕ} {o : Controller} → Shows before (go q o) (Ok (action.Send o (length q))) (over q before)
  ends : {e : Ending} → Shows before (stop e) (Ok (action.End e)) before

going : {before request : List ℕ} {m : Move} {a : Action} → Shows before m a request → (o : Controller) (n : ℕ) → a ≡ Ok (action.Send o n)
    → (m ≡ go (take n request) o) × (request ≡ over (take n request) before)
going {before} (sends {q} {o = o'}) o n e =
    let same : o' ≡ o = cc in
    let long : length q ≡ n = cc in
    let front : take n (over q before) ≡ q = ap (λ (k : ℕ). take k (over q before)) (sym long) ∙ take-append_seam q (drop (length q) before) in
    (rw (front, same), rw front)
going ends o n e = absurd (let z : ◌≡◌ {A = ℕ} 0 1 = cc in omega arith)

stopping : {before request : List ℕ} {m : Move} {a : Action} → Shows before m a request → (f : Ending) → a ≡ Ok (action.End f) → (m ≡ stop f) × (request ≡ before)
stopping sends f e = absurd (let z : ◌≡◌ {A = ℕ} 0 1 = cc in omega arith)
stopping (ends {e = e'}) f e = let same : e' ≡ f = cc in (ap stop same, refl)

never_refused : {before request : List ℕ} {m : Move} {a : Action} → Shows before m a request → (k : ℕ) → a ≡ Err k → ⊥
never_refused sends k e = let z : ◌≡◌ {A = ℕ} 0 1 = cc in omega arith
never_refused ends k e = let z : ◌≡◌ {A = ℕ} 0 1 = cc in omega arith

-- ---- the present: m sendings are behind, and what is left comes to the whole

shows : (g : Given) (before : List ℕ) (m : Move) → Kept g.settings g.book m → 255 ≤ length before → Shows before m (acted m before).answer (acted m before).buffer
shows g before (go q o) k room = rw (le-ltb (length before) (length q) (omega (arith, k.1))) sends
shows g before (stop e) k room = ends

still_long : {before request : List ℕ} {m : Move} {a : Action} (g : Given) → Shows before m a request → Kept g.settings g.book m → 255 ≤ length before → length request ≡ length before
still_long {before} g (sends {q}) k room = over_long q before (omega (arith, k.1))
still_long g ends k room = refl

-- before the controller's step: its state, what came back for its last request, and the request's buffer
pub record Due (g : Given) (l : List Passage) (x : Station) (u : List ℕ) (m : ℕ) (o : Controller) (back : List ℕ) (y : Station) (before : List ℕ) : Type 0 where
  ran : line.run (hears g) (steps g) (bound g - m) (at (drop m l) y (steps g o back) m) ≡ download g l x
  stored : request_buffer (line.transcript (hears g) (steps g) (bound g - m) (at (drop m l) y (steps g o back) m)) before ≡ request_buffer (sendings g l x (bound g)) u
  state : state_verdict g.settings (length g.book) o ≡ fine
  room : 255 ≤ length before
  usable : printer.verdict_of g.diagnosis y ≡ fine

-- after it: what the controller does, and the request's buffer then
pub record Present (g : Given) (l : List Passage) (x : Station) (u : List ℕ) (m : ℕ) (a : Action) (y : Station) (request : List ℕ) : Type 0 where
  asked : Controller
  back : List ℕ
  before : List ℕ
  due : Due g l x u m asked back y before
  shown : Shows before (steps g asked back) a request

-- the printer and what came back, as a sending leaves them
abbrev station_by : Reaction → Station → Station
station_by (Ok found) y = record { printer = found.printer; slots = y.slots; buffer = y.buffer }
station_by (Err k) y = y

abbrev back_by : Reaction → (buffer : List ℕ) → List ℕ
back_by (Ok found) buffer = take found.reply buffer
back_by (Err k) buffer = []

module _ {c : Settings} {book entries diagnosis : List ℕ} {x : Station} {u : List ℕ} (not_yet : List ℕ) (t : Taken c book entries diagnosis x u) where
  abbrev g : Given
  g = given c book not_yet diagnosis

  abbrev l : List Passage
  l = passages_of entries

  ok : NotRefused g l x
  ok = taken_so not_yet t

  pub bound_small : bound g ≤ 4097
  bound_small =
      let n : ℕ = length (templates_of book) in
      let polls : 1 + c.polls ≤ 32 = omega (arith, ok.polls) in
      let repeats : c.repeats + 1 ≤ 8 = omega (arith, ok.repeats) in
      let all : n * (1 + c.polls) * (c.repeats + 1) ≤ 16 * 32 * 8 = mul-le-mul (mul-le-mul ok.templates polls) repeats in
      omega arith

  kept_next : (o : Controller) (s : List ℕ) → state_verdict c (length (templates_of book)) o ≡ fine → Kept c (templates_of book) (steps g o s)
  kept_next o s e = move_kept c (templates_of book) o s t.settings ok.in_order e

  -- ---- the controller's step

  pub begins : Due g l x u 0 state.Fresh [] x u
  unfolding download state_verdict
  begins =
      let all : bound g - 0 ≡ bound g = omega arith in
      record {
        ran = ap (λ (k : ℕ). line.run (hears g) (steps g) k (begin g l x)) all;
        stored = ap (λ (k : ℕ). request_buffer (line.transcript (hears g) (steps g) k (begin g l x)) u) all;
        state = refl;
        room = has_room u t.room;
        usable = t.station;
      }

  pub steps_so : {m : ℕ} {o : Controller} {back : List ℕ} {y : Station} {before : List ℕ} {a : Action} {request : List ℕ} → Due g l x u m o back y before
      → controller.leaving a request ≡ controller.step_of c book o back before → Present g l x u m a y request
  steps_so {o} {back} {before} {a} {request} d h =
      let move : Move = steps g o back in
      let e : controller.leaving a request ≡ acted move before = h ∙ step_moves c book o t.settings t.templates d.state back before in
      record {
        asked = o;
        back = back;
        before = before;
        due = d;
        shown = subst (λ (w : Acted). Shows before move w.answer w.buffer) (sym e) (shows g before move (kept_next o back d.state) d.room);
      }

  -- the whole is the download
  whole_so : download_of c book entries not_yet diagnosis x u ≡ whole_by (download g l x) (sendings g l x (bound g)) u
  unfolding download_of verdict_of
  whole_so = rw (t.settings, t.templates, t.entries, t.station, t.room)

  module _ {m : ℕ} {a : Action} {y : Station} {request : List ℕ} where
    -- the move that is shown
    abbrev moved : Present g l x u m a y request → Move
    moved p = steps g p.asked p.back

    kept : (p : Present g l x u m a y request) → Kept c (templates_of book) (moved p)
    kept p = kept_next p.asked p.back p.due.state

    -- both buffers have room for every telegram
    pub reply_room : Present g l x u m a y request → 255 ≤ length y.buffer
    reply_room p = (usable diagnosis y p.due.usable).room

    pub request_room : Present g l x u m a y request → 255 ≤ length request
    request_room p = omega (arith, still_long g p.shown (kept p) p.due.room, p.due.room)

    -- a request that is still to be sent is within the bound
    pub more_left : {o : Controller} {n : ℕ} → a ≡ Ok (action.Send o n) → Present g l x u m a y request → m < bound g
    unfolding line.run
    more_left {o} {n} e p = by (dec_lt m (bound g))
      where
        by : Dec (m < bound g) → m < bound g
        by (yes h) = h
        by (no h) =
            let none : bound g - m ≡ 0 = omega arith in
            let last : download g l x ≡ at (drop m l) y (moved p) m = sym p.due.ran ∙ ap (λ (k : ℕ). line.run (hears g) (steps g) k (at (drop m l) y (moved p) m)) none in
            absurd (all_are_sent g l x ok (ap (λ (z : Config). z.move) last ∙ (going p.shown o n e).0))

    -- a sending: the printer hears it, and what came back is the controller's next
    module _ {o : Controller} {n : ℕ} (e : a ≡ Ok (action.Send o n)) (p : Present g l x u m a y request) {r : Reaction} {lengths bodies reply : List ℕ}
        (sent : printer.leaving r lengths bodies reply ≡ sent_of (get_or entries m 0) (take n request) not_yet diagnosis y) where
      abbrev q : List ℕ
      q = take n request

      abbrev entry : ℕ
      entry = get_or entries m 0

      abbrev after : Sent g y q (passage_by entry) (sent_by (passage_by entry) q not_yet diagnosis y)
      after = sent_so g y q p.due.usable entry

      abbrev y' : Station
      y' = station_after g y q (passage_by entry)

      heard : printer.leaving r lengths bodies reply ≡ stepped (record { station = y'; reply = after.back })
      unfolding sent_of
      heard = sent ∙ rw (le-ltb 2 (get_or entries m 0) (entry_known entries t.entries m)) after.heard

      pub hears_it : {k : ℕ} → r ≡ Err k → ⊥
      hears_it f = let h = ap (λ (z : Stepped). z.answer) heard in let z : ◌≡◌ {A = ℕ} 0 1 = cc in omega arith

      due : Due g l x u (m + 1) o (line.reply_after (hears g) (steps g) (passage_by entry) y q) y' request
      unfolding line.run line.transcript
      due =
          let back : List ℕ = line.reply_after (hears g) (steps g) (passage_by entry) y q in
          let d : ℕ = bound g - (m + 1) in
          let here : Config = at (drop m l) y (moved p) m in
          let there : Config = line.next (hears g) (steps g) here in
          let now = going p.shown o n e in
          let stays : Kept c (templates_of book) (go q o) = subst (Kept c (templates_of book)) now.0 (kept p) in
          let left : bound g - m ≡ suc d = omega (arith, more_left e p) in
          let next : there ≡ at (drop (m + 1) l) y' (steps g o back) (m + 1) =
          ap (λ (w : Move). line.next_by (hears g) (steps g) (drop m l) y w m) now.0 ∙ rw (passage_at entries m, rest_at l m, add-one) in
          record {
            ran = ap (line.run (hears g) (steps g) d) (sym next) ∙ sym (ap (λ (k : ℕ). line.run (hears g) (steps g) k here) left) ∙ p.due.ran;
            stored = ap (λ (w : Config). request_buffer (line.transcript (hears g) (steps g) d w) request) (sym next)
                ∙ ap (request_buffer (line.transcript (hears g) (steps g) d there)) now.1
                ∙ sym (ap (λ (w : Move). request_buffer (line.sending_by (hears g) (steps g) (drop m l) y w (line.transcript (hears g) (steps g) d there)) p.before) now.0)
                ∙ sym (ap (λ (k : ℕ). request_buffer (line.transcript (hears g) (steps g) k here) p.before) left)
                ∙ p.due.stored;
            state = stays.0;
            room = request_room p;
            usable = usable_after g (passage_by entry) y q p.due.usable;
          }

      pub goes_on : {h : Printer} {k : ℕ} → r ≡ Ok (record { printer = h; reply = k }) → Due g l x u (m + 1) o (take k reply) (printer.lending h lengths bodies reply) request
      goes_on {h} {k} f =
          let z : printer.leaving (Ok (record { printer = h; reply = k })) lengths bodies reply ≡ stepped (record { station = y'; reply = after.back }) =
          ap (λ (w : Reaction). printer.leaving w lengths bodies reply) (sym f) ∙ heard in
          let station : printer.lending h lengths bodies reply ≡ y' = ap (λ (w : Stepped). station_by w.answer (record { printer = h; slots = w.slots; buffer = w.buffer })) z in
          let back : take k reply ≡ line.reply_after (hears g) (steps g) (passage_by entry) y q = ap (λ (w : Stepped). back_by w.answer w.buffer) z ∙ after.reply in
          rw (station, back) due

    -- where it ends, the present is the whole
    pub ended_so : {f : Ending} → a ≡ Ok (action.End f) → Present g l x u m a y request
        → leaving (Ok (record { ending = f; sent = m; printer = y.printer })) y.slots.lengths y.slots.bodies y.buffer request ≡ download_of c book entries not_yet diagnosis x u
    ended_so {f} e p =
        let here : Config = at (drop m l) y (moved p) m in
        let now = stopping p.shown f e in
        let last : download g l x ≡ here = sym p.due.ran ∙ run_stop (hears g) (steps g) (bound g - m) here now.0 in
        let buffer : request_buffer (sendings g l x (bound g)) u ≡ request =
        sym p.due.stored ∙ ap (λ s. request_buffer s p.before) (transcript_stop (hears g) (steps g) (bound g - m) here now.0) ∙ sym now.1 in
        sym (whole_so ∙ ap (λ (w : Config). whole_by w (sendings g l x (bound g)) u) last ∙ rw (now.0, buffer))

    -- and it is not refused
    pub not_refused_now : {k : ℕ} → a ≡ Err k → Present g l x u m a y request → ⊥
    not_refused_now {k} e p = never_refused p.shown k e
