-- Two cards on a line go as the download's definition, and no step refuses on the way: demand 3 holds of them.
use Prim.Native.Nat.{ℕ, zero, suc, ◌≤◌}
use Rattle.std.proofs.Common.{arith, ◌∙◌, le-ltb}
use Rattle.std.specs.Prelude.{◌≡◌, length, get_or}
use Rattle.std.proofs.Math.Path.{refl, ap}
use mathlib.Core.List.{List, []}
use Rattle.std.proofs.Math.Seq.{take-append_seam}
use Rattle.octets.specs.Front.{fine, over}
use Rattle.book.specs.Contents.{templates_of}
use Rattle.protocol.specs.Line as line
use Rattle.protocol.specs.Line.{Passage, through, request_lost, reply_lost, request_damaged, reply_damaged, Sending, go, stop, passage_of, rest_of, Damage}
use Rattle.protocol.specs.Slots.{Sized}
use Rattle.protocol.specs.Printer as printer-step
use Rattle.protocol.specs.Printer.{Station}
use Rattle.protocol.specs.Controller.{Move, acted, state_verdict}
use Rattle.protocol.specs.Download.{Given, given, hears, steps, begin, after, sendings, bound, download, line_verdict, request_buffer}
use Rattle.protocol.specs.Words.{FramingRefuses}
use Rattle.protocol.specs.Cards.{Cards, on, refused, reacted, instead, acts, reaching, crossing, calling, switched_on, back_by, turn_by, turns, logged_by, logged, traffic, Fit, cards_at, MeetDemand3}
use Rattle.protocol.specs.Demand.{NotRefused, Demand3, final}
use Rattle.protocol.proofs.Theorem.{demand3}
use Rattle.protocol.proofs.Lemmas.Accepted.{Taken, taken_so}
use Rattle.protocol.proofs.Lemmas.Runs.{at}
use Rattle.protocol.proofs.MachineLaws.Room.{over_long}
use Rattle.protocol.proofs.MachineLaws.Steps.{step_hears, usable_after, step_moves, Kept, move_kept}
use Rattle.protocol.specs.declared.controller.Controller.{Controller}
use Rattle.protocol.specs.declared.controller.Controller.TheVariants as controller
use Rattle.protocol.specs.declared.controller.Settings.{Settings}

-- the request's buffer once the next request is stored
abbrev stored : Move → (buffer : List ℕ) → List ℕ
stored (go q o) u = over q u
stored (stop e) u = u

module _ {c : Settings} {book diagnosis : List ℕ} {x : Station} {u : List ℕ} (not_yet : List ℕ) (f : Fit c book diagnosis x u) where
  abbrev g : Given
  g = given c book not_yet diagnosis

  -- what is not refused, along a line that damages nothing
  ok : NotRefused g [] x
  unfolding line_verdict
  ok =
      let t : Taken c book [] diagnosis x u =
      record { settings = f.settings; templates = f.templates; entries = refl; station = f.station; room = rw (le-ltb (length u) 255 f.room) } in
      taken_so not_yet t

  -- ---- one card's step

  -- the printer's is the definition's hearing
  reaching_so : (s : List ℕ) (y : Station) → printer-step.verdict_of diagnosis y ≡ fine → reaching c book not_yet diagnosis s y ≡ on (hears g y s)
  reaching_so s y e = ap reacted (step_hears diagnosis (get_or not_yet y.printer.writes 0) s y e)

  crossing_so : (p : Passage) (q : List ℕ) (y : Station) → printer-step.verdict_of diagnosis y ≡ fine
      → crossing c book not_yet diagnosis p q y ≡ on (record { state = line.printer_after (hears g) (steps g) p y q; reply = line.reply_after (hears g) (steps g) p y q })
  crossing_so through q y e = reaching_so q y e
  crossing_so request_lost q y e = refl
  crossing_so reply_lost q y e = ap (instead []) (reaching_so q y e)
  crossing_so (request_damaged bytes) q y e = reaching_so bytes y e
  crossing_so (reply_damaged bytes) q y e = ap (instead bytes) (reaching_so q y e)

  -- no step refuses with these: what the controller does next, its buffer before that, and the printer
  record Sound (w : Move) (b : List ℕ) (y : Station) : Type 0 where
    kept : Kept c (templates_of book) w
    room : 255 ≤ length b
    usable : printer-step.verdict_of diagnosis y ≡ fine

  -- the controller's is the definition's move, and its request stands at the front of its buffer
  acts_so : (w : Move) (b : List ℕ) → Kept c (templates_of book) w → 255 ≤ length b → (y : Station) (l : List Passage) (n : ℕ)
      → acts (acted w b) y l n ≡ on (cards_at (at l y w n) (stored w b))
  acts_so (go q o) b k room y l n = let fits : length q ≤ length b = omega (arith, k.1) in rw (le-ltb, take-append_seam)
  acts_so (stop i) b k room y l n = refl

  module _ (o : Controller) (e : state_verdict c (length (templates_of book)) o ≡ fine) (s b : List ℕ) (room : 255 ≤ length b) (y : Station) where
    next_kept : Kept c (templates_of book) (steps g o s)
    next_kept = move_kept c (templates_of book) o s f.settings ok.in_order e

    next_sound : printer-step.verdict_of diagnosis y ≡ fine → Sound (steps g o s) b y
    next_sound v = record { kept = next_kept; room = room; usable = v }

    calling_so : (l : List Passage) (n : ℕ) → calling c book not_yet diagnosis o s b y l n ≡ on (cards_at (at l y (steps g o s) n) (stored (steps g o s) b))
    calling_so l n = ap (λ a. acts a y l n) (step_moves c book o f.settings f.templates e s b) ∙ acts_so (steps g o s) b next_kept room y l n

  -- ---- the turns

  -- the printer after a sending of q, and what comes back
  abbrev heard_it : List Passage → Station → (q : List ℕ) → Station
  heard_it l y q = line.printer_after (hears g) (steps g) (passage_of l) y q

  abbrev back : List Passage → Station → (q : List ℕ) → List ℕ
  back l y q = line.reply_after (hears g) (steps g) (passage_of l) y q

  module _ (l : List Passage) (y : Station) (q : List ℕ) (o : Controller) (n : ℕ) (b : List ℕ) (s : Sound (go q o) b y) where
    abbrev here : Cards
    here = cards_at (at l y (go q o) n) (over q b)

    room_after : 255 ≤ length (over q b)
    room_after = omega (arith, s.room, over_long q b (omega (arith, s.room, s.kept.1)))

    sound_after : Sound (steps g o (back l y q)) (over q b) (heard_it l y q)
    sound_after = next_sound o s.kept.0 (back l y q) (over q b) room_after (heard_it l y q) (usable_after g (passage_of l) y q s.usable)

    turned : turn_by c book not_yet diagnosis (go q o) here
        ≡ on (cards_at (at (rest_of l) (heard_it l y q) (steps g o (back l y q)) (suc n)) (stored (steps g o (back l y q)) (over q b)))
    turned =
        ap (λ a. back_by c book not_yet diagnosis a o here) (crossing_so (passage_of l) q y s.usable)
        ∙ calling_so o s.kept.0 (back l y q) (over q b) room_after (heard_it l y q) (rest_of l) (suc n)

    sent_so : (rest : List Sending) → logged c book not_yet diagnosis (go q o) here rest ≡ line.sending_by (hears g) (steps g) l y (go q o) rest
    sent_so rest = ap (λ a. logged_by c book not_yet diagnosis q (passage_of l) a rest) (crossing_so (passage_of l) q y s.usable)

  go_on : (m : ℕ) (l : List Passage) (y : Station) (w : Move) (n : ℕ) (b : List ℕ) → Sound w b y
      → turns c book not_yet diagnosis m (on (cards_at (at l y w n) (stored w b)))
      ≡ on (cards_at (line.run (hears g) (steps g) m (at l y w n)) (request_buffer (line.transcript (hears g) (steps g) (suc m) (at l y w n)) b))
  unfolding turns line.run line.transcript
  go_on zero l y (go q o) n b s = refl
  go_on zero l y (stop i) n b s = refl
  go_on (suc m) l y (go q o) n b s =
      ap (turns c book not_yet diagnosis m) (turned l y q o n b s)
      ∙ go_on m (rest_of l) (heard_it l y q) (steps g o (back l y q)) (suc n) (over q b) (sound_after l y q o n b s)
  go_on (suc m) l y (stop i) n b s = go_on m l y (stop i) n b s

  log_so : (m : ℕ) (l : List Passage) (y : Station) (w : Move) (n : ℕ) (b : List ℕ) → Sound w b y
      → traffic c book not_yet diagnosis m (on (cards_at (at l y w n) (stored w b))) ≡ line.transcript (hears g) (steps g) m (at l y w n)
  unfolding traffic line.transcript
  log_so zero l y w n b s = refl
  log_so (suc m) l y (go q o) n b s =
      let rest = log_so m (rest_of l) (heard_it l y q) (steps g o (back l y q)) (suc n) (over q b) (sound_after l y q o n b s) in
      ap (logged c book not_yet diagnosis (go q o) (here l y q o n b s)) (ap (traffic c book not_yet diagnosis m) (turned l y q o n b s) ∙ rest)
      ∙ sent_so l y q o n b s _
  log_so (suc m) l y (stop i) n b s = refl

  -- ---- from the first call on

  first_sound : Sound (steps g controller.Fresh []) u x
  unfolding state_verdict
  first_sound = next_sound controller.Fresh refl [] u f.room x f.station

  switched_on_lem : (l : List Passage) → switched_on c book not_yet diagnosis l x u ≡ on (cards_at (begin g l x) (stored (begin g l x).move u))
  unfolding state_verdict
  switched_on_lem l = calling_so controller.Fresh refl [] u f.room x l 0

  -- After every number of turns the cards are where the definition is after as many sendings, whatever bytes the line brings; in the
  -- controller's buffer stands every request up to the next.
  pub cards_go_as_run : (l : List Passage) (m : ℕ)
      → turns c book not_yet diagnosis m (switched_on c book not_yet diagnosis l x u) ≡ on (cards_at (after g l x m) (request_buffer (sendings g l x (suc m)) u))
  cards_go_as_run l m = ap (turns c book not_yet diagnosis m) (switched_on_lem l) ∙ go_on m l x (begin g l x).move 0 u first_sound

  -- So no step refuses on the way,
  pub no_step_refuses : (l : List Passage) (m : ℕ) {k : ℕ} → turns c book not_yet diagnosis m (switched_on c book not_yet diagnosis l x u) ≡ refused k → ⊥
  no_step_refuses l m {k} e = let a = cards_go_as_run l m in let z : ◌≡◌ {A = ℕ} 0 1 = cc in omega arith

  -- and what goes over the line is what the definition sends.
  pub traffic_as_sendings : (l : List Passage) (m : ℕ) → traffic c book not_yet diagnosis m (switched_on c book not_yet diagnosis l x u) ≡ sendings g l x m
  traffic_as_sendings l m = ap (traffic c book not_yet diagnosis m) (switched_on_lem l) ∙ log_so m l x (begin g l x).move 0 u first_sound

  not_refused_along : (l : List Passage) → Damage FramingRefuses l → NotRefused g l x
  not_refused_along l d =
      record {
        printer = ok.printer;
        controller = ok.controller;
        unequal = ok.unequal;
        repeats = ok.repeats;
        some_polls = ok.some_polls;
        polls = ok.polls;
        in_order = ok.in_order;
        some_templates = ok.some_templates;
        templates = ok.templates;
        station = ok.station;
        damage = d;
      }

-- The customer's third demand, of two cards.
pub cards_meet_demand3 : (c : Settings) (book not_yet diagnosis : List ℕ) (l : List Passage) (x : Station) (request : List ℕ)
    → Fit c book diagnosis x request → Damage FramingRefuses l → Sized x.slots → MeetDemand3 c book not_yet diagnosis l x request
unfolding download
cards_meet_demand3 c book not_yet diagnosis l x request f d z =
    let g : Given = given c book not_yet diagnosis in
    let demand : Demand3 g l x = demand3 g l x (not_refused_along not_yet f l d) z in
    record {
      demand = demand;
      cards = cards_at (final g l x) (request_buffer (sendings g l x (suc (bound g))) request);
      come_to = cards_go_as_run not_yet f l (bound g);
      ended = demand.ends;
      sent = refl;
      slots = refl;
      over_line = traffic_as_sendings not_yet f l (bound g);
    }
