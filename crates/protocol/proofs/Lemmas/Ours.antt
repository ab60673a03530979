-- One request of the download on its way: the controller that asks, the printer to which it is new.
use Rattle.std.specs.Prelude.{ℕ, suc, ◌+◌, ◌-◌, ◌≡◌, refl, Bool, true, false, not, List, [], ◌∷◌, eqb, length, get_or, take, drop, Ok, Err}
use Rattle.std.proofs.Common.{add-zero, arith, sym, ap, ◌∙◌, append-nil, eq-eqb}
use Rattle.octets.specs.Choice.{pick, ◌and◌}
use Rattle.octets.proofs.Choice.{never}
use Rattle.fdl.specs.Contents.{accepted}
use Rattle.fdl.specs.Reading as telegram
use Rattle.fdl.specs.declared.reading.Reading.TheVariants as telegram-reading
use Rattle.book.specs.Contents.{Entry}
use Rattle.protocol.specs.Line.{Passage, Sending, stop, Damage}
use Rattle.protocol.specs.Slots.{Slots}
use Rattle.protocol.specs.Bits.{bits_agree}
use Rattle.protocol.specs.Printer.{Ask, counted, is_call_of, received_of, Station, Deed, perform}
use Rattle.protocol.specs.Controller.{nothing, got_from, got_in, Move, request_bytes, ask_for, again, after_job, move_of}
use Rattle.protocol.specs.Download.{Given, hears, steps}
use Rattle.protocol.specs.Words.{any_of, arrives, heard, names_station, is_write_ask, asked, requests_in, writes_heard, FramingRefuses}
use Rattle.protocol.specs.Course.{exchange, meets, leaves, one_arrives}
use Rattle.protocol.proofs.Lemmas.Replies.{got_nothing}
use Rattle.protocol.proofs.Lemmas.Hearing.{not_a_call, other_bit, renewed_at, reply_at, new_heard, again_heard}
use Rattle.protocol.proofs.Lemmas.Runs.{at, Ignores, Request, request_run, request_sendings, request_printer}
use Rattle.protocol.proofs.Lemmas.Groups.{AllOf, exchange_all, take_all_of, Block, block_in}
use Rattle.protocol.proofs.Lemmas.Chain.{Link}
use Rattle.protocol.specs.declared.controller.Controller as controller-type
use Rattle.protocol.specs.declared.controller.Controller.TheVariants as controller
use Rattle.protocol.specs.declared.controller.Ending.TheVariants as ending
use Rattle.protocol.specs.declared.controller.Job.{Job}
use Rattle.protocol.specs.declared.controller.Job.TheVariants as job
use Rattle.protocol.specs.declared.controller.Settings.{Settings}
use Rattle.protocol.specs.declared.printer.Pending.{Pending}

-- ---- damage: bytes that framing refuses

refused_no_call : (r : telegram.Reading) → accepted r ≡ false → is_call_of r ≡ false
refused_no_call (Ok telegram-reading.Confirmation) e = refl
refused_no_call (Ok (telegram-reading.Token da sa)) e = refl
refused_no_call (Ok (telegram-reading.Telegram f h start len)) e = absurd (never (sym e))
refused_no_call (Err r) e = refl

refused_nothing : (c : Settings) (s : List ℕ) (r : telegram.Reading) → accepted r ≡ false → got_from c s r ≡ nothing
refused_nothing c s (Ok telegram-reading.Confirmation) e = absurd (never (sym e))
refused_nothing c s (Ok (telegram-reading.Token da sa)) e = absurd (never (sym e))
refused_nothing c s (Ok (telegram-reading.Telegram f h start len)) e = absurd (never (sym e))
refused_nothing c s (Err r) e = refl

pub got_bad : (c : Settings) (s : List ℕ) → FramingRefuses s → got_in c s ≡ nothing
unfolding got_in
got_bad c s e = refused_nothing c s (telegram.read_of s) e

pub ignores : (g : Given) → Ignores (hears g) (steps g) FramingRefuses
unfolding move_of
ignores g =
    record {
      deaf = λ x s e. rw (not_a_call g.diagnosis (get_or g.not_yet x.printer.writes 0) s x (refused_no_call (telegram.read_of s) e));
      blind = λ o s e. rw (got_bad g.settings s e, got_nothing g.settings);
    }

-- ---- the words of one request

pub heard_arrives : (a : ℕ) (q : List ℕ) → names_station a (telegram.read_of q) ≡ true → (l : List Sending) → AllOf q l → any_of (heard a) l ≡ one_arrives l
unfolding heard
heard_arrives a q n [] h = refl
heard_arrives a q n (s ∷ l) h = rw (h.0, n, heard_arrives a q n l h.1, and_true (arrives s.passage))
  where
    and_true : (b : Bool) → (b and true) ≡ b
    and_true true = refl
    and_true false = refl

write_counted : (a : ℕ) (q : List ℕ) → names_station a (telegram.read_of q) ≡ true → (l : List Sending) → AllOf q l
    → writes_heard a l ≡ pick (is_write_ask (asked q) and one_arrives l) 1 0
unfolding requests_in
write_counted a q n [] h = by (is_write_ask (asked q))
  where
    by : (b : Bool) → ◌≡◌ {A = ℕ} 0 (pick (b and false) 1 0)
    by true = refl
    by false = refl
write_counted a q n (s ∷ l) h =
    let one : Block q (s ∷ l) [] = record { some = omega arith; same = h; apart = tt } in
    let e : requests_in (s ∷ l) ≡ (s ∷ l) ∷ [] = ap requests_in (sym (append-nil (s ∷ l))) ∙ block_in q (s ∷ l) [] one in
    rw (e, heard_arrives a q n (s ∷ l) h, h.0)

-- ---- the printer between two requests of ours, and the next one

module _ (g : Given) (boarding : Bool) where
  -- nothing is known of its FCB, SA and held reply but that the next call is new to it
  abbrev pub stand : (fcb : Bool) (sa held : ℕ) → Pending → (writes : ℕ) → Slots → (buffer : List ℕ) → Station
  stand f s h p n ss u =
      record {
        printer = record {
          address = g.settings.printer;
          boarding = boarding;
          fcb = f;
          sa = s;
          held = h;
          pending = p;
          writes = n;
        };
        slots = ss;
        buffer = u;
      }

  abbrev pub New : (fcb : Bool) → (last : Bool) (sa : ℕ) → Type 0
  New b f s = (eqb g.settings.controller s and bits_agree b f) ≡ false

  -- after a call of ours the next one, with the other FCB, is new
  pub next_new : (b : Bool) → New (not b) b g.settings.controller
  next_new b = rw (eq-eqb g.settings.controller g.settings.controller refl, other_bit b)

  abbrev pub deed : Pending → (writes : ℕ) → Slots → Ask → Deed
  deed p n ss ask = perform boarding (get_or g.not_yet n 0) p ss n ask

  -- the request for a job at template suc i, the head of what is left of the book
  module _ (i : ℕ) (t : Entry) (ts : List Entry) (there : drop i g.book ≡ t ∷ ts) (j : Job) (b : Bool) (ask : Ask)
      (call : received_of g.settings.printer (request_bytes g.settings j b t) ≡ counted b g.settings.controller ask)
      (f : Bool) (s h : ℕ) (p : Pending) (n : ℕ) (ss : Slots) (u : List ℕ) (new : New b f s) where
    abbrev before : Station
    before = stand f s h p n ss u

    abbrev pub reply : List ℕ
    reply = reply_at g before g.settings.controller ask

    abbrev pub afterwards : Station
    afterwards = renewed_at g before b g.settings.controller ask

    abbrev asks : ℕ → controller-type.Controller
    asks l = controller.Asking (suc i) j b l

    left_over : drop (suc i - 1) g.book ≡ t ∷ ts
    left_over = let e : suc i - 1 ≡ i = omega arith in rw e there

    -- what comes of a reply
    pub taken : (l : ℕ) (r : List ℕ) → steps g (asks l) r ≡ after_job g.settings (suc i) j b l (t ∷ ts) (got_in g.settings r)
    unfolding move_of
    taken l r = rw left_over

    no_reply : (r : Job) (l : ℕ) → after_job g.settings (suc i) r b l (t ∷ ts) nothing ≡ again g.settings (suc i) r b l (t ∷ ts)
    no_reply job.Write l = refl
    no_reply (job.Poll left) l = refl

    missed : (l : ℕ) → steps g (asks l) [] ≡ again g.settings (suc i) j b l (t ∷ ts)
    missed l = taken l [] ∙ rw (got_nothing g.settings) (no_reply j l)

    request : (m : Move) → ((l : ℕ) → after_job g.settings (suc i) j b l (t ∷ ts) (got_in g.settings reply) ≡ m)
        → Request (hears g) (steps g) (request_bytes g.settings j b t) reply asks m (stop (ending.NoAnswer (suc i))) afterwards
    request m e =
        record {
          repeats = λ l. missed (suc l);
          gives_up = missed 0;
          takes_up = λ l. taken l reply ∙ e l;
          hears_again = again_heard g before (request_bytes g.settings j b t) b g.settings.controller ask call;
        }

    abbrev pub sendings : List Passage → List Sending
    sendings l = exchange g.settings.repeats (request_bytes g.settings j b t) reply l

    -- The request with all its repeats: what it leads to, and the printer's count of writes on the way.
    module _ (names : names_station g.settings.printer (telegram.read_of (request_bytes g.settings j b t)) ≡ true)
        (counts : (deed p n ss ask).writes ≡ n + pick (is_write_ask (asked (request_bytes g.settings j b t))) 1 0)
        (m : Move) (takes : (l : ℕ) → after_job g.settings (suc i) j b l (t ∷ ts) (got_in g.settings reply) ≡ m) where
      pub asked_for : (l : List Passage) → Damage FramingRefuses l → (k : ℕ)
          → Link g g.settings.printer (at l before (ask_for g.settings (suc i) j b g.settings.repeats (t ∷ ts)) k) (sendings l)
          (at (leaves g.settings.repeats l) (pick (one_arrives (sendings l)) afterwards before)
          (pick (meets g.settings.repeats l) m (stop (ending.NoAnswer (suc i)))) (k + length (sendings l)))
      asked_for l d k =
          let q : List ℕ = request_bytes g.settings j b t in
          let hear_it = new_heard g before q b g.settings.controller ask call new in
          record {
            ran = request_run (ignores g) (request m takes) g.settings.repeats l d before hear_it k;
            sent = request_sendings (ignores g) (request m takes) g.settings.repeats l d before hear_it k;
            counts = λ v le.
                ap (λ (x : Station). x.printer.writes) (request_printer (ignores g) (request m takes) g.settings.repeats l d before hear_it k v le)
                ∙ by (one_arrives (take v (sendings l)))
                ∙ ap (λ (w : ℕ). n + w) (sym (write_counted g.settings.printer q names (take v (sendings l)) (take_all_of q v (sendings l) (exchange_all g.settings.repeats q reply l))));
          }
        where
          zero_by : (w : Bool) → n ≡ n + pick (w and false) 1 0
          zero_by true = sym (add-zero n)
          zero_by false = sym (add-zero n)

          one_by : (w : Bool) → n + pick w 1 0 ≡ n + pick (w and true) 1 0
          one_by true = refl
          one_by false = refl

          by : (o : Bool) → (pick o afterwards before).printer.writes ≡ n + pick (is_write_ask (asked (request_bytes g.settings j b t)) and o) 1 0
          by true = counts ∙ one_by (is_write_ask (asked (request_bytes g.settings j b t)))
          by false = zero_by (is_write_ask (asked (request_bytes g.settings j b t)))
