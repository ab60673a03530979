-- The joined run follows the course: one template after the other, each its write and then its polls.
use Rattle.std.specs.Prelude.{ℕ, zero, suc, ◌+◌, ◌-◌, ◌≤◌, ◌<◌, min, ◌≡◌, Bool, not, get_or, drop}
use Rattle.std.proofs.Common.{add-zero, arith, sym, ◌∙◌, subst, eq-eqb, le-ltb}
use Rattle.std.proofs.Math.Path.{refl}
use Rattle.std.proofs.Math.Bool.{true, false}
use mathlib.Core.List.{List, [], ◌∷◌, append-nil}
use Rattle.std.proofs.Math.ListN.{length}
use Rattle.octets.specs.Choice.{pick, ◌or◌}
use Rattle.octets.proofs.Choice.{never}
use Rattle.octets.specs.Front.{fine, over}
use Rattle.fdl.specs.Writing.{confirmation_bytes}
use Rattle.acyclic.specs.Answers as answers
use Rattle.acyclic.specs.Errors.{named_in, good_code1}
use Rattle.acyclic.specs.Forms.{ranged_of, negative_of}
use Rattle.book.specs.Contents.{Entry, InOrder}
use Rattle.protocol.specs.Line.{Passage, through, request_lost, reply_lost, request_damaged, reply_damaged, Sending, passage_of, rest_of, stop, Damage}
use Rattle.protocol.specs.Slots.{Slots, written}
use Rattle.protocol.specs.Telegrams.{write_bytes, poll_bytes, outcome_bytes, answer_of}
use Rattle.protocol.specs.Printer.{write, poll, counted, received_of, judge, slots_after, Station}
use Rattle.protocol.specs.Controller.{Move, ask_for, settled, after_poll}
use Rattle.protocol.specs.Download.{Given, Config}
use Rattle.protocol.specs.Words.{arrives, asked, is_write_ask, guarded, FramingRefuses}
use Rattle.protocol.specs.Course.{is_through, exchange, meets, leaves, one_arrives, Polled, ready, late, silent, polls, polled, Course, unless, outcome_of, ends_with, after, after_polls, write_of, result_of, course, concat}
use Rattle.protocol.proofs.Lemmas.Read.{write_received, write_names, write_asked, poll_received, poll_names, poll_asked}
use Rattle.protocol.proofs.Lemmas.Replies.{got_outcome, got_confirmation_lem, got_outcome_lem}
use Rattle.protocol.proofs.Lemmas.Runs.{at, damage_left}
use Rattle.protocol.proofs.Lemmas.Chain.{Link, Chain, end, link, chain_append}
use Rattle.protocol.proofs.Lemmas.Ours.{stand, New, next_new, asked_for}
use Rattle.protocol.specs.declared.controller.Ending.TheVariants as ending
use Rattle.protocol.specs.declared.controller.Job.TheVariants as job
use Rattle.protocol.specs.declared.controller.Settings.{Settings}
use Rattle.protocol.specs.declared.printer.Outcome.{Outcome}
use Rattle.protocol.specs.declared.printer.Outcome.TheVariants as outcome
use Rattle.protocol.specs.declared.printer.Pending.TheVariants as pending

-- what is answered has arrived
pub answered_arrived : (n : ℕ) (q r : List ℕ) (l : List Passage) → meets n l ≡ true → one_arrives (exchange n q r l) ≡ true
unfolding meets exchange
answered_arrived zero q r l e = by (passage_of l) e
  where
    by : (p : Passage) → is_through p ≡ true → (arrives p or false) ≡ true
    by through e = refl
    by request_lost e = absurd (never e)
    by reply_lost e = refl
    by (request_damaged bytes) e = absurd (never e)
    by (reply_damaged bytes) e = refl
answered_arrived (suc n) q r l e = by (passage_of l) refl (answered_arrived n q r (rest_of l))
  where
    by : (p : Passage) → passage_of l ≡ p → (meets n (rest_of l) ≡ true → one_arrives (exchange n q r (rest_of l)) ≡ true) → one_arrives (exchange (suc n) q r l) ≡ true
    by through w k = rw w
    by request_lost w k = rw (w, k (rw w at e))
    by reply_lost w k = rw w
    by (request_damaged bytes) w k = rw (w, k (rw w at e))
    by (reply_damaged bytes) w k = rw w

-- what the controller makes of the result at template suc i
abbrev pub after_outcome : Settings → (i : ℕ) → List Entry → (fcb : Bool) → Outcome → Move
after_outcome c i ts b (outcome.Positive slot index len) = settled c (suc i) b slot index len ts
after_outcome c i ts b (outcome.Negative code1 code2) = stop (ending.Refused (suc i) code1 code2)

module _ (g : Given) (boarding : Bool) (to : g.settings.printer ≤ 126) (from : g.settings.controller ≤ 126)
    (i : ℕ) (t : Entry) (ts : List Entry) (there : drop i g.book ≡ t ∷ ts) where
  -- ---- the polls

  module _ (n : ℕ) (ss : Slots) (o : Outcome) (good : answers.verdict_of (answer_of o) 0 ≡ fine) where
    took : (left l : ℕ) (b : Bool) (x : Outcome) → after_poll g.settings (suc i) left b l (t ∷ ts) (got_outcome x) ≡ after_outcome g.settings i (t ∷ ts) b x
    took left l b (outcome.Positive slot index len) = refl
    took left l b (outcome.Negative code1 code2) = refl

    -- how they ended: the printer has no result pending any more, or the download has ended
    pub data PollsEnd : Polled → Config → Type 0 where
      came : (b : Bool) (h : ℕ) (u : List ℕ) (l : List Passage) (k : ℕ) → Damage FramingRefuses l
          → PollsEnd (ready (not b) l) (at l (stand g boarding b g.settings.controller h pending.Nothing n ss u) (after_outcome g.settings i (t ∷ ts) b o) k)
      gave_up : (x : Station) (l : List Passage) (k : ℕ) → x.slots ≡ ss → PollsEnd silent (at l x (stop (ending.NoAnswer (suc i))) k)
      waited : (x : Station) (l : List Passage) (k : ℕ) → x.slots ≡ ss → PollsEnd late (at l x (stop (ending.NotReady (suc i))) k)

    abbrev pub result : List ℕ
    result = outcome_bytes g.settings.controller g.settings.printer o

    pub record PollsRun (left wait : ℕ) (b f : Bool) (s h : ℕ) (u : List ℕ) (l : List Passage) (k : ℕ) : Type 0 where
      pub last : Config
      pub chain : Chain g g.settings.printer
          (at l (stand g boarding f s h (pending.Result o wait) n ss u) (ask_for g.settings (suc i) (job.Poll left) b g.settings.repeats (t ∷ ts)) k)
          (polls g.settings result left wait b l) last
      pub how : PollsEnd (polled g.settings left wait b l) last

    module _ (b : Bool) where
      call : received_of g.settings.printer (poll_bytes g.settings.printer g.settings.controller b) ≡ counted b g.settings.controller poll
      call = poll_received g.settings.printer g.settings.controller to from g.settings.printer b
          ∙ rw (eq-eqb g.settings.printer g.settings.printer refl)

      uncounted : n ≡ n + pick (is_write_ask (asked (poll_bytes g.settings.printer g.settings.controller b))) 1 0
      uncounted = rw (poll_asked g.settings.printer g.settings.controller to from b, add-zero)

      abbrev sent : (r : List ℕ) → List Passage → List Sending
      sent r l = exchange g.settings.repeats (poll_bytes g.settings.printer g.settings.controller b) r l

      -- where a poll leads to, of which the reply r is taken up as m
      abbrev led : (r : List ℕ) → Move → (x' x : Station) → List Passage → ℕ → Config
      led r m x' x l k =
          at (leaves g.settings.repeats l) (pick (one_arrives (sent r l)) x' x)
          (pick (meets g.settings.repeats l) m (stop (ending.NoAnswer (suc i)))) (k + length (sent r l))

      -- one that fails
      failed : (r : List ℕ) (x' x : Station) (l : List Passage) (k : ℕ) → x'.slots ≡ ss → x.slots ≡ ss
          → PollsEnd silent (at (leaves g.settings.repeats l) (pick (one_arrives (sent r l)) x' x) (stop (ending.NoAnswer (suc i))) (k + length (sent r l)))
      failed r x' x l k e e' = by (one_arrives (sent r l))
        where
          by : (m : Bool) → PollsEnd silent (at (leaves g.settings.repeats l) (pick m x' x) (stop (ending.NoAnswer (suc i))) (k + length (sent r l)))
          by true = gave_up x' _ _ e
          by false = gave_up x _ _ e'

      module _ (f : Bool) (s h : ℕ) (u : List ℕ) (new : New g boarding b f s) (l : List Passage) (d : Damage FramingRefuses l) (k : ℕ) where
        abbrev got : Station
        got = stand g boarding b g.settings.controller (length result) pending.Nothing n ss (over result u)

        -- the poll that gets the result
        last_poll : (left : ℕ) → PollsRun left zero b f s h u l k
        unfolding polls polled
        last_poll left =
            record {
              last = led result (after_outcome g.settings i (t ∷ ts) b o) got (stand g boarding f s h (pending.Result o zero) n ss u) l k;
              chain = link (asked_for g boarding i t ts there (job.Poll left) b poll call f s h (pending.Result o zero) n ss u new
                  (poll_names g.settings.printer g.settings.controller to from b) uncounted (after_outcome g.settings i (t ∷ ts) b o)
                  (λ r. rw (got_outcome_lem g.settings to from o good) (took left r b o)) l d k) end;
              how = by (meets g.settings.repeats l) refl;
            }
          where
            by : (m : Bool) → meets g.settings.repeats l ≡ m
                → PollsEnd (pick m (ready (not b) (leaves g.settings.repeats l)) silent)
                (at (leaves g.settings.repeats l) (pick (one_arrives (sent result l)) got (stand g boarding f s h (pending.Result o zero) n ss u))
                (pick m (after_outcome g.settings i (t ∷ ts) b o) (stop (ending.NoAnswer (suc i)))) (k + length (sent result l)))
            by true e = rw (answered_arrived g.settings.repeats (poll_bytes g.settings.printer g.settings.controller b) result l e)
                (came b (length result) (over result u) (leaves g.settings.repeats l) (k + length (sent result l)) (damage_left FramingRefuses g.settings.repeats l d))
            by false e = failed result got (stand g boarding f s h (pending.Result o zero) n ss u) l k refl refl

        module _ (wait : ℕ) where
          abbrev held : Station
          held = stand g boarding b g.settings.controller 1 (pending.Result o wait) n ss (over confirmation_bytes u)

          -- a poll that gets "not yet", where another may not follow
          late_poll : PollsRun zero (suc wait) b f s h u l k
          unfolding polls polled
          late_poll =
              record {
                last = led confirmation_bytes (stop (ending.NotReady (suc i))) held (stand g boarding f s h (pending.Result o (suc wait)) n ss u) l k;
                chain = link (asked_for g boarding i t ts there (job.Poll zero) b poll call f s h (pending.Result o (suc wait)) n ss u new
                    (poll_names g.settings.printer g.settings.controller to from b) uncounted (stop (ending.NotReady (suc i)))
                    (λ r. rw (got_confirmation_lem g.settings)) l d k) end;
                how = by (meets g.settings.repeats l) refl;
              }
            where
              by : (m : Bool) → meets g.settings.repeats l ≡ m
                  → PollsEnd (pick m late silent)
                  (at (leaves g.settings.repeats l) (pick (one_arrives (sent confirmation_bytes l)) held (stand g boarding f s h (pending.Result o (suc wait)) n ss u))
                  (pick m (stop (ending.NotReady (suc i))) (stop (ending.NoAnswer (suc i)))) (k + length (sent confirmation_bytes l)))
              by true e = rw (answered_arrived g.settings.repeats (poll_bytes g.settings.printer g.settings.controller b) confirmation_bytes l e)
                  (waited held (leaves g.settings.repeats l) (k + length (sent confirmation_bytes l)) refl)
              by false e = failed confirmation_bytes held (stand g boarding f s h (pending.Result o (suc wait)) n ss u) l k refl refl

          -- and where another may
          module _ (left : ℕ) where
            abbrev onward : Move
            onward = ask_for g.settings (suc i) (job.Poll left) (not b) g.settings.repeats (t ∷ ts)

            again_poll : PollsRun left wait (not b) b g.settings.controller 1 (over confirmation_bytes u) (leaves g.settings.repeats l) (k + length (sent confirmation_bytes l))
                → PollsRun (suc left) (suc wait) b f s h u l k
            unfolding polls polled
            again_poll rest = by (meets g.settings.repeats l) refl
              where
                first : Link g g.settings.printer
                    (at l (stand g boarding f s h (pending.Result o (suc wait)) n ss u) (ask_for g.settings (suc i) (job.Poll (suc left)) b g.settings.repeats (t ∷ ts)) k)
                    (sent confirmation_bytes l) (led confirmation_bytes onward held (stand g boarding f s h (pending.Result o (suc wait)) n ss u) l k)
                first = asked_for g boarding i t ts there (job.Poll (suc left)) b poll call f s h (pending.Result o (suc wait)) n ss u new
                    (poll_names g.settings.printer g.settings.controller to from b) uncounted onward
                    (λ r. rw (got_confirmation_lem g.settings)) l d k

                by : (m : Bool) → meets g.settings.repeats l ≡ m → PollsRun (suc left) (suc wait) b f s h u l k
                by true e =
                    let arrived = answered_arrived g.settings.repeats (poll_bytes g.settings.printer g.settings.controller b) confirmation_bytes l e in
                    record {
                      last = rest.last;
                      chain = rw e (link (rw (e, arrived) at first) rest.chain);
                      how = rw e rest.how;
                    }
                by false e =
                    record {
                      last = at (leaves g.settings.repeats l) (pick (one_arrives (sent confirmation_bytes l)) held (stand g boarding f s h (pending.Result o (suc wait)) n ss u))
                          (stop (ending.NoAnswer (suc i))) (k + length (sent confirmation_bytes l));
                      chain = rw e (link (rw e at first) end);
                      how = rw e (failed confirmation_bytes held (stand g boarding f s h (pending.Result o (suc wait)) n ss u) l k refl refl);
                    }

    pub follow_polls : (left wait : ℕ) (b f : Bool) (s h : ℕ) (u : List ℕ) → New g boarding b f s → (l : List Passage) → Damage FramingRefuses l → (k : ℕ)
        → PollsRun left wait b f s h u l k
    follow_polls left zero b f s h u new l d k = last_poll b f s h u new l d k left
    follow_polls zero (suc wait) b f s h u new l d k = late_poll b f s h u new l d k wait
    follow_polls (suc left) (suc wait) b f s h u new l d k =
        again_poll b f s h u new l d k wait left
        (follow_polls left wait (not b) b g.settings.controller 1 (over confirmation_bytes u) (next_new g boarding b)
        (leaves g.settings.repeats l) (damage_left FramingRefuses g.settings.repeats l d) (k + length (sent b confirmation_bytes l)))

-- ---- the whole

-- the slots with templates written in
abbrev pub fill_all : List Entry → Slots → Slots
fill_all [] s = s
fill_all (t ∷ ts) s = fill_all ts (written t.slot t.body s)

-- The printer's result of our write is the course's: it guards slot seven while boarding, and no other.
judged : (boarding : Bool) (t : Entry) → t.slot ≤ 15 → length t.body ≤ 200 → judge boarding 1 t.slot (length t.body) ≡ outcome_of (guarded boarding t.slot) t
unfolding judge
judged boarding t slot short = simp (le-ltb 15 t.slot slot, le-ltb 200 (length t.body) short)

pub outcome_taken : (t : Entry) → length t.body ≤ 200 → (guard : Bool) → answers.verdict_of (answer_of (outcome_of guard t)) 0 ≡ fine
unfolding negative_of good_code1 named_in ranged_of
outcome_taken t short true = refl
outcome_taken t short false = simp (le-ltb 240 (length t.body) (omega arith))

slots_by : (t : Entry) (guard : Bool) (ss : Slots) → slots_after (outcome_of guard t) t.slot t.body ss ≡ fill_all (unless guard t) ss
slots_by t true ss = refl
slots_by t false ss = refl

-- a run from x that follows the course y
pub record Followed (g : Given) (x : Config) (ss : Slots) (y : Course) : Type 0 where
  pub last : Config
  pub chain : Chain g g.settings.printer x (concat y.requests) last
  pub stops : last.move ≡ stop y.ending
  pub slots : last.printer.slots ≡ fill_all y.stored ss

module _ (g : Given) (boarding : Bool) (to : g.settings.printer ≤ 126) (from : g.settings.controller ≤ 126) where
  abbrev starts : (i : ℕ) (b f : Bool) (s h : ℕ) (u : List ℕ) (ss : Slots) → List Entry → List Passage → ℕ → Config
  starts i b f s h u ss ts l k =
      at l (stand g boarding f s h pending.Nothing i ss u) (ask_for g.settings (suc i) job.Write b g.settings.repeats ts) k

  abbrev course_of : (i : ℕ) (b : Bool) → List Entry → List Passage → Course
  course_of = course g.settings boarding g.not_yet

  -- one template, where the rest of the book is followed
  module _ (i : ℕ) (t : Entry) (ts : List Entry) (there : drop i g.book ≡ t ∷ ts) (small : i < 16) (slot : t.slot ≤ 15) (some : 1 ≤ length t.body)
      (short : length t.body ≤ 200) (b f : Bool) (s h : ℕ) (u : List ℕ) (new : New g boarding b f s) (ss : Slots) (l : List Passage) (d : Damage FramingRefuses l) (k : ℕ) where
    abbrev guard : Bool
    guard = guarded boarding t.slot

    abbrev o : Outcome
    o = outcome_of guard t

    abbrev sent_write : List Sending
    sent_write = write_of g.settings boarding g.not_yet b t l

    abbrev rest : List Passage
    rest = leaves g.settings.repeats l

    abbrev stored : Slots
    stored = slots_after o t.slot t.body ss

    abbrev before : Station
    before = stand g boarding f s h pending.Nothing i ss u

    abbrev performed : Station
    performed = stand g boarding b g.settings.controller 1 (pending.Result o (get_or g.not_yet i 0)) (min 255 (suc i)) stored (over confirmation_bytes u)

    abbrev polling : Move
    polling = ask_for g.settings (suc i) (job.Poll (g.settings.polls - 1)) (not b) g.settings.repeats (t ∷ ts)

    capped : min 255 (suc i) ≡ suc i
    capped = omega arith

    slots_are : stored ≡ fill_all (unless guard t) ss
    slots_are = slots_by t guard ss

    written_link : Link g g.settings.printer (starts i b f s h u ss (t ∷ ts) l k) sent_write
        (at rest (pick (one_arrives sent_write) performed before) (pick (meets g.settings.repeats l) polling (stop (ending.NoAnswer (suc i)))) (k + length sent_write))
    written_link =
        rw (judged boarding t slot short) at (asked_for g boarding i t ts there job.Write b (write 1 t.slot t.body)
        (write_received g.settings.printer g.settings.controller to from g.settings.printer b t.slot t.body some short
        ∙ rw (eq-eqb g.settings.printer g.settings.printer refl))
        f s h pending.Nothing i ss u new
        (write_names g.settings.printer g.settings.controller to from b t.slot t.body some short)
        (rw (capped, write_asked g.settings.printer g.settings.controller to from b t.slot t.body some short) (omega arith))
        polling (λ r. rw (got_confirmation_lem g.settings)) l d k)

    abbrev start : Config
    start = starts i b f s h u ss (t ∷ ts) l k

    unanswered : Link g g.settings.printer start sent_write (at rest (pick (one_arrives sent_write) performed before) (stop (ending.NoAnswer (suc i))) (k + length sent_write))
        → Followed g start ss (ends_with (sent_write ∷ []) (ending.NoAnswer (suc i)) (pick (one_arrives sent_write) (unless guard t) []))
    unanswered w = by (one_arrives sent_write) w
      where
        by : (m : Bool) → Link g g.settings.printer start sent_write (at rest (pick m performed before) (stop (ending.NoAnswer (suc i))) (k + length sent_write))
            → Followed g start ss (ends_with (sent_write ∷ []) (ending.NoAnswer (suc i)) (pick m (unless guard t) []))
        by true w = record { last = _; chain = link w end; stops = refl; slots = slots_are }
        by false w = record { last = _; chain = link w end; stops = refl; slots = refl }

    abbrev sent_polls : List (List Sending)
    sent_polls = polls g.settings (result_of g.settings boarding g.not_yet t) (g.settings.polls - 1) (get_or g.not_yet i 0) (not b) rest

    good : answers.verdict_of (answer_of o) 0 ≡ fine
    good = outcome_taken t short guard

    abbrev took_as : Bool → Outcome → Move
    took_as = after_outcome g.settings i (t ∷ ts)

    -- what follows where the write and the polls went well
    module _ (onward : (b' : Bool) (h' : ℕ) (u' : List ℕ) (l' : List Passage) (k' : ℕ) → Damage FramingRefuses l'
        → Followed g (starts (suc i) (not b') b' g.settings.controller h' u' (written t.slot t.body ss) ts l' k') (written t.slot t.body ss) (course_of (suc i) (not b') ts l')) where
      abbrev course_by : Polled → Course
      course_by p = after_polls (suc i) t guard (sent_write ∷ sent_polls) p (λ b' l'. course_of (suc i) b' ts l')

      abbrev End : Polled → Config → Type 0
      End = PollsEnd g boarding to from i t ts there (min 255 (suc i)) stored o good

      alone : {z : Config} → Chain g g.settings.printer start (sent_write ∷ sent_polls) z → Chain g g.settings.printer start (concat ((sent_write ∷ sent_polls) ∷ [])) z
      alone {z} c = subst (λ (bs : List (List Sending)). Chain g g.settings.printer start bs z) (sym (append-nil (sent_write ∷ sent_polls))) c

      -- the result came to the last poll, and the guard is on or off
      settles : (m : Bool) → guard ≡ m → (b' : Bool) (h' : ℕ) (u' : List ℕ) (l' : List Passage) (k' : ℕ) → Damage FramingRefuses l'
          → Chain g g.settings.printer start (sent_write ∷ sent_polls)
          (at l' (stand g boarding b' g.settings.controller h' pending.Nothing (min 255 (suc i)) stored u') (took_as b' o) k')
          → Followed g start ss (pick m (ends_with (sent_write ∷ sent_polls) (ending.Refused (suc i) 0xB6 0) []) (after (sent_write ∷ sent_polls) t (course_of (suc i) (not b') ts l')))
      settles true e b' h' u' l' k' d' c =
          let is : o ≡ outcome.Negative 0xB6 0 = rw e in
          record {
            last = at l' (stand g boarding b' g.settings.controller h' pending.Nothing (min 255 (suc i)) stored u') (took_as b' o) k';
            chain = alone c;
            stops = rw is;
            slots = slots_are ∙ rw e;
          }
      settles false e b' h' u' l' k' d' c =
          let is : o ≡ outcome.Positive 1 t.slot (length t.body) = rw e in
          let now : stored ≡ written t.slot t.body ss = slots_are ∙ rw e in
          let then = onward b' h' u' l' k' d' in
          let next : Config = starts (suc i) (not b') b' g.settings.controller h' u' (written t.slot t.body ss) ts l' k' in
          let moves : took_as b' o ≡ next.move = rw (is, eq-eqb t.slot t.slot refl, eq-eqb (length t.body) (length t.body) refl) in
          let same : at l' (stand g boarding b' g.settings.controller h' pending.Nothing (min 255 (suc i)) stored u') (took_as b' o) k' ≡ next = rw (moves, now, capped) in
          let went = subst (λ (z : Config). Chain g g.settings.printer start (sent_write ∷ sent_polls) z) same c in
          record {
            last = then.last;
            chain = chain_append g g.settings.printer went then.chain;
            stops = then.stops;
            slots = then.slots;
          }

      -- by how the polls ended
      by_end : (p : Polled) (z : Config) → End p z → Chain g g.settings.printer start (sent_write ∷ sent_polls) z → Followed g start ss (course_by p)
      by_end _ _ (came b' h' u' l' k' d') c = settles guard refl b' h' u' l' k' d' c
      by_end _ _ (gave_up x l' k' e) c = record { last = _; chain = alone c; stops = refl; slots = e ∙ slots_are }
      by_end _ _ (waited x l' k' e) c = record { last = _; chain = alone c; stops = refl; slots = e ∙ slots_are }

      template_followed : Followed g start ss (course_of i b (t ∷ ts) l)
      unfolding course
      template_followed = by (meets g.settings.repeats l) refl
        where
          by : (m : Bool) → meets g.settings.repeats l ≡ m
              → Followed g start ss (pick m (course_by (polled g.settings (g.settings.polls - 1) (get_or g.not_yet i 0) (not b) rest))
              (ends_with (sent_write ∷ []) (ending.NoAnswer (suc i)) (pick (one_arrives sent_write) (unless guard t) [])))
          by false e = unanswered (rw e at written_link)
          by true e =
              let arrived = answered_arrived g.settings.repeats (write_bytes g.settings.printer g.settings.controller b t.slot t.body) confirmation_bytes l e in
              let first : Link g g.settings.printer start sent_write (at rest performed polling (k + length sent_write)) = rw (e, arrived) at written_link in
              let run = follow_polls g boarding to from i t ts there (min 255 (suc i)) stored o good (g.settings.polls - 1) (get_or g.not_yet i 0) (not b) b g.settings.controller 1
              (over confirmation_bytes u) (next_new g boarding b) rest (damage_left FramingRefuses g.settings.repeats l d) (k + length sent_write) in
              by_end (polled g.settings (g.settings.polls - 1) (get_or g.not_yet i 0) (not b) rest) run.last run.how (link first run.chain)

  drop_next : (i : ℕ) (l : List Entry) {t : Entry} {ts : List Entry} → drop i l ≡ t ∷ ts → drop (suc i) l ≡ ts
  drop_next zero [] e = cc
  drop_next (suc i) [] e = cc
  drop_next zero (a ∷ l) e = cc
  drop_next (suc i) (a ∷ l) e = drop_next i l e

  -- The run from template suc i on, where its write is new to the printer, follows the course.
  pub follows : (ts : List Entry) (i m : ℕ) → drop i g.book ≡ ts → InOrder m ts → i + length ts ≤ 16 → (b f : Bool) (s h : ℕ) (u : List ℕ) → New g boarding b f s
      → (ss : Slots) (l : List Passage) → Damage FramingRefuses l → (k : ℕ) → Followed g (starts i b f s h u ss ts l k) ss (course_of i b ts l)
  unfolding course
  follows [] i m there order small b f s h u new ss l d k = record { last = _; chain = end; stops = refl; slots = refl }
  follows (t ∷ ts) i m there order small b f s h u new ss l d k =
      template_followed i t ts there (omega arith) order.1 order.2 order.3 b f s h u new ss l d k
      (λ b' h' u' l' k' d'.
      follows ts (suc i) (suc t.slot) (drop_next i g.book there) order.4 (omega arith) (not b') b' g.settings.controller h' u' (next_new g boarding b')
      (written t.slot t.body ss) l' d' k')
