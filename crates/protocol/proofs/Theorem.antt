-- Demand 3 holds of every download that is not refused.
use Prim.Native.Nat.{ℕ, zero, suc, ◌+◌, ◌-◌, ◌*◌, ◌≤◌, ◌<◌}
use Rattle.std.proofs.Math.Nat.{zero-add}
use Rattle.std.proofs.Common.{arith, sym, ◌∙◌, subst, append-nil, ne_eqb}
use Rattle.std.proofs.Math.Decide.{dec_lt}
use Rattle.std.specs.Prelude.{◌≡◌, Bool, true, false, List, [], ◌∷◌, ◌++◌, length, get_or, take, drop}
use Rattle.std.proofs.Math.Path.{refl, ap}
use Rattle.octets.specs.Choice.{pick, ◌and◌, ◌or◌}
use Rattle.octets.proofs.Choice.{never}
use Rattle.octets.specs.Front.{fine}
use Rattle.diagnosis.specs.Reading as diagnosis
use Rattle.book.specs.Contents.{Entry}
use Rattle.protocol.specs.Endings.{stops_at}
use Rattle.protocol.specs.Line as line
use Rattle.protocol.specs.Line.{Passage, through, Sending, passage_of, rest_of, go, stop, Damage, as_lost}
use Rattle.protocol.specs.Slots.{slot_in, Sized, filled}
use Rattle.protocol.specs.Printer.{Station}
use Rattle.content.specs.declared.fields.Content.TheVariants as content
use Rattle.protocol.specs.Telegrams.{opening_code, counted_code}
use Rattle.protocol.specs.Controller.{ask_for}
use Rattle.protocol.specs.Download.{Given, Config, hears, steps, begin, after, sendings, bound, download, given, passages_of, verdict_of, Whole, download_of}
use Rattle.protocol.specs.Words.{any_of, heard, answered, failed, requests_in, by_template, templates_in, requests_at, writes_heard, write_in, FramingRefuses, UntilAnswered}
use Rattle.protocol.specs.Course.{Course, course, concat}
use Rattle.protocol.specs.Demand.{At, NotRefused, Demand3, final, all, New, Old, write_heard, Downloads}
use Rattle.protocol.proofs.Lemmas.Read.{opening_asked}
use Rattle.protocol.specs.Verdicts.{Valid}
use Rattle.protocol.proofs.Lemmas.Replies.{valid}
use Rattle.protocol.proofs.Lemmas.Runs.{run_stop, run_keeps, transcript_add, transcript_stop, transcript_take, transcript_short, sent_counts, run_line, settles, damage_rest, damage_is_loss}
use Rattle.protocol.proofs.Lemmas.Groups.{Apart, block_in, blocks_alone, Templates, templates_in_lem, no_openings, Each, each_at}
use Rattle.protocol.proofs.Lemmas.Chain.{apart_take, chain_ran, chain_sent, chain_counts}
use Rattle.protocol.proofs.Lemmas.Accepted.{unrefused, not_refused}
use Rattle.protocol.proofs.Lemmas.Hearing.{boarding_kept}
use Rattle.protocol.proofs.Lemmas.Ours.{ignores, next_new}
use Rattle.protocol.proofs.Lemmas.Follows.{Followed, fill_all, follows}
use Rattle.protocol.proofs.Lemmas.Means.{Says, says_none, ends_later, says, done_when, course_until}
use Rattle.protocol.proofs.Lemmas.Stored.{is_stored, stored_in, stored_are, unnamed, named}
use Rattle.protocol.proofs.Lemmas.Shape.{code_at, apart_turns, turns_blocks, course_turns, course_templates, course_short}
use Rattle.protocol.proofs.Lemmas.Ends.{Passed, Before, done_passed, stop_passed, regular, stored_before, none_behind}
use Rattle.protocol.proofs.Lemmas.Opening.{q, first_request, first_sending, reply, stood, Unopened, Opens, opens, fails, first, opened_ran, opened_sent, opened_answered}
use Rattle.protocol.specs.declared.controller.Controller.{Controller}
use Rattle.protocol.specs.declared.controller.Ending.{Ending}
use Rattle.protocol.specs.declared.controller.Ending.TheVariants as ending
use Rattle.protocol.specs.declared.controller.Job.TheVariants as job
use Rattle.protocol.specs.declared.controller.Settings.{Settings}

-- who has ended sends nothing more
ended_sent : (g : Given) (u v : ℕ) (y : Config) {e : Ending} → (line.run (hears g) (steps g) u y).move ≡ stop e → u ≤ v
    → line.transcript (hears g) (steps g) v y ≡ line.transcript (hears g) (steps g) u y
ended_sent g u v y h le =
    let k : v ≡ u + (v - u) = omega arith in
    ap (λ (w : ℕ). line.transcript (hears g) (steps g) w y) k
    ∙ transcript_add (hears g) (steps g) u (v - u) y
    ∙ ap (λ (s : List Sending). line.transcript (hears g) (steps g) u y ++ s) (transcript_stop (hears g) (steps g) (v - u) (line.run (hears g) (steps g) u y) h)
    ∙ append-nil (line.transcript (hears g) (steps g) u y)

module _ (g : Given) (l : List Passage) (x : Station) (ok : NotRefused g l x) where
  diag : Valid g.diagnosis
  diag = valid g.diagnosis (unrefused (diagnosis.read_of g.diagnosis) ok.station.diagnosis)

  abbrev here : ℕ
  here = x.printer.address

  abbrev opening : List ℕ
  opening = q g x ok.printer ok.controller diag

  abbrev first_sent : (reply : List ℕ) → Sending
  first_sent r = first_sending g x ok.printer ok.controller diag (passage_of l) r

  -- the first sending, and then those of the configuration behind it
  module _ (r : List ℕ) (back : line.reply_after (hears g) (steps g) (passage_of l) x opening ≡ r) (y : Config) (ran : line.next (hears g) (steps g) (begin g l x) ≡ y) where
    then_ran : (m : ℕ) → after g l x (suc m) ≡ line.run (hears g) (steps g) m y
    unfolding line.run
    then_ran m = ap (line.run (hears g) (steps g) m) ran

    then_sent : (m : ℕ) → sendings g l x (suc m) ≡ first_sent r ∷ line.transcript (hears g) (steps g) m y
    unfolding line.transcript
    then_sent m =
        ap (λ move. line.sending_by (hears g) (steps g) l x move (line.transcript (hears g) (steps g) m (line.next (hears g) (steps g) (begin g l x)))) (first_request g x ok.printer ok.controller diag)
        ∙ rw (back, ran)

  -- what a download has in common that stopped after 1 + u sendings
  abbrev rest : ℕ
  rest = length g.book * (1 + g.settings.polls) * (g.settings.repeats + 1)

  bound_is : bound g ≡ suc rest
  bound_is = omega arith

  -- ---- the number of sendings, whatever the ending

  all_sent : (final g l x).sent ≡ length (all g l x)
  unfolding download
  all_sent = sent_counts (hears g) (steps g) (bound g) (begin g l x) ∙ zero-add (length (all g l x))

  within_bound : (final g l x).sent ≤ bound g
  within_bound = omega (arith, all_sent, transcript_short (hears g) (steps g) (bound g) (begin g l x))

  line_used : (final g l x).line ≡ drop (final g l x).sent l
  unfolding download
  line_used = run_line (hears g) (steps g) (bound g) (begin g l x) refl

  never_sooner : (m : ℕ) → m < (final g l x).sent → (e : Ending) → (after g l x m).move ≡ stop e → ⊥
  unfolding download
  never_sooner m lt e h =
      let same : (final g l x).sent ≡ (after g l x m).sent = ap (λ (y : Config). y.sent) (settles (hears g) (steps g) m (bound g) (begin g l x) h (omega (arith, within_bound))) in
      omega (arith, sent_counts (hears g) (steps g) m (begin g l x), transcript_short (hears g) (steps g) m (begin g l x))

  -- ---- boarding, whatever the ending

  boarding_stays : (m : ℕ) → (after g l x m).printer.printer.boarding ≡ x.printer.boarding
  boarding_stays m =
      run_keeps (hears g) (steps g) (λ (y : Station). y.printer.boarding) (λ y s. boarding_kept g.diagnosis (get_or g.not_yet y.printer.writes 0) s y) m
      (begin g l x)

  -- ---- no opening

  module _ (u : Unopened g x ok.printer ok.controller diag l) where
    abbrev ended : Config
    ended = record { line = rest_of l; printer = u.station; move = stop ending.NoOpening; sent = 1 }

    later_ran : (m : ℕ) → after g l x (suc m) ≡ ended
    later_ran m = then_ran u.reply u.sent ended u.ran m ∙ run_stop (hears g) (steps g) m ended refl

    later_sent : (m : ℕ) → sendings g l x (suc m) ≡ first_sent u.reply ∷ []
    later_sent m =
        then_sent u.reply u.sent ended u.ran m
        ∙ ap (λ (s : List Sending). first_sent u.reply ∷ s) (transcript_stop (hears g) (steps g) m ended refl)

    closed_final : final g l x ≡ ended
    unfolding download
    closed_final = rw bound_is (later_ran rest)

    closed_all : all g l x ≡ first_sent u.reply ∷ []
    closed_all = rw bound_is (later_sent rest)

    one_request : requests_in (first_sent u.reply ∷ []) ≡ (first_sent u.reply ∷ []) ∷ []
    unfolding requests_in
    one_request = refl

    or_none : (b : Bool) → (b or false) ≡ b
    or_none true = refl
    or_none false = refl

    no_writes : writes_heard here (first_sent u.reply ∷ []) ≡ 0
    no_writes = rw (one_request, opening_asked g.settings.printer g.settings.controller ok.printer ok.controller)

    none_at : (k : ℕ) → requests_at (all g l x) k ≡ []
    unfolding by_template
    none_at zero = refl
    none_at (suc k) = rw (closed_all, one_request)

    closed_once : (m : ℕ) → (after g l x m).printer.printer.writes
        ≡ pick (any_of (heard here) (take 1 (sendings g l x m))) (writes_heard here (sendings g l x m)) x.printer.writes
    unfolding line.run line.transcript
    closed_once zero = refl
    closed_once (suc m) = rw (later_ran m, later_sent m, or_none, no_writes) u.writes

    closed : Demand3 g l x
    closed =
        record {
          ending = ending.NoOpening;
          ends = rw closed_final;
          within = within_bound;
          sent = all_sent;
          entries_used = line_used;
          not_sooner = never_sooner;
          opening_once = rw (closed_all, one_request);
          no_other_opening = rw (closed_all, one_request);
          until_answered = λ n h. absurd (let z : length (drop 1 (requests_in (all g l x))) ≡ 0 = rw (closed_all, one_request) in omega arith);
          once = closed_once;
          done = rw (closed_all, u.unanswered);
          no_opening = rw (closed_all, u.unanswered);
          no_answer = λ k. rw (none_at k);
          not_ready = λ k. rw (none_at k) (sym (ne_eqb 0 g.settings.polls (λ z. omega (arith, ok.some_polls))));
          refused = λ k c d. rw (none_at k);
          refused_codes = λ k c d h. absurd (never h);
          strange = refl;
          done_new = λ h. absurd (never h);
          no_opening_old = λ h s. rw (closed_final, u.slots);
          before_new = λ k h. absurd (never h);
          there_new = λ i t a h. absurd (never h);
          there_old = λ i t a h. absurd (never h);
          behind_old = λ k h. absurd (never h);
          others_old = λ s h. rw (closed_final, u.slots);
          boarding = boarding_stays;
        }

  -- ---- the opening was answered

  module _ (ours : x.printer.address ≡ g.settings.printer) (t : passage_of l ≡ through) where
    abbrev board : Bool
    board = x.printer.boarding

    abbrev answer : List ℕ
    answer = reply g x ok.printer ok.controller diag ours

    abbrev opened : Config
    opened =
        record {
          line = rest_of l;
          printer = stood g x ok.printer ok.controller diag ours;
          move = ask_for g.settings 1 job.Write false g.settings.repeats g.book;
          sent = 1;
        }

    abbrev ideal : Course
    ideal = course g.settings board g.not_yet 0 false g.book (rest_of l)

    abbrev blocks : List (List Sending)
    blocks = concat ideal.requests

    rest_damage : Damage FramingRefuses (rest_of l)
    rest_damage = damage_rest FramingRefuses l ok.damage

    followed : Followed g opened x.slots ideal
    followed =
        follows g board ok.printer ok.controller g.book 0 0 refl ok.in_order (omega (arith, ok.templates)) false true g.settings.controller 0 _
        (next_new g board true) x.slots (rest_of l) rest_damage 1

    short : length (concat blocks) ≤ rest
    short = course_short g.settings board g.not_yet ok.some_polls 0 false g.book (rest_of l)

    last_run : line.run (hears g) (steps g) (length (concat blocks)) opened ≡ followed.last
    last_run = chain_ran g g.settings.printer followed.chain

    stopped : (line.run (hears g) (steps g) (length (concat blocks)) opened).move ≡ stop ideal.ending
    stopped = ap (λ (y : Config). y.move) last_run ∙ followed.stops

    first_ran : (m : ℕ) → after g l x (suc m) ≡ line.run (hears g) (steps g) m opened
    first_ran m = then_ran answer (opened_sent g x ok.printer ok.controller diag l ours t) opened (opened_ran g x ok.printer ok.controller diag l ours t) m

    first_sent_lem : (m : ℕ) → sendings g l x (suc m) ≡ first_sent answer ∷ line.transcript (hears g) (steps g) m opened
    first_sent_lem m = then_sent answer (opened_sent g x ok.printer ok.controller diag l ours t) opened (opened_ran g x ok.printer ok.controller diag l ours t) m

    final_is : final g l x ≡ followed.last
    unfolding download
    final_is = rw bound_is (first_ran rest ∙ settles (hears g) (steps g) (length (concat blocks)) rest opened stopped short ∙ last_run)

    ends_so : (final g l x).move ≡ stop ideal.ending
    ends_so = ap (λ (y : Config). y.move) final_is ∙ followed.stops

    all_is : all g l x ≡ first_sent answer ∷ concat blocks
    all_is =
        rw bound_is (first_sent_lem rest)
        ∙ ap (λ (s : List Sending). first_sent answer ∷ s) (ended_sent g (length (concat blocks)) rest opened stopped short ∙ chain_sent g g.settings.printer followed.chain)

    -- ---- the requests, put together again

    code : get_or opening 6 0 ≡ opening_code
    code = code_at content.SlaveDiagCall g.settings.printer g.settings.controller opening_code []

    apart : Apart opening (concat blocks)
    apart =
        rw append-nil at
        (apart_turns opening false blocks (λ e. let z : ◌≡◌ {A = ℕ} opening_code (counted_code false) = sym code ∙ e in omega arith) (course_turns g.settings board g.not_yet 0 false g.book (rest_of l)))

    opening_block : (s : List Sending) → Apart opening s → requests_in (first_sent answer ∷ s) ≡ (first_sent answer ∷ []) ∷ requests_in s
    opening_block s h = block_in opening (first_sent answer ∷ []) s (record { some = omega arith; same = (refl, tt); apart = h })

    requests_are : requests_in (all g l x) ≡ (first_sent answer ∷ []) ∷ blocks
    requests_are =
        ap requests_in all_is
        ∙ opening_block (concat blocks) apart
        ∙ ap (λ (r : List (List Sending)). (first_sent answer ∷ []) ∷ r) (blocks_alone blocks (turns_blocks false blocks (course_turns g.settings board g.not_yet 0 false g.book (rest_of l))))

    templates : Templates ideal.requests
    templates = course_templates g.settings ok.printer ok.controller board g.not_yet 0 0 false g.book (rest_of l) ok.in_order

    templates_are : templates_in (all g l x) ≡ ideal.requests
    templates_are = ap (λ (r : List (List Sending)). by_template (drop 1 r)) requests_are ∙ templates_in_lem ideal.requests templates

    requests_at_lem : (i : ℕ) → requests_at (all g l x) (suc i) ≡ get_or ideal.requests i []
    requests_at_lem i = ap (λ (r : List (List (List Sending))). get_or r i []) templates_are

    -- ---- the count of writes, after every number of sendings

    first_heard : heard here (first_sent answer) ≡ true
    first_heard = (opened_answered g x ok.printer ok.controller diag l ours t).0

    first_answered : answered here (first_sent answer) ≡ true
    first_answered = (opened_answered g x ok.printer ok.controller diag l ours t).1

    not_counted : (s : List Sending) → Apart opening s → writes_heard here (first_sent answer ∷ s) ≡ writes_heard here s
    not_counted s h = rw (opening_block s h, opening_asked g.settings.printer g.settings.controller ok.printer ok.controller)

    counted : (v : ℕ) → v ≤ length (concat blocks) → (line.run (hears g) (steps g) v opened).printer.printer.writes ≡ writes_heard here (line.transcript (hears g) (steps g) v opened)
    counted v h =
        let sent_first : line.transcript (hears g) (steps g) v opened ≡ take v (concat blocks) =
        sym (transcript_take (hears g) (steps g) v (length (concat blocks)) opened h) ∙ ap (take v) (chain_sent g g.settings.printer followed.chain) in
        chain_counts g g.settings.printer followed.chain (turns_blocks false blocks (course_turns g.settings board g.not_yet 0 false g.book (rest_of l))) v h
        ∙ zero-add (writes_heard g.settings.printer (take v (concat blocks)))
        ∙ rw (sent_first, ours)

    part_apart : (v : ℕ) → Apart opening (line.transcript (hears g) (steps g) v opened)
    part_apart v = by (dec_lt v (length (concat blocks)))
      where
        by : Dec (v < length (concat blocks)) → Apart opening (line.transcript (hears g) (steps g) v opened)
        by (yes h) =
            subst (Apart opening) (ap (take v) (sym (chain_sent g g.settings.printer followed.chain)) ∙ transcript_take (hears g) (steps g) v (length (concat blocks)) opened (omega arith))
            (apart_take opening v (concat blocks) apart)
        by (no h) =
            subst (Apart opening) (sym (ended_sent g (length (concat blocks)) v opened stopped (omega arith) ∙ chain_sent g g.settings.printer followed.chain)) apart

    counted_always : (v : ℕ) → (line.run (hears g) (steps g) v opened).printer.printer.writes ≡ writes_heard here (line.transcript (hears g) (steps g) v opened)
    counted_always v = by (dec_lt v (length (concat blocks)))
      where
        by : Dec (v < length (concat blocks)) → (line.run (hears g) (steps g) v opened).printer.printer.writes ≡ writes_heard here (line.transcript (hears g) (steps g) v opened)
        by (yes h) = counted v (omega arith)
        by (no h) =
            rw (settles (hears g) (steps g) (length (concat blocks)) v opened stopped (omega arith), ended_sent g (length (concat blocks)) v opened stopped (omega arith))
            (counted (length (concat blocks)) (omega arith))

    opened_once : (m : ℕ) → (after g l x m).printer.printer.writes
        ≡ pick (any_of (heard here) (take 1 (sendings g l x m))) (writes_heard here (sendings g l x m)) x.printer.writes
    unfolding line.run line.transcript
    opened_once zero = refl
    opened_once (suc m) = rw (first_ran m, first_sent_lem m, first_heard, not_counted (line.transcript (hears g) (steps g) m opened) (part_apart m)) (counted_always m)

    -- ---- the ending, by the requests of each template

    first_unstopped : stops_at 0 ideal.ending ≡ false
    first_unstopped = ends_later g.settings board g.not_yet ok.printer ok.controller ok.some_polls 0 false g.book (rest_of l) 0 (omega arith)

    said : (k : ℕ) → Says g.settings k ideal.ending (requests_at (all g l x) k)
    said zero = says_none g.settings ok.some_polls 0 ideal.ending first_unstopped
    said (suc i) =
        let s = says g.settings board g.not_yet ok.printer ok.controller ok.some_polls 0 0 false g.book (rest_of l) ok.in_order rest_damage i in
        let e : suc (0 + i) ≡ suc i = omega arith in
        rw (requests_at_lem i) (rw e at s)

    -- ---- the slots

    slots_are : (final g l x).printer.slots ≡ fill_all (stored_in here board ideal.requests g.book) x.slots
    slots_are =
        ap (λ (y : Config). y.printer.slots) final_is
        ∙ followed.slots
        ∙ ap (λ (ts : List Entry). fill_all ts x.slots) (stored_are g.settings board g.not_yet ok.printer ok.controller ok.some_polls 0 0 false g.book (rest_of l) ok.in_order rest_damage)
        ∙ rw ours

    module _ (z : Sized x.slots) (i : ℕ) (u : Entry) (k : At g.book i u) where
      abbrev is_new : Bool
      is_new = is_stored here board (get_or ideal.requests i []) u

      slot_is : slot_in (final g l x).printer.slots u.slot ≡ pick is_new (filled u.body (slot_in x.slots u.slot)) (slot_in x.slots u.slot)
      slot_is = rw slots_are (named here board ideal.requests 0 g.book x.slots i u ok.in_order z k)

      new : is_new ≡ true → New g l x u
      new e = slot_is ∙ rw e

      old : is_new ≡ false → Old g l x u.slot
      old e = slot_is ∙ rw e

      passed_new : Passed (suc i) ideal.ending → New g l x u
      passed_new h =
          let e : suc (0 + i) ≡ suc i = omega arith in
          new (rw ours (stored_before g.settings board g.not_yet ok.printer ok.controller ok.some_polls 0 0 false g.book (rest_of l) ok.in_order i u k (rw e h)))

      behind : Before (suc i) ideal.ending → Old g l x u.slot
      behind h =
          let e : suc (0 + i) ≡ suc i = omega arith in
          old (rw (none_behind g.settings board g.not_yet ok.printer ok.controller ok.some_polls 0 false g.book (rest_of l) i (rw e h)))

    -- the word for a heard write, over the course
    written_there : (i : ℕ) → write_heard g l x (suc i) ≡ true → (any_of (heard here) (write_in (get_or ideal.requests i [])) and true) ≡ true
    written_there i w = let e : any_of (heard here) (write_in (get_or ideal.requests i [])) ≡ true = rw (requests_at_lem i) at w in rw e

    each_until : Each (UntilAnswered g.settings.printer g.settings.repeats) blocks
    each_until = course_until g.settings board g.not_yet ok.printer ok.controller ok.some_polls 0 0 false g.book (rest_of l) ok.in_order rest_damage

    performed : Sized x.slots → Demand3 g l x
    performed z =
        let r = regular g.settings board g.not_yet ok.printer ok.controller ok.some_polls 0 false g.book (rest_of l) in
        record {
          ending = ideal.ending;
          ends = ends_so;
          within = within_bound;
          sent = all_sent;
          entries_used = line_used;
          not_sooner = never_sooner;
          opening_once = rw requests_are;
          no_other_opening = rw requests_are (no_openings ideal.requests templates);
          until_answered = λ n h.
              rw (requests_are, ours) (each_at (UntilAnswered g.settings.printer g.settings.repeats) blocks [] each_until n (rw requests_are at h));
          once = opened_once;
          done = rw (requests_are, all_is, first_answered, ours)
              (done_when g.settings board g.not_yet ok.printer ok.controller ok.some_polls 0 0 false g.book (rest_of l) ok.in_order rest_damage);
          no_opening = rw (all_is, first_answered) r.opened;
          no_answer = λ k. (said k).no_answer ∙ ap (λ (a : ℕ). any_of (failed a) (requests_at (all g l x) k)) (sym ours);
          not_ready = λ k. (said k).not_ready;
          refused = λ k c d. (said k).refused c d;
          refused_codes = λ k c d h. r.codes k c d h;
          strange = r.known;
          done_new = λ h i u k. passed_new z i u k (done_passed (suc i) ideal.ending h);
          no_opening_old = λ h. absurd (never (sym r.opened ∙ h));
          before_new = λ n h i u k lt. passed_new z i u k (stop_passed (suc i) n ideal.ending h lt);
          there_new = λ i u k h w f. new z i u k (rw f (written_there i w));
          there_old = λ i u k h w. old z i u k (rw (requests_at_lem i) at w);
          behind_old = λ n h i u k lt. behind z i u k (record { at = n; before = omega arith; there = h });
          others_old = λ s h. rw slots_are (unnamed here board ideal.requests 0 g.book x.slots s ok.in_order z h);
          boarding = boarding_stays;
        }

  -- The customer's third demand.
  pub demand3 : Sized x.slots → Demand3 g l x
  demand3 z = by (first g x ok.printer ok.controller diag l ok.damage)
    where
      by : Opens g x ok.printer ok.controller diag l → Demand3 g l x
      by (opens ours t) = performed ours t z
      by (fails u) = closed u

  -- Whatever the slots are, no request is left after the bound.
  pub all_are_sent : {request : List ℕ} {o : Controller} → (final g l x).move ≡ go request o → ⊥
  all_are_sent {request} {o} h = by (first g x ok.printer ok.controller diag l ok.damage)
    where
      apart : {e : Ending} → (final g l x).move ≡ stop e → ⊥
      apart e = let z : ◌≡◌ {A = ℕ} 0 1 = cc in omega arith

      by : Opens g x ok.printer ok.controller diag l → ⊥
      by (opens ours t) = apart (ends_so ours t)
      by (fails u) = apart (ap (λ (y : Config). y.move) (closed_final u))

  -- ---- the course, from the line alone

  -- Where the opening is answered, the sendings are the opening and then those of the course, and it ends as the course does.
  pub course_from_line : x.printer.address ≡ g.settings.printer → passage_of l ≡ through
      → let c : Course = course g.settings x.printer.boarding g.not_yet 0 false g.book (rest_of l) in
      (drop 1 (all g l x) ≡ concat (concat c.requests)) × ((final g l x).move ≡ stop c.ending)
  course_from_line ours t = (ap (drop 1) (all_is ours t), ends_so ours t)

  -- Bytes that framing refuses are as good as lost: both ends and the number of sendings are the same.
  pub damage_is_as_loss : let z : Config = download g (as_lost l) x in
      (z.printer ≡ (final g l x).printer) × (z.move ≡ (final g l x).move) × (z.sent ≡ (final g l x).sent)
  unfolding download
  damage_is_as_loss =
      let e = damage_is_loss (ignores g) (bound g) (begin g l x) ok.damage in
      (ap (λ (y : Config). y.printer) e, ap (λ (y : Config). y.move) e, ap (λ (y : Config). y.sent) e)

-- ---- the theorem, with all that it supposes in sight

pub the_demand : (g : Given) (l : List Passage) (x : Station) → NotRefused g l x → Sized x.slots → Demand3 g l x
the_demand g l x ok z = demand3 g l x ok z

-- ---- the download over lent bytes

module _ (c : Settings) (book line not_yet diagnosis : List ℕ) (x : Station) (request : List ℕ) (z : Sized x.slots) (e : verdict_of c book line diagnosis x request ≡ fine) where
  -- Demand 3 holds of it,
  pub download_holds : Demand3 (given c book not_yet diagnosis) (passages_of line) x
  download_holds = demand3 (given c book not_yet diagnosis) (passages_of line) x (not_refused c book line not_yet diagnosis x request e) z

  -- and its answer and its slots are those of which it speaks.
  pub downloads : {w : Whole} → w ≡ download_of c book line not_yet diagnosis x request → Downloads c book line not_yet diagnosis x w
  unfolding download_of
  downloads {w} q =
      record {
        demand = download_holds;
        answer = ap (λ (v : Whole). v.answer) q ∙ rw (e, download_holds.ends);
        slots = ap (λ (v : Whole). v.slots) q ∙ rw e;
      }
