-- The course means what the words say.
use Prim.Native.Nat.{ℕ, zero, suc, ◌+◌, ◌-◌, ◌≤◌, ◌<◌}
use Rattle.std.proofs.Math.Nat.{add-zero}
use native.Mathlib.Omega.{arith}
use Rattle.std.specs.Prelude.{◌≡◌, Bool, not, eqb, length}
use Rattle.std.proofs.Math.Path.{refl, sym}
use Rattle.std.proofs.Common.{ap, ◌∙◌, subst}
use Rattle.std.proofs.Math.Bool.{true, false}
use mathlib.Core.List.{List, [], ◌∷◌, ◌++◌}
use Rattle.std.proofs.Math.ListN.{get_or}
use borrow.Author.Tests.{eq-eqb, ne_eqb, lt-ltb, le-ltb}
use Rattle.octets.specs.Choice.{pick, ◌and◌, ◌or◌}
use Rattle.octets.specs.Front.{fine}
use Rattle.fdl.specs.Contents.{accepted}
use Rattle.fdl.specs.Reading as telegram
use Rattle.fdl.specs.Reading.{read_by}
use Rattle.fdl.specs.Writing.{confirmation_bytes}
use Rattle.acyclic.specs.Answers as answers
use Rattle.content.specs.declared.fields.Content.TheVariants as content
use Rattle.octets.specs.declared.Mode.TheVariants as mode
use Rattle.book.specs.Contents.{Entry, InOrder}
use Rattle.protocol.specs.Endings.{is_done, is_no_answer, is_not_ready, is_refused, stops_at}
use Rattle.protocol.specs.Line.{Passage, Sending, Damage}
use Rattle.protocol.specs.Telegrams.{write_bytes, answer_of, reply_code}
use Rattle.protocol.specs.Controller.{got_in}
use Rattle.protocol.specs.Words.{any_of, count_of, failed, polls_in, is_confirmation, is_negative, got_confirmation, got_negative, guarded, FramingRefuses, UntilAnswered}
use Rattle.protocol.specs.Course.{meets, leaves, one_arrives, Polled, ready, late, silent, polls, polled, Course, unless, outcome_of, ends_with, after, after_polls, write_of, result_of, course, concat}
use Rattle.protocol.specs.Demand.{all_ready}
use Rattle.protocol.proofs.Lemmas.Runs.{damage_left}
use Rattle.protocol.proofs.Lemmas.Groups.{any_append, Each, each_append}
use Rattle.protocol.proofs.Lemmas.Follows.{outcome_taken}
use Rattle.protocol.proofs.Lemmas.Read.{write_names, outcome_fine, telegram_read}
use Rattle.protocol.proofs.Lemmas.Replies.{got_outcome, got_outcome_lem}
use Rattle.protocol.proofs.Lemmas.Meets.{is_silent, is_ready, Confirmed, failed_unmet, polls_failed, polls_negative, polls_confirmed, until_answered, polls_until}
use Rattle.protocol.specs.declared.controller.Ending.{Ending}
use Rattle.protocol.specs.declared.controller.Ending.TheVariants as ending
use Rattle.protocol.specs.declared.controller.Settings.{Settings}
use Rattle.protocol.specs.declared.printer.Outcome.{Outcome}

-- the line that the polls leave is damaged no other than theirs
ready_damage : (c : Settings) (left wait : ℕ) (b : Bool) (l : List Passage) → Damage FramingRefuses l → (b' : Bool) (l' : List Passage) → polled c left wait b l ≡ ready b' l' → Damage FramingRefuses l'
unfolding polled
ready_damage c left zero b l d b' l' e = by (meets c.repeats l) e
  where
    by : (m : Bool) → pick m (ready (not b) (leaves c.repeats l)) silent ≡ ready b' l' → Damage FramingRefuses l'
    by true e = let same : leaves c.repeats l ≡ l' = cc in subst (λ (x : List Passage). Damage FramingRefuses x) same (damage_left FramingRefuses c.repeats l d)
    by false e = absurd (let z : ◌≡◌ {A = ℕ} 0 1 = cc in omega arith)
ready_damage c zero (suc wait) b l d b' l' e = by (meets c.repeats l) e
  where
    by : (m : Bool) → pick m late silent ≡ ready b' l' → Damage FramingRefuses l'
    by true e = absurd (let z : ◌≡◌ {A = ℕ} 0 1 = cc in omega arith)
    by false e = absurd (let z : ◌≡◌ {A = ℕ} 0 1 = cc in omega arith)
ready_damage c (suc left) (suc wait) b l d b' l' e = by (meets c.repeats l) e (λ f. ready_damage c left wait (not b) (leaves c.repeats l) (damage_left FramingRefuses c.repeats l d) b' l' f)
  where
    by : (m : Bool) → pick m (polled c left wait (not b) (leaves c.repeats l)) silent ≡ ready b' l' → (polled c left wait (not b) (leaves c.repeats l) ≡ ready b' l' → Damage FramingRefuses l')
        → Damage FramingRefuses l'
    by true e k = k e
    by false e k = absurd (let z : ◌≡◌ {A = ℕ} 0 1 = cc in omega arith)

module _ (c : Settings) (boarding : Bool) (not_yet : List ℕ) where
  -- ---- one template: five ways that it can go

  module _ (i : ℕ) (b : Bool) (t : Entry) (ts : List Entry) (l : List Passage) where
    abbrev pub wrote : List Sending
    wrote = write_of c boarding not_yet b t l

    abbrev pub guard : Bool
    guard = guarded boarding t.slot

    abbrev pub polled_as : Polled
    polled_as = polled c (c.polls - 1) (get_or not_yet i 0) (not b) (leaves c.repeats l)

    abbrev pub requests : List (List Sending)
    requests = wrote ∷ polls c (result_of c boarding not_yet t) (c.polls - 1) (get_or not_yet i 0) (not b) (leaves c.repeats l)

    pub record Ways (Q : Course → Type 0) : Type 0 where
      pub unanswered : meets c.repeats l ≡ false → Q (ends_with (wrote ∷ []) (ending.NoAnswer (suc i)) (pick (one_arrives wrote) (unless guard t) []))
      pub unpolled : meets c.repeats l ≡ true → polled_as ≡ silent → Q (ends_with requests (ending.NoAnswer (suc i)) (unless guard t))
      pub unready : meets c.repeats l ≡ true → polled_as ≡ late → Q (ends_with requests (ending.NotReady (suc i)) (unless guard t))
      pub refused : meets c.repeats l ≡ true → (b' : Bool) (l' : List Passage) → polled_as ≡ ready b' l' → guard ≡ true → Q (ends_with requests (ending.Refused (suc i) 0xB6 0) [])
      pub well : meets c.repeats l ≡ true → (b' : Bool) (l' : List Passage) → polled_as ≡ ready b' l' → guard ≡ false → Q (after requests t (course c boarding not_yet (suc i) b' ts l'))

    pub by_ways : (Q : Course → Type 0) → Ways Q → Q (course c boarding not_yet i b (t ∷ ts) l)
    unfolding course
    by_ways Q w = met (meets c.repeats l) refl
      where
        settled : (m : Bool) → guard ≡ m → (b' : Bool) (l' : List Passage) → meets c.repeats l ≡ true → polled_as ≡ ready b' l'
            → Q (pick m (ends_with requests (ending.Refused (suc i) 0xB6 0) []) (after requests t (course c boarding not_yet (suc i) b' ts l')))
        settled true g b' l' e p = w.refused e b' l' p g
        settled false g b' l' e p = w.well e b' l' p g

        how : (p : Polled) → polled_as ≡ p → meets c.repeats l ≡ true → Q (after_polls (suc i) t guard requests p (λ b' l'. course c boarding not_yet (suc i) b' ts l'))
        how (ready b' l') p e = settled guard refl b' l' e p
        how late p e = w.unready e p
        how silent p e = w.unpolled e p

        met : (m : Bool) → meets c.repeats l ≡ m
            → Q (pick m (after_polls (suc i) t guard requests polled_as (λ b' l'. course c boarding not_yet (suc i) b' ts l'))
            (ends_with (wrote ∷ []) (ending.NoAnswer (suc i)) (pick (one_arrives wrote) (unless guard t) [])))
        met true e = how polled_as refl e
        met false e = w.unanswered e

-- ---- what an ending and the requests of template k say of each other

module _ (c : Settings) where
  pub record Says (k : ℕ) (e : Ending) (rs : List (List Sending)) : Type 0 where
    pub no_answer : is_no_answer k e ≡ any_of (failed c.printer) rs
    pub not_ready : is_not_ready k e ≡ eqb (count_of (got_confirmation c) (polls_in rs)) c.polls
    pub refused : (code1 code2 : ℕ) → is_refused k code1 code2 e ≡ any_of (got_negative c code1 code2) (polls_in rs)

  pub record Unstopped (k : ℕ) (e : Ending) : Type 0 where
    pub answers : is_no_answer k e ≡ false
    pub ready : is_not_ready k e ≡ false
    pub taken : (code1 code2 : ℕ) → is_refused k code1 code2 e ≡ false

  pub elsewhere : (k : ℕ) (e : Ending) → stops_at k e ≡ false → Unstopped k e
  elsewhere k ending.Done h = record { answers = refl; ready = refl; taken = λ c d. refl }
  elsewhere k ending.NoOpening h = record { answers = refl; ready = refl; taken = λ c d. refl }
  elsewhere k (ending.NoAnswer n) h = record { answers = h; ready = refl; taken = λ c d. refl }
  elsewhere k (ending.NotReady n) h = record { answers = refl; ready = h; taken = λ c d. refl }
  elsewhere k (ending.Refused n code1 code2) h = record { answers = refl; ready = refl; taken = λ c d. rw h }
  elsewhere k (ending.Strange n) h = record { answers = refl; ready = refl; taken = λ c d. refl }

  -- a template at which it did not stop, and nothing went wrong
  quiet : (k : ℕ) (e : Ending) (rs : List (List Sending)) → stops_at k e ≡ false → any_of (failed c.printer) rs ≡ false
      → eqb (count_of (got_confirmation c) (polls_in rs)) c.polls ≡ false → ((code1 code2 : ℕ) → any_of (got_negative c code1 code2) (polls_in rs) ≡ false) → Says k e rs
  quiet k e rs h f n g =
      let u = elsewhere k e h in
      record { no_answer = u.answers ∙ sym f; not_ready = u.ready ∙ sym n; refused = λ x y. u.taken x y ∙ sym (g x y) }

  -- one that was not reached
  pub says_none : 1 ≤ c.polls → (k : ℕ) (e : Ending) → stops_at k e ≡ false → Says k e []
  says_none some k e h = quiet k e [] h refl (ne_eqb 0 c.polls (λ z. omega arith)) (λ x y. refl)

confirmation_taken : accepted (telegram.read_of confirmation_bytes) ≡ true
unfolding read_by
confirmation_taken = refl

module _ (c : Settings) (boarding : Bool) (not_yet : List ℕ) (to : c.printer ≤ 126) (from : c.controller ≤ 126) (some : 1 ≤ c.polls) where
  abbrev course_from : (i : ℕ) (b : Bool) → List Entry → List Passage → Course
  course_from = course c boarding not_yet

  -- It stops at no template before its own.
  pub ends_later : (i : ℕ) (b : Bool) (ts : List Entry) (l : List Passage) (k : ℕ) → k ≤ i → stops_at k (course_from i b ts l).ending ≡ false
  unfolding course
  ends_later i b [] l k h = refl
  ends_later i b (t ∷ ts) l k h =
      by_ways c boarding not_yet i b t ts l (λ x. stops_at k x.ending ≡ false)
      (record {
        unanswered = λ e. ne_eqb (suc i) k (λ z. omega arith);
        unpolled = λ e p. ne_eqb (suc i) k (λ z. omega arith);
        unready = λ e p. ne_eqb (suc i) k (λ z. omega arith);
        refused = λ e b' l' p g. ne_eqb (suc i) k (λ z. omega arith);
        well = λ e b' l' p g. ends_later (suc i) b' ts l' k (omega arith);
      })

  -- ---- one template, whose slot and body are in range

  module _ (t : Entry) (slot : t.slot ≤ 15) (body : 1 ≤ length t.body) (short : length t.body ≤ 200) where
    abbrev o : Outcome
    o = outcome_of (guarded boarding t.slot) t

    abbrev result : List ℕ
    result = result_of c boarding not_yet t

    fine_o : answers.verdict_of (answer_of o) 0 ≡ fine
    fine_o = outcome_taken t short (guarded boarding t.slot)

    result_got : got_in c result ≡ got_outcome o
    result_got = got_outcome_lem c to from o fine_o

    result_taken : accepted (telegram.read_of result) ≡ true
    result_taken =
        ap accepted (telegram_read (content.Dpv1Answer (answer_of o)) c.controller c.printer reply_code [] mode.Dpv1 tt tt (outcome_fine c.controller c.printer from to o fine_o))

    result_final : is_confirmation (got_in c result) ≡ false
    result_final = ap is_confirmation result_got ∙ by (guarded boarding t.slot)
      where
        by : (g : Bool) → is_confirmation (got_outcome (outcome_of g t)) ≡ false
        by true = refl
        by false = refl

    result_negative : (code1 code2 : ℕ) (g : Bool) → guarded boarding t.slot ≡ g → is_negative code1 code2 (got_in c result) ≡ (g and eqb code1 0xB6 and eqb code2 0)
    result_negative code1 code2 g e =
        ap (is_negative code1 code2) result_got ∙ ap (λ (x : Bool). is_negative code1 code2 (got_outcome (outcome_of x t))) e ∙ by g
      where
        by : (x : Bool) → is_negative code1 code2 (got_outcome (outcome_of x t)) ≡ (x and eqb code1 0xB6 and eqb code2 0)
        by true = refl
        by false = refl

    -- its requests
    module _ (i : ℕ) (b : Bool) (ts : List Entry) (l : List Passage) (d : Damage FramingRefuses l) where
      abbrev left : ℕ
      left = c.polls - 1

      abbrev wait : ℕ
      wait = get_or not_yet i 0

      abbrev behind : List Passage
      behind = leaves c.repeats l

      abbrev w : List Sending
      w = wrote c boarding not_yet i b t ts l

      abbrev rs : List (List Sending)
      rs = requests c boarding not_yet i b t ts l

      abbrev how : Polled
      how = polled_as c boarding not_yet i b t ts l

      behind_damage : Damage FramingRefuses behind
      behind_damage = damage_left FramingRefuses c.repeats l d

      write_failed : failed c.printer w ≡ not (meets c.repeats l)
      write_failed =
          failed_unmet c c.printer (write_bytes c.printer c.controller b t.slot t.body) confirmation_bytes
          (write_names c.printer c.controller to from b t.slot t.body body short) confirmation_taken c.repeats l d

      -- none failed but where the polls ended so
      pub some_failed : meets c.repeats l ≡ true → (p : Polled) → how ≡ p → any_of (failed c.printer) rs ≡ is_silent p
      some_failed e p h =
          rw (write_failed, e) (polls_failed c to from result result_taken result_final left wait (not b) behind behind_damage ∙ ap is_silent h)

      confirmed : (p : Polled) → how ≡ p → Confirmed p left wait (count_of (got_confirmation c) (polls_in rs))
      confirmed p h =
          subst (λ (x : Polled). Confirmed x left wait (count_of (got_confirmation c) (polls_in rs))) h
          (polls_confirmed c to from result result_taken result_final left wait (not b) behind behind_damage)

      some_negative : (p : Polled) → how ≡ p → (g : Bool) → guarded boarding t.slot ≡ g → (code1 code2 : ℕ)
          → any_of (got_negative c code1 code2) (polls_in rs) ≡ (is_ready p and g and eqb code1 0xB6 and eqb code2 0)
      some_negative p h g e code1 code2 =
          polls_negative c to from result result_taken result_final code1 code2 left wait (not b) behind behind_damage
          ∙ rw (h, result_negative code1 code2 g e)

      -- ---- each of the five ways

      says_unanswered : meets c.repeats l ≡ false → Says c (suc i) (ending.NoAnswer (suc i)) (w ∷ [])
      says_unanswered e =
          record {
            no_answer = eq-eqb (suc i) (suc i) refl ∙ rw (write_failed, e);
            not_ready = sym (ne_eqb 0 c.polls (λ z. omega arith));
            refused = λ x y. refl;
          }

      says_unpolled : meets c.repeats l ≡ true → how ≡ silent → Says c (suc i) (ending.NoAnswer (suc i)) rs
      says_unpolled e h =
          record {
            no_answer = eq-eqb (suc i) (suc i) refl ∙ sym (some_failed e silent h);
            not_ready = sym (ne_eqb (count_of (got_confirmation c) (polls_in rs)) c.polls (λ z. omega (arith, confirmed silent h)));
            refused = λ x y. sym (some_negative silent h (guarded boarding t.slot) refl x y);
          }

      says_unready : meets c.repeats l ≡ true → how ≡ late → Says c (suc i) (ending.NotReady (suc i)) rs
      says_unready e h =
          record {
            no_answer = sym (some_failed e late h);
            not_ready = eq-eqb (suc i) (suc i) refl ∙ sym (eq-eqb (count_of (got_confirmation c) (polls_in rs)) c.polls (omega (arith, (confirmed late h).0)));
            refused = λ x y. sym (some_negative late h (guarded boarding t.slot) refl x y);
          }

      came_early : (b' : Bool) (l' : List Passage) → how ≡ ready b' l' → eqb (count_of (got_confirmation c) (polls_in rs)) c.polls ≡ false
      came_early b' l' h =
          let k = confirmed (ready b' l') h in
          ne_eqb (count_of (got_confirmation c) (polls_in rs)) c.polls (λ z. omega (arith, k.0, k.1))

      says_refused : meets c.repeats l ≡ true → (b' : Bool) (l' : List Passage) → how ≡ ready b' l' → guarded boarding t.slot ≡ true
          → Says c (suc i) (ending.Refused (suc i) 0xB6 0) rs
      says_refused e b' l' h g =
          record {
            no_answer = sym (some_failed e (ready b' l') h);
            not_ready = sym (came_early b' l' h);
            refused = λ x y. rw (eq-eqb (suc i) (suc i) refl) (sym (some_negative (ready b' l') h true g x y));
          }

      says_well : meets c.repeats l ≡ true → (b' : Bool) (l' : List Passage) → how ≡ ready b' l' → guarded boarding t.slot ≡ false
          → (e : Ending) → stops_at (suc i) e ≡ false → Says c (suc i) e rs
      says_well m b' l' h g e off =
          quiet c (suc i) e rs off (some_failed m (ready b' l') h) (came_early b' l' h) (λ x y. some_negative (ready b' l') h false g x y)

  -- ---- the whole course

  module _ (i : ℕ) (b : Bool) (t : Entry) (ts : List Entry) (l : List Passage) (d : Damage FramingRefuses l) where
    -- the line behind a template that went well
    pub onward_damage : (b' : Bool) (l' : List Passage) → polled_as c boarding not_yet i b t ts l ≡ ready b' l' → Damage FramingRefuses l'
    onward_damage b' l' p = ready_damage c (c.polls - 1) (get_or not_yet i 0) (not b) (leaves c.repeats l) (damage_left FramingRefuses c.repeats l d) b' l' p

  -- an end at template suc i, whose requests are rs
  at_end : (i j : ℕ) {e : Ending} {rs : List (List Sending)} → Says c (suc i) e rs → ((k : ℕ) → (suc i ≡ k → ⊥) → stops_at k e ≡ false)
      → Says c (suc (i + j)) e (get_or (rs ∷ []) j [])
  at_end i zero h off = rw add-zero h
  at_end i (suc j) {e} h off = says_none c some (suc (i + suc j)) e (off (suc (i + suc j)) (λ z. omega arith))

  -- Template suc (i + j), by the requests that it had.
  pub says : (i m : ℕ) (b : Bool) (ts : List Entry) (l : List Passage) → InOrder m ts → Damage FramingRefuses l → (j : ℕ)
      → Says c (suc (i + j)) (course_from i b ts l).ending (get_or (course_from i b ts l).requests j [])
  unfolding course
  says i m b [] l order d j = says_none c some (suc (i + j)) ending.Done refl
  says i m b (t ∷ ts) l order d j =
      by_ways c boarding not_yet i b t ts l (λ x. Says c (suc (i + j)) x.ending (get_or x.requests j []))
      (record {
        unanswered = λ e. at_end i j (says_unanswered t order.1 order.2 order.3 i b ts l d e) (λ k z. ne_eqb (suc i) k z);
        unpolled = λ e p. at_end i j (says_unpolled t order.1 order.2 order.3 i b ts l d e p) (λ k z. ne_eqb (suc i) k z);
        unready = λ e p. at_end i j (says_unready t order.1 order.2 order.3 i b ts l d e p) (λ k z. ne_eqb (suc i) k z);
        refused = λ e b' l' p g. at_end i j (says_refused t order.1 order.2 order.3 i b ts l d e b' l' p g) (λ k z. ne_eqb (suc i) k z);
        well = λ e b' l' p g. further j e b' l' p g (λ n. says (suc i) (suc t.slot) b' ts l' order.4 (onward_damage i b t ts l d b' l' p) n);
      })
    where
      further : (n : ℕ) → meets c.repeats l ≡ true → (b' : Bool) (l' : List Passage) → polled_as c boarding not_yet i b t ts l ≡ ready b' l' → guarded boarding t.slot ≡ false
          → ((n : ℕ) → Says c (suc (suc i + n)) (course_from (suc i) b' ts l').ending (get_or (course_from (suc i) b' ts l').requests n []))
          → Says c (suc (i + n)) (course_from (suc i) b' ts l').ending (get_or (requests c boarding not_yet i b t ts l ∷ (course_from (suc i) b' ts l').requests) n [])
      further zero e b' l' p g rest =
          rw add-zero (says_well t order.1 order.2 order.3 i b ts l d e b' l' p g (course_from (suc i) b' ts l').ending (ends_later (suc i) b' ts l' (suc i) (omega arith)))
      further (suc n) e b' l' p g rest = let z : suc (i + suc n) ≡ suc (suc i + n) = omega arith in rw z (rest n)

  abbrev guards : Entry → Bool
  guards t = guarded boarding t.slot

  -- what done takes
  abbrev all_well : (i : ℕ) → List Entry → (requests : List (List (List Sending))) → Bool
  all_well i ts rs = not (any_of (failed c.printer) (concat rs)) and all_ready c.polls not_yet i ts and not (any_of guards ts)

  failed_first : (rs ss : List (List Sending)) → any_of (failed c.printer) rs ≡ true → any_of (failed c.printer) (rs ++ ss) ≡ true
  failed_first rs ss h = any_append (failed c.printer) rs ss ∙ rw h

  unready_off : (x y : Bool) → (x and false and y) ≡ false
  unready_off true y = refl
  unready_off false y = refl

  guard_off : (x y g z : Bool) → g ≡ true → (x and y and not (g or z)) ≡ false
  guard_off true true g z e = rw e
  guard_off true false g z e = refl
  guard_off false y g z e = refl

  -- Done exactly where no request failed, every result was ready and none guarded.
  pub done_when : (i m : ℕ) (b : Bool) (ts : List Entry) (l : List Passage) → InOrder m ts → Damage FramingRefuses l
      → is_done (course_from i b ts l).ending ≡ all_well i ts (course_from i b ts l).requests
  unfolding course
  done_when i m b [] l order d = refl
  done_when i m b (t ∷ ts) l order d =
      by_ways c boarding not_yet i b t ts l (λ x. is_done x.ending ≡ all_well i (t ∷ ts) x.requests)
      (record {
        unanswered = λ e. rw (write_failed t order.1 order.2 order.3 i b ts l d, e);
        unpolled = λ e p. rw (failed_first (requests c boarding not_yet i b t ts l) [] (some_failed t order.1 order.2 order.3 i b ts l d e silent p));
        unready = λ e p. rw (le-ltb (get_or not_yet i 0) c.polls (late_waits e p)) (sym (unready_off (not (any_of (failed c.printer) (requests c boarding not_yet i b t ts l ++ []))) (not (any_of guards (t ∷ ts)))));
        refused = λ e b' l' p g. sym (guard_off (not (any_of (failed c.printer) (requests c boarding not_yet i b t ts l ++ []))) (all_ready c.polls not_yet i (t ∷ ts)) (guards t) (any_of guards ts) g);
        well = λ e b' l' p g.
            rw (
              any_append (failed c.printer) (requests c boarding not_yet i b t ts l) (concat (course_from (suc i) b' ts l').requests),
              some_failed t order.1 order.2 order.3 i b ts l d e (ready b' l') p,
              lt-ltb (get_or not_yet i 0) c.polls (came_waits b' l' p),
              g,
            )
            (done_when (suc i) (suc t.slot) b' ts l' order.4 (onward_damage i b t ts l d b' l' p));
      })
    where
      late_waits : meets c.repeats l ≡ true → polled_as c boarding not_yet i b t ts l ≡ late → c.polls ≤ get_or not_yet i 0
      late_waits e p = omega (arith, (confirmed t order.1 order.2 order.3 i b ts l d late p).1)

      came_waits : (b' : Bool) (l' : List Passage) → polled_as c boarding not_yet i b t ts l ≡ ready b' l' → get_or not_yet i 0 < c.polls
      came_waits b' l' p = omega (arith, (confirmed t order.1 order.2 order.3 i b ts l d (ready b' l') p).1)

  -- Each request is sent until answered.
  pub course_until : (i m : ℕ) (b : Bool) (ts : List Entry) (l : List Passage) → InOrder m ts → Damage FramingRefuses l
      → Each (UntilAnswered c.printer c.repeats) (concat (course_from i b ts l).requests)
  unfolding course
  course_until i m b [] l order d = tt
  course_until i m b (t ∷ ts) l order d =
      by_ways c boarding not_yet i b t ts l (λ x. Each (UntilAnswered c.printer c.repeats) (concat x.requests))
      (record {
        unanswered = λ e. (write, tt);
        unpolled = λ e p. whole [] tt;
        unready = λ e p. whole [] tt;
        refused = λ e b' l' p g. whole [] tt;
        well = λ e b' l' p g.
            whole (concat (course_from (suc i) b' ts l').requests) (course_until (suc i) (suc t.slot) b' ts l' order.4 (onward_damage i b t ts l d b' l' p));
      })
    where
      write : UntilAnswered c.printer c.repeats (wrote c boarding not_yet i b t ts l)
      write =
          until_answered c c.printer (write_bytes c.printer c.controller b t.slot t.body) confirmation_bytes
          (write_names c.printer c.controller to from b t.slot t.body order.2 order.3) confirmation_taken c.repeats l d

      polling : Each (UntilAnswered c.printer c.repeats) (polls c (result_of c boarding not_yet t) (c.polls - 1) (get_or not_yet i 0) (not b) (leaves c.repeats l))
      polling =
          polls_until c to from (result_of c boarding not_yet t) (result_taken t order.1 order.2 order.3) (result_final t order.1 order.2 order.3) (c.polls - 1)
          (get_or not_yet i 0) (not b) (leaves c.repeats l) (damage_left FramingRefuses c.repeats l d)

      whole : (rest : List (List Sending)) → Each (UntilAnswered c.printer c.repeats) rest → Each (UntilAnswered c.printer c.repeats) (requests c boarding not_yet i b t ts l ++ rest)
      whole rest h =
          let ps : List (List Sending) = polls c (result_of c boarding not_yet t) (c.polls - 1) (get_or not_yet i 0) (not b) (leaves c.repeats l) in
          (write, each_append (UntilAnswered c.printer c.repeats) ps rest polling h)
