-- The shape of a course: its requests are told apart by their FCB and put together again by template, and there are not too many.
use Prim.Native.Nat.{ℕ, zero, suc, ◌+◌, ◌-◌, ◌*◌, ◌≤◌}
use native.Mathlib.Omega.{arith}
use Rattle.std.specs.Prelude.{◌≡◌, refl, Bool, not, eqb, get_or}
use Rattle.std.proofs.Math.Path.{ap}
use Rattle.std.proofs.Common.{◌∙◌, eqb-true}
use Rattle.std.proofs.Math.Bool.{true, false}
use mathlib.Core.List.{List, [], ◌∷◌, ◌++◌, append-nil, append_assoc}
use Rattle.std.proofs.Math.ListN.{length, length-append}
use Rattle.octets.specs.Choice.{pick}
use Rattle.octets.proofs.Choice.{never, and_left, and_right, by_pick}
use Rattle.fdl.specs.Writing.{telegram_of, core_of, confirmation_bytes}
use Rattle.access.proofs.Laws.{header_code}
use Rattle.content.specs.Fields.{service_of}
use Rattle.content.specs.declared.fields.Content.{Content}
use Rattle.service.specs.Writing.{telegram_for}
use Rattle.book.specs.Contents.{Entry, InOrder}
use Rattle.protocol.specs.Line.{Passage, Sending}
use Rattle.protocol.specs.Telegrams.{carrying, counted_code, write_bytes, poll_bytes}
use Rattle.protocol.specs.Printer.{poll}
use Rattle.protocol.specs.Words.{bytes_agree, asked_in, is_write, is_write_ask}
use Rattle.protocol.specs.Course.{exchange, meets, leaves, Polled, ready, late, silent, polls, polled, result_of, course, concat}
use Rattle.protocol.proofs.Lemmas.Read.{write_asked, poll_asked}
use Rattle.protocol.proofs.Lemmas.Runs.{exchange_short}
use Rattle.protocol.proofs.Lemmas.Groups.{concat_append, AllOf, Apart, apart_all, apart_append, exchange_all, Blocks, Polls, Templates}
use Rattle.protocol.proofs.Lemmas.Meets.{first_asks}
use Rattle.protocol.proofs.Lemmas.Means.{by_ways, wrote, polled_as, requests}
use Rattle.protocol.specs.declared.controller.Settings.{Settings}

-- ---- bytes that differ

same_bytes : (s t : List ℕ) → bytes_agree s t ≡ true → s ≡ t
same_bytes [] [] e = refl
same_bytes [] (y ∷ t) e = absurd (never e)
same_bytes (x ∷ s) [] e = absurd (never e)
same_bytes (x ∷ s) (y ∷ t) e =
    let h : x ≡ y = eqb-true x y (and_left (eqb x y) (bytes_agree s t) e) in
    let r : s ≡ t = same_bytes s t (and_right (eqb x y) (bytes_agree s t) e) in rw (h, r)

pub differ : (s t : List ℕ) (i : ℕ) → (get_or s i 0 ≡ get_or t i 0 → ⊥) → bytes_agree s t ≡ false
differ s t i h = by (bytes_agree s t) refl
  where
    by : (b : Bool) → bytes_agree s t ≡ b → b ≡ false
    by true e = absurd (h (ap (λ (x : List ℕ). get_or x i 0) (same_bytes s t e)))
    by false e = refl

-- the function code stands at place 6
pub code_at : (c : Content) (to from fc : ℕ) (part : List ℕ) → get_or (carrying c to from fc part) 6 0 ≡ fc
unfolding telegram_for telegram_of core_of
code_at c to from fc part = header_code (service_of c) to from fc

-- ---- requests in turn, each with the other FCB

pub record Turn (b : Bool) (r : List Sending) : Type 0 where
  pub bytes : List ℕ
  pub code : get_or bytes 6 0 ≡ counted_code b
  pub same : AllOf bytes r
  pub some : 1 ≤ length r

abbrev pub Turns : (fcb : Bool) → List (List Sending) → Type 0
Turns b [] = Unit {0}
Turns b (r ∷ rs) = Turn b r × Turns (not b) rs

codes_differ : (b : Bool) (m n : ℕ) → m ≡ counted_code b → n ≡ counted_code (not b) → m ≡ n → ⊥
codes_differ true m n e f h = omega arith
codes_differ false m n e f h = omega arith

-- what follows a request with another code is apart from it
pub apart_turns : (q : List ℕ) (b : Bool) (rs : List (List Sending)) → (get_or q 6 0 ≡ counted_code b → ⊥) → Turns b rs → Apart q (concat rs ++ [])
apart_turns q b [] h t = tt
apart_turns q b (r ∷ rs) h t =
    let k = t.0 in
    let off : bytes_agree q k.bytes ≡ false = differ q k.bytes 6 (λ e. h (e ∙ k.code)) in
    rw append_assoc (apart_append q r (concat rs ++ []) k.some (apart_all q k.bytes r off k.same))

pub turns_blocks : (b : Bool) (rs : List (List Sending)) → Turns b rs → Blocks rs []
turns_blocks b [] t = tt
turns_blocks b (r ∷ rs) t =
    let k = t.0 in (
      k.bytes,
      record { some = k.some; same = k.same; apart = apart_turns k.bytes (not b) rs (λ e. codes_differ b (get_or k.bytes 6 0) (get_or k.bytes 6 0) k.code e refl) t.1 },
      turns_blocks (not b) rs t.1,
    )

module _ (c : Settings) where
  turn : (d : Content) (b : Bool) (part r : List ℕ) (l : List Passage) → Turn b (exchange c.repeats (carrying d c.printer c.controller (counted_code b) part) r l)
  turn d b part r l =
      let q : List ℕ = carrying d c.printer c.controller (counted_code b) part in
      record {
        bytes = q;
        code = code_at d c.printer c.controller (counted_code b) part;
        same = exchange_all c.repeats q r l;
        some = (exchange_short c.repeats q r l).0;
      }

  -- what may follow the polls, by how they ended
  abbrev Follow : Polled → List (List Sending) → Type 0
  Follow (ready b l) rs = Turns b rs
  Follow late rs = rs ≡ []
  Follow silent rs = rs ≡ []

  alone : (b : Bool) (r : List Sending) (rs : List (List Sending)) → Turn b r → rs ≡ [] → Turns b (r ∷ rs)
  alone b r rs t e = rw e (t, tt)

  polls_turns : (result : List ℕ) (left wait : ℕ) (b : Bool) (l : List Passage) (rs : List (List Sending)) → Follow (polled c left wait b l) rs → Turns b (polls c result left wait b l ++ rs)
  unfolding polls polled
  polls_turns result left zero b l rs f = by (meets c.repeats l) f
    where
      by : (m : Bool) → Follow (pick m (ready (not b) (leaves c.repeats l)) silent) rs
          → Turns b (exchange c.repeats (poll_bytes c.printer c.controller b) result l ∷ rs)
      by true f = (turn _ b [] result l, f)
      by false f = alone b _ rs (turn _ b [] result l) f
  polls_turns result zero (suc wait) b l rs f = by (meets c.repeats l) f
    where
      by : (m : Bool) → Follow (pick m late silent) rs → Turns b (exchange c.repeats (poll_bytes c.printer c.controller b) confirmation_bytes l ∷ rs)
      by true f = alone b _ rs (turn _ b [] confirmation_bytes l) f
      by false f = alone b _ rs (turn _ b [] confirmation_bytes l) f
  polls_turns result (suc left) (suc wait) b l rs f = by (meets c.repeats l) f (λ g. polls_turns result left wait (not b) (leaves c.repeats l) rs g)
    where
      by : (m : Bool) → Follow (pick m (polled c left wait (not b) (leaves c.repeats l)) silent) rs
          → (Follow (polled c left wait (not b) (leaves c.repeats l)) rs → Turns (not b) (polls c result left wait (not b) (leaves c.repeats l) ++ rs))
          → Turns b (exchange c.repeats (poll_bytes c.printer c.controller b) confirmation_bytes l ∷ (pick m (polls c result left wait (not b) (leaves c.repeats l)) [] ++ rs))
      by true f k = (turn _ b [] confirmation_bytes l, k f)
      by false f k = alone b _ rs (turn _ b [] confirmation_bytes l) f

module _ (c : Settings) (boarding : Bool) (not_yet : List ℕ) where
  pub course_turns : (i : ℕ) (b : Bool) (ts : List Entry) (l : List Passage) → Turns b (concat (course c boarding not_yet i b ts l).requests)
  unfolding course
  course_turns i b [] l = tt
  course_turns i b (t ∷ ts) l =
      by_ways c boarding not_yet i b t ts l (λ x. Turns b (concat x.requests))
      (record {
        unanswered = λ e. (write, tt);
        unpolled = λ e p. (write, polling [] (rw p refl));
        unready = λ e p. (write, polling [] (rw p refl));
        refused = λ e b' l' p g. (write, polling [] (rw p tt));
        well = λ e b' l' p g. (write, polling (concat (course c boarding not_yet (suc i) b' ts l').requests) (rw p (course_turns (suc i) b' ts l')));
      })
    where
      write : Turn b (wrote c boarding not_yet i b t ts l)
      write = turn c _ b t.body confirmation_bytes l

      polling : (rs : List (List Sending)) → Follow c (polled_as c boarding not_yet i b t ts l) rs
          → Turns (not b) (polls c (result_of c boarding not_yet t) (c.polls - 1) (get_or not_yet i 0) (not b) (leaves c.repeats l) ++ rs)
      polling rs f = polls_turns c (result_of c boarding not_yet t) (c.polls - 1) (get_or not_yet i 0) (not b) (leaves c.repeats l) rs f

-- ---- each template's write, and then polls

module _ (c : Settings) (to : c.printer ≤ 126) (from : c.controller ≤ 126) where
  is_poll_lem : (b : Bool) (r : List ℕ) (l : List Passage) → asked_in (exchange c.repeats (poll_bytes c.printer c.controller b) r l) ≡ poll
  is_poll_lem b r l = first_asks c.repeats (poll_bytes c.printer c.controller b) r l ∙ poll_asked c.printer c.controller to from b

  polls_only : (result : List ℕ) (left wait : ℕ) (b : Bool) (l : List Passage) → Polls (polls c result left wait b l)
  unfolding polls
  polls_only result left zero b l = (is_poll_lem b result l, tt)
  polls_only result zero (suc wait) b l = (is_poll_lem b confirmation_bytes l, tt)
  polls_only result (suc left) (suc wait) b l =
      (is_poll_lem b confirmation_bytes l, by_pick Polls (meets c.repeats l) (λ _. polls_only result left wait (not b) (leaves c.repeats l)) (λ _. tt))

  module _ (boarding : Bool) (not_yet : List ℕ) where
    pub course_templates : (i m : ℕ) (b : Bool) (ts : List Entry) (l : List Passage) → InOrder m ts → Templates (course c boarding not_yet i b ts l).requests
    unfolding course
    course_templates i m b [] l order = tt
    course_templates i m b (t ∷ ts) l order =
        by_ways c boarding not_yet i b t ts l (λ x. Templates x.requests)
        (record {
          unanswered = λ e. ((write, tt), tt);
          unpolled = λ e p. ((write, polling), tt);
          unready = λ e p. ((write, polling), tt);
          refused = λ e b' l' p g. ((write, polling), tt);
          well = λ e b' l' p g. ((write, polling), course_templates (suc i) (suc t.slot) b' ts l' order.4);
        })
      where
        write : is_write (wrote c boarding not_yet i b t ts l) ≡ true
        write =
            ap is_write_ask (first_asks c.repeats (write_bytes c.printer c.controller b t.slot t.body) confirmation_bytes l
            ∙ write_asked c.printer c.controller to from b t.slot t.body order.2 order.3)

        polling : Polls (polls c (result_of c boarding not_yet t) (c.polls - 1) (get_or not_yet i 0) (not b) (leaves c.repeats l))
        polling = polls_only (result_of c boarding not_yet t) (c.polls - 1) (get_or not_yet i 0) (not b) (leaves c.repeats l)

-- ---- how many sendings

module _ (c : Settings) where
  once : (q r : List ℕ) (l : List Passage) → length (exchange c.repeats q r l) ≤ c.repeats + 1
  once q r l = (exchange_short c.repeats q r l).1

  polls_short : (result : List ℕ) (left wait : ℕ) (b : Bool) (l : List Passage) → length (concat (polls c result left wait b l)) ≤ (left + 1) * (c.repeats + 1)
  unfolding polls
  polls_short result left zero b l = rw append-nil (omega (arith, once (poll_bytes c.printer c.controller b) result l))
  polls_short result zero (suc wait) b l = rw append-nil (omega (arith, once (poll_bytes c.printer c.controller b) confirmation_bytes l))
  polls_short result (suc left) (suc wait) b l =
      let first : List Sending = exchange c.repeats (poll_bytes c.printer c.controller b) confirmation_bytes l in
      let one = once (poll_bytes c.printer c.controller b) confirmation_bytes l in
      by_pick (λ (x : List (List Sending)). length (first ++ concat x) ≤ (suc left + 1) * (c.repeats + 1)) (meets c.repeats l)
      (λ _. omega (arith, length-append first (concat (polls c result left wait (not b) (leaves c.repeats l))), polls_short result left wait (not b) (leaves c.repeats l), one))
      (λ _. rw append-nil (omega (arith, one)))

  module _ (boarding : Bool) (not_yet : List ℕ) (some : 1 ≤ c.polls) where
    abbrev most : ℕ → ℕ
    most n = n * (1 + c.polls) * (c.repeats + 1)

    -- Each template has its write and P polls at most, each R + 1 times at most.
    pub course_short : (i : ℕ) (b : Bool) (ts : List Entry) (l : List Passage) → length (concat (concat (course c boarding not_yet i b ts l).requests)) ≤ most (length ts)
    unfolding course
    course_short i b [] l = omega arith
    course_short i b (t ∷ ts) l =
        by_ways c boarding not_yet i b t ts l (λ x. length (concat (concat x.requests)) ≤ most (suc (length ts)))
        (record {
          unanswered = λ e. rw append-nil (omega (arith, write));
          unpolled = λ e p. ending;
          unready = λ e p. ending;
          refused = λ e b' l' p g. ending;
          well = λ e b' l' p g. onward (concat (course c boarding not_yet (suc i) b' ts l').requests) (course_short (suc i) b' ts l');
        })
      where
        write : length (wrote c boarding not_yet i b t ts l) ≤ c.repeats + 1
        write = once (write_bytes c.printer c.controller b t.slot t.body) confirmation_bytes l

        whole : c.polls - 1 + 1 ≡ c.polls
        whole = omega arith

        polling : length (concat (polls c (result_of c boarding not_yet t) (c.polls - 1) (get_or not_yet i 0) (not b) (leaves c.repeats l))) ≤ c.polls * (c.repeats + 1)
        polling = rw whole at (polls_short (result_of c boarding not_yet t) (c.polls - 1) (get_or not_yet i 0) (not b) (leaves c.repeats l))

        onward : (rest : List (List Sending)) → length (concat rest) ≤ most (length ts)
            → length (concat (requests c boarding not_yet i b t ts l ++ rest)) ≤ most (suc (length ts))
        onward rest h =
            let ps : List (List Sending) = polls c (result_of c boarding not_yet t) (c.polls - 1) (get_or not_yet i 0) (not b) (leaves c.repeats l) in
            let e : concat (ps ++ rest) ≡ concat ps ++ concat rest = concat_append ps rest in
            rw (length-append, e, length-append) (omega (arith, write, polling, h))

        ending : length (concat (requests c boarding not_yet i b t ts l ++ [])) ≤ most (suc (length ts))
        ending = onward [] (omega arith)
