-- What the words say of one request of the course, and of the polls of a template.
use Prim.Native.Nat.{ℕ, zero, suc, ◌+◌, ◌≤◌, ◌<◌}
use native.Mathlib.Omega.{arith}
use Rattle.std.specs.Prelude.{◌≡◌, Bool, not, List, [], ◌∷◌}
use Rattle.std.proofs.Math.Path.{refl}
use Rattle.std.proofs.Common.{sym, ap, ◌∙◌}
use Rattle.std.proofs.Math.Bool.{true, false}
use Rattle.std.proofs.Math.ListN.{length}
use Rattle.octets.proofs.Choice.{never, by_pick}
use Rattle.octets.specs.Choice.{pick, ◌and◌, ◌or◌}
use Rattle.fdl.specs.Contents.{accepted}
use Rattle.fdl.specs.Reading as telegram
use Rattle.fdl.specs.Reading.{read_by}
use Rattle.fdl.specs.Writing.{confirmation_bytes}
use Rattle.protocol.specs.Line.{Passage, through, request_lost, reply_lost, request_damaged, reply_damaged, Sending, passage_of, rest_of, DamagedBy, Damage}
use Rattle.protocol.specs.Telegrams.{poll_bytes}
use Rattle.protocol.specs.Controller.{nothing, confirmation, got_in}
use Rattle.protocol.specs.Words.{any_of, count_of, names_station, heard, answered, failed, reply_of, but_last, UntilAnswered, is_confirmation, is_negative, got_confirmation, got_negative, asked, asked_in, FramingRefuses}
use Rattle.protocol.specs.Course.{is_through, reply_by, sending_of, exchange, meets, leaves, Polled, ready, late, silent, polls, polled}
use Rattle.protocol.proofs.Lemmas.Read.{poll_names}
use Rattle.protocol.proofs.Lemmas.Replies.{got_nothing, got_confirmation_lem}
use Rattle.protocol.proofs.Lemmas.Runs.{damage_first, damage_rest, damage_left, exchange_short}
use Rattle.protocol.proofs.Lemmas.Groups.{Each}
use Rattle.protocol.proofs.Lemmas.Ours.{got_bad}
use Rattle.protocol.specs.declared.controller.Settings.{Settings}

-- ---- one request: its bytes name the station a, and its reply r is one that framing accepts

reply_behind : (s : Sending) (l : List Sending) → 1 ≤ length l → reply_of (s ∷ l) ≡ reply_of l
reply_behind s [] h = absurd (omega arith)
reply_behind s (t ∷ l) h = refl

pub first_asks : (n : ℕ) (q r : List ℕ) (l : List Passage) → asked_in (exchange n q r l) ≡ asked q
unfolding exchange
first_asks zero q r l = refl
first_asks (suc n) q r l = by_pick (λ (x : List Sending). asked_in x ≡ asked q) (is_through (passage_of l)) (λ _. refl) (λ _. refl)

module _ (c : Settings) (a : ℕ) (q r : List ℕ) (names : names_station a (telegram.read_of q) ≡ true) (taken : accepted (telegram.read_of r) ≡ true) where
  answered_through : (p : Passage) → DamagedBy FramingRefuses p → answered a (sending_of q r p) ≡ is_through p
  unfolding answered heard read_by
  answered_through through d = rw (names, taken)
  answered_through request_lost d = refl
  answered_through reply_lost d = rw names
  answered_through (request_damaged bytes) d = refl
  answered_through (reply_damaged bytes) d = rw (names, d)

  got_through : (p : Passage) → DamagedBy FramingRefuses p → got_in c (reply_by p r) ≡ pick (is_through p) (got_in c r) nothing
  got_through through d = refl
  got_through request_lost d = got_nothing c
  got_through reply_lost d = got_nothing c
  got_through (request_damaged bytes) d = got_nothing c
  got_through (reply_damaged bytes) d = got_bad c bytes d

  or_none : (b : Bool) → (b or false) ≡ b
  or_none true = refl
  or_none false = refl

  some_answered : (n : ℕ) (l : List Passage) → Damage FramingRefuses l → any_of (answered a) (exchange n q r l) ≡ meets n l
  unfolding exchange meets
  some_answered zero l d = rw (answered_through (passage_of l) (damage_first FramingRefuses l d), or_none)
  some_answered (suc n) l d = by (is_through (passage_of l)) refl (some_answered n (rest_of l) (damage_rest FramingRefuses l d))
    where
      by : (t : Bool) → is_through (passage_of l) ≡ t → any_of (answered a) (exchange n q r (rest_of l)) ≡ meets n (rest_of l)
          → any_of (answered a) (exchange (suc n) q r l) ≡ meets (suc n) l
      by true t k = rw (t, answered_through (passage_of l) (damage_first FramingRefuses l d), t)
      by false t k = rw (t, answered_through (passage_of l) (damage_first FramingRefuses l d), t, k)

  -- it failed where it was not answered
  pub failed_unmet : (n : ℕ) (l : List Passage) → Damage FramingRefuses l → failed a (exchange n q r l) ≡ not (meets n l)
  failed_unmet n l d = ap not (some_answered n l d)

  -- and got the reply where it was
  pub got_met : (n : ℕ) (l : List Passage) → Damage FramingRefuses l → got_in c (reply_of (exchange n q r l)) ≡ pick (meets n l) (got_in c r) nothing
  unfolding exchange meets
  got_met zero l d = got_through (passage_of l) (damage_first FramingRefuses l d)
  got_met (suc n) l d = by (is_through (passage_of l)) refl (got_met n (rest_of l) (damage_rest FramingRefuses l d))
    where
      by : (t : Bool) → is_through (passage_of l) ≡ t → got_in c (reply_of (exchange n q r (rest_of l))) ≡ pick (meets n (rest_of l)) (got_in c r) nothing
          → got_in c (reply_of (exchange (suc n) q r l)) ≡ pick (meets (suc n) l) (got_in c r) nothing
      by true t k = rw t (got_through (passage_of l) (damage_first FramingRefuses l d) ∙ rw t)
      by false t k = rw (t, reply_behind (sending_of q r (passage_of l)) (exchange n q r (rest_of l)) (exchange_short n q r (rest_of l)).0) k

  -- only the last sending may be answered
  behind : (s : Sending) (l : List Sending) → 1 ≤ length l → any_of (answered a) (but_last (s ∷ l)) ≡ (answered a s or any_of (answered a) (but_last l))
  behind s [] h = absurd (omega arith)
  behind s (t ∷ l) h = refl

  only_last : (n : ℕ) (l : List Passage) → Damage FramingRefuses l → any_of (answered a) (but_last (exchange n q r l)) ≡ false
  unfolding exchange
  only_last zero l d = refl
  only_last (suc n) l d = by (is_through (passage_of l)) refl (only_last n (rest_of l) (damage_rest FramingRefuses l d))
    where
      by : (t : Bool) → is_through (passage_of l) ≡ t → any_of (answered a) (but_last (exchange n q r (rest_of l))) ≡ false → any_of (answered a) (but_last (exchange (suc n) q r l)) ≡ false
      by true t k = rw t
      by false t k =
          rw t (behind (sending_of q r (passage_of l)) (exchange n q r (rest_of l)) (exchange_short n q r (rest_of l)).0
          ∙ rw (answered_through (passage_of l) (damage_first FramingRefuses l d), t, k))

  all_tried : (n : ℕ) (l : List Passage) → meets n l ≡ false → length (exchange n q r l) ≡ n + 1
  unfolding exchange meets
  all_tried zero l e = refl
  all_tried (suc n) l e = by (is_through (passage_of l)) refl (all_tried n (rest_of l))
    where
      by : (t : Bool) → is_through (passage_of l) ≡ t → (meets n (rest_of l) ≡ false → length (exchange n q r (rest_of l)) ≡ n + 1) → length (exchange (suc n) q r l) ≡ suc n + 1
      by true t k = absurd (never (sym (rw t at e)))
      by false t k = let z = k (rw t at e) in rw t (omega arith)

  pub until_answered : (n : ℕ) (l : List Passage) → Damage FramingRefuses l → UntilAnswered a n (exchange n q r l)
  until_answered n l d =
      record {
        at_most_lem = (exchange_short n q r l).1;
        only_last = only_last n l d;
        all_tried = λ f. all_tried n l (by (meets n l) (sym (failed_unmet n l d) ∙ f));
      }
    where
      by : (b : Bool) → not b ≡ true → b ≡ false
      by true h = absurd (never h)
      by false h = refl

-- ---- the polls of a template, whose result comes with the reply `result`

abbrev pub is_silent : Polled → Bool
is_silent (ready b l) = false
is_silent late = false
is_silent silent = true

abbrev pub is_ready : Polled → Bool
is_ready (ready b l) = true
is_ready late = false
is_ready silent = false

-- how many of them got SC, by how they ended
abbrev pub Confirmed : Polled → (left wait n : ℕ) → Type 0
Confirmed (ready b l) left wait n = (n ≡ wait) × (wait ≤ left)
Confirmed late left wait n = (n ≡ suc left) × (left < wait)
Confirmed silent left wait n = n ≤ left

module _ (c : Settings) (to : c.printer ≤ 126) (from : c.controller ≤ 126) (result : List ℕ) (taken : accepted (telegram.read_of result) ≡ true)
    (final : is_confirmation (got_in c result) ≡ false) where
  abbrev once : (r : List ℕ) (b : Bool) → List Passage → List Sending
  once r b l = exchange c.repeats (poll_bytes c.printer c.controller b) r l

  confirms : accepted (telegram.read_of confirmation_bytes) ≡ true
  unfolding read_by
  confirms = refl

  poll_failed : (r : List ℕ) → accepted (telegram.read_of r) ≡ true → (b : Bool) (l : List Passage) → Damage FramingRefuses l → failed c.printer (once r b l) ≡ not (meets c.repeats l)
  poll_failed r e b l d = failed_unmet c c.printer (poll_bytes c.printer c.controller b) r (poll_names c.printer c.controller to from b) e c.repeats l d

  poll_got : (r : List ℕ) → accepted (telegram.read_of r) ≡ true → (b : Bool) (l : List Passage) → Damage FramingRefuses l → got_in c (reply_of (once r b l)) ≡ pick (meets c.repeats l) (got_in c r) nothing
  poll_got r e b l d = got_met c c.printer (poll_bytes c.printer c.controller b) r (poll_names c.printer c.controller to from b) e c.repeats l d

  poll_until : (r : List ℕ) → accepted (telegram.read_of r) ≡ true → (b : Bool) (l : List Passage) → Damage FramingRefuses l → UntilAnswered c.printer c.repeats (once r b l)
  poll_until r e b l d = until_answered c c.printer (poll_bytes c.printer c.controller b) r (poll_names c.printer c.controller to from b) e c.repeats l d

  -- One of them failed exactly where they ended so.
  pub polls_failed : (left wait : ℕ) (b : Bool) (l : List Passage) → Damage FramingRefuses l → any_of (failed c.printer) (polls c result left wait b l) ≡ is_silent (polled c left wait b l)
  unfolding polls polled
  polls_failed left zero b l d = rw (poll_failed result taken b l d) (by (meets c.repeats l))
    where
      by : (m : Bool) → (not m or false) ≡ is_silent (pick m (ready (not b) (leaves c.repeats l)) silent)
      by true = refl
      by false = refl
  polls_failed zero (suc wait) b l d = rw (poll_failed confirmation_bytes confirms b l d) (by (meets c.repeats l))
    where
      by : (m : Bool) → (not m or false) ≡ is_silent (pick m late silent)
      by true = refl
      by false = refl
  polls_failed (suc left) (suc wait) b l d =
      rw (poll_failed confirmation_bytes confirms b l d)
      (by (meets c.repeats l) (polls_failed left wait (not b) (leaves c.repeats l) (damage_left FramingRefuses c.repeats l d)))
    where
      by : (m : Bool) → any_of (failed c.printer) (polls c result left wait (not b) (leaves c.repeats l)) ≡ is_silent (polled c left wait (not b) (leaves c.repeats l))
          → (not m or any_of (failed c.printer) (pick m (polls c result left wait (not b) (leaves c.repeats l)) []))
          ≡ is_silent (pick m (polled c left wait (not b) (leaves c.repeats l)) silent)
      by true k = k
      by false k = refl

  -- The printer's DF came to one exactly where the result came, and is one.
  module _ (code1 code2 : ℕ) where
    pub polls_negative : (left wait : ℕ) (b : Bool) (l : List Passage) → Damage FramingRefuses l
        → any_of (got_negative c code1 code2) (polls c result left wait b l) ≡ (is_ready (polled c left wait b l) and is_negative code1 code2 (got_in c result))
    unfolding polls polled
    polls_negative left zero b l d = rw (poll_got result taken b l d) (by (meets c.repeats l))
      where
        or_none' : (x : Bool) → (x or false) ≡ x
        or_none' true = refl
        or_none' false = refl

        by : (m : Bool) → (is_negative code1 code2 (pick m (got_in c result) nothing) or false)
            ≡ (is_ready (pick m (ready (not b) (leaves c.repeats l)) silent) and is_negative code1 code2 (got_in c result))
        by true = or_none' (is_negative code1 code2 (got_in c result))
        by false = refl
    polls_negative zero (suc wait) b l d = rw (poll_got confirmation_bytes confirms b l d, got_confirmation_lem c) (by (meets c.repeats l))
      where
        by : (m : Bool) → (is_negative code1 code2 (pick m confirmation nothing) or false) ≡ (is_ready (pick m late silent) and is_negative code1 code2 (got_in c result))
        by true = refl
        by false = refl
    polls_negative (suc left) (suc wait) b l d =
        rw (poll_got confirmation_bytes confirms b l d, got_confirmation_lem c)
        (by (meets c.repeats l) (polls_negative left wait (not b) (leaves c.repeats l) (damage_left FramingRefuses c.repeats l d)))
      where
        by : (m : Bool) → any_of (got_negative c code1 code2) (polls c result left wait (not b) (leaves c.repeats l))
            ≡ (is_ready (polled c left wait (not b) (leaves c.repeats l)) and is_negative code1 code2 (got_in c result))
            → (is_negative code1 code2 (pick m confirmation nothing) or any_of (got_negative c code1 code2) (pick m (polls c result left wait (not b) (leaves c.repeats l)) []))
            ≡ (is_ready (pick m (polled c left wait (not b) (leaves c.repeats l)) silent) and is_negative code1 code2 (got_in c result))
        by true k = k
        by false k = refl

  more_confirmed : (p : Polled) (left wait n : ℕ) → Confirmed p left wait n → Confirmed p (suc left) (suc wait) (suc n)
  more_confirmed (ready b l) left wait n h = (ap suc h.0, omega (arith, h.1))
  more_confirmed late left wait n h = (ap suc h.0, omega (arith, h.1))
  more_confirmed silent left wait n h = omega arith

  pub polls_confirmed : (left wait : ℕ) (b : Bool) (l : List Passage) → Damage FramingRefuses l
      → Confirmed (polled c left wait b l) left wait (count_of (got_confirmation c) (polls c result left wait b l))
  unfolding polls polled
  polls_confirmed left zero b l d = rw (poll_got result taken b l d) (by (meets c.repeats l))
    where
      by : (m : Bool) → Confirmed (pick m (ready (not b) (leaves c.repeats l)) silent) left 0 (pick (is_confirmation (pick m (got_in c result) nothing)) 1 0)
      by true = rw final (refl, omega arith)
      by false = omega arith
  polls_confirmed zero (suc wait) b l d = rw (poll_got confirmation_bytes confirms b l d, got_confirmation_lem c) (by (meets c.repeats l))
    where
      by : (m : Bool) → Confirmed (pick m late silent) 0 (suc wait) (pick (is_confirmation (pick m confirmation nothing)) 1 0)
      by true = (refl, omega arith)
      by false = omega arith
  polls_confirmed (suc left) (suc wait) b l d =
      rw (poll_got confirmation_bytes confirms b l d, got_confirmation_lem c)
      (by (meets c.repeats l) (polls_confirmed left wait (not b) (leaves c.repeats l) (damage_left FramingRefuses c.repeats l d)))
    where
      by : (m : Bool) → Confirmed (polled c left wait (not b) (leaves c.repeats l)) left wait (count_of (got_confirmation c) (polls c result left wait (not b) (leaves c.repeats l)))
          → Confirmed (pick m (polled c left wait (not b) (leaves c.repeats l)) silent) (suc left) (suc wait)
          (let n : ℕ = count_of (got_confirmation c) (pick m (polls c result left wait (not b) (leaves c.repeats l)) []) in pick (is_confirmation (pick m confirmation nothing)) (suc n) n)
      by true k = more_confirmed (polled c left wait (not b) (leaves c.repeats l)) left wait _ k
      by false k = omega arith

  -- Each of them is sent until answered.
  pub polls_until : (left wait : ℕ) (b : Bool) (l : List Passage) → Damage FramingRefuses l → Each (UntilAnswered c.printer c.repeats) (polls c result left wait b l)
  unfolding polls
  polls_until left zero b l d = (poll_until result taken b l d, tt)
  polls_until zero (suc wait) b l d = (poll_until confirmation_bytes confirms b l d, tt)
  polls_until (suc left) (suc wait) b l d = (
    poll_until confirmation_bytes confirms b l d,
    by_pick (Each (UntilAnswered c.printer c.repeats)) (meets c.repeats l)
        (λ _. polls_until left wait (not b) (leaves c.repeats l) (damage_left FramingRefuses c.repeats l d)) (λ _. tt),
  )
