-- The joined run of a controller and a printer, whatever each of them is: its parts, and one request on its way.
use Prim.Native.Nat.{ℕ, zero, suc, ◌+◌, ◌-◌, ◌≤◌}
use Rattle.std.proofs.Math.Nat.{add-zero, zero-add, suc-add}
use Rattle.std.proofs.Common.{add-suc, add-one, ◌∙◌}
use native.Mathlib.Omega.{arith}
use Rattle.std.specs.Prelude.{Bool, true, false, List, [], ◌∷◌, ◌++◌, ◌≡◌}
use Rattle.std.proofs.Math.Path.{refl, sym, ap}
use Rattle.std.proofs.Math.ListN.{length, take, drop}
use Rattle.std.proofs.Math.Seq.{drop-nil}
use Rattle.octets.specs.Choice.{pick, ◌or◌}
use Rattle.octets.proofs.Choice.{by_pick, never}
use Rattle.protocol.specs.Line.{Passage, through, request_lost, reply_lost, request_damaged, reply_damaged, Answered, Move, go, stop, Config, Sending, passage_of, rest_of, printer_after, reply_after, next_by, next, run, transcript, DamagedBy, Damage, as_lost}
use Rattle.protocol.specs.Course.{is_through, reply_by, sending_of, exchange, meets, leaves, one_arrives}
use Rattle.protocol.specs.Words.{arrives}

drop_rest : (k : ℕ) (l : List Passage) → drop k (rest_of l) ≡ drop (suc k) l
drop_rest k [] = drop-nil k
drop_rest k (h ∷ l) = refl

abbrev pub at : {P O E : Type 0} → List Passage → P → Move O E → (sent : ℕ) → Config P O E
at l p m n = record { line = l; printer = p; move = m; sent = n }

-- ---- the parts of a run

module _ {P O E : Type 0} (hear : P → List ℕ → Answered P) (step : O → List ℕ → Move O E) where
  pub run_add : (u v : ℕ) (x : Config P O E) → run hear step (u + v) x ≡ run hear step v (run hear step u x)
  unfolding run
  run_add zero v x = rw zero-add
  run_add (suc u) v x = rw suc-add (run_add u v (next hear step x))

  next_stop : (x : Config P O E) {e : E} → x.move ≡ stop e → next hear step x ≡ x
  next_stop x h =
      ap (λ m. next_by hear step x.line x.printer m x.sent) h ∙ ap (λ m. at x.line x.printer m x.sent) (sym h)

  -- who has ended sends nothing more
  pub run_stop : (m : ℕ) (x : Config P O E) {e : E} → x.move ≡ stop e → run hear step m x ≡ x
  unfolding run
  run_stop zero x h = refl
  run_stop (suc m) x h = ap (run hear step m) (next_stop x h) ∙ run_stop m x h

  pub transcript_stop : (m : ℕ) (x : Config P O E) {e : E} → x.move ≡ stop e → transcript hear step m x ≡ []
  unfolding transcript
  transcript_stop zero x h = refl
  transcript_stop (suc m) x h = rw h

  -- by cases: it has ended, or it sends
  by_move : (G : Config P O E → Type 0) → ((l : List Passage) (p : P) (e : E) (n : ℕ) → G (at l p (stop e) n))
      → ((l : List Passage) (p : P) (q : List ℕ) (o : O) (n : ℕ) → G (at l p (go q o) n)) → (x : Config P O E) → G x
  by_move G s g x =
      elim x.move as (λ a. G (at x.line x.printer a x.sent)) [
        | go q o ↦ g x.line x.printer q o x.sent
        | stop e ↦ s x.line x.printer e x.sent
      ]

  pub transcript_add : (u v : ℕ) (x : Config P O E)
      → transcript hear step (u + v) x ≡ transcript hear step u x ++ transcript hear step v (run hear step u x)
  unfolding run transcript
  transcript_add zero v x = rw zero-add
  transcript_add (suc u) v x =
      rw suc-add (by_move
      (λ y. transcript hear step (suc (u + v)) y ≡ transcript hear step (suc u) y ++ transcript hear step v (run hear step (suc u) y))
      (λ l p e n. sym (ap (transcript hear step v) (run_stop u (at l p (stop e) n) refl) ∙ transcript_stop v (at l p (stop e) n) refl))
      (λ l p q o n. rw (transcript_add u v (next_by hear step l p (go q o) n)))
      x)

  -- what is sent first is the same, however many are sent then
  pub transcript_take : (v u : ℕ) (x : Config P O E) → v ≤ u → take v (transcript hear step u x) ≡ transcript hear step v x
  unfolding transcript
  transcript_take zero u x le = refl
  transcript_take (suc v) zero x le = absurd (omega arith)
  transcript_take (suc v) (suc u) x le =
      by_move (λ y. take (suc v) (transcript hear step (suc u) y) ≡ transcript hear step (suc v) y) (λ l p e n. refl)
      (λ l p q o n. rw (transcript_take v u (next_by hear step l p (go q o) n) (omega arith))) x

  -- no more than asked for
  pub transcript_short : (m : ℕ) (x : Config P O E) → length (transcript hear step m x) ≤ m
  unfolding transcript
  transcript_short zero x = omega arith
  transcript_short (suc m) x =
      by_move (λ y. length (transcript hear step (suc m) y) ≤ suc m) (λ l p e n. omega arith)
      (λ l p q o n. omega (arith, transcript_short m (next_by hear step l p (go q o) n))) x

  -- the sendings so far
  pub sent_counts : (m : ℕ) (x : Config P O E) → (run hear step m x).sent ≡ x.sent + length (transcript hear step m x)
  unfolding run transcript
  sent_counts zero x = rw add-zero
  sent_counts (suc m) x =
      by_move (λ y. (run hear step (suc m) y).sent ≡ y.sent + length (transcript hear step (suc m) y))
      (λ l p e n. rw (run_stop m (at l p (stop e) n) refl, add-zero))
      (λ l p q o n. sent_counts m (next_by hear step l p (go q o) n) ∙ rw (suc-add, add-suc)) x

  -- each takes one entry of the line
  pub line_taken : (m : ℕ) (x : Config P O E) → (run hear step m x).line ≡ drop (length (transcript hear step m x)) x.line
  unfolding run transcript
  line_taken zero x = refl
  line_taken (suc m) x =
      by_move (λ y. (run hear step (suc m) y).line ≡ drop (length (transcript hear step (suc m) y)) y.line)
      (λ l p e n. ap (λ y. y.line) (run_stop m (at l p (stop e) n) refl))
      (λ l p q o n.
      let y : Config P O E = next_by hear step l p (go q o) n in
      line_taken m y ∙ drop_rest (length (transcript hear step m y)) l) x

  -- so that with no sending yet it is known from their number
  pub run_line : (m : ℕ) (x : Config P O E) → x.sent ≡ 0 → (run hear step m x).line ≡ drop (run hear step m x).sent x.line
  run_line m x h =
      let e : length (transcript hear step m x) ≡ (run hear step m x).sent = omega (arith, sent_counts m x) in
      line_taken m x ∙ ap (λ k. drop k x.line) e

  -- stopped once, stopped for ever
  pub settles : (u v : ℕ) (x : Config P O E) {e : E} → (run hear step u x).move ≡ stop e → u ≤ v → run hear step v x ≡ run hear step u x
  settles u v x h le =
      let k : v ≡ u + (v - u) = omega arith in
      ap (λ w. run hear step w x) k ∙ run_add u (v - u) x ∙ run_stop (v - u) (run hear step u x) h

-- what every hearing keeps of the printer's end, every run keeps
module _ {P O E A : Type 0} (hear : P → List ℕ → Answered P) (step : O → List ℕ → Move O E) (of : P → A) (kept : (p : P) (s : List ℕ) → of (hear p s).state ≡ of p) where
  sending_keeps : (c : Passage) (p : P) (q : List ℕ) → of (printer_after hear step c p q) ≡ of p
  sending_keeps through p q = kept p q
  sending_keeps request_lost p q = refl
  sending_keeps reply_lost p q = kept p q
  sending_keeps (request_damaged bytes) p q = kept p bytes
  sending_keeps (reply_damaged bytes) p q = kept p q

  next_keeps : (l : List Passage) (p : P) (m : Move O E) (n : ℕ) → of (next_by hear step l p m n).printer ≡ of p
  next_keeps l p (stop e) n = refl
  next_keeps l p (go q o) n = sending_keeps (passage_of l) p q

  pub run_keeps : (m : ℕ) (x : Config P O E) → of (run hear step m x).printer ≡ of x.printer
  unfolding run
  run_keeps zero x = refl
  run_keeps (suc m) x = run_keeps m (next hear step x) ∙ next_keeps x.line x.printer x.move x.sent

-- ---- the sendings of one request

-- one where it is answered or no repeat is left, and else one and then those of the repeats
data Exchanged (q r : List ℕ) : (repeats : ℕ) (l : List Passage) → List Sending → (left : List Passage) (met : Bool) → Type 0 where
  one : {k : ℕ} {l : List Passage} {b : Bool} → is_through (passage_of l) ≡ b → (b ≡ false → k ≡ 0)
      → Exchanged q r k l (sending_of q r (passage_of l) ∷ []) (rest_of l) b
  more : {k : ℕ} {l : List Passage} {e : List Sending} {l' : List Passage} {b : Bool} → is_through (passage_of l) ≡ false
      → Exchanged q r k (rest_of l) e l' b → Exchanged q r (suc k) l (sending_of q r (passage_of l) ∷ e) l' b

exchanged : (q r : List ℕ) (k : ℕ) (l : List Passage) → Exchanged q r k l (exchange k q r l) (leaves k l) (meets k l)
unfolding exchange leaves meets
exchanged q r zero l = one refl (λ n. refl)
exchanged q r (suc k) l = by (is_through (passage_of l)) refl (exchanged q r k (rest_of l))
  where
    by : (b : Bool) → is_through (passage_of l) ≡ b → Exchanged q r k (rest_of l) (exchange k q r (rest_of l)) (leaves k (rest_of l)) (meets k (rest_of l))
        → Exchanged q r (suc k) l (exchange (suc k) q r l) (leaves (suc k) l) (meets (suc k) l)
    by true t x = rw t (one t (λ n. absurd (never (sym n))))
    by false t x = rw t (more t x)

module _ {q r : List ℕ} where
  some_and_short : {k : ℕ} {l : List Passage} {e : List Sending} {l' : List Passage} {b : Bool} → Exchanged q r k l e l' b
      → (1 ≤ length e) × (length e ≤ k + 1)
  some_and_short (one t z) = omega arith
  some_and_short (more t x) = omega (arith, some_and_short x)

pub exchange_short : (k : ℕ) (q r : List ℕ) (l : List Passage) → (1 ≤ length (exchange k q r l)) × (length (exchange k q r l) ≤ k + 1)
exchange_short k q r l = some_and_short (exchanged q r k l)

-- ---- damage: a line that damages only by bytes that neither end takes for a telegram

module _ (Bad : List ℕ → Type 0) where
  pub damage_first : (l : List Passage) → Damage Bad l → DamagedBy Bad (passage_of l)
  damage_first [] d = tt
  damage_first (h ∷ l) d = d.0

  pub damage_rest : (l : List Passage) → Damage Bad l → Damage Bad (rest_of l)
  damage_rest [] d = tt
  damage_rest (h ∷ l) d = d.1

  pub damage_left : (k : ℕ) (l : List Passage) → Damage Bad l → Damage Bad (leaves k l)
  unfolding leaves
  damage_left zero l d = damage_rest l d
  damage_left (suc k) l d =
      by_pick (Damage Bad) (is_through (passage_of l)) (λ t. damage_rest l d) (λ t. damage_left k (rest_of l) (damage_rest l d))

-- the printer is deaf to such bytes, and the controller takes them for no reply
pub record Ignores {P O E : Type 0} (hear : P → List ℕ → Answered P) (step : O → List ℕ → Move O E) (Bad : List ℕ → Type 0) : Type 0 where
  pub deaf : (p : P) (s : List ℕ) → Bad s → hear p s ≡ record { state = p; reply = [] }
  pub blind : (o : O) (s : List ℕ) → Bad s → step o s ≡ step o []

-- so that they are as good as lost
abbrev pub with_losses : {P O E : Type 0} → Config P O E → Config P O E
with_losses x = at (as_lost x.line) x.printer x.move x.sent

module _ {P O E : Type 0} {hear : P → List ℕ → Answered P} {step : O → List ℕ → Move O E} {Bad : List ℕ → Type 0} (i : Ignores hear step Bad) where
  next_lost : (l : List Passage) (p : P) (m : Move O E) (n : ℕ) → Damage Bad l
      → next_by hear step (as_lost l) p m n ≡ with_losses (next_by hear step l p m n)
  next_lost l p (stop e) n d = refl
  next_lost [] p (go q o) n d = refl
  next_lost (through ∷ l) p (go q o) n d = refl
  next_lost (request_lost ∷ l) p (go q o) n d = refl
  next_lost (reply_lost ∷ l) p (go q o) n d = refl
  next_lost (request_damaged s ∷ l) p (go q o) n d = rw (i.deaf p s d.0)
  next_lost (reply_damaged s ∷ l) p (go q o) n d = rw (i.blind o s d.0)

  damage_next : (l : List Passage) (p : P) (m : Move O E) (n : ℕ) → Damage Bad l → Damage Bad (next_by hear step l p m n).line
  damage_next l p (stop e) n d = d
  damage_next l p (go q o) n d = damage_rest Bad l d

  pub damage_is_loss : (m : ℕ) (x : Config P O E) → Damage Bad x.line → run hear step m (with_losses x) ≡ with_losses (run hear step m x)
  unfolding run
  damage_is_loss zero x d = refl
  damage_is_loss (suc m) x d =
      ap (run hear step m) (next_lost x.line x.printer x.move x.sent d)
      ∙ damage_is_loss m (next hear step x) (damage_next x.line x.printer x.move x.sent d)

-- ---- one request on its way

or_false : (b : Bool) → (b or false) ≡ b
or_false true = refl
or_false false = refl

pick_or : {A : Type 0} (a b : Bool) (x y : A) → pick b x (pick a x y) ≡ pick (a or b) x y
pick_or true true x y = refl
pick_or true false x y = refl
pick_or false b x y = refl

-- The controller sends q, again while no reply comes, and after the repeats gives up as f; the reply r it takes up as m. The printer
-- has heard q as p', and then answers q by r and stays so.
pub record Request {P O E : Type 0} (hear : P → List ℕ → Answered P) (step : O → List ℕ → Move O E) (q r : List ℕ) (asks : ℕ → O) (m f : Move O E)
    (p' : P) : Type 0 where
  pub repeats : (l : ℕ) → step (asks (suc l)) [] ≡ go q (asks l)
  pub gives_up : step (asks 0) [] ≡ f
  pub takes_up : (l : ℕ) → step (asks l) r ≡ m
  pub hears_again : hear p' q ≡ record { state = p'; reply = r }

module _ {P O E : Type 0} {hear : P → List ℕ → Answered P} {step : O → List ℕ → Move O E} {Bad : List ℕ → Type 0} (i : Ignores hear step Bad) where
  module _ {q r : List ℕ} {asks : ℕ → O} {m f : Move O E} {p' : P} (a : Request hear step q r asks m f p') where
    -- the printer in state p hears it for the first time
    abbrev pub Hears : P → Type 0
    Hears p = hear p q ≡ record { state = p'; reply = r }

    still : (p : P) → Hears p → (b : Bool) → Hears (pick b p' p)
    still p h true = a.hears_again
    still p h false = h

    -- one sending, by what the line does with it
    reply_back : (c : Passage) → DamagedBy Bad c → (p : P) → Hears p → reply_after hear step c p q ≡ reply_by c r
    reply_back through d p h = ap (λ w. w.reply) h
    reply_back request_lost d p h = refl
    reply_back reply_lost d p h = refl
    reply_back (request_damaged s) d p h = ap (λ w. w.reply) (i.deaf p s d)
    reply_back (reply_damaged s) d p h = refl

    next_by_lem : (c : Passage) → DamagedBy Bad c → (p : P) → Hears p → (l : List Passage) (o : O) (n : ℕ)
        → at l (printer_after hear step c p q) (step o (reply_after hear step c p q)) n
        ≡ at l (pick (arrives c) p' p) (pick (is_through c) (step o r) (step o [])) n
    next_by_lem through d p h l o n = ap (λ w. at l w.state (step o w.reply) n) h
    next_by_lem request_lost d p h l o n = refl
    next_by_lem reply_lost d p h l o n = ap (λ w. at l w.state (step o []) n) h
    next_by_lem (request_damaged s) d p h l o n = ap (λ w. at l w.state (step o w.reply) n) (i.deaf p s d)
    next_by_lem (reply_damaged s) d p h l o n = ap (λ w. at l w.state (step o s) n) h ∙ rw (i.blind o s d)

    once : (l : List Passage) → Damage Bad l → (p : P) → Hears p → (o : O) (n : ℕ)
        → next hear step (at l p (go q o) n)
        ≡ at (rest_of l) (pick (arrives (passage_of l)) p' p) (pick (is_through (passage_of l)) (step o r) (step o [])) (suc n)
    once l d p h o n = next_by_lem (passage_of l) (damage_first Bad l d) p h (rest_of l) o (suc n)

    unanswered : (l : List Passage) → Damage Bad l → (p : P) → Hears p → (k n : ℕ) → is_through (passage_of l) ≡ false
        → next hear step (at l p (go q (asks (suc k))) n) ≡ at (rest_of l) (pick (arrives (passage_of l)) p' p) (go q (asks k)) (suc n)
    unanswered l d p h k n t = once l d p h (asks (suc k)) n ∙ rw (t, a.repeats k)

    ends : (k : ℕ) (b : Bool) → (b ≡ false → k ≡ 0) → pick b (step (asks k) r) (step (asks k) []) ≡ pick b m f
    ends k true z = a.takes_up k
    ends k false z = rw (z refl) a.gives_up

    -- all its sendings
    runs : {k : ℕ} {l : List Passage} {e : List Sending} {l' : List Passage} {b : Bool} → Exchanged q r k l e l' b → Damage Bad l
        → (p : P) → Hears p → (n : ℕ)
        → run hear step (length e) (at l p (go q (asks k)) n) ≡ at l' (pick (one_arrives e) p' p) (pick b m f) (n + length e)
    unfolding run
    runs (one {k} {l} {b} t z) d p h n = once l d p h (asks k) n ∙ rw (t, ends k b z, or_false, add-one)
    runs (more {k} {l} {e} t x) d p h n =
        ap (run hear step (length e)) (unanswered l d p h k n t)
        ∙ runs x (damage_rest Bad l d) (pick (arrives (passage_of l)) p' p) (still p h (arrives (passage_of l))) (suc n)
        ∙ rw (pick_or, suc-add, add-suc)

    sends : {k : ℕ} {l : List Passage} {e : List Sending} {l' : List Passage} {b : Bool} → Exchanged q r k l e l' b → Damage Bad l
        → (p : P) → Hears p → (n : ℕ) → transcript hear step (length e) (at l p (go q (asks k)) n) ≡ e
    unfolding transcript
    sends (one {l} t z) d p h n = rw (reply_back (passage_of l) (damage_first Bad l d) p h)
    sends (more {k} {l} t x) d p h n =
        rw (
          unanswered l d p h k n t,
          sends x (damage_rest Bad l d) (pick (arrives (passage_of l)) p' p) (still p h (arrives (passage_of l))) (suc n),
          reply_back (passage_of l) (damage_first Bad l d) p h,
        )

    hears : {k : ℕ} {l : List Passage} {e : List Sending} {l' : List Passage} {b : Bool} → Exchanged q r k l e l' b → Damage Bad l
        → (p : P) → Hears p → (n v : ℕ) → v ≤ length e
        → (run hear step v (at l p (go q (asks k)) n)).printer ≡ pick (one_arrives (take v e)) p' p
    unfolding run
    hears x d p h n zero le = refl
    hears (one {k} {l} t z) d p h n (suc v) le =
        let none : v ≡ 0 = omega arith in
        rw none (ap (λ y. y.printer) (once l d p h (asks k) n) ∙ rw or_false)
    hears (more {k} {l} t x) d p h n (suc v) le =
        ap (λ y. (run hear step v y).printer) (unanswered l d p h k n t)
        ∙ hears {k = k} x (damage_rest Bad l d) (pick (arrives (passage_of l)) p' p) (still p h (arrives (passage_of l))) (suc n) v (omega arith)
        ∙ rw pick_or

    module _ (k : ℕ) (l : List Passage) (d : Damage Bad l) (p : P) (h : Hears p) (n : ℕ) where
      pub request_run : run hear step (length (exchange k q r l)) (at l p (go q (asks k)) n)
          ≡ at (leaves k l) (pick (one_arrives (exchange k q r l)) p' p) (pick (meets k l) m f) (n + length (exchange k q r l))
      request_run = runs (exchanged q r k l) d p h n

      pub request_sendings : transcript hear step (length (exchange k q r l)) (at l p (go q (asks k)) n) ≡ exchange k q r l
      request_sendings = sends (exchanged q r k l) d p h n

      pub request_printer : (v : ℕ) → v ≤ length (exchange k q r l)
          → (run hear step v (at l p (go q (asks k)) n)).printer ≡ pick (one_arrives (take v (exchange k q r l))) p' p
      request_printer v le = hears (exchanged q r k l) d p h n v le
