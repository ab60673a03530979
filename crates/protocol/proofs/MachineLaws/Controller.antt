-- What holds of the controller's step at every settings, book, state and reply.
use Prim.Native.Nat.{ℕ, zero, suc, ◌+◌, ◌-◌}
use Rattle.std.specs.Prelude.{◌≡◌, refl, Bool, true, false, not, List, [], ◌∷◌, eqb, length, Ok, Err}
use Rattle.std.proofs.Math.Path.{sym, ap}
use Rattle.std.proofs.Common.{◌∙◌, subst, arith, drop-drop, eqb-true}
use Rattle.std.proofs.Math.ListN.{drop}
use Rattle.octets.specs.Choice.{pick, ◌and◌}
use Rattle.octets.proofs.Choice.{by_pick, and_left, and_right, never}
use Rattle.fdl.specs.Contents.{accepted}
use Rattle.fdl.specs.Reading as telegram
use Rattle.fdl.specs.declared.reading.Reading.TheVariants as telegram-reading
use Rattle.fdl.specs.declared.telegram.Format.{Format}
use Rattle.fdl.specs.declared.telegram.Format.TheVariants.{Sd1, Sd2, Sd3}
use Rattle.fdl.specs.declared.telegram.Header.{Header}
use Rattle.book.specs.Contents.{Entry}
use Rattle.protocol.specs.Endings.{is_done}
use Rattle.protocol.specs.Line.{go, stop}
use Rattle.protocol.specs.Telegrams.{reply_code, opening_bytes}
use Rattle.protocol.specs.Words.{is_nothing}
use Rattle.protocol.proofs.Lemmas.Ours.{got_bad}
use Rattle.protocol.proofs.Lemmas.Replies.{got_nothing}
use Rattle.protocol.specs.Controller.{Got, nothing, confirmation, diagnosis, positive, negative, other, is_sd2, is_printers, got_from, got_in, Move, request_bytes, ask_for, settled, again, after_job, move_by, move_of}
use Rattle.protocol.specs.declared.controller.Settings.{Settings}
use Rattle.protocol.specs.declared.controller.Job.{Job}
use Rattle.protocol.specs.declared.controller.Job.TheVariants as job
use Rattle.protocol.specs.declared.controller.Controller.{Controller}
use Rattle.protocol.specs.declared.controller.Controller.TheVariants as controller
use Rattle.protocol.specs.declared.controller.Ending.{Ending}
use Rattle.protocol.specs.declared.controller.Ending.TheVariants as ending

-- ---- replies

module _ (c : Settings) (s : List ℕ) where
  -- Bytes that framing refuses are to the controller as no bytes.
  pub refused_is_none : (book : List Entry) (o : Controller) → accepted (telegram.read_of s) ≡ false → move_of c book o s ≡ move_of c book o []
  unfolding move_of
  refused_is_none book o e = ap (move_by c book o) (got_bad c s e ∙ sym (got_nothing c))

-- is it the printer's diagnosis, 5F or DF
abbrev pub from_printer : Got → Bool
from_printer nothing = false
from_printer confirmation = false
from_printer diagnosis = true
from_printer (positive slot index len) = true
from_printer (negative code1 code2) = true
from_printer other = false

-- data from the printer set to the controller set, in SD2
pub record Own (c : Settings) (r : telegram.Reading) : Type 0 where
  pub header : Header
  pub start : ℕ
  pub len : ℕ
  pub read : r ≡ Ok (telegram-reading.Telegram Sd2 header start len)
  pub code : header.fc ≡ reply_code
  pub source : header.sa ≡ c.printer
  pub destination : header.da ≡ c.controller

module _ (c : Settings) (s : List ℕ) where
  tested : (b : Bool) (g : Got) → from_printer (pick b g other) ≡ true → b ≡ true
  tested true g e = refl
  tested false g e = e

  format : (f : Format) → is_sd2 f ≡ true → f ≡ Sd2
  format Sd1 e = absurd (never e)
  format Sd2 e = refl
  format Sd3 e = absurd (never e)

  pub own : (f : Format) (h : Header) (start len : ℕ) → is_printers c f h ≡ true → Own c (Ok (telegram-reading.Telegram f h start len))
  own f h start len e =
      let code : Bool = eqb h.fc reply_code in
      let from : Bool = eqb h.sa c.printer in
      let to : Bool = eqb h.da c.controller in
      let e2 : (code and from and to) ≡ true = and_right (is_sd2 f) (code and from and to) e in
      let e3 : (from and to) ≡ true = and_right code (from and to) e2 in
      record {
        header = h;
        start = start;
        len = len;
        read = ap (λ (k : Format). (Ok (telegram-reading.Telegram k h start len))) (format f (and_left (is_sd2 f) (code and from and to) e));
        code = eqb-true h.fc reply_code (and_left code (from and to) e2);
        source = eqb-true h.sa c.printer (and_left from to e3);
        destination = eqb-true h.da c.controller (and_right from to e3);
      }

  by_reading : (r : telegram.Reading) → from_printer (got_from c s r) ≡ true → Own c r
  by_reading (Ok telegram-reading.Confirmation) e = absurd (never e)
  by_reading (Ok (telegram-reading.Token da sa)) e = absurd (never e)
  by_reading (Ok (telegram-reading.Telegram f h start len)) e = own f h start len (tested (is_printers c f h) _ e)
  by_reading (Err r) e = absurd (never e)

  -- A diagnosis, 5F or DF is taken only from the printer set, to the controller set, by SD2 with function code 08.
  pub printers_own : from_printer (got_in c s) ≡ true → Own c (telegram.read_of s)
  unfolding got_in
  printers_own e = by_reading (telegram.read_of s) e

-- ---- what follows a request

abbrev pub is_poll : Job → Bool
is_poll job.Write = false
is_poll (job.Poll left) = true

-- is it the 5F for the template in front of what is left: the write's slot, index and length; any, where none is left
abbrev pub is_own : (left : List Entry) → (slot index len : ℕ) → Bool
is_own [] slot index len = true
is_own (t ∷ ts) slot index len = eqb slot 1 and eqb index t.slot and eqb len (length t.body)

-- a reply, and neither SC nor, to a poll, the printer's DF or the 5F for its template
abbrev pub is_foreign : Job → (left : List Entry) → Got → Bool
is_foreign j left nothing = false
is_foreign j left confirmation = false
is_foreign j left diagnosis = true
is_foreign j left (positive slot index len) = not (is_poll j and is_own left slot index len)
is_foreign j left (negative code1 code2) = not (is_poll j)
is_foreign j left other = true

abbrev pub is_some : ℕ → Bool
is_some zero = false
is_some (suc n) = true

-- may a poll follow on SC
abbrev pub more_polls : Job → Bool
more_polls job.Write = true
more_polls (job.Poll n) = is_some n

-- does a request follow, or done where no template is left
abbrev pub is_followed : Job → (repeats : ℕ) → Got → Bool
is_followed j r nothing = is_some r
is_followed j r confirmation = more_polls j
is_followed j r diagnosis = false
is_followed j r (positive slot index len) = is_poll j
is_followed j r (negative code1 code2) = false
is_followed j r other = false

-- how a download ends at a job for template k, with r repeats left, where `left` is the book from it on and g was got
pub data Ends (k : ℕ) (j : Job) (r : ℕ) (left : List Entry) (g : Got) : Ending → Type 0 where
  done : {n : ℕ} {t : Entry} → j ≡ job.Poll n → g ≡ positive 1 t.slot (length t.body) → left ≡ t ∷ [] → Ends k j r left g ending.Done
  past : left ≡ [] → is_followed j r g ≡ true → Ends k j r left g ending.Done
  refused : {n code1 code2 : ℕ} → j ≡ job.Poll n → g ≡ negative code1 code2 → Ends k j r left g (ending.Refused k code1 code2)
  unanswered : g ≡ nothing → r ≡ 0 → Ends k j r left g (ending.NoAnswer k)
  late : j ≡ job.Poll 0 → g ≡ confirmation → Ends k j r left g (ending.NotReady k)
  strange : is_foreign j left g ≡ true → Ends k j r left g (ending.Strange k)

-- the polls left after the first poll of a template, and after each further one
pub data PollsLeft (c : Settings) : Job → ℕ → Type 0 where
  all : PollsLeft c job.Write (c.polls - 1)
  fewer : {n : ℕ} → PollsLeft c (job.Poll (suc n)) n

-- every move from it
pub data After (c : Settings) (k : ℕ) (j : Job) (fcb : Bool) (r : ℕ) (left : List Entry) (g : Got) : Move → Type 0 where
  repeated : {n : ℕ} {t : Entry} {ts : List Entry} → g ≡ nothing → r ≡ suc n → left ≡ t ∷ ts
      → After c k j fcb r left g (go (request_bytes c j fcb t) (controller.Asking k j fcb n))
  polled : {n : ℕ} {t : Entry} {ts : List Entry} → PollsLeft c j n → g ≡ confirmation → left ≡ t ∷ ts
      → After c k j fcb r left g (go (request_bytes c (job.Poll n) (not fcb) t) (controller.Asking k (job.Poll n) (not fcb) c.repeats))
  written : {n : ℕ} {t u : Entry} {ts : List Entry} → j ≡ job.Poll n → g ≡ positive 1 t.slot (length t.body) → left ≡ t ∷ u ∷ ts
      → After c k j fcb r left g (go (request_bytes c job.Write (not fcb) u) (controller.Asking (suc k) job.Write (not fcb) c.repeats))
  ended : {e : Ending} → Ends k j r left g e → After c k j fcb r left g (stop e)

pub own_is : (t : Entry) (ts : List Entry) (slot index len : ℕ) → is_own (t ∷ ts) slot index len ≡ true → positive slot index len ≡ positive 1 t.slot (length t.body)
own_is t ts slot index len e =
    let a : Bool = eqb slot 1 in
    let b : Bool = eqb index t.slot in
    let d : Bool = eqb len (length t.body) in
    let e2 : (b and d) ≡ true = and_right a (b and d) e in
    rw (eqb-true slot 1 (and_left a (b and d) e), eqb-true index t.slot (and_left b d e2), eqb-true len (length t.body) (and_right b d e2))

more_polls_lem : {c : Settings} {j : Job} {n : ℕ} → PollsLeft c j n → more_polls j ≡ true
more_polls_lem all = refl
more_polls_lem fewer = refl

module _ (c : Settings) (k : ℕ) (fcb : Bool) (r : ℕ) where
  by_none : (j : Job) (left : List Entry) → After c k j fcb r left nothing (again c k j fcb r left)
  by_none j left = by r left refl refl
    where
      by : (n : ℕ) (ts : List Entry) → r ≡ n → left ≡ ts → After c k j fcb r left nothing (again c k j fcb n ts)
      by zero ts e l = ended (unanswered refl e)
      by (suc n) [] e l = ended (past l (ap is_some e))
      by (suc n) (t ∷ ts) e l = repeated refl e l

  by_confirmation : (j : Job) (n : ℕ) (left : List Entry) → PollsLeft c j n → After c k j fcb r left confirmation (ask_for c k (job.Poll n) (not fcb) c.repeats left)
  by_confirmation j n [] p = ended (past refl (more_polls_lem p))
  by_confirmation j n (t ∷ ts) p = polled p refl refl

  by_positive : (n slot index len : ℕ) (left : List Entry) → After c k (job.Poll n) fcb r left (positive slot index len) (settled c k fcb slot index len left)
  by_positive n slot index len [] = ended (past refl refl)
  by_positive n slot index len (t ∷ ts) =
      by_pick (After c k (job.Poll n) fcb r (t ∷ ts) (positive slot index len)) (is_own (t ∷ ts) slot index len)
      (λ e. next ts (own_is t ts slot index len e)) (λ e. ended (strange (ap not e)))
    where
      next : (l : List Entry) → positive slot index len ≡ positive 1 t.slot (length t.body)
          → After c k (job.Poll n) fcb r (t ∷ l) (positive slot index len) (ask_for c (suc k) job.Write (not fcb) c.repeats l)
      next [] e = ended (done refl e refl)
      next (u ∷ us) e = written refl e refl

  by_job : (j : Job) (left : List Entry) (g : Got) → After c k j fcb r left g (after_job c k j fcb r left g)
  by_job job.Write left nothing = by_none job.Write left
  by_job job.Write left confirmation = by_confirmation job.Write (c.polls - 1) left all
  by_job job.Write left diagnosis = ended (strange refl)
  by_job job.Write left (positive slot index len) = ended (strange refl)
  by_job job.Write left (negative code1 code2) = ended (strange refl)
  by_job job.Write left other = ended (strange refl)
  by_job (job.Poll n) left nothing = by_none (job.Poll n) left
  by_job (job.Poll zero) left confirmation = ended (late refl refl)
  by_job (job.Poll (suc n)) left confirmation = by_confirmation (job.Poll (suc n)) n left fewer
  by_job (job.Poll n) left diagnosis = ended (strange refl)
  by_job (job.Poll n) left (positive slot index len) = by_positive n slot index len left
  by_job (job.Poll n) left (negative code1 code2) = ended (refused refl refl)
  by_job (job.Poll n) left other = ended (strange refl)

-- the controller's move from a job
pub after : (c : Settings) (book : List Entry) (k : ℕ) (j : Job) (fcb : Bool) (r : ℕ) (s : List ℕ)
    → After c k j fcb r (drop (k - 1) book) (got_in c s) (move_of c book (controller.Asking k j fcb r) s)
unfolding move_of
after c book k j fcb r s = by_job c k fcb r j (drop (k - 1) book) (got_in c s)

-- ---- the frame count bit

abbrev pub is_diagnosis : Got → Bool
is_diagnosis nothing = false
is_diagnosis confirmation = false
is_diagnosis diagnosis = true
is_diagnosis (positive slot index len) = false
is_diagnosis (negative code1 code2) = false
is_diagnosis other = false

-- what follows the opening by what was got: on a diagnosis the first template's write with FCB 0, done where the book has none;
-- on anything else no opening
pub data Begins (c : Settings) (book : List Entry) (g : Got) : Move → Type 0 where
  first : (t : Entry) {ts : List Entry} → g ≡ diagnosis → book ≡ t ∷ ts
      → Begins c book g (go (request_bytes c job.Write false t) (controller.Asking 1 job.Write false c.repeats))
  empty : g ≡ diagnosis → book ≡ [] → Begins c book g (stop ending.Done)
  unopened : is_diagnosis g ≡ false → Begins c book g (stop ending.NoOpening)

module _ (c : Settings) where
  by_got : (book : List Entry) (g : Got) → Begins c book g (move_by c book controller.Opening g)
  by_got book nothing = unopened refl
  by_got book confirmation = unopened refl
  by_got [] diagnosis = empty refl refl
  by_got (t ∷ ts) diagnosis = first t refl refl
  by_got book (positive slot index len) = unopened refl
  by_got book (negative code1 code2) = unopened refl
  by_got book other = unopened refl

  -- The opening is followed so: the first request after it has FCB 0.
  pub first_fcb : (book : List Entry) (s : List ℕ) → Begins c book (got_in c s) (move_of c book controller.Opening s)
  unfolding move_of
  first_fcb book s = by_got book (got_in c s)

-- what may follow a request by what was got: itself once more, a new request, or the end
pub data Follows (c : Settings) (k : ℕ) (j : Job) (fcb : Bool) (r : ℕ) (g : Got) : Move → Type 0 where
  same : {q : List ℕ} {n : ℕ} → g ≡ nothing → r ≡ suc n → Follows c k j fcb r g (go q (controller.Asking k j fcb n))
  new : {q : List ℕ} {k' : ℕ} {j' : Job} → is_nothing g ≡ false → Follows c k j fcb r g (go q (controller.Asking k' j' (not fcb) c.repeats))
  ends : {e : Ending} → Follows c k j fcb r g (stop e)

module _ (c : Settings) (k : ℕ) (j : Job) (fcb : Bool) (r : ℕ) where
  follows : {left : List Entry} {g : Got} {m : Move} → After c k j fcb r left g m → Follows c k j fcb r g m
  follows (repeated a b l) = same a b
  follows (polled p a l) = new (ap is_nothing a)
  follows (written p a l) = new (ap is_nothing a)
  follows (ended e) = ends

  -- A request follows another with the same FCB, and one repeat less, where it repeats it because nothing was got; else
  -- with the other FCB and all its repeats.
  pub fcb_alternates : (book : List Entry) (s : List ℕ) → Follows c k j fcb r (got_in c s) (move_of c book (controller.Asking k j fcb r) s)
  fcb_alternates book s = follows (after c book k j fcb r s)

-- ---- requests

-- templates are counted from 1
abbrev pub counts_from_one : Controller → Bool
counts_from_one controller.Fresh = true
counts_from_one controller.Opening = true
counts_from_one (controller.Asking zero j fcb r) = false
counts_from_one (controller.Asking (suc i) j fcb r) = true

-- a request is the opening call, or the one that the state then says, for the template at its place in the book
pub data Sends (c : Settings) (book : List Entry) : Move → Type 0 where
  opens : Sends c book (go (opening_bytes c.printer c.controller) controller.Opening)
  asks : (i : ℕ) (j : Job) (fcb : Bool) (r : ℕ) (t : Entry) {ts : List Entry} → drop i book ≡ t ∷ ts
      → Sends c book (go (request_bytes c j fcb t) (controller.Asking (suc i) j fcb r))
  ends : {e : Ending} → Sends c book (stop e)

place : (i : ℕ) → suc i - 1 ≡ i
place i = omega arith

module _ (c : Settings) (book : List Entry) where
  by_begin : {g : Got} {m : Move} → Begins c book g m → Sends c book m
  by_begin (first t d e) = asks 0 job.Write false c.repeats t e
  by_begin (empty d e) = ends
  by_begin (unopened d) = ends

  by_after : {i : ℕ} {j : Job} {fcb : Bool} {r : ℕ} {left : List Entry} {g : Got} {m : Move} → drop i book ≡ left → After c (suc i) j fcb r left g m → Sends c book m
  by_after {i} {j} {fcb} d (repeated {n} {t} a b l) = asks i j fcb n t (d ∙ l)
  by_after {i} {j} {fcb} d (polled {n} {t} p a l) = asks i (job.Poll n) (not fcb) c.repeats t (d ∙ l)
  by_after {i} {j} {fcb} d (written {u = u} p a l) =
      let next : suc i ≡ i + 1 = omega arith in
      asks (suc i) job.Write (not fcb) c.repeats u (ap (λ (n : ℕ). drop n book) next ∙ sym (drop-drop 1 i book) ∙ ap (drop 1) (d ∙ l))
  by_after d (ended e) = ends

  -- Every request is the one that the state then says, with its template counted from 1 as before.
  pub request_of_state : (o : Controller) (s : List ℕ) → counts_from_one o ≡ true → Sends c book (move_of c book o s)
  unfolding move_of
  request_of_state controller.Fresh s e = opens
  request_of_state controller.Opening s e = by_begin (first_fcb c book s)
  request_of_state (controller.Asking zero j fcb r) s e = absurd (never e)
  request_of_state (controller.Asking (suc i) j fcb r) s e =
      by_after (ap (λ (n : ℕ). drop n book) (sym (place i))) (after c book (suc i) j fcb r s)

  abbrev Repeats : Move → Type 0
  Repeats (go q controller.Fresh) = Unit {0}
  Repeats (go q controller.Opening) = Unit {0}
  Repeats (go q (controller.Asking k j fcb zero)) = Unit {0}
  Repeats (go q (controller.Asking k j fcb (suc r))) = move_of c book (controller.Asking k j fcb (suc r)) [] ≡ go q (controller.Asking k j fcb r)
  Repeats (stop e) = Unit {0}

  repeats : {m : Move} → Sends c book m → Repeats m
  unfolding move_of
  repeats opens = tt
  repeats (asks i j fcb zero t l) = tt
  repeats (asks i job.Write fcb (suc n) t l) = rw (got_nothing c, place i, l)
  repeats (asks i (job.Poll left) fcb (suc n) t l) = rw (got_nothing c, place i, l)
  repeats ends = tt

  -- With no reply to a request that may still be repeated, the same bytes are sent.
  pub repeat_same_bytes : (o : Controller) (s : List ℕ) {q : List ℕ} {k : ℕ} {j : Job} {fcb : Bool} {r : ℕ} → counts_from_one o ≡ true
      → move_of c book o s ≡ go q (controller.Asking k j fcb (suc r)) → move_of c book (controller.Asking k j fcb (suc r)) [] ≡ go q (controller.Asking k j fcb r)
  repeat_same_bytes o s f e = subst Repeats e (repeats (request_of_state o s f))

-- ---- going on

-- the next request, or the end with every template loaded
abbrev pub keeps_going : Move → Bool
keeps_going (go q o) = true
keeps_going (stop e) = is_done e

abbrev pub is_fresh : Controller → Bool
is_fresh controller.Fresh = true
is_fresh controller.Opening = false
is_fresh (controller.Asking k j fcb r) = false

-- The printer's DF ends every download, and not well.
pub negative_ends : (c : Settings) (book : List Entry) (o : Controller) (s : List ℕ) {code1 code2 : ℕ} → is_fresh o ≡ false
    → got_in c s ≡ negative code1 code2 → keeps_going (move_of c book o s) ≡ false
unfolding move_of
negative_ends c book controller.Fresh s f e = f
negative_ends c book controller.Opening s f e = rw e
negative_ends c book (controller.Asking k job.Write fcb r) s f e = rw e
negative_ends c book (controller.Asking k (job.Poll left) fcb r) s f e = rw e

-- what a request for template t may get: nothing; SC; or to a poll the result of exactly its write
pub data Takes (t : Entry) (j : Job) (g : Got) : Type 0 where
  none : g ≡ nothing → Takes t j g
  confirmed : g ≡ confirmation → Takes t j g
  fetched : is_poll j ≡ true → g ≡ positive 1 t.slot (length t.body) → Takes t j g

-- what an end as refused at template k means
abbrev Refusal : (k : ℕ) → Job → Got → Move → Type 0
Refusal k j g (go q o) = Unit {0}
Refusal k j g (stop ending.Done) = Unit {0}
Refusal k j g (stop ending.NoOpening) = Unit {0}
Refusal k j g (stop (ending.NoAnswer k')) = Unit {0}
Refusal k j g (stop (ending.NotReady k')) = Unit {0}
Refusal k j g (stop (ending.Refused k' code1 code2)) = (k' ≡ k) × (is_poll j ≡ true) × (g ≡ negative code1 code2)
Refusal k j g (stop (ending.Strange k')) = Unit {0}

abbrev front : Entry → List Entry → Entry
front d [] = d
front d (t ∷ ts) = t

module _ (c : Settings) (k : ℕ) (j : Job) (fcb : Bool) (r : ℕ) {left : List Entry} {g : Got} where
  own_result : (t t' : Entry) {ts us : List Entry} {n : ℕ} → left ≡ t ∷ ts → left ≡ t' ∷ us → j ≡ job.Poll n
      → g ≡ positive 1 t'.slot (length t'.body) → Takes t j g
  own_result t t' e l p a =
      let same : t' ≡ t = ap (front t) (sym l ∙ e) in
      fetched (ap is_poll p) (a ∙ ap (λ (x : Entry). positive 1 x.slot (length x.body)) same)

  takes : {m : Move} → After c k j fcb r left g m → (t : Entry) {ts : List Entry} → left ≡ t ∷ ts → keeps_going m ≡ true → Takes t j g
  takes (repeated a b l) t e f = none a
  takes (polled p a l) t e f = confirmed a
  takes (written {t = t'} p a l) t e f = own_result t t' e l p a
  takes (ended (done {t = t'} p a l)) t e f = own_result t t' e l p a
  takes (ended (past l b)) t e f = absurd (let z : ◌≡◌ {A = ℕ} 0 1 = cc in omega arith)
  takes (ended (refused p a)) t e f = absurd (never f)
  takes (ended (unanswered a b)) t e f = absurd (never f)
  takes (ended (late p a)) t e f = absurd (never f)
  takes (ended (strange a)) t e f = absurd (never f)

  refusal : {m : Move} → After c k j fcb r left g m → Refusal k j g m
  refusal (repeated a b l) = tt
  refusal (polled p a l) = tt
  refusal (written p a l) = tt
  refusal (ended (done p a l)) = tt
  refusal (ended (past l f)) = tt
  refusal (ended (refused p a)) = (refl, ap is_poll p, a)
  refusal (ended (unanswered a b)) = tt
  refusal (ended (late p a)) = tt
  refusal (ended (strange a)) = tt

module _ (c : Settings) (book : List Entry) (k : ℕ) (j : Job) (fcb : Bool) (r : ℕ) (s : List ℕ) where
  -- A download goes on from template t only where it got nothing, SC, or the result of exactly its write.
  pub only_taken : (t : Entry) {ts : List Entry} → drop (k - 1) book ≡ t ∷ ts → keeps_going (move_of c book (controller.Asking k j fcb r) s) ≡ true → Takes t j (got_in c s)
  only_taken t e f = takes c k j fcb r (after c book k j fcb r s) t e f

  -- It ends as refused with two codes only where a poll for that template got the printer's DF with those.
  pub refused_by_printer : {k' code1 code2 : ℕ} → move_of c book (controller.Asking k j fcb r) s ≡ stop (ending.Refused k' code1 code2)
      → (k' ≡ k) × (is_poll j ≡ true) × (got_in c s ≡ negative code1 code2)
  refused_by_printer e = subst (Refusal k j (got_in c s)) e (refusal c k j fcb r (after c book k j fcb r s))
