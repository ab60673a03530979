-- A controller's step leads only to states that its next step does not refuse.
use Rattle.std.specs.Prelude.{ℕ, zero, suc, ◌-◌, ◌%◌, ◌≤◌, ◌<◌, ◌≡◌, refl, Bool, true, false, not, List, [], ◌∷◌, eqb, ltb, length, drop}
use Rattle.std.proofs.Common.{sym, ap, ◌∙◌, subst, arith, length-drop}
use borrow.Author.Tests.{le-ltb, ltb-false, lt-ltb, eqb-true, eqb-false, ne_eqb, eq-eqb, ltb-true, not-false}
use Rattle.octets.specs.Choice.{pick, ◌and◌, ◌or◌}
use Rattle.octets.proofs.Fixed.{passed, fault_fine}
use Rattle.octets.specs.Front.{Verdict, fine, fault}
use Rattle.book.specs.Contents.{Entry}
use Rattle.protocol.specs.Bits.{bits_agree}
use Rattle.protocol.specs.Line.{go, stop}
use Rattle.protocol.proofs.Lemmas.Accepted.{settled}
use Rattle.protocol.specs.Controller.{Got, Move, move_of, settings_verdict, requests_before, wrong_fcb, too_many_polls, state_verdict}
use Rattle.protocol.proofs.MachineLaws.Controller.{PollsLeft, all, fewer, After, repeated, polled, written, ended, after, Begins, first, empty, unopened, first_fcb, counts_from_one}
use Rattle.protocol.specs.declared.controller.Settings.{Settings}
use Rattle.protocol.specs.declared.controller.Job.{Job}
use Rattle.protocol.specs.declared.controller.Job.TheVariants as job
use Rattle.protocol.specs.declared.controller.Controller.{Controller}
use Rattle.protocol.specs.declared.controller.Controller.TheVariants as controller

-- a job at which a controller may be that has n templates
pub record Stands (c : Settings) (n k : ℕ) (j : Job) (fcb : Bool) (r : ℕ) : Type 0 where
  pub from_one : 1 ≤ k
  pub within : k ≤ n
  pub polls : too_many_polls c j ≡ false
  pub repeats : r ≤ c.repeats
  pub right_fcb : wrong_fcb c k j fcb ≡ false

module _ (c : Settings) (n k : ℕ) (j : Job) (fcb : Bool) (r : ℕ) where
  pub stands : state_verdict c n (controller.Asking k j fcb r) ≡ fine → Stands c n k j fcb r
  unfolding state_verdict
  stands e =
      let bit : Verdict = pick (wrong_fcb c k j fcb) (fault 12) fine in
      let more : Verdict = pick (ltb c.repeats r) (fault 12) bit in
      let many : Verdict = pick (too_many_polls c j) (fault 12) more in
      let past : Verdict = pick (ltb n k) (fault 12) many in
      let a = passed 12 (ltb k 1) past e in
      let b = passed 12 (ltb n k) many a.1 in
      let p = passed 12 (too_many_polls c j) more b.1 in
      let s = passed 12 (ltb c.repeats r) bit p.1 in
      record {
        from_one = ltb-false k 1 a.0;
        within = ltb-false n k b.0;
        polls = p.0;
        repeats = ltb-false c.repeats r s.0;
        right_fcb = (passed 12 (wrong_fcb c k j fcb) fine s.1).0;
      }

  pub may_stand : Stands c n k j fcb r → state_verdict c n (controller.Asking k j fcb r) ≡ fine
  unfolding state_verdict
  may_stand s = rw (le-ltb k 1 s.from_one, le-ltb n k s.within, s.polls, le-ltb c.repeats r s.repeats, s.right_fcb)

-- FCB turns with each request
odd_next : (m : ℕ) → eqb (suc m % 2) 1 ≡ not (eqb (m % 2) 1)
odd_next m = by (eqb (m % 2) 1) refl
  where
    by : (b : Bool) → eqb (m % 2) 1 ≡ b → eqb (suc m % 2) 1 ≡ not b
    by true e = ne_eqb (suc m % 2) 1 (λ z. omega (arith, eqb-true (m % 2) 1 e))
    by false e = let odd : (m % 2 ≡ 1 → ⊥) = eqb-false (m % 2) 1 e in eq-eqb (suc m % 2) 1 (omega arith)

same_turned : (a b : Bool) → bits_agree (not a) (not b) ≡ bits_agree a b
same_turned true true = refl
same_turned true false = refl
same_turned false true = refl
same_turned false false = refl

with_one_poll : (a fcb : Bool) → ((a or true) and not (bits_agree fcb true)) ≡ false → fcb ≡ true
with_one_poll a true e = refl
with_one_poll true false e = sym e
with_one_poll false false e = sym e

and_false : (b : Bool) → (b and false) ≡ false
and_false true = refl
and_false false = refl

module _ (c : Settings) where
  pub polls_bound : (left : ℕ) → too_many_polls c (job.Poll left) ≡ false → left < c.polls
  polls_bound left e = ltb-true left c.polls (not-false (ltb left c.polls) e)

  -- so many requests of the template come before its next poll
  one_more : {j : Job} {left : ℕ} → 1 ≤ c.polls → too_many_polls c j ≡ false → PollsLeft c j left
      → (too_many_polls c (job.Poll left) ≡ false) × (requests_before c (job.Poll left) ≡ suc (requests_before c j))
  one_more p e all = (rw (lt-ltb (c.polls - 1) c.polls (omega arith)), omega arith)
  one_more {left = left} p e fewer =
      let more : suc left < c.polls = polls_bound (suc left) e in
      (rw (lt-ltb left c.polls (omega arith)), omega arith)

  -- the next poll's FCB is as right as that of the request before it
  poll_fcb : (k : ℕ) (j : Job) (fcb : Bool) (left : ℕ) → requests_before c (job.Poll left) ≡ suc (requests_before c j)
      → wrong_fcb c k (job.Poll left) (not fcb) ≡ wrong_fcb c k j fcb
  poll_fcb k j fcb left e = rw (e, odd_next (requests_before c j), same_turned fcb (eqb (requests_before c j % 2) 1))

  -- the next template's write has any FCB, and 0 behind one poll with FCB 1
  write_fcb : (k left : ℕ) (fcb : Bool) → 1 ≤ k → left < c.polls → wrong_fcb c k (job.Poll left) fcb ≡ false → wrong_fcb c (suc k) job.Write (not fcb) ≡ false
  write_fcb k left fcb f l e = by (eqb c.polls 1) refl
    where
      by : (b : Bool) → eqb c.polls 1 ≡ b → wrong_fcb c (suc k) job.Write (not fcb) ≡ false
      by true q =
          let one : c.polls - left ≡ 1 = omega (arith, eqb-true c.polls 1 q) in
          let bit : fcb ≡ true = with_one_poll (eqb k 1) fcb (rw (q, one) at e) in
          rw bit (and_false (eqb (suc k) 1 or eqb c.polls 1))
      by false q = rw (ne_eqb (suc k) 1 (λ z. omega arith), q)

module _ (c : Settings) (book : List Entry) (p : 1 ≤ c.polls) where
  -- what is not refused
  abbrev Kept : Move → Type 0
  Kept (go q o) = state_verdict c (length book) o ≡ fine
  Kept (stop e) = Unit {0}

  from_job : {k : ℕ} {j : Job} {fcb : Bool} {r : ℕ} {g : Got} {m : Move} → Stands c (length book) k j fcb r → After c k j fcb r (drop (k - 1) book) g m → Kept m
  from_job {k} {j} {fcb} s (repeated {n} a b l) =
      may_stand c (length book) k j fcb n (record { from_one = s.from_one; within = s.within; polls = s.polls; repeats = omega (arith, s.repeats); right_fcb = s.right_fcb })
  from_job {k} {j} {fcb} s (polled {n} left a l) =
      let next = one_more c p s.polls left in
      may_stand c (length book) k (job.Poll n) (not fcb) c.repeats
      (record { from_one = s.from_one; within = s.within; polls = next.0; repeats = omega arith; right_fcb = poll_fcb c k j fcb n next.1 ∙ s.right_fcb })
  from_job {k} {j} {fcb} s (written {n} {t} {u} {ts} e a l) =
      let more : length (drop (k - 1) book) ≡ suc (suc (length ts)) = ap length l in
      let poll : too_many_polls c (job.Poll n) ≡ false = ap (too_many_polls c) (sym e) ∙ s.polls in
      let bit : wrong_fcb c k (job.Poll n) fcb ≡ false = ap (λ (i : Job). wrong_fcb c k i fcb) (sym e) ∙ s.right_fcb in
      may_stand c (length book) (suc k) job.Write (not fcb) c.repeats
      (record { from_one = omega arith; within = omega (arith, s.from_one, length-drop (k - 1) book); polls = refl; repeats = omega arith; right_fcb = write_fcb c k n fcb s.from_one (polls_bound c n poll) bit })
  from_job s (ended e) = tt

  from_opening : {g : Got} {m : Move} → Begins c book g m → Kept m
  from_opening (first t d e) =
      may_stand c (length book) 1 job.Write false c.repeats
      (record { from_one = omega arith; within = omega (arith, ap length e); polls = refl; repeats = omega arith; right_fcb = refl })
  from_opening (empty d e) = tt
  from_opening (unopened d) = tt

-- A state that is not refused counts templates from 1.
pub state_counts : (c : Settings) (n : ℕ) (o : Controller) → state_verdict c n o ≡ fine → counts_from_one o ≡ true
unfolding state_verdict
state_counts c n controller.Fresh e = refl
state_counts c n controller.Opening e = refl
state_counts c n (controller.Asking zero j fcb r) e = absurd (fault_fine e)
state_counts c n (controller.Asking (suc i) j fcb r) e = refl

-- The controller's step leads only to states that its next step does not refuse.
pub state_kept : (c : Settings) (book : List Entry) (o : Controller) (s : List ℕ) {q : List ℕ} {o' : Controller} → settings_verdict c ≡ fine
    → state_verdict c (length book) o ≡ fine → move_of c book o s ≡ go q o' → state_verdict c (length book) o' ≡ fine
unfolding move_of state_verdict
state_kept c book o s v w e = subst (Kept c book (settled c v).some_polls) e (by o w)
  where
    by : (y : Controller) → state_verdict c (length book) y ≡ fine → Kept c book (settled c v).some_polls (move_of c book y s)
    by controller.Fresh z = refl
    by controller.Opening z = from_opening c book (settled c v).some_polls (first_fcb c book s)
    by (controller.Asking k j fcb r) z = from_job c book (settled c v).some_polls (stands c (length book) k j fcb r z) (after c book k j fcb r s)

-- the template at k, and those behind it
pub record Template (book : List Entry) (k : ℕ) : Type 0 where
  pub entry : Entry
  pub behind : List Entry
  pub there : drop (k - 1) book ≡ entry ∷ behind

-- The template of a state that is not refused stands in the book.
pub template_there : (c : Settings) (book : List Entry) (k : ℕ) (j : Job) (fcb : Bool) (r : ℕ) → state_verdict c (length book) (controller.Asking k j fcb r) ≡ fine → Template book k
template_there c book k j fcb r e =
    let s = stands c (length book) k j fcb r e in
    by (drop (k - 1) book) refl (omega (arith, s.from_one, s.within, length-drop (k - 1) book))
  where
    by : (left : List Entry) → drop (k - 1) book ≡ left → 1 ≤ length (drop (k - 1) book) → Template book k
    by [] q some = absurd (omega (arith, ap length q))
    by (t ∷ ts) q some = record { entry = t; behind = ts; there = q }
