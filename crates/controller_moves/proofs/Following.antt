-- What follows a request, as the code has it.
use Prim.Native.Nat.{ℕ, zero, suc, ◌+◌, ◌-◌, ◌≤◌, ◌<◌}
use mathlib.Core.Path.{◌≡◌, refl, ap, ◌∙◌}
use mathlib.Core.Bool.{Bool, true, not}
use mathlib.Core.List.{List}
use native.Mathlib.Omega.{arith}
use lib.Dec.{ltb}
use lib.ListN.{length, drop}
use borrow.Author.Tests.{ltb-true}
use Rattle.octets.proofs.Choice.{and_left, and_right, never}
use Rattle.book.specs.Contents.{Entry}
use Rattle.protocol.specs.Controller.{Got, nothing, confirmation, diagnosis, positive, negative, other, ask_for, again, poll_again, after_job}
use Rattle.protocol.specs.Words.{is_nothing}
use Rattle.protocol.specs.declared.controller.Settings.{Settings}
use Rattle.protocol.specs.declared.controller.Job.{Job}
use Rattle.protocol.specs.declared.controller.Job.TheVariants as job
use Rattle.controller_state.specs.Templates.{left_from}
use Rattle.controller_moves.specs.Next.{Says, may_repeat}
use Rattle.controller_moves.specs.declared.moves.Next.TheVariants as next

-- a poll says nothing of its template
pub polls : (book : List Entry) (k : ℕ) → 1 ≤ k → k ≤ length book → (c : Settings) (left : ℕ) (fcb : Bool) (repeats : ℕ)
    → Says c book (next.Poll k left fcb repeats) (ask_for c k (job.Poll left) fcb repeats (drop (k - 1) book))
polls book k some most c left fcb repeats = rw (left_from book k some most) (record { move = refl; counted = tt })

-- ---- repeats

is_nothing_lem : (g : Got) → is_nothing g ≡ true → g ≡ nothing
is_nothing_lem nothing e = refl
is_nothing_lem confirmation e = absurd (never e)
is_nothing_lem diagnosis e = absurd (never e)
is_nothing_lem (positive slot index len) e = absurd (never e)
is_nothing_lem (negative code1 code2) e = absurd (never e)
is_nothing_lem other e = absurd (never e)

-- a repeat is left where the request may be repeated
pub some_repeats : (g : Got) (repeats : ℕ) → may_repeat g repeats ≡ true → 0 < repeats
some_repeats g repeats e = ltb-true 0 repeats (and_right (is_nothing g) (ltb 0 repeats) e)

module _ (c : Settings) (k : ℕ) (fcb : Bool) (ts : List Entry) where
  no_reply : (j : Job) (repeats : ℕ) → after_job c k j fcb repeats ts nothing ≡ again c k j fcb repeats ts
  no_reply job.Write repeats = refl
  no_reply (job.Poll left) repeats = refl

  one_less : (j : Job) (repeats : ℕ) → 0 < repeats → again c k j fcb repeats ts ≡ ask_for c k j fcb (repeats - 1) ts
  one_less j zero h = absurd (omega arith)
  one_less j (suc n) h = let e : n ≡ suc n - 1 = omega arith in ap (λ (m : ℕ). ask_for c k j fcb m ts) e

  -- the same request, with one repeat less
  pub repeated : (j : Job) (g : Got) (repeats : ℕ) → may_repeat g repeats ≡ true → ask_for c k j fcb (repeats - 1) ts ≡ after_job c k j fcb repeats ts g
  repeated j g repeats e =
      rw (is_nothing_lem g (and_left (is_nothing g) (ltb 0 repeats) e), no_reply j repeats, one_less j repeats (some_repeats g repeats e))

-- ---- replies

-- while any poll is left
pub one_poll_less : (c : Settings) (k : ℕ) (fcb : Bool) (ts : List Entry) (left : ℕ) → (left ≡ 0 → ⊥) → ask_for c k (job.Poll (left - 1)) (not fcb) c.repeats ts ≡ poll_again c k fcb left ts
one_poll_less c k fcb ts zero h = absurd (h refl)
one_poll_less c k fcb ts (suc n) h = let e : suc n - 1 ≡ n = omega arith in ap (λ (m : ℕ). ask_for c k (job.Poll m) (not fcb) c.repeats ts) e

-- the template behind k
pub behind : (c : Settings) (k : ℕ) (fcb : Bool) (repeats : ℕ) (book : List Entry)
    → ask_for c (k + 1) job.Write fcb repeats (drop (k + 1 - 1) book) ≡ ask_for c (suc k) job.Write fcb repeats (drop k book)
behind c k fcb repeats book =
    let place : k + 1 - 1 ≡ k = omega arith in
    let next : k + 1 ≡ suc k = omega arith in
    ap (λ (n : ℕ). ask_for c (k + 1) job.Write fcb repeats (drop n book)) place
    ∙ ap (λ (n : ℕ). ask_for c n job.Write fcb repeats (drop k book)) next
