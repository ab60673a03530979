-- What a step that is not refused has: its settings, its book, and the template of its state.
use Rattle.std.specs.Prelude.{ℕ, ◌≤◌, ◌≡◌, refl, Bool, List, ltb, length, Ok, Err}
use Rattle.std.proofs.Common.{sym, ap, ◌∙◌, ltb-false}
use Rattle.octets.specs.Choice.{pick}
use Rattle.octets.specs.Front.{Verdict, fine, fault}
use Rattle.octets.specs.Fixed.{judged}
use Rattle.octets.proofs.Fixed.{passed, fault_fine}
use Rattle.book.specs.Contents.{templates_of}
use Rattle.book.proofs.Laws.{templates_in_order}
use Rattle.book.specs.Reading.{read_of, Reading}
use Rattle.protocol.specs.Controller.{settings_verdict, book_verdict, wrong_fcb, too_many_polls, state_verdict, verdict_of}
use Rattle.protocol.specs.Verdicts.{Settled}
use Rattle.protocol.proofs.Lemmas.Accepted.{both_fine, settled}
use Rattle.protocol.specs.declared.controller.Settings.{Settings}
use Rattle.protocol.specs.declared.controller.Job.{Job}
use Rattle.protocol.specs.declared.controller.Controller.{Controller}
use Rattle.protocol.specs.declared.controller.Controller.TheVariants.{Asking}

-- the book is accepted, with as many templates as it says
abbrev pub Accepted : (book : List ℕ) → Type 0
Accepted s = read_of s ≡ Ok (length (templates_of s))

-- and template k, counted from 1, is one of them
pub record Standing (s : List ℕ) (k : ℕ) : Type 0 where
  pub book : Accepted s
  pub some : 1 ≤ k
  pub most : k ≤ length (templates_of s)

module _ (c : Settings) (s : List ℕ) (o : Controller) (e : verdict_of c s o ≡ fine) where
  abbrev Behind : Verdict
  Behind = judged fault (book_verdict (read_of s)) (state_verdict c (length (templates_of s)) o)

  behind : (settings_verdict c ≡ fine) × (Behind ≡ fine)
  unfolding verdict_of
  behind = both_fine (settings_verdict c) Behind e

  pub settings_in_lem : Settled c
  settings_in_lem = settled c behind.0

  state : (book_verdict (read_of s) ≡ fine) × (state_verdict c (length (templates_of s)) o ≡ fine)
  state = both_fine (book_verdict (read_of s)) (state_verdict c (length (templates_of s)) o) behind.1

  pub book_in : Accepted s
  book_in = by (read_of s) refl state.0
    where
      by : (r : Reading) → read_of s ≡ r → book_verdict r ≡ fine → Accepted s
      by (Ok n) q f = q ∙ ap Ok (sym (templates_in_order s q).1)
      by (Err r) q f = absurd (fault_fine f)

-- the template that was asked for last
in_book : (c : Settings) (n k : ℕ) (j : Job) (fcb : Bool) (repeats : ℕ) → state_verdict c n (Asking k j fcb repeats) ≡ fine → (1 ≤ k) × (k ≤ n)
unfolding state_verdict
in_book c n k j fcb repeats e =
    let bit : Verdict = pick (wrong_fcb c k j fcb) (fault 12) fine in
    let often : Verdict = pick (ltb c.repeats repeats) (fault 12) bit in
    let polls : Verdict = pick (too_many_polls c j) (fault 12) often in
    let some = passed 12 (ltb k 1) (pick (ltb n k) (fault 12) polls) e in
    let most = passed 12 (ltb n k) polls some.1 in
    (ltb-false k 1 some.0, ltb-false n k most.0)

pub standing : (c : Settings) (s : List ℕ) (k : ℕ) (j : Job) (fcb : Bool) (repeats : ℕ) → verdict_of c s (Asking k j fcb repeats) ≡ fine → Standing s k
standing c s k j fcb repeats e =
    let o : Controller = Asking k j fcb repeats in
    let p = in_book c (length (templates_of s)) k j fcb repeats (state c s o e).1 in
    record { book = book_in c s o e; some = p.0; most = p.1 }
