-- Slots, lengths and bodies that make a book: what the writer's verdict and the reader's answer come to.
use Rattle.std.specs.Prelude.{◌≡◌, not, List, ℕ, ◌+◌, ◌*◌, ◌≤◌, eqb, ltb, Ok, Err}
use Rattle.std.proofs.Math.Path.{refl, sym}
use Rattle.std.proofs.Common.{ap, ◌∙◌, subst, zero-add}
use native.Mathlib.Omega.{arith}
use Rattle.std.proofs.Math.ListN.{length}
use borrow.Author.Tests.{ltb-false, le-ltb, eqb-true, eq-eqb, not-false}
use Rattle.octets.proofs.Choice.{by_pick}
use Rattle.octets.specs.Front.{fine}
use Rattle.octets.proofs.Fixed.{fault_fine, passed}
use Rattle.book.specs.Table.{sum_of, table_of, Table}
use Rattle.book.specs.Reading.{counted, slots_of, lengths_of, bodies_of, bodies_by, read_of, Reading}
use Rattle.book.specs.Writing.{book_bytes, bodies_verdict, verdict_of}
use Rattle.book.proofs.Lemmas.Good.{Good, same_count, table_taken, table_good}
use Rattle.book.proofs.Lemmas.Parts.{slots_back, lengths_back, bodies_back, book_long, slots_long, lengths_long}

pub record Fit (xs ns b : List ℕ) : Type 0 where
  pub some : 1 ≤ length xs
  pub most : length xs ≤ 16
  pub good : Good 0 xs ns
  pub sum : length b ≡ sum_of ns

-- ---- the writer's verdict

module _ (xs ns b : List ℕ) where
  by_table : 1 ≤ length xs → length xs ≤ 16 → length ns ≡ length xs → (t : Table) → table_of 0 0 xs ns ≡ t → bodies_verdict (length b) t ≡ fine → Fit xs ns b
  by_table some most same (Ok t) e v =
      let p = passed 32 (not (eqb (length b) t)) fine v in
      let j = table_good 0 0 xs ns same e in
      record { some = some; most = most; good = j.good; sum = eqb-true (length b) t (not-false _ p.0) ∙ j.sum ∙ zero-add (sum_of ns) }
  by_table some most same (Err r) e v = absurd (fault_fine v)

  pub verdict_fit : verdict_of xs ns b ≡ fine → Fit xs ns b
  unfolding verdict_of
  verdict_fit v =
      let p = passed 32 (ltb (length xs) 1) _ v in
      let q = passed 32 (ltb 16 (length xs)) _ p.1 in
      let r = passed 32 (not (eqb (length ns) (length xs))) _ q.1 in
      by_table (ltb-false _ _ p.0) (ltb-false _ _ q.0) (eqb-true _ _ (not-false _ r.0)) (table_of 0 0 xs ns) refl r.1

  table_total : Fit xs ns b → table_of 0 0 xs ns ≡ Ok (length b)
  table_total f = table_taken 0 f.good ∙ ap Ok (zero-add (sum_of ns) ∙ sym f.sum)

  pub fit_verdict : Fit xs ns b → verdict_of xs ns b ≡ fine
  unfolding verdict_of
  fit_verdict f =
      let same = same_count f.good in
      simp (le-ltb _ _ f.some, le-ltb _ _ f.most, eq-eqb _ _ same, table_total f, eq-eqb (length b) (length b) refl)

  -- ---- the reader's answer

  pub fit_read : Fit xs ns b → read_of (book_bytes xs ns b) ≡ Ok (length xs)
  unfolding read_of bodies_by
  fit_read f =
      let same = same_count f.good in
      let long = book_long xs ns b same in
      let a : 1 ≤ length (book_bytes xs ns b) = omega arith in
      let e : 1 + 2 * length xs ≤ length (book_bytes xs ns b) = omega arith in
      let z : length b ≤ length b = omega arith in
      simp (le-ltb _ _ a, le-ltb _ _ f.some, le-ltb _ _ f.most, le-ltb _ _ e, slots_back xs ns b same, lengths_back xs ns b same, bodies_back xs ns b same, table_total f, le-ltb _ _ z)

pub record Accepted (s : List ℕ) (n : ℕ) : Type 0 where
  pub count : counted s ≡ n
  pub table : 1 + 2 * counted s ≤ length s
  pub fit : Fit (slots_of s) (lengths_of s) (bodies_of s)

module _ (s : List ℕ) where
  abbrev AcceptedIf : Reading → Type 0
  AcceptedIf (Ok n) = Accepted s n
  AcceptedIf (Err r) = Unit

  by_total : 1 ≤ counted s → counted s ≤ 16 → 1 + 2 * counted s ≤ length s → (t : Table) → table_of 0 0 (slots_of s) (lengths_of s) ≡ t
      → AcceptedIf (bodies_by (length (bodies_of s)) (counted s) t)
  unfolding bodies_by
  by_total some most table (Err r) e = tt
  by_total some most table (Ok t) e =
      let n = slots_long s in
      let j = table_good 0 0 (slots_of s) (lengths_of s) (lengths_long s ∙ sym n) e in
      by_pick AcceptedIf (ltb (length (bodies_of s)) t) (λ _. tt)
      (λ p. by_pick AcceptedIf (ltb t (length (bodies_of s))) (λ _. tt)
      (λ q.
      record {
        count = refl;
        table = table;
        fit =
            record {
              some = omega arith;
              most = omega arith;
              good = j.good;
              sum = omega (arith, ltb-false (length (bodies_of s)) t p, ltb-false t (length (bodies_of s)) q, j.sum);
            };
      }))

  accepted_if : AcceptedIf (read_of s)
  unfolding read_of
  accepted_if =
      by_pick AcceptedIf (ltb (length s) 1) (λ _. tt)
      (λ _. by_pick AcceptedIf (ltb (counted s) 1) (λ _. tt)
      (λ a. by_pick AcceptedIf (ltb 16 (counted s)) (λ _. tt)
      (λ b. by_pick AcceptedIf (ltb (length s) (1 + 2 * counted s)) (λ _. tt)
      (λ c. by_total (ltb-false _ _ a) (ltb-false _ _ b) (ltb-false _ _ c) (table_of 0 0 (slots_of s) (lengths_of s)) refl))))

  pub accepted : {n : ℕ} → read_of s ≡ Ok n → Accepted s n
  accepted e = subst AcceptedIf e accepted_if
