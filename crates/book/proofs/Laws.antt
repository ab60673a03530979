-- The laws of a book.
use Rattle.std.specs.Prelude.{◌≡◌, List, ℕ, ◌≤◌, ◌<◌, length, get_or, Ok}
use Rattle.std.proofs.Common.{sym, ap, ◌∙◌, arith, le-ltb}
use Rattle.octets.specs.Front.{fine}
use Rattle.book.specs.Reading.{counted, slots_of, lengths_of, bodies_of, read_of}
use Rattle.book.specs.Template.{listed_of, template_of}
use Rattle.book.specs.Writing.{book_bytes, verdict_of}
use Rattle.book.specs.Contents.{Entry, templates_of, InOrder, slots_in, lengths_in, bodies_in, bytes_for, stretch_of, Found}
use Rattle.book.proofs.Lemmas.Good.{same_count}
use Rattle.book.proofs.Lemmas.Parts.{slots_back, lengths_back, bodies_back, slots_long, parts_again}
use Rattle.book.proofs.Lemmas.Fit.{Fit, verdict_fit, fit_verdict, fit_read, accepted}
use Rattle.book.proofs.Lemmas.Entries.{by_count, by_slots, by_lengths, by_bodies, by_order, by_index, in_order, in_count, in_sum, in_templates}
use Rattle.book.proofs.Lemmas.Found.{found}

-- ---- slots, lengths and bodies

-- (a) What is written reads back: as a book of as many templates, and template i (counted from 0) with its slot, its length
-- and its stretch of the bodies.
pub record ReadsBack (slots lengths bodies : List ℕ) : Type 0 where
  pub book : read_of (book_bytes slots lengths bodies) ≡ Ok (length slots)
  pub each : (i : ℕ) → i < length slots
      → Found (book_bytes slots lengths bodies) i (get_or slots i 0) (get_or lengths i 0) (stretch_of lengths bodies i)

pub reads_back : (slots lengths bodies : List ℕ) → verdict_of slots lengths bodies ≡ fine → ReadsBack slots lengths bodies
reads_back xs ns b v =
    let f = verdict_fit xs ns b v in
    let same = same_count f.good in
    let e = fit_read xs ns b f in
    record {
      book = e;
      each = λ i h. rw (slots_back xs ns b same, lengths_back xs ns b same, bodies_back xs ns b same) at (found (book_bytes xs ns b) e i h);
    }

-- (b) What is read may be written: the slots, lengths and bodies that stand in it give the same bytes.
pub record WritesBack (s : List ℕ) : Type 0 where
  pub taken : verdict_of (slots_of s) (lengths_of s) (bodies_of s) ≡ fine
  pub same : book_bytes (slots_of s) (lengths_of s) (bodies_of s) ≡ s

pub writes_back : (s : List ℕ) {n : ℕ} → read_of s ≡ Ok n → WritesBack s
writes_back s e =
    let a = accepted s e in
    record { taken = fit_verdict (slots_of s) (lengths_of s) (bodies_of s) a.fit; same = parts_again s a.table }

-- ---- templates

-- An accepted book has 1 to 16 templates, as many as it says, in order.
pub templates_in_order : (s : List ℕ) {n : ℕ} → read_of s ≡ Ok n → InOrder 0 (templates_of s) × (length (templates_of s) ≡ n) × (1 ≤ n) × (n ≤ 16)
templates_in_order s e =
    let a = accepted s e in
    let f = a.fit in
    let n = slots_long s ∙ a.count in (
      by_order (bodies_of s) f.good (omega (arith, f.sum)),
      by_count (bodies_of s) f.good ∙ n,
      omega (arith, f.some),
      omega (arith, f.most),
    )

-- Template i (counted from 0) is found with its slot and its body, which lies inside; d is what would stand past the end.
pub template_is : (s : List ℕ) {n : ℕ} → read_of s ≡ Ok n → (d : Entry) (i : ℕ) → i < n
    → let t = get_or (templates_of s) i d in Found s i t.slot (length t.body) t.body
template_is s e d i h =
    let a = accepted s e in
    let n = slots_long s ∙ a.count in
    let g = found s e i h in
    rw (by_index (bodies_of s) d i a.fit.good (omega arith), g.long) g

-- By the table alone the templates of an accepted book are found as reading finds them.
pub listed_is : (s : List ℕ) {n : ℕ} → read_of s ≡ Ok n → (k : ℕ) → listed_of s k ≡ template_of s k
unfolding listed_of template_of
listed_is s e k =
    let a = accepted s e in
    let most : counted s ≤ 16 = omega (arith, a.fit.most, slots_long s) in
    let some : 1 ≤ length s = omega (arith, a.table) in
    simp (e, sym a.count, le-ltb _ _ some, le-ltb _ _ most, le-ltb _ _ a.table)

-- Templates in order, 1 to 16 of them, make a book that has those templates.
pub book_bytes_lem : (ts : List Entry) → InOrder 0 ts → 1 ≤ length ts → length ts ≤ 16
    → (read_of (bytes_for ts) ≡ Ok (length ts)) × (templates_of (bytes_for ts) ≡ ts)
book_bytes_lem ts o some most =
    let xs : List ℕ = slots_in ts in
    let ns : List ℕ = lengths_in ts in
    let b : List ℕ = bodies_in ts in
    let n = in_count ts in
    let good = in_order 0 ts o in
    let same = same_count good in
    let f : Fit xs ns b = record { some = omega arith; most = omega arith; good = good; sum = in_sum ts } in (
      fit_read xs ns b f ∙ ap Ok n,
      rw (slots_back xs ns b same, lengths_back xs ns b same, bodies_back xs ns b same) (in_templates ts),
    )

-- And the templates of an accepted book make that book.
pub bytes_again : (s : List ℕ) {n : ℕ} → read_of s ≡ Ok n → bytes_for (templates_of s) ≡ s
bytes_again s e =
    let a = accepted s e in
    let f = a.fit in
    rw (by_slots (bodies_of s) f.good, by_lengths (bodies_of s) f.good (omega (arith, f.sum)), by_bodies (bodies_of s) f.good f.sum)
    (parts_again s a.table)
