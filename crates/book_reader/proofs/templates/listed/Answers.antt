-- `book_reader::templates::listed` meets its contract. Where the table stands in the bytes, it has the slot and the lengths.
use Rattle.std.specs.Prelude.{Ok}
use mathlib.Core.Path.{◌≡◌, ap, ◌∙◌}
use mathlib.Core.List.{List}
use Prim.Native.Nat.{ℕ, ◌+◌, ◌-◌, ◌*◌, ◌≤◌}
use native.Mathlib.Omega.{arith}
use lib.ListN.{get_or, take}
use borrow.Author.Tests.{le-ltb}
use Rattle.book.specs.Table.{every_second, sum_of}
use Rattle.book.specs.Reading.{counted, slots_of, lengths_of}
use Rattle.book.specs.Template.{entry_at, listed_of}
use Rattle.book.proofs.Lemmas.Pairs.{second_at, second_take}
use Rattle.book_reader.proofs.templates.listed.Goals as goal

-- template k by the bytes of the whole
entry_at_lem : (s : List ℕ) (k : ℕ) → 1 ≤ k → k ≤ counted s
    → entry_at s (k - 1) ≡ Ok (record { slot = get_or s (2 * k - 1) 0; start = 1 + 2 * counted s + sum_of (every_second (k - 1) 2 s); len = get_or s (2 * k) 0 })
unfolding entry_at
entry_at_lem s k some most =
    let m : ℕ = counted s in
    let at : 1 + 2 * (k - 1) ≡ 2 * k - 1 = omega arith in
    let next : 2 + 2 * (k - 1) ≡ 2 * k = omega arith in
    let slot : get_or (slots_of s) (k - 1) 0 ≡ get_or s (2 * k - 1) 0 = second_at m (k - 1) 1 s (omega arith) ∙ ap (λ (j : ℕ). get_or s j 0) at in
    let len : get_or (lengths_of s) (k - 1) 0 ≡ get_or s (2 * k) 0 = second_at m (k - 1) 2 s (omega arith) ∙ ap (λ (j : ℕ). get_or s j 0) next in
    let before : take (k - 1) (lengths_of s) ≡ every_second (k - 1) 2 s = second_take m (k - 1) 2 s (omega arith) in
    simp (slot, len, before)

pub returns : goal.returns
unfolding listed_of
returns c =
    simp (
      le-ltb _ _ c.if-bytes-lt1.false,
      le-ltb _ _ c.if-k-lt1.false,
      le-ltb _ _ c.if-count-k.false,
      le-ltb _ _ c.if-count-gt16.false,
      le-ltb _ _ c.if-bytes-count.false,
      c.sum_before-before.ensures.0,
      entry_at_lem c.args.bytes.now c.args.k c.if-k-lt1.false c.if-count-k.false,
    )
