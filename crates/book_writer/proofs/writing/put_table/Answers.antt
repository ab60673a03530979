-- `book_writer::writing::put_table` meets its contract. The loop's invariant: the pairs that the iterator has left, stored behind those that are, make the whole.
use mathlib.Core.Path.{◌≡◌, refl, ap, ap₂, ◌∙◌}
use mathlib.Core.List.{List, ◌∷◌}
use Prim.Native.Nat.{ℕ, suc, ◌+◌, ◌*◌}
use native.Mathlib.Omega.{arith}
use lib.ListN.{length, set, length-set}
use lib.Seq.{sets}
use borrow.Author.Rules.{rules}
use Rattle.std.specs.Iterator.Adapters.{enumerate_source, enumerate_count, zip_first, zip_second}
use Rattle.std.specs.Prelude.{None}
use Rattle.std.specs.Slice.Iter.{iter_rest}
use Rattle.std.proofs.lemmas.Iterator.{empty_from_Zip}
use Rattle.octets.proofs.Front.{stores}
use Rattle.book.specs.Writing.{pairs_of}
use Rattle.book.proofs.Lemmas.Parts.{pairs_long}
use Rattle.book_writer.proofs.writing.put_table.Goals as goal

-- one pair more
goes : (out : List ℕ) (k x n : ℕ) (left : List ℕ) → sets (set (set out (1 + 2 * k) x) (2 + 2 * k) n) (1 + 2 * (k + 1)) left ≡ sets out (1 + 2 * k) (x ∷ n ∷ left)
goes out k x n left =
    let a : 2 + 2 * k ≡ suc (1 + 2 * k) = omega arith in
    let b : 1 + 2 * (k + 1) ≡ suc (suc (1 + 2 * k)) = omega arith in
    ap₂ (λ (i j : ℕ). sets (set (set out (1 + 2 * k) x) i n) j left) a b

pub loop-k-init : goal.loop-k-init
loop-k-init c =
    let it = c.into_iter-k-iterator.result in
    let none : enumerate_count it ≡ 0 = search rules in
    let first : iter_rest (zip_first (enumerate_source it)) ≡ c.args.slots.now = search rules in
    let second : iter_rest (zip_second (enumerate_source it)) ≡ c.args.lengths.now = search rules in
    rw (none, first, second) (omega arith, omega arith, refl, refl)

pub bounds-out-k : goal.bounds-out-k
bounds-out-k c =
    let z = c.in-Some.ensures.steps in
    let same = length-set c.args.out.now 0 (length c.args.slots.now) in
    let long = pairs_long c.args.slots.now c.args.lengths.now c.requires.1 in
    omega (arith, z.1, ap length z.0.0)

pub bounds-out-k-in-loop-k : goal.bounds-out-k-in-loop-k
bounds-out-k-in-loop-k c =
    let z = c.in-Some.ensures.steps in
    let same = length-set c.args.out.now 0 (length c.args.slots.now) in
    let long = pairs_long c.args.slots.now c.args.lengths.now c.requires.1 in
    simp length-set (omega (arith, z.1, ap length z.0.0))

pub loop-k-preserved : goal.loop-k-preserved
loop-k-preserved c =
    let z = c.in-Some.ensures.steps in
    let l = c.loop-k in
    let left = pairs_of (iter_rest (zip_first (enumerate_source c.next.new.self))) (iter_rest (zip_second (enumerate_source c.next.new.self))) in
    let next : enumerate_count c.next.new.self ≡ c.in-Some.k + 1 = omega (arith, z.1, z.2) in
    let before = rw (z.0.0, z.0.1, ← z.1) at l.invariant.3 in (
      omega (arith, z.1, z.2, ap length z.0.0),
      omega (arith, ap length z.0.0, ap length z.0.1),
      simp length-set (simp length-set at l.invariant.2),
      rw next (goes l.out c.in-Some.k c.in-Some.slot.now c.in-Some.len.now left ∙ before),
    )

pub returns : goal.returns
returns c =
    let slots : List ℕ = c.args.slots.now in
    let lengths : List ℕ = c.args.lengths.now in
    let l = c.loop-k in
    let long = pairs_long slots lengths c.requires.1 in
    let none = empty_from_Zip (enumerate_source l.k-iterator) (enumerate_source c.next.new.self) None refl c.in-None.ensures.steps.0 (omega arith) in
    let all = stores (length slots ∷ pairs_of slots lengths) c.args.out.now c.requires.2 in
    let done : l.out ≡ sets c.args.out.now 0 (length slots ∷ pairs_of slots lengths) = rw none.0 at l.invariant.3 in
    record { counted = omega arith; bytes = done ∙ all.bytes }
