-- `book_reader::table::table_in` meets its contract. The loop's invariant is that of a table that is judged, over every second byte.
use Rattle.std.specs.Prelude.{Ok}
use mathlib.Core.Path.{◌≡◌, ap}
use mathlib.Core.Bool.{not}
use mathlib.Core.List.{List, [], ◌∷◌}
use Prim.Native.Nat.{ℕ, ◌+◌, ◌*◌, ◌-◌, ◌≤◌, ◌<◌}
use native.Mathlib.Omega.{arith}
use lib.ListN.{get_or}
use Rattle.book.specs.Table.{every_second, Table}
use Rattle.book.proofs.Lemmas.Pairs.{second_next}
use Rattle.book.proofs.Lemmas.Running.{Running, begins, goes, breaks, done}
use Rattle.book_reader.proofs.Pairs.{PairsOf, table_pairs}
use Rattle.book_reader.proofs.table.table_in.Goals as goal

-- the pairs of a table, n in all
module _ {whole : Table} {k least total n : ℕ} {s : List ℕ} {pairs : List (List ℕ)} (p : PairsOf n s pairs) where
  next_in : k < n → Running whole k least total (every_second (n - k) (1 + 2 * k) s) (every_second (n - k) (2 + 2 * k) s)
      → Running whole k least total (get_or (get_or pairs k []) 0 0 ∷ every_second (n - (k + 1)) (1 + 2 * (k + 1)) s)
      (get_or (get_or pairs k []) 1 0 ∷ every_second (n - (k + 1)) (2 + 2 * (k + 1)) s)
  next_in h r = rw (p.slot k h, p.len k h) (rw (second_next n k 1 s h, second_next n k 2 s h) at r)

none_in : {whole : Table} {k least total : ℕ} (n : ℕ) (s : List ℕ) → n ≤ k
    → Running whole k least total (every_second (n - k) (1 + 2 * k) s) (every_second (n - k) (2 + 2 * k) s) → Ok total ≡ whole
none_in {k = k} n s h r = let e : n - k ≡ 0 = omega arith in done (rw e at r)

pub loop-slot-init : goal.loop-slot-init
loop-slot-init c =
    let a = c.args in
    let e : a.n - 0 ≡ a.n = omega arith in
    rw e (begins (every_second a.n 1 a.bytes.now) (every_second a.n 2 a.bytes.now))

-- it is good: the invariant holds again, and has the bounds for what is added
pub loop-slot-preserved : goal.loop-slot-preserved
loop-slot-preserved c =
    let p = table_pairs c.args.n c.args.bytes.now c.requires.1 c.as_chunks.result.0.now c.as_chunks.ensures.front c.as_chunks.ensures.front_len in
    goes (next_in p (omega (arith, p.count)) c.loop-slot.invariant) c.good_pair.ensures (ap not c.if-not-good_pair.false)

pub overflow_add-least : goal.overflow_add-least
overflow_add-least c =
    let p = table_pairs c.args.n c.args.bytes.now c.requires.1 c.as_chunks.result.0.now c.as_chunks.ensures.front c.as_chunks.ensures.front_len in
    let next = goes (next_in p (omega (arith, p.count)) c.loop-slot.invariant) c.good_pair.ensures (ap not c.if-not-good_pair.false) in
    omega (arith, next.low)

pub returns-then-not-good_pair : goal.returns-then-not-good_pair
returns-then-not-good_pair c =
    let p = table_pairs c.args.n c.args.bytes.now c.requires.1 c.as_chunks.result.0.now c.as_chunks.ensures.front c.as_chunks.ensures.front_len in
    breaks (next_in p (omega (arith, p.count)) c.loop-slot.invariant) c.good_pair.ensures (ap not c.if-not-good_pair.true)

pub returns : goal.returns
returns c =
    let p = table_pairs c.args.n c.args.bytes.now c.requires.1 c.as_chunks.result.0.now c.as_chunks.ensures.front c.as_chunks.ensures.front_len in
    none_in c.args.n c.args.bytes.now (omega (arith, p.count)) c.loop-slot.invariant
