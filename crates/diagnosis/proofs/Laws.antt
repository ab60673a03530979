-- The customer's second demand for a diagnosis and for each of its blocks, that a block's kind is its header's, and that reading and
-- the walk agree.
use Rattle.std.specs.Prelude.{◌≡◌, refl, true, List, ◌++◌, ℕ, ◌+◌, ◌-◌, ◌/◌, ◌≤◌, ◌<◌, get_or, take, drop, Ok, Err}
use Rattle.std.proofs.Common.{ap, ◌∙◌, zero-add, length-drop, take-append-drop, le-ltb}
use Rattle.std.proofs.Math.Path.{subst}
use native.Mathlib.Omega.{arith}
use Rattle.std.proofs.Math.ListN.{length}
use Rattle.octets.proofs.Choice.{never}
use Rattle.octets.specs.Bytes.{Bytes}
use Rattle.octets.proofs.Number.{number_bytes}
use Rattle.octets.specs.Front.{fine}
use Rattle.octets.proofs.Fixed.{fault_fine}
use Rattle.diagnosis.specs.Block.{kind_number, found_at}
use Rattle.diagnosis.specs.Walk.{position, block_of, next_of, Step}
use Rattle.diagnosis.specs.Reading.{good_status1, good_status2, good_status3, good_master, ext_diag_agrees, count_of, judge, header_of, answered, read_of, Count, Reading}
use Rattle.diagnosis.specs.Writing.{diagnosis_bytes, verdict_by, verdict_of}
use Rattle.diagnosis.specs.Contents.{Contents, diagnosis, contents_in, contents_of, bytes_for, verdict_for, accepted, Item, item_in, item_bytes, item_verdict, block_for, joined, Writable, Walks}
use Rattle.diagnosis.proofs.Lemmas.Found as kind
use Rattle.diagnosis.proofs.Lemmas.Found.{FindsAt, found_at_lem, Within, within_at, kind_of_lem}
use Rattle.diagnosis.proofs.Lemmas.Steps as step_case
use Rattle.diagnosis.proofs.Lemmas.Steps.{Steps, steps, walks, same}
use Rattle.diagnosis.proofs.Lemmas.Judged.{Good, judged}
use Rattle.diagnosis.proofs.Lemmas.Reads.{Reads, read, unread, reads, header_again}
use Rattle.diagnosis.proofs.Lemmas.Written.{carries, stepped, after_blocks}
use Rattle.diagnosis.proofs.Lemmas.Again.{sized_taken, sized_same, channel_taken, channel_same}
use Rattle.diagnosis.specs.declared.block.Kind.TheVariants.{Device, Module}
use Rattle.diagnosis.specs.declared.block.Extent.{Extent}
use Rattle.diagnosis.specs.declared.reading.Header.{Header}
use Rattle.diagnosis.specs.declared.walk.Block as TheBlock
use Rattle.diagnosis.specs.declared.walk.Position.{Position}
use Rattle.diagnosis.specs.declared.walk.Step.TheVariants as step

-- ---- a whole diagnosis

module _ (h : Header) (blocks : List ℕ) (i : h.ident < 65536) where
  header_back : header_of (diagnosis_bytes h blocks) ≡ h
  header_back = rw (number_bytes 2 h.ident i)

  -- The bytes of a header and blocks are read as these are judged, when they are written: with the same number where they are
  -- refused.
  pub read_as_judged : read_of (diagnosis_bytes h blocks) ≡ answered h (judge h blocks)
  unfolding read_of
  read_as_judged =
      let long : 6 ≤ length (diagnosis_bytes h blocks) = omega arith in
      simp (le-ltb _ _ long) (ap (λ (x : Header). answered x (judge x blocks)) header_back)

  as_judged : (c : Count) → verdict_by c ≡ fine → contents_in (diagnosis_bytes h blocks) (answered h c) ≡ diagnosis h blocks
  as_judged (Ok n) v = refl
  as_judged (Err r) v = absurd (fault_fine v)

  -- (a) What is written reads back as the same header and the same blocks. (Every ident number of 16 bits is below 65536.)
  pub reads_back : verdict_of h blocks ≡ fine → contents_of (diagnosis_bytes h blocks) ≡ diagnosis h blocks
  reads_back v = ap (contents_in (diagnosis_bytes h blocks)) read_as_judged ∙ as_judged (judge h blocks) v

-- (b) What is read may be written, and gives the same bytes again.
pub record Again (s : List ℕ) (x : Contents) : Type 0 where
  pub taken : verdict_for x ≡ fine
  pub same : bytes_for x ≡ s

again : (s : List ℕ) → Bytes s → {r : Reading} → Reads s r → accepted r ≡ true → Again s (contents_in s r)
again s b (read l g) a =
    record {
      taken = ap verdict_by (judged (header_of s) (drop 6 s) g);
      same = ap (λ (t : List ℕ). t ++ drop 6 s) (header_again s b l) ∙ take-append-drop 6 s;
    }
again s b unread a = absurd (never a)

pub writes_back : (s : List ℕ) → Bytes s → accepted (read_of s) ≡ true → Again s (contents_of s)
writes_back s b a = again s b (reads s) a

-- ---- one block

-- (a) What a block's writer stores, behind a header and other blocks and before any bytes, is read by the walk as that block, with
-- the same fields and the same part; the next position is right behind it.
pub record Back (s : List ℕ) (at : ℕ) (x : Item) : Type 0 where
  pub step : next_of s at ≡ Ok (step.Block (block_for at x) (position (at + length (item_bytes x))))
  pub carried : item_in s (block_for at x) ≡ x

pub block_reads_back : (before after : List ℕ) → 6 ≤ length before → (x : Item) → item_verdict x ≡ fine
    → Back (before ++ (item_bytes x ++ after)) (length before) x
block_reads_back before after l x v = record { step = stepped before after l x v; carried = carries before after x }

-- (b) What the walk reads as a block, written again from its fields and part, is taken and gives the same bytes: those from its
-- position up to the next.
pub record BlockAgain (s : List ℕ) (at : ℕ) (b : TheBlock.Block) (p : Position) : Type 0 where
  pub taken : item_verdict (item_in s b) ≡ fine
  pub same : item_bytes (item_in s b) ≡ take (p.at - at) (drop at s)
  pub onward : at < p.at
  pub inside : p.at ≤ length s

module _ (s : List ℕ) (b : Bytes s) (at : ℕ) where
  by_kind : {e : Extent} → Within (length s - at) e.len → FindsAt s at (Ok e) → BlockAgain s at (block_of s at e) (position (at + e.len))
  by_kind w (kind.device z g) =
      record { taken = sized_taken s at _ w; same = sized_same s at _ w Device (omega arith); onward = omega arith; inside = omega arith }
  by_kind w (kind.modules z g) =
      record { taken = sized_taken s at _ w; same = sized_same s at _ w Module (omega arith); onward = omega arith; inside = omega arith }
  by_kind w (kind.channel z g) =
      record { taken = channel_taken s b at g; same = channel_same s b at g z; onward = omega arith; inside = omega (arith, g.whole) }

  AgainAt : Step → Type 0
  AgainAt (Ok (step.Block c p)) = BlockAgain s at c p
  AgainAt (Ok step.End) = Unit
  AgainAt (Err r) = Unit

  by_step : {x : Step} → Steps s at x → AgainAt x
  unfolding AgainAt
  by_step (step_case.block i p) = by_kind (within_at s at p) (found_at_lem s at p)
  by_step (step_case.fault i p) = tt
  by_step (step_case.last e) = tt
  by_step (step_case.outside f) = tt

  pub block_writes_back : {c : TheBlock.Block} {p : Position} → next_of s at ≡ Ok (step.Block c p) → BlockAgain s at c p
  unfolding AgainAt
  block_writes_back e = subst AgainAt e (by_step (steps s at))

-- A block is found as the kind that its header has.
pub kind_in_header : (s : List ℕ) (at : ℕ) {e : Extent} → found_at s at ≡ Ok e → get_or s at 0 / 64 ≡ kind_number e.kind
kind_in_header s at p = kind_of_lem (found_at_lem s at p)

-- ---- reading and the walk

-- Blocks that were written one after the other are so many blocks: with an Ext_Diag that agrees, writing takes them.
pub written_blocks : (xs : List Item) → Writable xs → count_of (joined xs) ≡ Ok (length xs)
written_blocks xs w = after_blocks 0 w ∙ ap Ok (zero-add (length xs))

-- The walk from the first position comes to the number of blocks, or to the refusal, that reading counts, and to nothing else.
pub walk_counts : (s : List ℕ) → 6 ≤ length s → Walks s 6 0 (count_of (drop 6 s))
walk_counts s l = walks (length s - 6) s 6 0 (omega arith) l (omega arith)

pub walk_counts_only : (s : List ℕ) → 6 ≤ length s → {c : Count} → Walks s 6 0 c → count_of (drop 6 s) ≡ c
walk_counts_only s l w = same (walk_counts s l) w

-- Reading accepts exactly the bytes of which the header is good, the walk tiles the rest, and Ext_Diag agrees.
pub record Tiled (s : List ℕ) (n : ℕ) : Type 0 where
  pub long : 6 ≤ length s
  pub short : length s ≤ 244
  pub status1 : good_status1 (get_or s 0 0) ≡ true
  pub status2 : good_status2 (get_or s 1 0) ≡ true
  pub status3 : good_status3 (get_or s 2 0) ≡ true
  pub master : good_master (get_or s 3 0) ≡ true
  pub walk : Walks s 6 0 (Ok n)
  pub agrees : ext_diag_agrees (get_or s 0 0) n ≡ true

pub tiled_is_read : (s : List ℕ) (n : ℕ) → Tiled s n → read_of s ≡ Ok (record { header = header_of s; blocks = n })
unfolding read_of
tiled_is_read s n t =
    let g : Good (header_of s) (drop 6 s) n =
    record {
      short = rw length-drop (omega arith);
      status1 = t.status1;
      status2 = t.status2;
      status3 = t.status3;
      master = t.master;
      count = walk_counts_only s t.long t.walk;
      agrees = t.agrees;
    } in
    simp (le-ltb _ _ t.long) (ap (answered (header_of s)) (judged (header_of s) (drop 6 s) g))

TiledBy : List ℕ → Reading → Type 0
TiledBy s (Ok found) = Tiled s found.blocks
TiledBy s (Err r) = Unit

by_reads : (s : List ℕ) {r : Reading} → Reads s r → TiledBy s r
unfolding TiledBy
by_reads s (read l g) =
    record {
      long = l;
      short = omega (arith, g.short, length-drop 6 s);
      status1 = g.status1;
      status2 = g.status2;
      status3 = g.status3;
      master = g.master;
      walk = rw g.count at (walk_counts s l);
      agrees = g.agrees;
    }
by_reads s unread = tt

pub read_is_tiled : (s : List ℕ) {h : Header} {n : ℕ} → read_of s ≡ Ok (record { header = h; blocks = n }) → Tiled s n
unfolding TiledBy
read_is_tiled s e = subst (TiledBy s) e (by_reads s (reads s))
