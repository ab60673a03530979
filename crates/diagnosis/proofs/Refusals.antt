-- Every refusal of a diagnosis, read, walked over or to be written, has a number of document 01's table.
use Rattle.std.specs.Prelude.{ℕ, zero, suc, ◌≡◌, refl, true, List, [], ◌∷◌, Ok, Err}
use Rattle.octets.proofs.Choice.{through, alike}
use Rattle.octets.specs.Refusals.{listed, numbered}
use Rattle.diagnosis.specs.Block.{sized_of, channel_of, found_by, found_at, Found}
use Rattle.diagnosis.specs.Reading.{Blocks, onward, blocks_in, counted, agreed, judge, answered, read_of, Count}
use Rattle.diagnosis.specs.Walk.{step_of, next_of}
use Rattle.diagnosis.specs.Writing.{verdict_by, verdict_of}
use Rattle.diagnosis.specs.declared.block.Extent.{Extent}
use Rattle.diagnosis.specs.declared.reading.Header.{Header}
use Rattle.diagnosis.specs.declared.reading.Reading as whole
use Rattle.diagnosis.specs.declared.walk.Step as walk

-- ---- one block

found_numbered : (s : List ℕ) (at : ℕ) → numbered (verdict_by (found_at s at)) ≡ true
unfolding found_by sized_of channel_of listed
found_numbered s at = simp (through (verdict_by {A = Extent}), through numbered, alike)

step_numbered : (s : List ℕ) (at : ℕ) (f : Found) → numbered (verdict_by f) ≡ true → numbered (verdict_by (step_of s at f)) ≡ true
step_numbered s at (Ok e) h = refl
step_numbered s at (Err r) h = h

pub next_numbered : (s : List ℕ) (at : ℕ) → numbered (verdict_by (next_of s at)) ≡ true
unfolding next_of listed
next_numbered s at =
    let h = step_numbered s at (found_at s at) (found_numbered s at) in
    simp (through (verdict_by {A = walk.Step}), through numbered, alike, h)

-- ---- all blocks

onward_numbered : (f : Found) (rest : ℕ → Blocks) (n : ℕ) → numbered (verdict_by f) ≡ true
    → ((n k : ℕ) → numbered (verdict_by (counted n (rest k))) ≡ true) → numbered (verdict_by (counted n (onward f rest))) ≡ true
onward_numbered (Ok e) rest n h all = all _ _
onward_numbered (Err r) rest n h all = h

counted_numbered : (s : List ℕ) (n skip : ℕ) → numbered (verdict_by (counted n (blocks_in s skip))) ≡ true
unfolding blocks_in
counted_numbered [] n skip = refl
counted_numbered (x ∷ xs) n zero = onward_numbered (found_at (x ∷ xs) 0) (blocks_in xs) n (found_numbered (x ∷ xs) 0) (counted_numbered xs)
counted_numbered (x ∷ xs) n (suc skip) = counted_numbered xs n skip

agreed_numbered : (status1 : ℕ) (c : Count) → numbered (verdict_by c) ≡ true → numbered (verdict_by (agreed status1 c)) ≡ true
unfolding listed
agreed_numbered status1 (Ok n) h = simp (through (verdict_by {A = ℕ}), through numbered, alike)
agreed_numbered status1 (Err r) h = h

-- ---- the whole

pub verdict_numbered : (h : Header) (blocks : List ℕ) → numbered (verdict_of h blocks) ≡ true
unfolding judge listed
verdict_numbered h blocks =
    let a = agreed_numbered h.status1 (counted 0 (blocks_in blocks 0)) (counted_numbered blocks 0 0) in
    simp (through (verdict_by {A = ℕ}), through numbered, alike, a)

answered_numbered : (h : Header) (c : Count) → numbered (verdict_by c) ≡ true → numbered (verdict_by (answered h c)) ≡ true
answered_numbered h (Ok n) e = refl
answered_numbered h (Err r) e = e

pub reading_numbered : (s : List ℕ) → numbered (verdict_by (read_of s)) ≡ true
unfolding read_of listed
reading_numbered s = simp (through (verdict_by {A = whole.Reading}), through numbered, alike, answered_numbered, verdict_numbered)
