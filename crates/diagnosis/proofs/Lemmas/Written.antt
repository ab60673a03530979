-- A block that was written, where it stands: found by the walk, and counted.
use Rattle.std.specs.Prelude.{◌≡◌, refl, List, ◌∷◌, ◌++◌, ℕ, suc, ◌+◌, ◌-◌, ◌*◌, ◌≤◌, ◌<◌, get_or, take, drop, Ok}
use Rattle.std.proofs.Common.{sym, ap, ap₂, ◌∙◌, arith, add-zero, add-one, drop_at, get_or-append-add, le-leb}
use Rattle.std.proofs.Math.ListN.{length, length-append}
use Rattle.std.proofs.Math.Seq.{take-append_seam, drop-append-add}
use Rattle.octets.specs.Front.{fine}
use Rattle.octets.specs.Part.{part_of}
use Rattle.diagnosis.specs.Block.{extent, found_at}
use Rattle.diagnosis.specs.Map.{set_of, lowest_of}
use Rattle.diagnosis.specs.Walk.{position, fields_of, behind, block_of, next_of}
use Rattle.diagnosis.specs.Reading.{blocks_in, counted}
use Rattle.diagnosis.specs.Writing.{head_of}
use Rattle.diagnosis.specs.Contents.{Item, device, modules, channel, item_in, item_bytes, item_verdict, block_for, joined, Writable, none, one_more}
use Rattle.diagnosis.proofs.Lemmas.Blocks.{blocks_more}
use Rattle.diagnosis.proofs.Lemmas.Steps.{inner_step}
use Rattle.diagnosis.proofs.Lemmas.Back.{sizes, fields, found_behind, found_device, found_module, found_channel, fields_back}
use Rattle.diagnosis.specs.declared.block.Kind.TheVariants.{Device, Module, Channel}
use Rattle.diagnosis.specs.declared.block.Extent.{Extent}
use Rattle.diagnosis.specs.declared.walk.Block as TheBlock
use Rattle.diagnosis.specs.declared.walk.Block.TheVariants as block
use Rattle.diagnosis.specs.declared.walk.Step.TheVariants as step

-- what is found where a written block begins
abbrev pub extent_for : Item → Extent
extent_for (device s) = extent Device (length s + 1)
extent_for (modules s) = extent Module (length s + 1)
extent_for (channel c) = extent Channel 3

record Front (x : Item) (rest : List ℕ) : Type 0 where
  pub found : found_at (item_bytes x ++ rest) 0 ≡ Ok (extent_for x)
  pub len : (extent_for x).len ≡ length (item_bytes x)
  pub some : 1 ≤ length (item_bytes x)

front : (x : Item) (rest : List ℕ) → item_verdict x ≡ fine → Front x rest
front (device s) rest v = record { found = found_device s rest (sizes s v); len = add-one (length s); some = omega arith }
front (modules s) rest v = record { found = found_module s rest (sizes s v); len = add-one (length s); some = omega arith }
front (channel c) rest v = record { found = found_channel c (fields c v) rest; len = refl; some = omega arith }

module _ (before after : List ℕ) where
  abbrev whole : Item → List ℕ
  whole x = before ++ (item_bytes x ++ after)

  -- the bytes behind a block's header
  bytes_behind : (head : ℕ) (s : List ℕ) → take (length s) (drop (length before + 1) (before ++ ((head ∷ s) ++ after))) ≡ s
  bytes_behind head s = ap (take (length s)) (drop-append-add before ((head ∷ s) ++ after) 1) ∙ take-append_seam s after

  part_behind : (head : ℕ) (s : List ℕ) → part_of (before ++ ((head ∷ s) ++ after)) (length before + 1) (length s) ≡ s
  unfolding part_of
  part_behind head s =
      let inside : length before + 1 + length s ≤ length (before ++ ((head ∷ s) ++ after)) =
      rw (length-append before ((head ∷ s) ++ after), length-append s after) (omega arith) in
      simp (le-leb _ _ inside) (bytes_behind head s)

  -- the block that is found says what was written
  says : (x : Item) → item_verdict x ≡ fine → block_of (whole x) (length before) (extent_for x) ≡ block_for (length before) x
  says (device s) v =
      let n : length s + 1 - 1 ≡ length s = omega arith in
      ap (block.Device (length before + 1)) n
  says (modules s) v =
      let n : length s + 1 - 1 ≡ length s = omega arith in
      let map : behind (whole (modules s)) (length before) (length s + 1) ≡ s =
      ap (λ (i : ℕ). take i (drop (length before + 1) (whole (modules s)))) n ∙ bytes_behind _ s in
      ap₂ (λ (i : ℕ) (m : List ℕ). block.Module (length before + 1) i (set_of m) (lowest_of m)) n map
  says (channel c) v =
      let at : (i : ℕ) → get_or (whole (channel c)) (length before + i) 0 ≡ get_or (item_bytes (channel c) ++ after) i 0 =
      λ i. get_or-append-add before (item_bytes (channel c) ++ after) i 0 in
      let z : length before + 0 ≡ length before = omega arith in
      let head : get_or (whole (channel c)) (length before) 0 ≡ head_of Channel c.«module» = ap (λ (i : ℕ). get_or (whole (channel c)) i 0) (sym z) ∙ at 0 in
      ap₂ (λ (x y : ℕ). block.Channel (fields_of x y (get_or (whole (channel c)) (length before + 2) 0))) head (at 1)
      ∙ ap (λ (x : ℕ). block.Channel (fields_of (head_of Channel c.«module») (c.direction * 64 + c.channel) x)) (at 2)
      ∙ ap block.Channel (fields_back c (fields c v))

  pub carries : (x : Item) → item_in (before ++ (item_bytes x ++ after)) (block_for (length before) x) ≡ x
  carries (device s) = ap device (part_behind _ s)
  carries (modules s) = ap modules (part_behind _ s)
  carries (channel c) = refl

  -- so the walk steps over it
  pub stepped : 6 ≤ length before → (x : Item) → item_verdict x ≡ fine
      → next_of (before ++ (item_bytes x ++ after)) (length before)
      ≡ Ok (step.Block (block_for (length before) x) (position (length before + length (item_bytes x))))
  stepped l x v =
      let f = front x after v in
      let high : length before < length (whole x) =
      rw (length-append before (item_bytes x ++ after), length-append (item_bytes x) after) (omega (arith, f.some)) in
      inner_step (whole x) (length before) (record { low = l; high = high }) (found_behind before (item_bytes x ++ after) ∙ f.found)
      ∙ ap₂ (λ (b : TheBlock.Block) (n : ℕ). Ok (step.Block b (position (length before + n)))) (says x v) f.len

-- and so it is counted, with those behind it
pub after_blocks : (n : ℕ) {xs : List Item} → Writable xs → counted n (blocks_in (joined xs) 0) ≡ Ok (n + length xs)
unfolding blocks_in
after_blocks n none = ap Ok (sym (add-zero n))
after_blocks n (one_more {x} {xs} v w) =
    let f = front x (joined xs) v in
    let long : 0 < length (item_bytes x ++ joined xs) = omega (arith, f.some, length-append (item_bytes x) (joined xs)) in
    let all : length (item_bytes x) ≡ 0 + (extent_for x).len = omega (arith, f.len) in
    let sum : n + 1 + length xs ≡ n + suc (length xs) = omega arith in
    ap (counted n) (blocks_more (item_bytes x ++ joined xs) 0 long f.found)
    ∙ ap (λ (l : List ℕ). counted (n + 1) (blocks_in l 0)) (drop_at (item_bytes x) (joined xs) (0 + (extent_for x).len) all)
    ∙ after_blocks (n + 1) w
    ∙ ap Ok sum
