-- Between the plain conditions on the bytes of a diagnosis and the tests of its definition.
use Rattle.std.specs.Prelude.{◌≡◌, List, leb, Ok, Err}
use Rattle.std.proofs.Common.{subst}
use Rattle.std.proofs.Math.Bool.{true}
use Prim.Native.Nat.{ℕ, suc, ◌+◌, ◌-◌, ◌/◌, ◌%◌, ◌≤◌, ◌<◌}
use native.Mathlib.Omega.{arith}
use Rattle.std.proofs.Math.ListN.{length, get_or}
use Rattle.std.proofs.Math.Dec.{eqb}
use borrow.Author.Tests.{eqb-true, eqb-false, ne_eqb, leb-true, le-leb, lt-leb, le-ltb}
use Rattle.octets.specs.Choice.{◌and◌, ◌or◌}
use Rattle.octets.proofs.Choice.{by_pick, by_or, and_left, and_right}
use Rattle.diagnosis.specs.Block.{extent, good_code, sized_of, channel_of, found_by, found_at}
use Rattle.diagnosis.specs.Reading.{good_status1, good_status2, good_status3, good_master, ext_diag_agrees, Count}
use Rattle.diagnosis.specs.Contents.{Walks, end, bad, more}
use Rattle.diagnosis.specs.Bytes.{MasterByte, station, no_station, HeaderBytes, CodeByte, low_error, high_error, BlockBytes, last, device, modules, channel, ExtDiag, without, with_blocks}
use Rattle.diagnosis.proofs.Lemmas.Found as kind
use Rattle.diagnosis.proofs.Lemmas.Found.{FindsAt, found_at_lem}
use Rattle.diagnosis.proofs.Lemmas.Steps as step_case
use Rattle.diagnosis.proofs.Lemmas.Steps.{Inner, Steps, steps, inner_step, last_step}
use Rattle.diagnosis.specs.declared.block.Kind.TheVariants as the-kind
use Rattle.diagnosis.specs.declared.block.Extent.{Extent}
use Rattle.diagnosis.specs.Walk.{Step}
use Rattle.diagnosis.specs.declared.walk.Step.TheVariants as step

-- ---- the header

module _ (s : List ℕ) where
  pub header_bytes_lem : good_status1 (get_or s 0 0) ≡ true → good_status2 (get_or s 1 0) ≡ true → good_status3 (get_or s 2 0) ≡ true → good_master (get_or s 3 0) ≡ true
      → HeaderBytes s
  unfolding good_status1 good_status2 good_master
  header_bytes_lem p q r t =
      let a : ℕ = get_or s 0 0 in
      let b : ℕ = get_or s 1 0 in
      let m : ℕ = get_or s 3 0 in
      let p1 : (eqb (a / 32 % 2) 0 and eqb (a / 128) 0) ≡ true = and_right (eqb (a % 2) 0) (eqb (a / 32 % 2) 0 and eqb (a / 128) 0) p in
      let high : a / 128 ≡ 0 = eqb-true (a / 128) 0 (and_right (eqb (a / 32 % 2) 0) (eqb (a / 128) 0) p1) in
      let top : b / 64 ≡ 0 = eqb-true (b / 64) 0 (and_right (eqb (b / 4 % 2) 1) (eqb (b / 64) 0) q) in
      record {
        status1_bit0 = eqb-true (a % 2) 0 (and_left (eqb (a % 2) 0) (eqb (a / 32 % 2) 0 and eqb (a / 128) 0) p);
        status1_bit5 = eqb-true (a / 32 % 2) 0 (and_left (eqb (a / 32 % 2) 0) (eqb (a / 128) 0) p1);
        status1_bit7 = omega (arith, high);
        status2_bit2 = eqb-true (b / 4 % 2) 1 (and_left (eqb (b / 4 % 2) 1) (eqb (b / 64) 0) q);
        status2_high = omega (arith, top);
        status3 = eqb-true (get_or s 2 0 % 128) 0 r;
        master = by_or (leb m 125) (eqb m 255) t (λ e. station (leb-true m 125 e)) (λ e. no_station (eqb-true m 255 e));
      }

  pub status1_good : HeaderBytes s → good_status1 (get_or s 0 0) ≡ true
  unfolding good_status1
  status1_good h =
      let high : get_or s 0 0 / 128 ≡ 0 = omega (arith, h.status1_bit7) in
      simp (h.status1_bit0, h.status1_bit5, high)

  pub status2_good : HeaderBytes s → good_status2 (get_or s 1 0) ≡ true
  unfolding good_status2
  status2_good h =
      let high : get_or s 1 0 / 64 ≡ 0 = omega (arith, h.status2_high) in
      simp (h.status2_bit2, high)

pub master_good : {b : ℕ} → MasterByte b → good_master b ≡ true
unfolding good_master
master_good (station l) = simp (le-leb _ _ l)
master_good (no_station e) = simp e

-- ---- Ext_Diag

pub ext_diag : (status1 n : ℕ) → ext_diag_agrees status1 n ≡ true → ExtDiag status1 n
unfolding ext_diag_agrees
ext_diag a n e =
    by_pick (λ b. b ≡ true → ExtDiag a n) (eqb n 0) (λ z t. without (eqb-true n 0 z) (eqb-true _ _ t))
    (λ z t. let some : n ≡ 0 → ⊥ = eqb-false n 0 z in with_blocks (omega arith) (eqb-true _ _ t)) e

pub agrees_good : {status1 n : ℕ} → ExtDiag status1 n → ext_diag_agrees status1 n ≡ true
unfolding ext_diag_agrees
agrees_good (without z e) = simp (z, e)
agrees_good {n = n} (with_blocks l e) = let some : n ≡ 0 → ⊥ = λ z. omega arith in simp (ne_eqb _ _ some, e)

-- ---- the codes of a channel block

code_byte : (b : ℕ) → good_code (b / 32) (b % 32) ≡ true → CodeByte b
unfolding good_code
code_byte b g =
    let k : ℕ = b / 32 in
    let e : ℕ = b % 32 in
    let g1 = and_right (leb 1 k) (leb k 6 and leb 1 e and (leb e 9 or (leb 16 e and leb e 31))) g in
    let g2 = and_right (leb k 6) (leb 1 e and (leb e 9 or (leb 16 e and leb e 31))) g1 in
    let low = leb-true 1 k (and_left (leb 1 k) (leb k 6 and leb 1 e and (leb e 9 or (leb 16 e and leb e 31))) g) in
    let high = leb-true k 6 (and_left (leb k 6) (leb 1 e and (leb e 9 or (leb 16 e and leb e 31))) g1) in
    by_or (leb e 9) (leb 16 e and leb e 31) (and_right (leb 1 e) (leb e 9 or (leb 16 e and leb e 31)) g2)
    (λ t. low_error low high (leb-true 1 e (and_left (leb 1 e) (leb e 9 or (leb 16 e and leb e 31)) g2)) (leb-true e 9 t))
    (λ t. high_error low high (leb-true 16 e (and_left (leb 16 e) (leb e 31) t)))

code_good : {b : ℕ} → CodeByte b → good_code (b / 32) (b % 32) ≡ true
unfolding good_code
code_good (low_error l h m n) = simp (le-leb _ _ l, le-leb _ _ h, le-leb _ _ m, le-leb _ _ n)
code_good {b} (high_error l h m) =
    let some : 1 ≤ b % 32 = omega arith in
    let above : 9 < b % 32 = omega arith in
    let most : b % 32 ≤ 31 = omega arith in
    simp (le-leb _ _ l, le-leb _ _ h, le-leb _ _ some, lt-leb _ _ above, le-leb _ _ m, le-leb _ _ most)

-- ---- from the walk to the blocks

-- the blocks from a place on, where k are passed and m are all
pub record Rest (s : List ℕ) (at k m : ℕ) : Type 0 where
  pub left : ℕ
  pub sum : m ≡ k + left
  pub blocks : BlockBytes s at left

abbrev pub RestIn : (s : List ℕ) (at k : ℕ) → Count → Type 0
RestIn s at k (Ok m) = Rest s at k m
RestIn s at k (Err r) = Unit

module _ (s : List ℕ) (at : ℕ) where
  -- what a step says of the bytes at its place, if what follows it is known
  abbrev Says : Step → Type 0
  Says (Ok (step.Block b p)) = (k m : ℕ) → Rest s p.at (k + 1) m → Rest s at k m
  Says (Ok step.End) = at ≡ length s
  Says (Err r) = Unit

  one_more : {e : Extent} → Inner s at → FindsAt s at (Ok e) → (k m : ℕ) → Rest s (at + e.len) (k + 1) m → Rest s at k m
  one_more i (kind.device z g) k m r =
      record { left = suc r.left; sum = omega (arith, r.sum); blocks = device z g.low (omega (arith, g.whole, i.high)) r.blocks }
  one_more i (kind.modules z g) k m r =
      record { left = suc r.left; sum = omega (arith, r.sum); blocks = modules z g.low (omega (arith, g.whole, i.high)) r.blocks }
  one_more i (kind.channel z g) k m r =
      let some : get_or s (at + 1) 0 / 64 ≡ 0 → ⊥ = g.direction in
      record { left = suc r.left; sum = omega (arith, r.sum); blocks = channel z (omega (arith, g.whole, i.high)) (omega arith) (code_byte _ g.codes) r.blocks }

  says : {x : Step} → Steps s at x → Says x
  says (step_case.block i p) = one_more i (found_at_lem s at p)
  says (step_case.fault i p) = tt
  says (step_case.last e) = e
  says (step_case.outside f) = tt

  further : (k next : ℕ) → ((m : ℕ) → Rest s next (k + 1) m → Rest s at k m) → (c : Count) → RestIn s next (k + 1) c → RestIn s at k c
  further k next f (Ok m) r = f m r
  further k next f (Err e) r = tt

pub walk_blocks : {s : List ℕ} {at k : ℕ} {c : Count} → Walks s at k c → RestIn s at k c
walk_blocks {s} {at} {k} (end e) = record { left = 0; sum = omega arith; blocks = last (subst (Says s at) e (says s at (steps s at))) }
walk_blocks (bad e) = tt
walk_blocks {s} {at} {k} {c} (more {p = p} e w) = further s at k p.at (subst (Says s at) e (says s at (steps s at)) k) c (walk_blocks w)

-- ---- from the blocks to the walk

module _ (s : List ℕ) (at : ℕ) where
  device_found : get_or s at 0 / 64 ≡ 0 → 2 ≤ get_or s at 0 % 64 → at + get_or s at 0 % 64 ≤ length s → found_at s at ≡ Ok (extent the-kind.Device (get_or s at 0 % 64))
  unfolding found_by sized_of
  device_found z l w =
      let fits : get_or s at 0 % 64 ≤ length s - at = omega arith in
      simp (z, le-ltb _ _ l, le-ltb _ _ fits)

  modules_found : get_or s at 0 / 64 ≡ 1 → 2 ≤ get_or s at 0 % 64 → at + get_or s at 0 % 64 ≤ length s → found_at s at ≡ Ok (extent the-kind.Module (get_or s at 0 % 64))
  unfolding found_by sized_of
  modules_found z l w =
      let fits : get_or s at 0 % 64 ≤ length s - at = omega arith in
      simp (z, le-ltb _ _ l, le-ltb _ _ fits)

  channel_found : get_or s at 0 / 64 ≡ 2 → at + 3 ≤ length s → 1 ≤ get_or s (at + 1) 0 / 64 → CodeByte (get_or s (at + 2) 0) → found_at s at ≡ Ok (extent the-kind.Channel 3)
  unfolding found_by channel_of
  channel_found z w d c =
      let fits : 3 ≤ length s - at = omega arith in
      let some : get_or s (at + 1) 0 / 64 ≡ 0 → ⊥ = λ e. omega arith in
      simp (z, le-ltb _ _ fits, ne_eqb _ _ some, code_good c)

-- one block found, and the walk behind it
walked : (s : List ℕ) (at k n : ℕ) (e : Extent) → 6 ≤ at → at < length s → found_at s at ≡ Ok e
    → Walks s (at + e.len) (k + 1) (Ok (k + 1 + n)) → Walks s at k (Ok (k + suc n))
walked s at k n e l h f w =
    let m : k + 1 + n ≡ k + suc n = omega arith in
    more (inner_step s at (record { low = l; high = h }) f) (subst (λ (i : ℕ). Walks s (at + e.len) (k + 1) (Ok i)) m w)

pub blocks_walk : {s : List ℕ} {at n : ℕ} → BlockBytes s at n → (k : ℕ) → 6 ≤ at → Walks s at k (Ok (k + n))
blocks_walk {s} {at} (last e) k l =
    let z : k ≡ k + 0 = omega arith in
    subst (λ (i : ℕ). Walks s at k (Ok i)) z (end (last_step s at l e))
blocks_walk {s} {at} (device {n = n} z low w b) k l =
    walked s at k n _ l (omega arith) (device_found s at z low w) (blocks_walk b (k + 1) (omega arith))
blocks_walk {s} {at} (modules {n = n} z low w b) k l =
    walked s at k n _ l (omega arith) (modules_found s at z low w) (blocks_walk b (k + 1) (omega arith))
blocks_walk {s} {at} (channel {n = n} z w d c b) k l =
    walked s at k n _ l (omega arith) (channel_found s at z w d c) (blocks_walk b (k + 1) (omega arith))
