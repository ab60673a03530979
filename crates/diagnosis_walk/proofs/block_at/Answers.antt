-- `diagnosis_walk::block_at` meets its contract. The block that was found has its bytes in the slice.
use mathlib.Core.Path.{◌≡◌, ap}
use Prim.Native.Nat.{ℕ, ◌+◌, ◌-◌, ◌≤◌}
use native.Mathlib.Omega.{arith}
use lib.ListN.{length, take, drop, length-take, length-drop}
use Rattle.diagnosis.specs.Walk.{behind}
use Rattle.diagnosis.proofs.Lemmas.Found.{Within, within_at, three_at}
use Rattle.diagnosis_walk.proofs.block_at.Goals as goal

pub overflow_sub-result : goal.overflow_sub-result
overflow_sub-result c =
    let inside : Within (length c.args.s.now - c.args.at) c.args.extent.len = within_at c.args.s.now c.args.at c.requires.1 in
    omega (arith, inside)

pub overflow_add-map-in-Module : goal.overflow_add-map-in-Module
overflow_add-map-in-Module c =
    let inside : Within (length c.args.s.now - c.args.at) c.args.extent.len = within_at c.args.s.now c.args.at c.requires.1 in
    omega (arith, inside)

pub slice_bounds-map-count : goal.slice_bounds-map-count
slice_bounds-map-count c =
    let inside : Within (length c.args.s.now - c.args.at) c.args.extent.len = within_at c.args.s.now c.args.at c.requires.1 in
    omega (arith, inside)

pub slice_bounds-map-start : goal.slice_bounds-map-start
slice_bounds-map-start c =
    let inside : Within (length c.args.s.now - c.args.at) c.args.extent.len = within_at c.args.s.now c.args.at c.requires.1 in
    omega (arith, inside)

pub slice_bounds-map-end : goal.slice_bounds-map-end
slice_bounds-map-end c =
    let inside : Within (length c.args.s.now - c.args.at) c.args.extent.len = within_at c.args.s.now c.args.at c.requires.1 in
    omega (arith, inside)

pub set_bits-set-requires : goal.set_bits-set-requires
set_bits-set-requires c =
    let inside : Within (length c.args.s.now - c.args.at) c.args.extent.len = within_at c.args.s.now c.args.at c.requires.1 in
    let lent : let at = c.args.at in let len = c.args.extent.len in take (at + len - (at + 1)) (drop (at + 1) c.args.s.now) ≡ behind c.args.s.now at len = let a = c.args in
    let e : a.at + a.extent.len - (a.at + 1) ≡ a.extent.len - 1 = omega arith in
    ap (λ (n : ℕ). take n (drop (a.at + 1) a.s.now)) e in
    let short : let at = c.args.at in length (take (at + c.args.extent.len - (at + 1)) (drop (at + 1) c.args.s.now)) ≤ 62 = let w = inside in
    rw lent (simp (length-take, length-drop) (omega arith)) in
    short

pub lowest_module-lowest-requires : goal.lowest_module-lowest-requires
lowest_module-lowest-requires c =
    let inside : Within (length c.args.s.now - c.args.at) c.args.extent.len = within_at c.args.s.now c.args.at c.requires.1 in
    let lent : let at = c.args.at in let len = c.args.extent.len in take (at + len - (at + 1)) (drop (at + 1) c.args.s.now) ≡ behind c.args.s.now at len = let a = c.args in
    let e : a.at + a.extent.len - (a.at + 1) ≡ a.extent.len - 1 = omega arith in
    ap (λ (n : ℕ). take n (drop (a.at + 1) a.s.now)) e in
    let short : let at = c.args.at in length (take (at + c.args.extent.len - (at + 1)) (drop (at + 1) c.args.s.now)) ≤ 62 = let w = inside in
    rw lent (simp (length-take, length-drop) (omega arith)) in
    short

pub overflow_sub-result-in-Module : goal.overflow_sub-result-in-Module
overflow_sub-result-in-Module c =
    let inside : Within (length c.args.s.now - c.args.at) c.args.extent.len = within_at c.args.s.now c.args.at c.requires.1 in
    omega (arith, inside)

pub fields_at-requires : goal.fields_at-requires
fields_at-requires c =
    let inside : Within (length c.args.s.now - c.args.at) c.args.extent.len = within_at c.args.s.now c.args.at c.requires.1 in
    omega (arith, inside, three_at c.args.s.now c.args.at c.requires.1 c.in-Channel.is)

pub returns-in-Device : goal.returns-in-Device
returns-in-Device c = simp c.in-Device.is

pub returns-in-Module : goal.returns-in-Module
returns-in-Module c =
    let lent : let at = c.args.at in let len = c.args.extent.len in take (at + len - (at + 1)) (drop (at + 1) c.args.s.now) ≡ behind c.args.s.now at len = let a = c.args in
    let e : a.at + a.extent.len - (a.at + 1) ≡ a.extent.len - 1 = omega arith in
    ap (λ (n : ℕ). take n (drop (a.at + 1) a.s.now)) e in
    simp (c.in-Module.is, c.set_bits-set.ensures, c.lowest_module-lowest.ensures, lent)

pub returns-in-Channel : goal.returns-in-Channel
returns-in-Channel c = simp (c.in-Channel.is, c.fields_at.ensures)
