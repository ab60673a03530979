-- `octets::part` meets its contract: both tests together say that start and length lie inside.
use mathlib.Core.Path.{◌≡◌}
use Prim.Native.Nat.{◌+◌, ◌-◌, ◌≤◌, ◌<◌}
use native.Mathlib.Omega.{arith}
use lib.ListN.{length}
use borrow.Author.Tests.{lt-leb, le-leb}
use Rattle.octets.specs.Part.{part_of}
use Rattle.octets.proofs.part.Goals as goal

pub returns-then-total-start : goal.returns-then-total-start
unfolding part_of
returns-then-total-start c =
    let b = c in
    let h : length b.args.bytes.now < b.args.start + b.args.len = omega arith in
    simp (lt-leb _ _ h)

pub returns-then-total-start-2 : goal.returns-then-total-start-2
unfolding part_of
returns-then-total-start-2 c =
    let b = c in
    let h : length b.args.bytes.now < b.args.start + b.args.len = omega arith in
    simp (lt-leb _ _ h)

pub returns : goal.returns
unfolding part_of
returns c =
    let b = c in
    let h : b.args.start + b.args.len ≤ length b.args.bytes.now = omega arith in
    let e : b.args.start + b.args.len - b.args.start ≡ b.args.len = omega arith in
    rw e (simp (le-leb _ _ h))
