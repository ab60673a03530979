-- `fdl_leading::leading_bytes` meets its contract. The definition goes by the same start bytes.
use Rattle.std.specs.Prelude.{◌≢◌, get_or}
use native.Mathlib.Omega.{arith}
use borrow.Author.Tests.{eq-eqb, ne_eqb}
use Rattle.fdl_leading.specs.Leading.{leading_of}
use Rattle.fdl_leading.proofs.leading_bytes.Goals as goal

pub returns-then-s-eq0 : goal.returns-then-s-eq0
unfolding leading_of
returns-then-s-eq0 c = simp (eq-eqb _ _ c.if-s-eq0.true)

pub returns-in-16 : goal.returns-in-16
unfolding leading_of
returns-in-16 c = simp (ne_eqb _ _ c.if-s-eq0.false, c.in-16.is)

pub returns-in-104 : goal.returns-in-104
unfolding leading_of
returns-in-104 c = simp (ne_eqb _ _ c.if-s-eq0.false, c.in-104.is) c.sd2.ensures

pub returns-in-162 : goal.returns-in-162
unfolding leading_of
returns-in-162 c = simp (ne_eqb _ _ c.if-s-eq0.false, c.in-162.is)

pub returns-in-220 : goal.returns-in-220
unfolding leading_of
returns-in-220 c = simp (ne_eqb _ _ c.if-s-eq0.false, c.in-220.is)

pub returns-then-s-eq1 : goal.returns-then-s-eq1
unfolding leading_of
returns-then-s-eq1 c =
    simp (ne_eqb _ _ c.if-s-eq0.false, c.in-229.is, eq-eqb _ _ c.if-s-eq1.true)

pub returns-else-s-eq1 : goal.returns-else-s-eq1
unfolding leading_of
returns-else-s-eq1 c =
    simp (ne_eqb _ _ c.if-s-eq0.false, c.in-229.is, ne_eqb _ _ c.if-s-eq1.false)

pub returns-in_default : goal.returns-in_default
unfolding leading_of
returns-in_default c =
    let h16 : get_or c.args.s.now 0 0 ≢ 16 = omega arith in
    let h104 : get_or c.args.s.now 0 0 ≢ 104 = omega arith in
    let h162 : get_or c.args.s.now 0 0 ≢ 162 = omega arith in
    let h220 : get_or c.args.s.now 0 0 ≢ 220 = omega arith in
    let h229 : get_or c.args.s.now 0 0 ≢ 229 = omega arith in
    simp (ne_eqb _ _ c.if-s-eq0.false, ne_eqb _ _ h16, ne_eqb _ _ h104, ne_eqb _ _ h162, ne_eqb _ _ h220, ne_eqb _ _ h229)
