-- `fdl_leading::sd2` meets its contract. The definition has the same tests in the same order.
use Rattle.fdl_leading.specs.Leading.{sd2_leading}
use borrow.Author.Tests.{lt-ltb, le-ltb, eq-eqb, ne_eqb}
use Rattle.fdl_leading.proofs.sd2.Goals as goal

pub returns-then-s-lt4 : goal.returns-then-s-lt4
unfolding sd2_leading
returns-then-s-lt4 c = simp (lt-ltb _ _ c.if-s-lt4.true)

pub returns-then-le-lt4 : goal.returns-then-le-lt4
unfolding sd2_leading
returns-then-le-lt4 c = simp (le-ltb _ _ c.if-s-lt4.false, lt-ltb _ _ c.if-le-lt4.true)

pub returns-then-le-gt249 : goal.returns-then-le-gt249
unfolding sd2_leading
returns-then-le-gt249 c =
    simp (le-ltb _ _ c.if-s-lt4.false, le-ltb _ _ c.if-le-lt4.false, lt-ltb _ _ c.if-le-gt249.true)

pub returns-then-s-le : goal.returns-then-s-le
unfolding sd2_leading
returns-then-s-le c =
    simp (le-ltb _ _ c.if-s-lt4.false, le-ltb _ _ c.if-le-lt4.false, le-ltb _ _ c.if-le-gt249.false, ne_eqb _ _ c.if-s-le.true)

pub returns-then-s-ne-SD2 : goal.returns-then-s-ne-SD2
unfolding sd2_leading
returns-then-s-ne-SD2 c =
    simp (le-ltb _ _ c.if-s-lt4.false, le-ltb _ _ c.if-le-lt4.false, le-ltb _ _ c.if-le-gt249.false, eq-eqb _ _ c.if-s-le.false, ne_eqb _ _ c.if-s-ne-SD2.true)

pub returns : goal.returns
unfolding sd2_leading
returns c =
    simp (
      le-ltb _ _ c.if-s-lt4.false,
      le-ltb _ _ c.if-le-lt4.false,
      le-ltb _ _ c.if-le-gt249.false,
      eq-eqb _ _ c.if-s-le.false,
      eq-eqb _ _ c.if-s-ne-SD2.false,
    )
