-- `framing::good_header` meets its contract. The definition has the same five tests in the same order.
use mathlib.Core.Path.{sym, ◌∙◌}
use borrow.Author.Tests.{le-leb, lt-leb}
use Rattle.fdl.specs.Writing.{good_header}
use Rattle.framing.proofs.good_header.Goals as goal

pub returns-then-header-gt127 : goal.returns-then-header-gt127
unfolding good_header
returns-then-header-gt127 c = simp (lt-leb _ _ c.if-header-gt127.true)

pub returns-then-header-gt126 : goal.returns-then-header-gt126
unfolding good_header
returns-then-header-gt126 c = simp (le-leb _ _ c.if-header-gt127.false, lt-leb _ _ c.if-header-gt126.true)

pub returns-then-reserved : goal.returns-then-reserved
unfolding good_header
returns-then-reserved c =
    simp (le-leb _ _ c.if-header-gt127.false, le-leb _ _ c.if-header-gt126.false, sym c.reserved.ensures ∙ c.if-reserved.true)

pub returns-then-not-good_sap : goal.returns-then-not-good_sap
unfolding good_header
returns-then-not-good_sap c =
    simp (le-leb _ _ c.if-header-gt127.false, le-leb _ _ c.if-header-gt126.false, sym c.reserved.ensures ∙ c.if-reserved.false, sym c.good_sap.ensures ∙ c.if-not-good_sap.true)

pub returns : goal.returns
unfolding good_header
returns c =
    simp (le-leb _ _ c.if-header-gt127.false, le-leb _ _ c.if-header-gt126.false, sym c.reserved.ensures ∙ c.if-reserved.false, sym c.good_sap.ensures ∙ c.if-not-good_sap.false)
    c.good_sap-2.ensures
