-- `access_table::find` meets its contract: what was named so far is what the rows that were passed name.
use mathlib.Core.Path.{◌≡◌, refl, sym, ap, ◌∙◌}
use mathlib.Core.List.{List, [], ◌∷◌, ◌++◌}
use borrow.Author.Rules.{rules}
use borrow.Author.Tests.{eq-eqb, ne_eqb}
use Rattle.std.specs.Iterator.Adapters.{rev_source}
use Rattle.std.specs.Slice.Iter.{iter_rest}
use Rattle.std.proofs.Common.{append_assoc, append-nil}
use Rattle.std.proofs.lemmas.List.{nil_from_length}
use Rattle.access.specs.Table.{look, services}
use Rattle.access.specs.declared.table.Row.{Row}
use Rattle.access_table.proofs.find.Goals as goal

-- the last row that was left is the first of those that were passed
one_more : (front passed : List Row) (r : Row) {left : List Row} → left ≡ front ++ (r ∷ []) → left ++ passed ≡ services → front ++ (r ∷ passed) ≡ services
one_more front passed r back e = sym (append_assoc front (r ∷ []) passed) ∙ ap (λ (l : List Row). l ++ passed) (sym back) ∙ e

pub loop-row-init : goal.loop-row-init
unfolding look services
loop-row-init c =
    let e : iter_rest (rev_source c.into_iter-row-iterator.result) ≡ services = search rules in
    ([], append-nil _ ∙ e, refl)

pub loop-row-preserved-then-row-master : goal.loop-row-preserved-then-row-master
unfolding look
loop-row-preserved-then-row-master c =
    let i = c.loop-row.invariant in (
      c.in-Some.row.now ∷ i.0,
      one_more _ _ _ c.in-Some.ensures.steps i.1,
      sym (rw (eq-eqb _ c.args.slave c.if-row-slave.true, eq-eqb _ c.args.master c.if-row-master.true)),
    )

pub loop-row-preserved-else-row-master : goal.loop-row-preserved-else-row-master
unfolding look
loop-row-preserved-else-row-master c =
    let i = c.loop-row.invariant in (
      c.in-Some.row.now ∷ i.0,
      one_more _ _ _ c.in-Some.ensures.steps i.1,
      i.2 ∙ sym (rw (eq-eqb _ c.args.slave c.if-row-slave.true, ne_eqb _ c.args.master c.if-row-master.false)),
    )

pub loop-row-preserved : goal.loop-row-preserved
unfolding look
loop-row-preserved c =
    let i = c.loop-row.invariant in (
      c.in-Some.row.now ∷ i.0,
      one_more _ _ _ c.in-Some.ensures.steps i.1,
      i.2 ∙ sym (rw (ne_eqb _ c.args.slave c.if-row-slave.false)),
    )

pub returns : goal.returns
returns c =
    let i = c.loop-row.invariant in
    let none : iter_rest (rev_source c.loop-row.row-iterator) ≡ [] = nil_from_length _ c.in-None.ensures.steps.0 in
    i.2 ∙ ap (look c.args.slave c.args.master) (rw none at i.1)
