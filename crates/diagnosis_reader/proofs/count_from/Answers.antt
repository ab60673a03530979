-- `diagnosis_reader::count_from` meets its contract. The loop's invariant: the blocks that are left, added to those passed, are the
-- whole; each block passed has a byte.
use Rattle.std.proofs.Common.{◌≡◌, Err, ap, sym, ◌∙◌, arith, rules}
use Rattle.octets.specs.Refusals.{number, told}
use Rattle.diagnosis.specs.Reading.{counted}
use Rattle.diagnosis.proofs.Lemmas.Found.{within_at}
use Rattle.diagnosis.proofs.Lemmas.Blocks.{blocks_more, blocks_bad, blocks_end}
use Rattle.diagnosis_reader.proofs.count_from.Goals as goal

pub returns-in_err-at : goal.returns-in_err-at
returns-in_err-at c =
    let block = sym c.in_err-at.ensures in
    let same : told c.from_residual.result ≡ Err (number c.in_err-at.field-0.0) = search rules in
    same ∙ sym (ap (counted c.loop-at.blocks) (blocks_bad _ c.loop-at.at c.loop-at-test.true block)) ∙ c.loop-at.invariant.2

pub overflow_add-at : goal.overflow_add-at
overflow_add-at c =
    let block = sym c.in_ok-at.ensures in
    omega (arith, within_at c.args.s.now c.loop-at.at block)

pub loop-at-smaller : goal.loop-at-smaller
loop-at-smaller c =
    let block = sym c.in_ok-at.ensures in
    omega (arith, within_at c.args.s.now c.loop-at.at block)

pub loop-at-preserved : goal.loop-at-preserved
loop-at-preserved c =
    let block = sym c.in_ok-at.ensures in
    let inside = within_at c.args.s.now c.loop-at.at block in (
      omega (arith, inside),
      omega (arith, inside),
      sym (ap (counted c.loop-at.blocks) (blocks_more _ c.loop-at.at c.loop-at-test.true block)) ∙ c.loop-at.invariant.2,
    )

pub returns : goal.returns
returns c =
    let l = c.loop-at in
    sym (ap (counted l.blocks) (blocks_end _ l.at (omega arith))) ∙ l.invariant.2
