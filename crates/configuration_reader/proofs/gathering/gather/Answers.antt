-- `configuration_reader::gathering::gather` meets its contract. The loop's invariant: that of the running offsets, for each side, and that
-- the totals of what is left, added to those so far, are those of all.
use Rattle.std.proofs.Common.{◌≡◌, refl, sym, ap, ◌∙◌, Ok, Err, arith, rules}
use Rattle.octets.specs.Refusals.{number, told}
use Rattle.configuration.specs.Walk.{Step}
use Rattle.configuration.specs.Reading.{input_of, output_of, totals_of, offsets_by}
use Rattle.configuration.specs.declared.walk.Step as walk
use Rattle.configuration.proofs.Lemmas.Steps.{stands, ends, breaks}
use Rattle.configuration_reader.proofs.Running.{begins, goes, done}
use Rattle.configuration_reader.proofs.gathering.gather.Goals as goal

-- what the walk answered, and what was found in it
found : {x y : walk.Step} {r : Step} → ◌≡◌ {A = Step} (Ok x) r → x ≡ y → r ≡ Ok y
found e f = sym e ∙ ap Ok f

pub loop-module-init : goal.loop-module-init
loop-module-init c = (omega arith, omega arith, begins _ _ _, begins _ _ _, refl)

pub overflow_add-i : goal.overflow_add-i
overflow_add-i c =
    let h = stands _ _ (found c.in_ok-module.ensures c.in-Module.is) in
    omega (arith, h)

pub overflow_add-o : goal.overflow_add-o
overflow_add-o c =
    let h = stands _ _ (found c.in_ok-module.ensures c.in-Module.is) in
    omega (arith, h)

pub loop-module-smaller : goal.loop-module-smaller
loop-module-smaller c =
    let h = stands _ _ (found c.in_ok-module.ensures c.in-Module.is) in
    omega (arith, h)

pub loop-module-preserved : goal.loop-module-preserved
unfolding totals_of
loop-module-preserved c =
    let h = stands _ _ (found c.in_ok-module.ensures c.in-Module.is) in
    let l = c.loop-module in (
      h.inside,
      omega (arith, h),
      goes _ _ _ l.invariant.2 h h.input c.put.ensures c.side_length-i.ensures,
      goes _ _ _ l.invariant.3 h h.output c.put-in-Module.ensures c.side_length-o.ensures,
      rw (c.side_length-i.ensures, c.side_length-o.ensures) (sym (ap (totals_of l.n l.i l.o) h.walk) ∙ l.invariant.4),
    )

pub returns : goal.returns
unfolding offsets_by totals_of
returns c =
    let l = c.loop-module in
    let e = (ends _ _ (found c.in_ok-module.ensures c.in_default.is)).1 in
    record {
      answer = sym (ap (totals_of l.n l.i l.o) e) ∙ l.invariant.4;
      inputs = done _ _ _ l.invariant.2 (ap (offsets_by input_of l.i) e);
      outputs = done _ _ _ l.invariant.3 (ap (offsets_by output_of l.o) e);
    }

pub returns-in_err-module : goal.returns-in_err-module
unfolding offsets_by totals_of
returns-in_err-module c =
    let l = c.loop-module in
    let e = breaks _ _ (sym c.in_err-module.ensures) l.invariant.0 in
    let same : told c.from_residual.result ≡ Err (number c.in_err-module.field-0.0) = search rules in
    record {
      answer = same ∙ sym (ap (totals_of l.n l.i l.o) e) ∙ l.invariant.4;
      inputs = done _ _ _ l.invariant.2 (ap (offsets_by input_of l.i) e);
      outputs = done _ _ _ l.invariant.3 (ap (offsets_by output_of l.o) e);
    }
