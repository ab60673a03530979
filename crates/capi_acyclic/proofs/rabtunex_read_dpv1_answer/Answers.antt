-- `capi_acyclic::rabtunex_read_dpv1_answer` meets its contract: where the data stand is small enough for a byte.
use mathlib.Core.Path.{sym, ap, ◌∙◌}
use native.Mathlib.Omega.{arith}
use Rattle.octets.specs.Refusals.{told}
use Rattle.acyclic.proofs.Laws.{answer_small}
use Rattle.capi_acyclic.proofs.rabtunex_read_dpv1_answer.Goals as goal

pub overflow_cast-fields : goal.overflow_cast-fields
overflow_cast-fields c =
    let small = answer_small c.args.bytes.now (sym c.read_answer-reading.ensures ∙ ap told c.in-Ok.is) in
    omega (arith, small.0, small.1)

pub overflow_cast-fields-in-Ok : goal.overflow_cast-fields-in-Ok
overflow_cast-fields-in-Ok c =
    let small = answer_small c.args.bytes.now (sym c.read_answer-reading.ensures ∙ ap told c.in-Ok.is) in
    omega (arith, small.0, small.1)
