-- `service_fields::diagnosis_in` meets its contract, by the way.
use mathlib.Core.Path.{sym, ◌∙◌}
use Rattle.service_fields.specs.Service.{diagnosis_in}
use Rattle.service_fields.proofs.diagnosis_in.Goals as goal

pub returns-then-not-is_answer : goal.returns-then-not-is_answer
unfolding diagnosis_in
returns-then-not-is_answer c = simp (sym c.is_answer.ensures ∙ c.if-not-is_answer.true)

pub returns : goal.returns
unfolding diagnosis_in
returns c =
    simp (sym c.is_answer.ensures ∙ c.if-not-is_answer.false, c.join16.ensures)
