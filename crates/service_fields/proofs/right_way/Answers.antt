-- `service_fields::right_way` meets its contract, by the way of the function code.
use mathlib.Core.Path.{sym, ◌∙◌}
use Rattle.service_fields.specs.Service.{right_way}
use Rattle.service_fields.proofs.right_way.Goals as goal

pub returns-then-is_answer : goal.returns-then-is_answer
unfolding right_way
returns-then-is_answer c = simp (sym c.is_answer.ensures ∙ c.if-is_answer.true)

pub returns : goal.returns
unfolding right_way
returns c = simp (sym c.is_answer.ensures ∙ c.if-is_answer.false)
