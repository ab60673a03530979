-- `service_fields::dpv1_in` meets its contract, by the way and its numbers.
use mathlib.Core.Path.{sym, ap, ◌∙◌}
use Rattle.service_fields.specs.Service.{named_by, dpv1_in}
use Rattle.service_fields.proofs.dpv1_in.Goals as goal

pub returns-then-is_answer : goal.returns-then-is_answer
unfolding dpv1_in
returns-then-is_answer c =
    simp (sym c.is_answer.ensures ∙ c.if-is_answer.true) (c.named_by.ensures ∙ ap named_by c.answer_named.ensures)

pub returns : goal.returns
unfolding dpv1_in
returns c =
    simp (sym c.is_answer.ensures ∙ c.if-is_answer.false) (c.named_by-2.ensures ∙ ap named_by c.call_named.ensures)
