-- `service_fields::content_in` meets its contract. The definition goes by the same numbers.
use borrow.Author.Tests.{ne_eqb}
use native.Mathlib.Omega.{arith}
use Rattle.std.proofs.lemmas.Grind.{common_steps}
use Rattle.service_fields.specs.Service.{content_by}
use Rattle.service_fields.proofs.content_in.Goals as goal

pub returns-in-0 : goal.returns-in-0
unfolding content_by
returns-in-0 c = simp c.in-0.is

pub returns-in-51 : goal.returns-in-51
unfolding content_by
returns-in-51 c = simp c.in-51.is c.dpv1_in.ensures

pub returns-in-53 : goal.returns-in-53
unfolding content_by
returns-in-53 c = simp c.in-53.is

pub returns-in-55 : goal.returns-in-55
unfolding content_by
returns-in-55 c =
    simp (c.in-55.is, c.join16.ensures)

pub returns-in-56 : goal.returns-in-56
unfolding content_by
returns-in-56 c = simp c.in-56.is

pub returns-in-57 : goal.returns-in-57
unfolding content_by
returns-in-57 c = simp c.in-57.is

pub returns-in-58 : goal.returns-in-58
unfolding content_by
returns-in-58 c = simp c.in-58.is

pub returns-in-59 : goal.returns-in-59
unfolding content_by
returns-in-59 c = simp c.in-59.is

pub returns-in-60 : goal.returns-in-60
unfolding content_by
returns-in-60 c = simp (c.in-60.is, c.diagnosis_in.ensures)

pub returns-in-61 : goal.returns-in-61
unfolding content_by
returns-in-61 c = simp (c.in-61.is, c.parameters_in.ensures)

pub returns-in-62 : goal.returns-in-62
unfolding content_by
returns-in-62 c = simp c.in-62.is

pub returns-in_default : goal.returns-in_default
unfolding content_by
returns-in_default c = grind (arith, common_steps, ne_eqb, c.unlisted_by.ensures)
