-- `service_fields::is_answer` meets its contract: each class has its line.
use mathlib.Core.Path.{sym}
use Rattle.service_fields.proofs.is_answer.Goals as goal

pub returns-in-Opening : goal.returns-in-Opening
returns-in-Opening c = simp (sym c.in-Opening.ensures)

pub returns-in-Counted : goal.returns-in-Counted
returns-in-Counted c = simp (sym c.in-Counted.ensures)

pub returns-in-Uncounted : goal.returns-in-Uncounted
returns-in-Uncounted c = simp (sym c.in-Uncounted.ensures)

pub returns-in-Bare : goal.returns-in-Bare
returns-in-Bare c = simp (sym c.in-Bare.ensures)

pub returns-in-Data : goal.returns-in-Data
returns-in-Data c = simp (sym c.in-Data.ensures)

pub returns-in-Reserved : goal.returns-in-Reserved
returns-in-Reserved c = simp (sym c.in-Reserved.ensures)
