-- `routing::header_of` meets its contract: each kind has its line.
use mathlib.Core.Path.{sym, ◌∙◌}
use Rattle.access.specs.Route.{header_of}
use Rattle.routing.proofs.header_of.Goals as goal

pub returns-in-Call : goal.returns-in-Call
unfolding header_of
returns-in-Call c = simp (sym c.points_of-points.ensures, sym c.kind_of-kind.ensures ∙ c.in-Call.is) c.header_with.ensures

pub returns-in-Command : goal.returns-in-Command
unfolding header_of
returns-in-Command c = simp (sym c.points_of-points.ensures, sym c.kind_of-kind.ensures ∙ c.in-Command.is) c.header_with-in-Command.ensures

pub returns-in-Answer : goal.returns-in-Answer
unfolding header_of
returns-in-Answer c = simp (sym c.points_of-points.ensures, sym c.kind_of-kind.ensures ∙ c.in-Answer.is) c.header_with-in-Answer.ensures

pub returns-in-Other : goal.returns-in-Other
unfolding header_of
returns-in-Other c = simp (sym c.points_of-points.ensures, sym c.kind_of-kind.ensures ∙ c.in-Other.is) c.header_with-in-Other.ensures
