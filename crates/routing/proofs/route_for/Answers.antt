-- `routing::route_for` meets its contract: the definition has the same two parts.
use Rattle.std.specs.Prelude.{Some}
use mathlib.Core.Path.{ap, ◌∙◌}
use Rattle.access.specs.Route.{way_by, service_route}
use Rattle.access.specs.declared.route.Kind.{Kind}
use Rattle.routing.proofs.route_for.Goals as goal

pub returns : goal.returns
unfolding service_route
returns c =
    c.way_by.ensures ∙ ap (λ (x : Kind). way_by x (Some c.args.service)) c.kind_of.ensures
