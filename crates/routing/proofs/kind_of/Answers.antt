-- `routing::kind_of` meets its contract: the kind by the class that was looked up.
use mathlib.Core.Path.{ap, ◌∙◌}
use Rattle.function_code.specs.declared.code.Class.{Class}
use Rattle.access.specs.Route.{kind_by, kind_of}
use Rattle.routing.proofs.kind_of.Goals as goal

pub returns : goal.returns
unfolding kind_of
returns c =
    c.kind_by.ensures ∙ ap (λ (x : Class). kind_by x c.args.fc) c.class_of.ensures
