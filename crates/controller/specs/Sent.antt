-- What a writer's answer is to the controller.
use Rattle.std.specs.Prelude.{Ok, Err}
use Rattle.octets.specs.Front.{Written}
use Rattle.protocol.specs.Controller.{Action}
use Rattle.protocol.specs.declared.controller.Action.TheVariants as action
use Rattle.protocol.specs.declared.controller.Controller.{Controller}

-- the request is sent, or the writer's refusal stands
abbrev pub sent_by : Controller → Written → Action
sent_by o (Ok n) = Ok (action.Send o n)
sent_by o (Err k) = Err k
