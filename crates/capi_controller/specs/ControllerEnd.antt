-- The controller's step through the C interface: 12 for bytes that are no controller's state, and then the step's own answer.
use Rattle.std.specs.Prelude.{ℕ, List, Ok, Err, Some, None}
use Rattle.protocol.specs.Controller.{Acted, leaving, step_of, Action}
use Rattle.protocol.specs.declared.controller.Action.TheVariants as action
use Rattle.controller_bytes.specs.State.{settings_in, controller_in, controller_bytes, ControllerFound}
use Rattle.controller_bytes.specs.Endings.{ending_bytes, going_on}

abbrev pub stepped_from : ControllerFound → (settings book reply request : List ℕ) → Acted
stepped_from (Some o) settings book reply request = step_of (settings_in settings) book o reply request
stepped_from None settings book reply request = leaving (Err 12) request

abbrev pub controller_step : (settings book state reply request : List ℕ) → Acted
controller_step settings book state reply request = stepped_from (controller_in state) settings book reply request

abbrev pub refusal_in : Action → ℕ
refusal_in (Ok (action.Send o n)) = 0
refusal_in (Ok (action.End e)) = 0
refusal_in (Err k) = k

-- what the lent state holds then, the lent count of the request's bytes, and how the download stands
abbrev pub state_after : Action → (before : List ℕ) → List ℕ
state_after (Ok (action.Send o n)) before = controller_bytes o
state_after (Ok (action.End e)) before = before
state_after (Err k) before = before

abbrev pub stored_after : Action → (before : ℕ) → ℕ
stored_after (Ok (action.Send o n)) before = n
stored_after (Ok (action.End e)) before = 0
stored_after (Err k) before = before

abbrev pub ending_after : Action → (before : List ℕ) → List ℕ
ending_after (Ok (action.Send o n)) before = going_on
ending_after (Ok (action.End e)) before = ending_bytes e
ending_after (Err k) before = before
