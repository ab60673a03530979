-- 0 means accepted: what the function of this crate answers is 0 exactly then, and a refusal number of document 01 else.
use Rattle.std.specs.Prelude.{ℕ, ◌≡◌, refl, true, List, Ok, Err, Some, None}
use Rattle.octets.specs.Refusals.{listed, numbered, is_fine, Status}
use Rattle.octets.proofs.Refusals.{zero_accepted, listed_refused}
use Rattle.protocol.proofs.Refusals.{action_verdict, action_numbered}
use Rattle.protocol.specs.Controller.{Action}
use Rattle.protocol.specs.declared.controller.Action.TheVariants as action
use Rattle.controller_bytes.specs.State.{settings_in, controller_in, ControllerFound}
use Rattle.capi_controller.specs.ControllerEnd.{stepped_from, controller_step, refusal_in}

-- ---- rabtunex_controller_step: the end of the download is no refusal

status_by : (a : Action) → numbered (action_verdict a) ≡ true → Status (is_fine (action_verdict a)) (refusal_in a)
status_by (Ok (action.Send o n)) h = zero_accepted
status_by (Ok (action.End e)) h = zero_accepted
status_by (Err k) h = listed_refused h

step_from : (o : ControllerFound) (settings book reply request : List ℕ)
    → numbered (action_verdict (stepped_from o settings book reply request).answer) ≡ true
unfolding listed
step_from (Some o) settings book reply request = action_numbered (settings_in settings) book o reply request
step_from None settings book reply request = refl

pub controller_step_status : (settings book state reply request : List ℕ)
    → Status (is_fine (action_verdict (controller_step settings book state reply request).answer))
    (refusal_in (controller_step settings book state reply request).answer)
controller_step_status settings book state reply request =
    status_by (controller_step settings book state reply request).answer (step_from (controller_in state) settings book reply request)
