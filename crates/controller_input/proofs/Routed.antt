-- What a telegram's service is to the controller, by its route alone: no call has the content that a download waits for.
use Rattle.std.specs.Prelude.{Ok, Err}
use Prim.Native.Nat.{ℕ}
use mathlib.Core.Path.{◌≡◌, refl, sym, ◌∙◌}
use mathlib.Core.List.{List}
use lib.Dec.{ltb}
use lib.ListN.{length}
use Rattle.octets.proofs.Choice.{by_pick}
use Rattle.octets.specs.declared.Mode.{Mode}
use Rattle.fdl.specs.declared.telegram.Format.{Format}
use Rattle.fdl.specs.declared.telegram.Header.{Header}
use Rattle.acyclic.specs.Calls.{read_call_of, CallReading}
use Rattle.address_change.specs.Address as address
use Rattle.address_change.specs.Address.{AddressReading}
use Rattle.configuration.specs.Reading as configuration
use Rattle.control.specs.Command as command
use Rattle.control.specs.Command.{CommandReading}
use Rattle.parameters.specs.Reading as parameters
use Rattle.access.specs.declared.table.Service.{Service}
use Rattle.access.specs.declared.table.Service.TheVariants as service
use Rattle.access.specs.declared.route.Route.{Route}
use Rattle.access.specs.declared.route.Route.TheVariants as route
use Rattle.content.specs.Reading.{plain_of, empty_of, address_in, command_in, parameters_in, configuration_in, dpv1_call_in, call_of, answer_of, UserData}
use Rattle.content.specs.declared.fields.Content.{Content}
use Rattle.content.specs.declared.fields.Content.TheVariants as content
use Rattle.service.specs.Reading.{placed_at, routed_by}
use Rattle.service.specs.declared.reading.Way.{Way}
use Rattle.service.specs.declared.reading.Way.TheVariants as way
use Rattle.protocol.specs.Controller.{got_of, other}
use Rattle.protocol.specs.Controller as controller
use Rattle.controller_input.specs.Meaning.{got_of_data, got_of_route}

-- ---- formats that no download waits for: another reply, read or refused

pub plain_other : (c : Content) (n : ℕ) → got_of c ≡ other → got_of_data (plain_of c n) ≡ other
unfolding plain_of
plain_other c n e = by_pick (λ (d : UserData). got_of_data d ≡ other) (ltb 244 n) (λ _. refl) (λ _. e)

empty_other : (c : Content) (n : ℕ) → got_of c ≡ other → got_of_data (empty_of c n) ≡ other
unfolding empty_of
empty_other c n e = by_pick (λ (d : UserData). got_of_data d ≡ other) (ltb 0 n) (λ _. refl) (λ _. e)

address_other : (r : AddressReading) → got_of_data (address_in r) ≡ other
address_other (Ok found) = refl
address_other (Err r) = refl

command_other : (r : CommandReading) → got_of_data (command_in r) ≡ other
command_other (Ok found) = refl
command_other (Err r) = refl

parameters_other : (r : parameters.Reading) → got_of_data (parameters_in r) ≡ other
parameters_other (Ok found) = refl
parameters_other (Err r) = refl

pub configuration_other : (c : Content) (r : configuration.Reading) (n : ℕ) → got_of c ≡ other → got_of_data (configuration_in c r n) ≡ other
configuration_other c (Ok found) n e = e
configuration_other c (Err r) n e = refl

dpv1_call_other : (r : CallReading) → got_of_data (dpv1_call_in r) ≡ other
dpv1_call_other (Ok found) = refl
dpv1_call_other (Err r) = refl

call_other : (s : Service) (u : List ℕ) (m : Mode) → got_of_data (call_of s u m) ≡ other
unfolding call_of
call_other service.DataExchange u m = plain_other content.DataExchange (length u) refl
call_other service.Dpv1 u m = dpv1_call_other (read_call_of u)
call_other service.ExtUserPrm u m = plain_other content.ExtUserPrm (length u) refl
call_other service.SetSlaveAdr u m = address_other (address.read_of u)
call_other service.RdInp u m = empty_other content.RdInp (length u) refl
call_other service.RdOutp u m = empty_other content.RdOutp (length u) refl
call_other service.GlobalControl u m = command_other (command.read_of u)
call_other service.GetCfg u m = empty_other content.GetCfg (length u) refl
call_other service.SlaveDiag u m = empty_other content.SlaveDiagCall (length u) refl
call_other service.SetPrm u m = parameters_other (parameters.read_of u m)
call_other service.ChkCfg u m = configuration_other content.ChkCfg (configuration.read_of u) (length u) refl

-- ---- the whole

placed_got : (f : Format) (h : Header) (w : Way) (at : ℕ) (d : UserData) → controller.got_by (placed_at f h w at d) ≡ got_of_data d
placed_got f h w at (Ok found) = refl
placed_got f h w at (Err r) = refl

pub route_got : (r : Route) (f : Format) (h : Header) (at : ℕ) (u : List ℕ) (m : Mode) → got_of_route r u ≡ controller.got_by (routed_by r f h at u m)
route_got route.Nowhere f h at u m = refl
route_got (route.Call s) f h at u m = sym (placed_got f h way.Call at (call_of s u m) ∙ call_other s u m)
route_got (route.Answer a) f h at u m = sym (placed_got f h way.Answer at (answer_of a u))
