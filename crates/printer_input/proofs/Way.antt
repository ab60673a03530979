-- No header with a call's function code names an answer.
use Rattle.std.specs.Prelude.{Some, None}
use Prim.Native.Nat.{ℕ, ◌%◌}
use mathlib.Core.Path.{◌≡◌, refl, sym, ap, ◌∙◌}
use mathlib.Core.Bool.{Bool, true, false}
use lib.Dec.{eqb}
use Rattle.octets.proofs.Choice.{by_pick, never}
use Rattle.function_code.specs.declared.code.Class.{Class}
use Rattle.function_code.specs.declared.code.Class.TheVariants as class
use Rattle.fdl.specs.declared.telegram.Header.{Header}
use Rattle.fdl.specs.Sap.{Sap}
use Rattle.access.specs.Route.{is_global_control, named_by, call_route, command_route, kind_by, route_by}
use Rattle.access.specs.declared.route.Answering.{Answering}
use Rattle.access.specs.declared.route.Kind.{Kind}
use Rattle.access.specs.Table.{Named}
use Rattle.access.specs.declared.route.Route.{Route}
use Rattle.access.specs.declared.route.Route.TheVariants as route
use Rattle.protocol.specs.Printer.{is_call}

abbrev is_answer : Route → Bool
is_answer route.Nowhere = false
is_answer (route.Call s) = false
is_answer (route.Answer a) = true

call_way : (n : Named) → is_answer (call_route n) ≡ false
call_way None = refl
call_way (Some s) = by_pick (λ (r : Route). is_answer r ≡ false) (is_global_control s) (λ _. refl) (λ _. refl)

command_way : (n : Named) → is_answer (command_route n) ≡ false
command_way None = refl
command_way (Some s) = by_pick (λ (r : Route). is_answer r ≡ false) (is_global_control s) (λ _. refl) (λ _. refl)

by_class : (k : Class) (fc : ℕ) (dsap ssap : Sap) → is_call k ≡ true → is_answer (route_by (kind_by k fc) dsap ssap) ≡ false
by_class class.Opening fc dsap ssap e = call_way (named_by dsap ssap)
by_class class.Counted fc dsap ssap e = call_way (named_by dsap ssap)
by_class class.Uncounted fc dsap ssap e =
    by_pick (λ (k : Kind). is_answer (route_by k dsap ssap) ≡ false) (eqb (fc % 16) 4) (λ _. command_way (named_by dsap ssap))
    (λ _. by_pick (λ (k : Kind). is_answer (route_by k dsap ssap) ≡ false) (eqb (fc % 16) 6) (λ _. command_way (named_by dsap ssap)) (λ _. refl))
by_class class.Bare fc dsap ssap e = absurd (never e)
by_class class.Data fc dsap ssap e = absurd (never e)
by_class class.Reserved fc dsap ssap e = absurd (never e)

pub no_answer : (k : Class) (h : Header) (a : Answering) → is_call k ≡ true → route_by (kind_by k h.fc) h.dsap h.ssap ≡ route.Answer a → ⊥
no_answer k h a e way = never (sym (by_class k h.fc h.dsap h.ssap e) ∙ ap is_answer way)
