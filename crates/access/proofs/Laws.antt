-- What holds of every route: a service's access points name it and no other, a header made for a service leads to it, and
-- answers come from few access points.
use Rattle.std.specs.Prelude.{ℕ, ◌≡◌, true, List, [], ◌∷◌, eqb, Some, None}
use Rattle.std.proofs.Math.Path.{refl}
use Rattle.std.proofs.Common.{sym, ap, ◌∙◌, subst, eqb-true}
use Rattle.octets.proofs.Choice.{by_pick}
use Rattle.function_code.specs.Code.{class_of}
use Rattle.function_code.specs.declared.code.Class.{Class}
use Rattle.fdl.specs.declared.telegram.Header.{Header}
use Rattle.fdl.specs.Sap.{Sap}
use Rattle.access.specs.Table.{row_of, look, services, points_in, points_of, Named}
use Rattle.access.specs.Route.{points_with, named_by, kind_by, kind_of, is_global_control, call_route, command_route, answerer_of, answer_from, answer_route, way_by, route_by, route_of, header_by, header_of, service_route}
use Rattle.access.specs.declared.table.Service.{Service}
use Rattle.access.specs.declared.table.Service.TheVariants as service
use Rattle.access.specs.declared.table.Row.{Row}
use Rattle.access.specs.declared.table.Points.{Points}
use Rattle.access.specs.declared.route.Kind.{Kind}
use Rattle.access.specs.declared.route.Kind.TheVariants as kind
use Rattle.access.specs.declared.route.Answering.{Answering}
use Rattle.access.specs.declared.route.Answering.TheVariants as answering
use Rattle.access.specs.declared.route.Route.{Route}
use Rattle.access.specs.declared.route.Route.TheVariants as route
use Rattle.access.specs.Laws.{Each, Points-of, Leads, AgainBy, Again, answers_at, Comes}

-- ---- the list
-- The access points of a service name it.
pub points_named : (s : Service) → named_by (points_of s).slave (points_of s).master ≡ Some s
unfolding look services
points_named service.DataExchange = refl
points_named service.Dpv1 = refl
points_named service.ExtUserPrm = refl
points_named service.SetSlaveAdr = refl
points_named service.RdInp = refl
points_named service.RdOutp = refl
points_named service.GlobalControl = refl
points_named service.GetCfg = refl
points_named service.SlaveDiag = refl
points_named service.SetPrm = refl
points_named service.ChkCfg = refl

-- what holds of every row, where it has the pair, and of none, holds of what is found
found_by_lem : (P : Named → Type 0) (slave master : ℕ) (rows : List Row) → P None
    → Each (λ r. r.slave ≡ slave → r.master ≡ master → P (Some r.service)) rows → P (look slave master rows)
unfolding look
found_by_lem P slave master [] n q = n
found_by_lem P slave master (r ∷ rows) n q =
    let rest = found_by_lem P slave master rows n q.1 in
    by_pick P (eqb r.slave slave) (λ e. by_pick P (eqb r.master master) (λ f. q.0 (eqb-true _ _ e) (eqb-true _ _ f)) (λ _. rest)) (λ _. rest)

-- the access points of a service in the list are its row's
in_row : {slave master : ℕ} (s : Service) → points_of s ≡ points_in (row_of s) → (row_of s).slave ≡ slave → (row_of s).master ≡ master
    → Points-of (Some slave) (Some master) (Some s)
in_row s p e f = rw (← e, ← f) p

-- A service that a pair names has that pair.
pub named_points : (slave master : Sap) → Points-of slave master (named_by slave master)
unfolding services
named_points None None = refl
named_points None (Some m) = tt
named_points (Some s) None = tt
named_points (Some s) (Some m) =
    found_by_lem (Points-of (Some s) (Some m)) s m services tt
    (in_row service.Dpv1 refl, (in_row service.ExtUserPrm refl, (in_row service.SetSlaveAdr refl, (in_row service.RdInp refl, (in_row service.RdOutp refl, (in_row service.GlobalControl refl, (in_row service.GetCfg refl, (in_row service.SlaveDiag refl, (in_row service.SetPrm refl, (in_row service.ChkCfg refl, tt))))))))))

-- ---- headers
pub answerer_routed : (a : Answering) → answer_from (answerer_of a) ≡ route.Answer a
answerer_routed answering.DataExchange = refl
answerer_routed answering.Dpv1 = refl
answerer_routed answering.RdInp = refl
answerer_routed answering.RdOutp = refl
answerer_routed answering.GetCfg = refl
answerer_routed answering.SlaveDiag = refl

call_leads : (s : Service) → Leads s (call_route (Some s))
call_leads s = by_pick (Leads s) (is_global_control s) (λ _. tt) (λ _. refl)

command_leads : (s : Service) → Leads s (command_route (Some s))
command_leads s = by_pick (Leads s) (is_global_control s) (λ _. refl) (λ _. tt)

answer_leads : (s : Service) → Leads s (answer_from s)
answer_leads service.DataExchange = refl
answer_leads service.Dpv1 = refl
answer_leads service.ExtUserPrm = tt
answer_leads service.SetSlaveAdr = tt
answer_leads service.RdInp = refl
answer_leads service.RdOutp = refl
answer_leads service.GlobalControl = tt
answer_leads service.GetCfg = refl
answer_leads service.SlaveDiag = refl
answer_leads service.SetPrm = tt
answer_leads service.ChkCfg = tt

leads_by : (s : Service) (k : Kind) → Leads s (way_by k (Some s))
leads_by s kind.Call = call_leads s
leads_by s kind.Command = command_leads s
leads_by s kind.Answer = answer_leads s
leads_by s kind.Other = tt

module _ (s : Service) (da sa fc : ℕ) where
  -- the code of a header is the one that it was made with
  pub header_code : (header_of s da sa fc).fc ≡ fc
  unfolding header_of
  header_code = code_by (kind_of fc) where
    code_by : (k : Kind) → (header_by k da sa fc (points_of s)).fc ≡ fc
    code_by kind.Call = refl
    code_by kind.Command = refl
    code_by kind.Answer = refl
    code_by kind.Other = refl

  -- The route of that header is the one by service and code: its access points name the service.
  pub header_route : route_of (header_of s da sa fc) ≡ service_route s fc
  unfolding header_of route_of service_route
  header_route = rw header_code (route_by_lem (kind_of fc)) where
    route_by_lem : (k : Kind) →
        let h = header_by k da sa fc (points_of s) in
        route_by k h.dsap h.ssap ≡ way_by k (Some s)
    route_by_lem kind.Call = rw (points_named s)
    route_by_lem kind.Command = rw (points_named s)
    route_by_lem kind.Answer = rw (points_named s)
    route_by_lem kind.Other = refl

  -- It leads to the service, or nowhere: to no other.
  pub header_leads : Leads s (route_of (header_of s da sa fc))
  unfolding service_route
  header_leads = rw header_route (leads_by s (kind_of fc))

-- what holds of no route, and of every service with the access points, holds of the route of what they name: of an answer's
module _ (P : Route → Type 0) (slave master : Sap) (none : P route.Nowhere) where
  answer_in_lem : (n : Named) → Points-of slave master n → ((a : Answering) → points_of (answerer_of a) ≡ points_with slave master → P (route.Answer a))
      → P (answer_route n)
  answer_in_lem None p q = none
  answer_in_lem (Some service.DataExchange) p q = q answering.DataExchange p
  answer_in_lem (Some service.Dpv1) p q = q answering.Dpv1 p
  answer_in_lem (Some service.ExtUserPrm) p q = none
  answer_in_lem (Some service.SetSlaveAdr) p q = none
  answer_in_lem (Some service.RdInp) p q = q answering.RdInp p
  answer_in_lem (Some service.RdOutp) p q = q answering.RdOutp p
  answer_in_lem (Some service.GlobalControl) p q = none
  answer_in_lem (Some service.GetCfg) p q = q answering.GetCfg p
  answer_in_lem (Some service.SlaveDiag) p q = q answering.SlaveDiag p
  answer_in_lem (Some service.SetPrm) p q = none
  answer_in_lem (Some service.ChkCfg) p q = none

  by_answer : ((a : Answering) → points_of (answerer_of a) ≡ points_with slave master → P (route.Answer a)) → P (answer_route (named_by slave master))
  by_answer q = answer_in_lem (named_by slave master) (named_points slave master) q

  -- and of a call's, of either kind
  call_in_lem : (n : Named) → Points-of slave master n → ((s : Service) → points_of s ≡ points_with slave master → P (route.Call s))
      → P (call_route n) × P (command_route n)
  call_in_lem None p q = (none, none)
  call_in_lem (Some s) p q =
      (by_pick P (is_global_control s) (λ _. none) (λ _. q s p), by_pick P (is_global_control s) (λ _. q s p) (λ _. none))

  by_call : ((s : Service) → points_of s ≡ points_with slave master → P (route.Call s))
      → P (call_route (named_by slave master)) × P (command_route (named_by slave master))
  by_call q = call_in_lem (named_by slave master) (named_points slave master) q

module _ (h : Header) where
  same : (k : Kind) (s : Service) (slave master : Sap) → points_of s ≡ points_with slave master
      → header_by k h.da h.sa h.fc (points_of s) ≡ header_by k h.da h.sa h.fc (points_with slave master)
  same k s slave master e = ap (header_by k h.da h.sa h.fc) e

  again_by : (k : Kind) → AgainBy k h (route_by k h.dsap h.ssap)
  again_by kind.Call =
      (by_call (AgainBy kind.Call h) h.dsap h.ssap tt (λ s e. same kind.Call s h.dsap h.ssap e)).0
  again_by kind.Command =
      (by_call (AgainBy kind.Command h) h.dsap h.ssap tt (λ s e. same kind.Command s h.dsap h.ssap e)).1
  again_by kind.Answer =
      by_answer (AgainBy kind.Answer h) h.ssap h.dsap tt (λ a e. same kind.Answer (answerer_of a) h.ssap h.dsap e)
  again_by kind.Other = tt

  again_as : (r : Route) → AgainBy (kind_of h.fc) h r → Again h r
  unfolding header_of
  again_as (route.Call s) e = e
  again_as (route.Answer a) e = e
  again_as route.Nowhere e = tt

  -- A header that leads to a service is the one that the service's telegram has with these addresses and this code.
  pub header_again : Again h (route_of h)
  unfolding route_of
  header_again = again_as (route_of h) (again_by (kind_of h.fc))

-- The route by the class of its function code is the header's.
pub class_route : (h : Header) {k : Class} → k ≡ class_of h.fc → route_by (kind_by k h.fc) h.dsap h.ssap ≡ route_of h
unfolding kind_of route_of
class_route h e = ap (λ (k : Class). route_by (kind_by k h.fc) h.dsap h.ssap) e

answerer_answers : (a : Answering) → answers_at (points_of (answerer_of a)).slave (points_of (answerer_of a)).master ≡ true
answerer_answers answering.DataExchange = refl
answerer_answers answering.Dpv1 = refl
answerer_answers answering.RdInp = refl
answerer_answers answering.RdOutp = refl
answerer_answers answering.GetCfg = refl
answerer_answers answering.SlaveDiag = refl

comes_by : (h : Header) (k : Kind) → Comes h (route_by k h.dsap h.ssap)
comes_by h kind.Call =
    (by_call (Comes h) h.dsap h.ssap tt (λ s e. tt)).0
comes_by h kind.Command =
    (by_call (Comes h) h.dsap h.ssap tt (λ s e. tt)).1
comes_by h kind.Answer =
    by_answer (Comes h) h.ssap h.dsap tt
    (λ a e. ap (λ (p : Points). answers_at p.slave p.master) (sym e) ∙ answerer_answers a)
comes_by h kind.Other = tt

-- An answer comes only from 51, 56, 57, 59 and 60, with both access points, or without any.
pub answers_only_from : (h : Header) {a : Answering} → route_of h ≡ route.Answer a → answers_at h.ssap h.dsap ≡ true
unfolding route_of
answers_only_from h e = subst (Comes h) e (comes_by h (kind_of h.fc))
