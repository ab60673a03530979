-- Which service a telegram's header names, and which way it goes (document 01, "Services by access point"). What goes nowhere
-- gets 10.
use Rattle.std.specs.Prelude.{ℕ, ◌%◌, Bool, true, false, eqb, Some, None}
use Rattle.octets.specs.Choice.{pick}
use Rattle.function_code.specs.Code.{class_of}
use Rattle.function_code.specs.declared.code.Class.{Class}
use Rattle.function_code.specs.declared.code.Class.TheVariants as class
use Rattle.fdl.specs.declared.telegram.Header.{Header}
use Rattle.fdl.specs.Sap.{Sap}
use Rattle.access.specs.Table.{look, services, points_of, Named}
use Rattle.access.specs.declared.table.Service.{Service}
use Rattle.access.specs.declared.table.Service.TheVariants as service
use Rattle.access.specs.declared.table.Points.{Points}
use Rattle.access.specs.declared.route.Kind.{Kind}
use Rattle.access.specs.declared.route.Kind.TheVariants as kind
use Rattle.access.specs.declared.route.Answering.{Answering}
use Rattle.access.specs.declared.route.Answering.TheVariants as answering
use Rattle.access.specs.declared.route.Route.{Route}
use Rattle.access.specs.declared.route.Route.TheVariants as route

-- ---- the access points: no access point is Data_Exchange, one of two is nothing

abbrev pub named_by : (slave master : Sap) → Named
named_by None None = Some service.DataExchange
named_by None (Some master) = None
named_by (Some slave) None = None
named_by (Some slave) (Some master) = look slave master services

-- ---- the function code: opening and counted calls, call functions 4 and 6, data answers, and no other

abbrev pub uncounted_kind : (fc : ℕ) → Kind
uncounted_kind fc = pick (eqb (fc % 16) 4) kind.Command (pick (eqb (fc % 16) 6) kind.Command kind.Other)

abbrev pub kind_by : Class → (fc : ℕ) → Kind
kind_by class.Opening fc = kind.Call
kind_by class.Counted fc = kind.Call
kind_by class.Uncounted fc = uncounted_kind fc
kind_by class.Bare fc = kind.Other
kind_by class.Data fc = kind.Answer
kind_by class.Reserved fc = kind.Other

unfoldable pub kind_of : (fc : ℕ) → Kind
kind_of fc = kind_by (class_of fc) fc

-- ---- the way

abbrev pub is_global_control : Service → Bool
is_global_control service.DataExchange = false
is_global_control service.Dpv1 = false
is_global_control service.ExtUserPrm = false
is_global_control service.SetSlaveAdr = false
is_global_control service.RdInp = false
is_global_control service.RdOutp = false
is_global_control service.GlobalControl = true
is_global_control service.GetCfg = false
is_global_control service.SlaveDiag = false
is_global_control service.SetPrm = false
is_global_control service.ChkCfg = false

-- an opening or counted call: not Global_Control, which has functions 4 and 6 alone
abbrev pub call_route : Named → Route
call_route None = route.Nowhere
call_route (Some s) = pick (is_global_control s) route.Nowhere (route.Call s)

-- functions 4 and 6: Global_Control alone
abbrev pub command_route : Named → Route
command_route None = route.Nowhere
command_route (Some s) = pick (is_global_control s) (route.Call s) route.Nowhere

-- the service that answers
abbrev pub answerer_of : Answering → Service
answerer_of answering.DataExchange = service.DataExchange
answerer_of answering.Dpv1 = service.Dpv1
answerer_of answering.RdInp = service.RdInp
answerer_of answering.RdOutp = service.RdOutp
answerer_of answering.GetCfg = service.GetCfg
answerer_of answering.SlaveDiag = service.SlaveDiag

-- data answers come only from these: 56, 57, 59, 60, 51 and Data_Exchange
abbrev pub answer_from : Service → Route
answer_from service.DataExchange = route.Answer answering.DataExchange
answer_from service.Dpv1 = route.Answer answering.Dpv1
answer_from service.ExtUserPrm = route.Nowhere
answer_from service.SetSlaveAdr = route.Nowhere
answer_from service.RdInp = route.Answer answering.RdInp
answer_from service.RdOutp = route.Answer answering.RdOutp
answer_from service.GlobalControl = route.Nowhere
answer_from service.GetCfg = route.Answer answering.GetCfg
answer_from service.SlaveDiag = route.Answer answering.SlaveDiag
answer_from service.SetPrm = route.Nowhere
answer_from service.ChkCfg = route.Nowhere

abbrev pub answer_route : Named → Route
answer_route None = route.Nowhere
answer_route (Some s) = answer_from s

-- ---- the whole

abbrev pub points_with : (slave master : Sap) → Points
points_with slave master = record { slave = slave; master = master }

-- the slave's access point and the master's: in a call DSAP is the slave's, in an answer SSAP
abbrev pub points_by : Kind → (dsap ssap : Sap) → Points
points_by kind.Call dsap ssap = points_with dsap ssap
points_by kind.Command dsap ssap = points_with dsap ssap
points_by kind.Answer dsap ssap = points_with ssap dsap
points_by kind.Other dsap ssap = points_with dsap ssap

abbrev pub way_by : Kind → Named → Route
way_by kind.Call n = call_route n
way_by kind.Command n = command_route n
way_by kind.Answer n = answer_route n
way_by kind.Other n = route.Nowhere

abbrev pub route_by : Kind → (dsap ssap : Sap) → Route
route_by k dsap ssap =
    let p = points_by k dsap ssap in
    way_by k (named_by p.slave p.master)

unfoldable pub route_of : Header → Route
route_of h = route_by (kind_of h.fc) h.dsap h.ssap

-- ---- the header of a service's telegram: in an answer the pair is turned round

abbrev pub header_with : (da sa fc : ℕ) (dsap ssap : Sap) → Header
header_with da sa fc dsap ssap = record { da = da; sa = sa; fc = fc; dsap = dsap; ssap = ssap }

abbrev pub header_by : Kind → (da sa fc : ℕ) → Points → Header
header_by kind.Call da sa fc p = header_with da sa fc p.slave p.master
header_by kind.Command da sa fc p = header_with da sa fc p.slave p.master
header_by kind.Answer da sa fc p = header_with da sa fc p.master p.slave
header_by kind.Other da sa fc p = header_with da sa fc p.slave p.master

unfoldable pub header_of : Service → (da sa fc : ℕ) → Header
header_of s da sa fc = header_by (kind_of fc) da sa fc (points_of s)

-- and the route of that header, from the service and the code alone (law `header_route`)
unfoldable pub service_route : Service → (fc : ℕ) → Route
service_route s fc = way_by (kind_of fc) (Some s)
