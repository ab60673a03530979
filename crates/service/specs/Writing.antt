-- Writing a whole telegram for a service (document 01, "Refusal numbers"): any bad telegram field gives 12, function code and data
-- length too; then the service its own number, 10 first; then 11.
use Rattle.std.specs.Prelude.{ℕ, List, Ok, Err}
use Rattle.octets.specs.Front.{Verdict, fault, Written}
use Rattle.octets.specs.Fixed.{judged}
use Rattle.fdl.specs.Writing as telegram
use Rattle.fdl.specs.declared.telegram.Format.{Format}
use Rattle.fdl.specs.declared.telegram.Header.{Header}
use Rattle.access.specs.Route.{answer_from, route_of, header_of}
use Rattle.access.specs.declared.route.Route.{Route}
use Rattle.access.specs.declared.route.Route.TheVariants as route
use Rattle.access.specs.declared.table.Service.{Service}
use Rattle.content.specs.Fields.{service_of}
use Rattle.content.specs.Writing.{bytes_for, call_verdict, answer_verdict}
use Rattle.content.specs.declared.fields.Content.{Content}
use Rattle.service.specs.declared.reading.Way.{Way}
use Rattle.service.specs.declared.reading.Way.TheVariants as way

-- the header: the function code decides the way, and service and way the access points
abbrev pub header_for : (da sa fc : ℕ) → Content → Header
header_for da sa fc c = header_of (service_of c) da sa fc

unfoldable pub telegram_for : Format → (da sa fc : ℕ) → Content → (part : List ℕ) → List ℕ
telegram_for f da sa fc c part = telegram.telegram_of f (header_for da sa fc c) (bytes_for c part)

-- the route of a service on its way
abbrev pub route_for : Way → Service → Route
route_for way.Call s = route.Call s
route_for way.Answer s = answer_from s

-- the way of a route that leads somewhere
abbrev pub way_by : Route → Way
way_by (route.Call s) = way.Call
way_by (route.Answer a) = way.Answer
way_by route.Nowhere = way.Call

-- the verdict on the data, by the way
abbrev pub way_verdict : Way → Content → (part : List ℕ) → Verdict
way_verdict way.Call c part = call_verdict c part
way_verdict way.Answer c part = answer_verdict c part

-- 10 for a function code that the service does not go by, then the data's own
abbrev pub route_verdict : Route → Content → (part : List ℕ) → Verdict
route_verdict route.Nowhere c part = fault 10
route_verdict (route.Call s) c part = way_verdict way.Call c part
route_verdict (route.Answer a) c part = way_verdict way.Answer c part

-- 12 for the telegram's fields comes before all of it
unfoldable pub verdict_of : Format → (da sa fc : ℕ) → Content → (part : List ℕ) → Verdict
verdict_of f da sa fc c part =
    judged fault (telegram.verdict_of f (header_for da sa fc c) (bytes_for c part)) (route_verdict (route_of (header_for da sa fc c)) c part)

-- data whose writer was lent no room: its own refusal, else 11
abbrev pub no_room : Written → Written
no_room (Ok n) = Err 11
no_room (Err k) = Err k
