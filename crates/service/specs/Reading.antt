-- Reading a whole telegram as a service (document 01, "Refusal numbers" and "Services by access point"): the telegram's own
-- refusal, then 10, then what the service's format says of the user data.
use Rattle.std.specs.Prelude.{ℕ, ◌+◌, Bool, true, false, List, Ok, Err, Result}
use Rattle.octets.specs.Part.{part_of}
use Rattle.octets.specs.declared.Mode.{Mode}
use Rattle.fdl.specs.Reading as telegram
use Rattle.fdl.specs.declared.telegram.Format.{Format}
use Rattle.fdl.specs.declared.telegram.Header.{Header}
use Rattle.fdl.specs.declared.reading.Reading.TheVariants as telegram-reading
use Rattle.access.specs.Route.{route_of}
use Rattle.content.specs.Reading.{call_of, answer_of, UserData}
use Rattle.access.specs.declared.route.Route.{Route}
use Rattle.access.specs.declared.route.Route.TheVariants as route
use Rattle.service.specs.declared.reading.Way.{Way}
use Rattle.service.specs.declared.reading.Way.TheVariants as way
use Rattle.service.specs.declared.reading.Reading as whole

-- what reading answers: the service, or a refusal's number
abbrev pub Reading : Type 0
Reading = Result whole.Reading ℕ

abbrev pub refused : ℕ → Reading
refused k = Err k

-- the part's place in the telegram, where the user data stand at `at`
abbrev pub placed_at : Format → Header → Way → (at : ℕ) → UserData → Reading
placed_at f h w at (Ok found) = Ok (record { format = f; header = h; way = w; content = found.fields; start = at + found.start; len = found.len })
placed_at f h w at (Err r) = Err r

abbrev pub routed_by : Route → Format → Header → (at : ℕ) → (user : List ℕ) → Mode → Reading
routed_by route.Nowhere f h at user m = refused 10
routed_by (route.Call s) f h at user m = placed_at f h way.Call at (call_of s user m)
routed_by (route.Answer a) f h at user m = placed_at f h way.Answer at (answer_of a user)

-- a token and a short confirmation carry no service
abbrev pub service_in : List ℕ → Mode → telegram.Reading → Reading
service_in s m (Ok telegram-reading.Confirmation) = refused 10
service_in s m (Ok (telegram-reading.Token da sa)) = refused 10
service_in s m (Ok (telegram-reading.Telegram f h start len)) = routed_by (route_of h) f h start (part_of s start len) m
service_in s m (Err r) = Err r

unfoldable pub read_of : List ℕ → Mode → Reading
read_of s m = service_in s m (telegram.read_of s)

abbrev pub accepted : Reading → Bool
accepted (Ok found) = true
accepted (Err r) = false

-- does the route go this way
abbrev pub goes : Way → Route → Bool
goes way.Call (route.Call s) = true
goes way.Call (route.Answer a) = false
goes way.Call route.Nowhere = false
goes way.Answer (route.Call s) = false
goes way.Answer (route.Answer a) = true
goes way.Answer route.Nowhere = false
