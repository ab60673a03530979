-- A service is read by a route that goes its way.
use Rattle.std.specs.Prelude.{ℕ, ◌≡◌, refl, true, List, Ok, Err}
use Rattle.std.proofs.Common.{ap}
use Rattle.octets.specs.Part.{part_of}
use Rattle.octets.specs.declared.Mode.{Mode}
use Rattle.fdl.specs.declared.telegram.Format.{Format}
use Rattle.fdl.specs.declared.telegram.Header.{Header}
use Rattle.fdl.specs.Reading as telegram-type
use Rattle.fdl.specs.declared.reading.Reading.TheVariants as telegram-reading
use Rattle.access.specs.Route.{route_of}
use Rattle.access.specs.declared.route.Route.{Route}
use Rattle.access.specs.declared.route.Route.TheVariants as route
use Rattle.content.specs.Reading.{call_of, answer_of, UserData}
use Rattle.service.specs.Reading.{placed_at, routed_by, service_in, goes, Reading}
use Rattle.service.specs.declared.reading.Way.{Way}
use Rattle.service.specs.declared.reading.Way.TheVariants as way

abbrev pub Goes : Reading → Type 0
Goes (Ok found) = goes found.way (route_of found.header) ≡ true
Goes (Err r) = Unit

module _ (f : Format) (h : Header) (at : ℕ) where
  placed_goes : (w : Way) (d : UserData) → goes w (route_of h) ≡ true → Goes (placed_at f h w at d)
  placed_goes w (Ok found) e = e
  placed_goes w (Err r) e = tt

  routed_goes : (user : List ℕ) (m : Mode) (r : Route) → route_of h ≡ r → Goes (routed_by r f h at user m)
  routed_goes user m route.Nowhere e = tt
  routed_goes user m (route.Call x) e = placed_goes way.Call (call_of x user m) (ap (goes way.Call) e)
  routed_goes user m (route.Answer a) e = placed_goes way.Answer (answer_of a user) (ap (goes way.Answer) e)

pub service_goes : (s : List ℕ) (m : Mode) (t : telegram-type.Reading) → Goes (service_in s m t)
service_goes s m (Ok telegram-reading.Confirmation) = tt
service_goes s m (Ok (telegram-reading.Token da sa)) = tt
service_goes s m (Ok (telegram-reading.Telegram f h start len)) = routed_goes f h start (part_of s start len) m (route_of h) refl
service_goes s m (Err r) = tt
