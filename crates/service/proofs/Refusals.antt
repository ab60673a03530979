-- Every refusal of a service telegram, read or to be written, has a number of document 01's table.
use Rattle.std.specs.Prelude.{ℕ, ◌≡◌, refl, true, List, Ok, Err}
use Rattle.octets.proofs.Choice.{alike}
use Rattle.octets.specs.Front.{Verdict, fine, fault}
use Rattle.octets.specs.Refusals.{listed, numbered}
use Rattle.octets.proofs.Refusals.{both_numbered}
use Rattle.octets.specs.Part.{part_of}
use Rattle.octets.specs.declared.Mode.{Mode}
use Rattle.function_code.specs.Code.{class_of}
use Rattle.fdl.specs.Reading as telegram
use Rattle.fdl.proofs.Refusals as telegram-refusals
use Rattle.fdl.specs.declared.telegram.Format.{Format}
use Rattle.fdl.specs.declared.telegram.Header.{Header}
use Rattle.fdl.specs.declared.reading.Reading.TheVariants as telegram-reading
use Rattle.access.specs.Route.{route_of}
use Rattle.access.specs.declared.route.Route.{Route}
use Rattle.access.specs.declared.route.Route.TheVariants as route
use Rattle.content.specs.Reading.{call_of, answer_of, UserData}
use Rattle.content.proofs.Refusals.{data_verdict, call_numbered, answer_numbered, call_verdict_numbered, answer_verdict_numbered}
use Rattle.content.specs.declared.fields.Content.{Content}
use Rattle.service.specs.Reading.{placed_at, routed_by, service_in, read_of, Reading}
use Rattle.service.specs.Writing.{route_verdict, verdict_of}
use Rattle.service.specs.declared.reading.Way.{Way}
use Rattle.service.specs.declared.reading.Way.TheVariants as way

-- the verdict that a reading came to
abbrev pub verdict_in : Reading → Verdict
verdict_in (Ok found) = fine
verdict_in (Err r) = fault r

-- ---- reading

placed_numbered : (f : Format) (h : Header) (w : Way) (at : ℕ) (d : UserData) → numbered (data_verdict d) ≡ true
    → numbered (verdict_in (placed_at f h w at d)) ≡ true
placed_numbered f h w at (Ok found) e = refl
placed_numbered f h w at (Err r) e = e

routed_numbered : (r : Route) (f : Format) (h : Header) (at : ℕ) (user : List ℕ) (m : Mode) → numbered (verdict_in (routed_by r f h at user m)) ≡ true
unfolding listed
routed_numbered route.Nowhere f h at user m = refl
routed_numbered (route.Call s) f h at user m = placed_numbered f h way.Call at (call_of s user m) (call_numbered s user m)
routed_numbered (route.Answer a) f h at user m = placed_numbered f h way.Answer at (answer_of a user) (answer_numbered a user)

service_numbered : (s : List ℕ) (m : Mode) (t : telegram.Reading) → numbered (telegram-refusals.verdict_in t) ≡ true
    → numbered (verdict_in (service_in s m t)) ≡ true
unfolding listed
service_numbered s m (Ok telegram-reading.Confirmation) e = refl
service_numbered s m (Ok (telegram-reading.Token da sa)) e = refl
service_numbered s m (Ok (telegram-reading.Telegram f h start len)) e = routed_numbered (route_of h) f h start (part_of s start len) m
service_numbered s m (Err r) e = e

pub reading_numbered : (s : List ℕ) (m : Mode) → numbered (verdict_in (read_of s m)) ≡ true
unfolding read_of
reading_numbered s m = service_numbered s m (telegram.read_of s) (telegram-refusals.reading_numbered class_of s)

-- ---- writing

route_numbered : (r : Route) (c : Content) (part : List ℕ) → numbered (route_verdict r c part) ≡ true
unfolding listed
route_numbered route.Nowhere c part = refl
route_numbered (route.Call s) c part = call_verdict_numbered c part
route_numbered (route.Answer a) c part = answer_verdict_numbered c part

pub verdict_numbered : (f : Format) (da sa fc : ℕ) (c : Content) (part : List ℕ) → numbered (verdict_of f da sa fc c part) ≡ true
unfolding verdict_of
verdict_numbered f da sa fc c part =
    simp (both_numbered, alike, telegram-refusals.verdict_numbered, route_numbered)
