-- The words of the laws of every route: a service's access points name it and no other, a header made for a service leads to it,
-- and answers come from few access points.
use Rattle.std.specs.Prelude.{◌≡◌, Bool, true, false, List, [], ◌∷◌, Some, None}
use Rattle.octets.specs.Choice.{one_of}
use Rattle.fdl.specs.declared.telegram.Header.{Header}
use Rattle.fdl.specs.Sap.{Sap}
use Rattle.access.specs.Table.{points_of, Named}
use Rattle.access.specs.Route.{points_with, answerer_of, header_by, header_of}
use Rattle.access.specs.declared.table.Service.{Service}
use Rattle.access.specs.declared.table.Row.{Row}
use Rattle.access.specs.declared.route.Kind.{Kind}
use Rattle.access.specs.declared.route.Route.{Route}
use Rattle.access.specs.declared.route.Route.TheVariants as route

abbrev pub Each : (Row → Type 0) → List Row → Type 0
Each Q [] = Unit
Each Q (r ∷ rows) = Q r × Each Q rows

-- a service that is named has these access points
abbrev pub Points-of : (slave master : Sap) → Named → Type 0
Points-of slave master (Some s) = points_of s ≡ points_with slave master
Points-of slave master None = Unit

-- the route leads to the service, or nowhere
abbrev pub Leads : Service → Route → Type 0
Leads s (route.Call x) = x ≡ s
Leads s (route.Answer a) = answerer_of a ≡ s
Leads s route.Nowhere = Unit

-- the header is the one that a service has by this kind of code
abbrev pub AgainBy : Kind → Header → Route → Type 0
AgainBy k h (route.Call s) = header_by k h.da h.sa h.fc (points_of s) ≡ h
AgainBy k h (route.Answer a) = header_by k h.da h.sa h.fc (points_of (answerer_of a)) ≡ h
AgainBy k h route.Nowhere = Unit

-- the header is the one that the service of its route has
abbrev pub Again : Header → Route → Type 0
Again h (route.Call s) = header_of s h.da h.sa h.fc ≡ h
Again h (route.Answer a) = header_of (answerer_of a) h.da h.sa h.fc ≡ h
Again h route.Nowhere = Unit

-- ---- answers
-- the access points, the slave's and the master's, from which an answer may come
abbrev pub answers_at : (slave master : Sap) → Bool
answers_at None None = true
answers_at None (Some master) = false
answers_at (Some slave) None = false
answers_at (Some slave) (Some master) = one_of slave (51 ∷ 56 ∷ 57 ∷ 59 ∷ 60 ∷ [])

abbrev pub Comes : Header → Route → Type 0
Comes h (route.Call s) = Unit
Comes h (route.Answer a) = answers_at h.ssap h.dsap ≡ true
Comes h route.Nowhere = Unit
