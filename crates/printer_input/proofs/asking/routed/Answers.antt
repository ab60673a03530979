-- `printer_input::asking::routed` meets its contract: by the route, which is no answer's.
use mathlib.Core.Logic.{inl, inr}
use mathlib.Core.Path.{◌≡◌, sym, ap, ◌∙◌}
use native.Mathlib.Omega.{arith}
use Rattle.octets.specs.declared.Mode.TheVariants.{Dpv1}
use Rattle.access.specs.Route.{route_of}
use Rattle.access.proofs.Laws.{class_route}
use Rattle.access.specs.declared.route.Route.{Route}
use Rattle.content.specs.Reading.{end_of, UserData}
use Rattle.content.proofs.Lemmas.Inside.{call_inside}
use Rattle.service.specs.Reading.{placed_at, routed_by}
use Rattle.service.specs.declared.reading.Way.TheVariants as way
use Rattle.protocol.specs.Printer.{unknown, ask_by}
use Rattle.printer_input.proofs.Way.{no_answer}
use Rattle.printer_input.proofs.asking.routed.Goals as goal

pub asked_by-requires : goal.asked_by-requires
asked_by-requires c =
    let e = ap end_of c.read_call-found.ensures in
    omega (arith, e, call_inside c.in-Call.service c.args.user.now Dpv1, c.requires.2)

pub returns-in-Nowhere : goal.returns-in-Nowhere
returns-in-Nowhere c s f =
    let told : route_of c.args.header ≡ c.route_by.result = let b = c in
    sym (c.route_by.ensures ∙ class_route b.args.header b.requires.0) in
    elim c.in-Nowhere.is as (λ _. unknown ≡ ask_by s (routed_by (route_of c.args.header) f c.args.header c.args.at c.args.user.now Dpv1)) [
      | inl e ↦ simp (told ∙ e)
      | inr w ↦ absurd (no_answer c.args.class c.args.header w.0 c.requires.1 (sym c.route_by.ensures ∙ w.1))
    ]

pub returns-in-Call : goal.returns-in-Call
returns-in-Call c s f =
    let told : route_of c.args.header ≡ c.route_by.result = let b = c in
    sym (c.route_by.ensures ∙ class_route b.args.header b.requires.0) in
    let a = c.args in
    c.asked_by.ensures s f a.header ∙ ap (λ (d : UserData). ask_by s (placed_at f a.header way.Call a.at d)) c.read_call-found.ensures
    ∙ sym (ap (λ (x : Route). ask_by s (routed_by x f a.header a.at a.user.now Dpv1)) (told ∙ c.in-Call.is))
