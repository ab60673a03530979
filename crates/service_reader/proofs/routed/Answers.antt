-- `service_reader::routed` meets its contract: by the route, and the part lies inside the user data.
use mathlib.Core.Path.{sym, ap, ◌∙◌}
use native.Mathlib.Omega.{arith}
use Rattle.octets.proofs.Refusals.{handed_on}
use Rattle.access.proofs.Laws.{class_route}
use Rattle.content.specs.Reading.{end_of}
use Rattle.content.proofs.Lemmas.Inside.{call_inside, answer_inside}
use Rattle.service.specs.Reading.{placed_at, routed_by}
use Rattle.service.specs.declared.reading.Way.TheVariants as way
use Rattle.access.specs.declared.route.Route.{Route}
use Rattle.service_reader.proofs.routed.Goals as goal

pub placed-requires : goal.placed-requires
placed-requires c =
    let a = c.args in
    let e = ap end_of c.in_ok-found-in-Call.ensures in
    omega (arith, e, call_inside c.in-Call.service a.user.now a.mode, c.requires.1)

pub placed-requires-in-Answer : goal.placed-requires-in-Answer
placed-requires-in-Answer c =
    let a = c.args in
    let e = ap end_of c.in_ok-found-in-Answer.ensures in
    omega (arith, e, answer_inside c.in-Answer.answering a.user.now, c.requires.1)

pub returns-in-Nowhere : goal.returns-in-Nowhere
returns-in-Nowhere c =
    let a = c.args in
    let told = sym (c.in-Nowhere.ensures ∙ class_route a.header c.requires.0) in
    sym (ap (λ (x : Route). routed_by x a.format a.header a.at a.user.now a.mode) told)

pub returns-in_ok-found-in-Call : goal.returns-in_ok-found-in-Call
returns-in_ok-found-in-Call c =
    let a = c.args in
    let told = sym (c.in-Call.ensures ∙ class_route a.header c.requires.0) in
    c.placed.ensures ∙ ap (placed_at a.format a.header way.Call a.at) c.in_ok-found-in-Call.ensures
    ∙ sym (ap (λ (x : Route). routed_by x a.format a.header a.at a.user.now a.mode) told)

pub returns-in_ok-found-in-Answer : goal.returns-in_ok-found-in-Answer
returns-in_ok-found-in-Answer c =
    let a = c.args in
    let told = sym (c.in-Answer.ensures ∙ class_route a.header c.requires.0) in
    c.placed-in-Answer.ensures ∙ ap (placed_at a.format a.header way.Answer a.at) c.in_ok-found-in-Answer.ensures
    ∙ sym (ap (λ (x : Route). routed_by x a.format a.header a.at a.user.now a.mode) told)

pub returns-in_err-found-in-Call : goal.returns-in_err-found-in-Call
returns-in_err-found-in-Call c =
    let a = c.args in
    let told = sym (c.in-Call.ensures ∙ class_route a.header c.requires.0) in
    handed_on _ _ c.from_residual.ensures ∙ ap (placed_at a.format a.header way.Call a.at) c.in_err-found-in-Call.ensures
    ∙ sym (ap (λ (x : Route). routed_by x a.format a.header a.at a.user.now a.mode) told)

pub returns-in_err-found-in-Answer : goal.returns-in_err-found-in-Answer
returns-in_err-found-in-Answer c =
    let a = c.args in
    let told = sym (c.in-Answer.ensures ∙ class_route a.header c.requires.0) in
    handed_on _ _ c.from_residual-in_err-found-in-Answer.ensures ∙ ap (placed_at a.format a.header way.Answer a.at) c.in_err-found-in-Answer.ensures
    ∙ sym (ap (λ (x : Route). routed_by x a.format a.header a.at a.user.now a.mode) told)
