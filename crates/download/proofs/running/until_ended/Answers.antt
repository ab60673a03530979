-- `download::running::until_ended` meets its contract. The loop's invariant: what is left from the present on comes to the whole. The
-- measure is what is left of the bound.
use Rattle.std.specs.Prelude.{Ok}
use mathlib.Core.Path.{refl, sym, ap, ◌∙◌}
use native.Mathlib.Omega.{arith}
use lib.Seq.{length-take-le}
use Rattle.octets.specs.Refusals.{told}
use Rattle.protocol.specs.Printer.{lending}
use Rattle.protocol.proofs.Lemmas.Accepted.{taken}
use Rattle.download.proofs.Present.{bound_small, begins, steps_so, more_left, hears_it, goes_on, ended_so, not_refused_now, reply_room, request_room}
use Rattle.download.proofs.running.until_ended.Goals as goal

pub loop-action-init : goal.loop-action-init
loop-action-init c =
    let a = c.args in
    let not_yet = a.not_yet.now in
    let accepted = taken a.settings a.book.now a.line.now a.diagnosis.now (lending a.printer a.lengths.now a.bodies.now a.reply.now) a.request.now c.requires in
    (begins not_yet accepted, omega arith, refl, refl)

pub returns-in_err-action : goal.returns-in_err-action
returns-in_err-action c =
    let a = c.args in
    let not_yet = a.not_yet.now in
    let accepted = taken a.settings a.book.now a.line.now a.diagnosis.now (lending a.printer a.lengths.now a.bodies.now a.reply.now) a.request.now c.requires in
    let present = steps_so not_yet accepted c.loop-action.invariant.0 c.step.ensures in
    absurd (not_refused_now not_yet accepted (ap told c.in_err-action.was) present)

pub returns-in-End : goal.returns-in-End
returns-in-End c =
    let a = c.args in
    let not_yet = a.not_yet.now in
    let accepted = taken a.settings a.book.now a.line.now a.diagnosis.now (lending a.printer a.lengths.now a.bodies.now a.reply.now) a.request.now c.requires in
    let present = steps_so not_yet accepted c.loop-action.invariant.0 c.step.ensures in
    ended_so not_yet accepted (ap told c.in_ok-action.was ∙ ap Ok c.in-End.is) present

pub slice_bounds-send-end : goal.slice_bounds-send-end
slice_bounds-send-end c =
    let a = c.args in
    let not_yet = a.not_yet.now in
    let accepted = taken a.settings a.book.now a.line.now a.diagnosis.now (lending a.printer a.lengths.now a.bodies.now a.reply.now) a.request.now c.requires in
    let present = steps_so not_yet accepted c.loop-action.invariant.0 c.step.ensures in
    let room = request_room not_yet accepted present in
    omega (arith, room)

pub slice_bounds-send-end-in-Send : goal.slice_bounds-send-end-in-Send
slice_bounds-send-end-in-Send c =
    let a = c.args in
    let not_yet = a.not_yet.now in
    let accepted = taken a.settings a.book.now a.line.now a.diagnosis.now (lending a.printer a.lengths.now a.bodies.now a.reply.now) a.request.now c.requires in
    let present = steps_so not_yet accepted c.loop-action.invariant.0 c.step.ensures in
    let room = request_room not_yet accepted present in
    sym (length-take-le c.in-Send.count c.step.new.request (omega (arith, room)))

pub returns-in_err-reaction-in-Send : goal.returns-in_err-reaction-in-Send
returns-in_err-reaction-in-Send c =
    let a = c.args in
    let not_yet = a.not_yet.now in
    let accepted = taken a.settings a.book.now a.line.now a.diagnosis.now (lending a.printer a.lengths.now a.bodies.now a.reply.now) a.request.now c.requires in
    let present = steps_so not_yet accepted c.loop-action.invariant.0 c.step.ensures in
    let sends = ap told c.in_ok-action.was ∙ ap Ok c.in-Send.is in
    absurd (hears_it not_yet accepted sends present (rw c.at-entry.ensures at c.send.ensures) (ap told c.in_err-reaction-in-Send.was))

pub overflow_add-sent : goal.overflow_add-sent
overflow_add-sent c =
    let a = c.args in
    let not_yet = a.not_yet.now in
    let accepted = taken a.settings a.book.now a.line.now a.diagnosis.now (lending a.printer a.lengths.now a.bodies.now a.reply.now) a.request.now c.requires in
    let present = steps_so not_yet accepted c.loop-action.invariant.0 c.step.ensures in
    let sends = ap told c.in_ok-action.was ∙ ap Ok c.in-Send.is in
    let left = more_left not_yet accepted sends present in
    omega (arith, bound_small not_yet accepted, left)

pub loop-action-smaller : goal.loop-action-smaller
loop-action-smaller c =
    let a = c.args in
    let not_yet = a.not_yet.now in
    let accepted = taken a.settings a.book.now a.line.now a.diagnosis.now (lending a.printer a.lengths.now a.bodies.now a.reply.now) a.request.now c.requires in
    let present = steps_so not_yet accepted c.loop-action.invariant.0 c.step.ensures in
    let sends = ap told c.in_ok-action.was ∙ ap Ok c.in-Send.is in
    let left = more_left not_yet accepted sends present in
    omega (arith, left)

pub loop-action-preserved : goal.loop-action-preserved
loop-action-preserved c =
    let a = c.args in
    let not_yet = a.not_yet.now in
    let accepted = taken a.settings a.book.now a.line.now a.diagnosis.now (lending a.printer a.lengths.now a.bodies.now a.reply.now) a.request.now c.requires in
    let present = steps_so not_yet accepted c.loop-action.invariant.0 c.step.ensures in
    let sends = ap told c.in_ok-action.was ∙ ap Ok c.in-Send.is in
    let l = c.loop-action in (
      goes_on not_yet accepted sends present (rw c.at-entry.ensures at c.send.ensures) (ap told c.in_ok-reaction-in-Send.was),
      omega (arith, reply_room not_yet accepted present, c.send),
      omega (arith, l.invariant.2, c.send),
      omega (arith, l.invariant.3, c.step),
    )
