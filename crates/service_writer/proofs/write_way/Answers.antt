-- `service_writer::write_way` meets its contract: the data are refused, or stand where the telegram has them.
use Rattle.std.specs.Prelude.{Result}
use mathlib.Core.Path.{◌≡◌, refl, sym, ap, ◌∙◌}
use mathlib.Core.Bool.{true}
use mathlib.Core.List.{List}
use Prim.Native.Nat.{ℕ, ◌≤◌, ◌<◌}
use native.Mathlib.Omega.{arith}
use lib.Dec.{ltb}
use lib.ListN.{length}
use borrow.Author.Tests.{lt-ltb, le-ltb, ltb-false}
use Rattle.octets.specs.Choice.{pick}
use Rattle.octets.specs.Refusals.{told}
use Rattle.octets.specs.declared.refusal.Refusal.{Refusal}
use Rattle.octets.proofs.Refusals.{handed_on}
use Rattle.octets.proofs.Choice.{by_pick}
use Rattle.fdl.specs.Around.{good_fields}
use Rattle.fdl.proofs.Lemmas.Around.{Fit, fit}
use Rattle.content.proofs.Laws.{bytes_long}
use Rattle.content.specs.Writing.{bytes_for}
use Rattle.service.specs.Writing.{way_verdict, no_room}
use Rattle.service.proofs.Lemmas.Placed.{without_room, data_refused, data_stored}
use Rattle.service_writer.proofs.write_way.Goals as goal

-- where the data's writer is lent the slice from
at_end : {from room whole : ℕ} (start : ℕ) → from ≡ pick (ltb room whole) room start → room < whole → from ≡ room
at_end start e h = e ∙ simp (lt-ltb _ _ h)

at_place : {from room whole : ℕ} (start : ℕ) → from ≡ pick (ltb room whole) room start → whole ≤ room → from ≡ start
at_place start e h = e ∙ simp (le-ltb _ _ h)

inside : {from room whole : ℕ} (start : ℕ) → from ≡ pick (ltb room whole) room start → start ≤ whole → from ≤ room
inside {room = room} {whole = whole} start e h =
    rw e (by_pick (λ (n : ℕ). n ≤ room) (ltb room whole) (λ _. omega arith) (λ f. omega (arith, ltb-false room whole f)))

pub overflow_add-whole : goal.overflow_add-whole
overflow_add-whole c =
    let data_at : List ℕ = bytes_for c.args.content c.args.part.now in
    let sized : length data_at ≡ c.args.len = bytes_long c.args.content c.args.part.now ∙ sym c.requires.0 in
    let good : good_fields c.args.format c.args.header (length data_at) ≡ true = rw sized c.requires.1 in
    let fit_at : Fit c.args.format c.args.header data_at (length data_at) = fit c.args.format c.args.header data_at refl good in
    omega (arith, sized, c.user_start-start.ensures, fit_at.most)

pub overflow_add-whole-2 : goal.overflow_add-whole-2
overflow_add-whole-2 c =
    let data_at : List ℕ = bytes_for c.args.content c.args.part.now in
    let sized : length data_at ≡ c.args.len = bytes_long c.args.content c.args.part.now ∙ sym c.requires.0 in
    let good : good_fields c.args.format c.args.header (length data_at) ≡ true = rw sized c.requires.1 in
    let fit_at : Fit c.args.format c.args.header data_at (length data_at) = fit c.args.format c.args.header data_at refl good in
    omega (arith, sized, c.user_start-start.ensures, fit_at.most)

pub slice_bounds-write_data-count : goal.slice_bounds-write_data-count
slice_bounds-write_data-count c = inside c.user_start-start.result c.lent_from-from.ensures (omega arith)

pub slice_bounds-write_data-start : goal.slice_bounds-write_data-start
slice_bounds-write_data-start c = omega (arith, slice_bounds-write_data-count c)

-- no room for the telegram, and the data are not refused
pub returns-then-room-whole : goal.returns-then-room-whole
returns-then-room-whole c =
    let data_at : List ℕ = bytes_for c.args.content c.args.part.now in
    let sized : length data_at ≡ c.args.len = bytes_long c.args.content c.args.part.now ∙ sym c.requires.0 in
    let good : good_fields c.args.format c.args.header (length data_at) ≡ true = rw sized c.requires.1 in
    let a = c.args in
    let e = at_end c.user_start-start.result c.lent_from-from.ensures c.if-room-whole.true in
    let o =
    without_room a.format a.header data_at a.out.now (way_verdict a.way a.content a.part.now) good (omega (arith, sized, c.user_start-start.ensures, c.if-room-whole.true)) (rw e at c.write_data-written.ensures.answer)
    (rw e at c.write_data-written.ensures.bytes)
    in
    record { answer = sym (ap (λ (w : Result ℕ Refusal). no_room (told w)) c.in_ok-written.was) ∙ o.0; bytes = rw e o.1 }

-- no room for the telegram, and the data are refused
pub returns-in_err-written : goal.returns-in_err-written
returns-in_err-written c =
    let data_at : List ℕ = bytes_for c.args.content c.args.part.now in
    let sized : length data_at ≡ c.args.len = bytes_long c.args.content c.args.part.now ∙ sym c.requires.0 in
    let good : good_fields c.args.format c.args.header (length data_at) ≡ true = rw sized c.requires.1 in
    let a = c.args in
    let e = at_end c.user_start-start.result c.lent_from-from.ensures c.if-room-whole.true in
    let o =
    without_room a.format a.header data_at a.out.now (way_verdict a.way a.content a.part.now) good (omega (arith, sized, c.user_start-start.ensures, c.if-room-whole.true)) (rw e at c.write_data-written.ensures.answer)
    (rw e at c.write_data-written.ensures.bytes)
    in
    record {
      answer = handed_on _ _ c.from_residual.ensures ∙ sym (ap (λ (w : Result ℕ Refusal). no_room (told w)) c.in_err-written.was) ∙ o.0;
      bytes = rw e o.1;
    }

pub returns : goal.returns
returns c =
    let data_at : List ℕ = bytes_for c.args.content c.args.part.now in
    let sized : length data_at ≡ c.args.len = bytes_long c.args.content c.args.part.now ∙ sym c.requires.0 in
    let good : good_fields c.args.format c.args.header (length data_at) ≡ true = rw sized c.requires.1 in
    let a = c.args in
    let e = at_place c.user_start-start.result c.lent_from-from.ensures c.if-room-whole.false in
    let o = data_stored a.format a.header data_at a.out.now c.user_start-start.result c.user_start-start.ensures
    (way_verdict a.way a.content a.part.now) good (omega (arith, sized, c.if-room-whole.false)) (sym (ap told c.in_ok-stored.was) ∙ rw e at c.write_data-written.ensures.answer) (rw e at c.write_data-written.ensures.bytes)
    (rw e at c.write_around.ensures.answer) (rw e at c.write_around.ensures.bytes) in
    record { answer = o.0; bytes = o.1 }

pub returns-in_err-stored : goal.returns-in_err-stored
returns-in_err-stored c =
    let data_at : List ℕ = bytes_for c.args.content c.args.part.now in
    let sized : length data_at ≡ c.args.len = bytes_long c.args.content c.args.part.now ∙ sym c.requires.0 in
    let a = c.args in
    let e = at_place c.user_start-start.result c.lent_from-from.ensures c.if-room-whole.false in
    let o = data_refused a.format a.header data_at a.out.now c.user_start-start.result c.user_start-start.ensures
    (way_verdict a.way a.content a.part.now) (omega (arith, sized, c.if-room-whole.false)) (sym (ap told c.in_err-stored.was) ∙ rw e at c.write_data-written.ensures.answer) (rw e at c.write_data-written.ensures.bytes) in
    record { answer = handed_on _ _ c.from_residual-in_err-stored.ensures ∙ o.0; bytes = rw e o.1 }
