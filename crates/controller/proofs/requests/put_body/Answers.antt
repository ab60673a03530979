-- `controller::requests::put_body` meets its contract: the data stand in their place, and the telegram is made around them.
use mathlib.Core.Path.{◌≡◌, refl, sym, ap, ◌∙◌, subst}
use mathlib.Core.Bool.{true}
use mathlib.Core.List.{List}
use Prim.Native.Nat.{ℕ, ◌+◌, ◌≤◌}
use native.Mathlib.Omega.{arith}
use lib.ListN.{length}
use Rattle.fdl.specs.Around.{good_fields}
use Rattle.fdl.proofs.Lemmas.Around.{Fit, fit}
use Rattle.fdl.specs.Writing.{telegram_of}
use Rattle.fdl.specs.declared.telegram.Format.TheVariants.{Sd2}
use Rattle.fdl.specs.declared.telegram.Header.{Header}
use Rattle.acyclic.specs.declared.calls.Call.TheVariants as call
use Rattle.content.proofs.Laws.{bytes_long}
use Rattle.content.specs.Writing.{bytes_for}
use Rattle.content.specs.declared.fields.Content.TheVariants as content
use Rattle.protocol.specs.Line.{go}
use Rattle.protocol.specs.Controller.{acted}
use Rattle.controller.proofs.Written.{unsent, placed_short, placed_sent}
use Rattle.controller.proofs.requests.put_body.Goals as goal

pub returns-then-request-start : goal.returns-then-request-start
returns-then-request-start c =
    let data_at : List ℕ = bytes_for (content.Dpv1Call (call.Write 1 c.args.index)) c.args.body.now in
    let header_at : Header = c.header_of-header.result in
    let sized : length data_at ≡ 4 + length c.args.body.now = bytes_long (content.Dpv1Call (call.Write 1 c.args.index)) c.args.body.now in
    let good : good_fields Sd2 header_at (length data_at) ≡ true = let c = c in
    subst (λ (h : Header). good_fields Sd2 h (length data_at) ≡ true) (sym c.header_of-header.ensures) (rw sized c.requires.1) in
    let fit_at : Fit Sd2 header_at data_at (length data_at) = fit Sd2 header_at data_at refl good in
    unsent (telegram_of Sd2 header_at data_at) c.args.request.now c.args.controller (omega (arith, fit_at.total, c.user_start-start.ensures, sized, c.if-request-start.true))
    ∙ ap (λ (h : Header). acted (go (telegram_of Sd2 h data_at) c.args.controller) c.args.request.now) c.header_of-header.ensures

pub sent-requires : goal.sent-requires
sent-requires c =
    let data_at : List ℕ = bytes_for (content.Dpv1Call (call.Write 1 c.args.index)) c.args.body.now in
    let header_at : Header = c.header_of-header.result in
    let sized : length data_at ≡ 4 + length c.args.body.now = bytes_long (content.Dpv1Call (call.Write 1 c.args.index)) c.args.body.now in
    let good : good_fields Sd2 header_at (length data_at) ≡ true = let c = c in
    subst (λ (h : Header). good_fields Sd2 h (length data_at) ≡ true) (sym c.header_of-header.ensures) (rw sized c.requires.1) in
    let room_at : c.user_start-start.result + length data_at + 2 ≤ length c.args.request.now = omega (arith, sized, c.if-request-start.false) in
    placed_short Sd2 header_at data_at c.args.request.now c.user_start-start.result c.user_start-start.ensures good room_at c.put_data-len.ensures c.write_around-written.ensures.answer

pub returns : goal.returns
returns c =
    let data_at : List ℕ = bytes_for (content.Dpv1Call (call.Write 1 c.args.index)) c.args.body.now in
    let header_at : Header = c.header_of-header.result in
    let sized : length data_at ≡ 4 + length c.args.body.now = bytes_long (content.Dpv1Call (call.Write 1 c.args.index)) c.args.body.now in
    let good : good_fields Sd2 header_at (length data_at) ≡ true = let c = c in
    subst (λ (h : Header). good_fields Sd2 h (length data_at) ≡ true) (sym c.header_of-header.ensures) (rw sized c.requires.1) in
    let room_at : c.user_start-start.result + length data_at + 2 ≤ length c.args.request.now = omega (arith, sized, c.if-request-start.false) in
    placed_sent Sd2 header_at data_at c.args.request.now c.user_start-start.result c.user_start-start.ensures good room_at c.put_data-len.ensures c.write_around-written.ensures.answer c.args.controller c.write_around-written.ensures.bytes c.sent.ensures
    ∙ ap (λ (h : Header). acted (go (telegram_of Sd2 h data_at) c.args.controller) c.args.request.now) c.header_of-header.ensures
