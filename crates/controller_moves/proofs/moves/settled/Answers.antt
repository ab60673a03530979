-- `controller_moves::moves::settled` meets its contract: what is found is template k, and its slot and length are compared.
use mathlib.Core.Path.{refl, sym, ap, ◌∙◌}
use Rattle.octets.specs.Refusals.{told}
use native.Mathlib.Omega.{arith}
use borrow.Author.Tests.{eq-eqb, ne_eqb}
use mathlib.Core.List.{List}
use Prim.Native.Nat.{ℕ}
use mathlib.Core.Bool.{not}
use Rattle.book.specs.Contents.{templates_of}
use Rattle.book.proofs.Laws.{templates_in_order}
use Rattle.controller_state.specs.Templates.{holds, none_left, one_left}
use Rattle.controller_moves.proofs.Following.{behind}
use Rattle.controller_moves.proofs.moves.settled.Goals as goal

pub returns-in_default : goal.returns-in_default
returns-in_default c =
    rw (none_left _ _ c.requires.0 c.requires.1 c.listed.ensures (ap told c.in_default.is))
    (record { move = refl; counted = tt })

pub returns-then-slot-ne1 : goal.returns-then-slot-ne1
returns-then-slot-ne1 c =
    let book_at : List ℕ = c.args.book.now in
    let held = holds book_at c.args.template c.requires.0 c.requires.1 c.listed.ensures (ap told c.in-Ok.is) in
    rw (one_left held, ne_eqb _ _ c.if-slot-ne1.true)
    (record { move = refl; counted = tt })

pub returns-then-index-found : goal.returns-then-index-found
returns-then-index-found c =
    let book_at : List ℕ = c.args.book.now in
    let held = holds book_at c.args.template c.requires.0 c.requires.1 c.listed.ensures (ap told c.in-Ok.is) in
    let h = held in
    rw (one_left h, eq-eqb _ _ c.if-slot-ne1.false, ne_eqb _ _ (λ e. c.if-index-found.true (e ∙ sym h.slot)))
    (record { move = refl; counted = tt })

pub returns-then-length-found : goal.returns-then-length-found
returns-then-length-found c =
    let book_at : List ℕ = c.args.book.now in
    let held = holds book_at c.args.template c.requires.0 c.requires.1 c.listed.ensures (ap told c.in-Ok.is) in
    let h = held in
    rw (one_left h, eq-eqb _ _ c.if-slot-ne1.false, eq-eqb _ _ (c.if-index-found.false ∙ h.slot), ne_eqb _ _ (λ e. c.if-length-found.true (e ∙ sym h.long)))
    (record { move = refl; counted = tt })

pub overflow_add-result : goal.overflow_add-result
overflow_add-result c =
    let book_at : List ℕ = c.args.book.now in
    let held = holds book_at c.args.template c.requires.0 c.requires.1 c.listed.ensures (ap told c.in-Ok.is) in
    omega (arith, (templates_in_order book_at c.requires.0).3, held.most)

pub returns : goal.returns
returns c =
    let book_at : List ℕ = c.args.book.now in
    let held = holds book_at c.args.template c.requires.0 c.requires.1 c.listed.ensures (ap told c.in-Ok.is) in
    let a = c.args in
    let h = held in
    rw (one_left h, eq-eqb _ _ c.if-slot-ne1.false, eq-eqb _ _ (c.if-index-found.false ∙ h.slot), eq-eqb _ _ (c.if-length-found.false ∙ h.long))
    (record { move = behind a.settings a.template (not a.fcb) a.settings.repeats (templates_of book_at); counted = omega arith })
