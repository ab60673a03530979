-- `printer_state::checking::long_slot` meets its contract. What is known of the lengths so far is whether one of them is too long.
use mathlib.Core.Path.{◌≡◌, refl, ap, ◌∙◌}
use mathlib.Core.Bool.{Bool, true, false}
use mathlib.Core.List.{List, [], ◌∷◌, ◌++◌}
use Prim.Native.Nat.{ℕ}
use lib.Dec.{ltb}
use borrow.Author.Rules.{rules}
use Rattle.std.proofs.lemmas.Fn.{fold_over, fronts, slice_gives}
use Rattle.octets.specs.Choice.{◌or◌}
use Rattle.protocol.specs.Slots.{too_long}
use Rattle.printer_state.proofs.checking.long_slot.Goals as goal

swapped : (a b c : Bool) → (a or (b or c)) ≡ (b or (a or c))
swapped true true c = refl
swapped true false c = refl
swapped false b c = refl

-- one length more behind the others
one_more : (ns : List ℕ) (n : ℕ) → (ltb 200 n or too_long ns) ≡ too_long (ns ++ (n ∷ []))
one_more [] n = refl
one_more (m ∷ ns) n = swapped (ltb 200 n) (ltb 200 m) (too_long ns) ∙ ap (λ (b : Bool). ltb 200 m or b) (one_more ns n)

pub returns : goal.returns
returns c =
    let all : c.iter.result.rest.now ≡ c.args.lengths.now = cc in
    let folded : c.fold.result ≡ too_long c.iter.result.rest.now = fold_over fronts _ _ (λ ns long. long ≡ too_long ns) _
    (λ ns long n next f j k. let e : next ≡ (ltb 200 n.now or long) = search rules in (e ∙ ap (λ (b : Bool). ltb 200 n.now or b) j ∙ one_more ns n.now, search rules))
    c.iter.result _ _ _ (slice_gives c.iter.result) refl c.fold.ensures.ran
    in
    folded ∙ ap too_long all
