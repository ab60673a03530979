-- `configuration_writer::writing::put_special` meets its contract. Two stores: what follows behind the identifier byte.
use mathlib.Core.Path.{◌≡◌, sym, subst, ap, ap₂, ◌∙◌}
use mathlib.Core.List.{List, [], ◌∷◌, ◌++◌}
use Prim.Native.Nat.{ℕ, ◌+◌, ◌*◌, ◌≤◌}
use native.Mathlib.Omega.{arith}
use lib.ListN.{length, set, length-append, length-drop}
use Rattle.octets.specs.Front.{AtFront}
use Rattle.octets.proofs.Front.{stores, first_fits, within, rest_fits, both}
use Rattle.configuration.specs.Writing.{side_bytes, special_bytes}
use Rattle.configuration.proofs.Lemmas.Sides.{present_small}
use Rattle.configuration_writer.proofs.writing.put_special.Goals as goal

pub overflow_mul-out : goal.overflow_mul-out
overflow_mul-out c =
    let output : c.present.result ≤ 1 = omega (arith, present_small c.args.output) in
    omega (arith, output)

pub overflow_mul-out-2 : goal.overflow_mul-out-2
overflow_mul-out-2 c =
    let input : c.present-2.result ≤ 1 = omega (arith, present_small c.args.input) in
    omega (arith, input)

pub overflow_add-out : goal.overflow_add-out
overflow_add-out c =
    let output : c.present.result ≤ 1 = omega (arith, present_small c.args.output) in
    let input : c.present-2.result ≤ 1 = omega (arith, present_small c.args.input) in
    omega (arith, output, input)

pub overflow_add-out-2 : goal.overflow_add-out-2
overflow_add-out-2 c =
    let output : c.present.result ≤ 1 = omega (arith, present_small c.args.output) in
    let input : c.present-2.result ≤ 1 = omega (arith, present_small c.args.input) in
    omega (arith, output, input, c.requires.2)

pub bounds-out-0 : goal.bounds-out-0
unfolding special_bytes
bounds-out-0 c =
    let head_at : List ℕ = (128 * c.present.result + 64 * c.present-2.result + length c.args.vendor.now) ∷ [] in
    let rest_at : List ℕ = side_bytes c.args.output ++ (side_bytes c.args.input ++ c.args.vendor.now) in
    let whole : special_bytes c.args.input c.args.output c.args.vendor.now ≡ head_at ++ rest_at = ap₂ (λ (a b : ℕ). (128 * a + 64 * b + length c.args.vendor.now) ∷ rest_at) (sym c.present.ensures) (sym c.present-2.ensures) in
    let room : length (head_at ++ rest_at) ≤ length c.args.out.now = subst (λ (l : List ℕ). length l ≤ length c.args.out.now) whole c.requires.3 in
    first_fits head_at rest_at room

pub slice_bounds-put_output-count : goal.slice_bounds-put_output-count
unfolding special_bytes
slice_bounds-put_output-count c =
    let rest_at : List ℕ = side_bytes c.args.output ++ (side_bytes c.args.input ++ c.args.vendor.now) in
    let head_at : List ℕ = (128 * c.present.result + 64 * c.present-2.result + length c.args.vendor.now) ∷ [] in
    let whole : special_bytes c.args.input c.args.output c.args.vendor.now ≡ head_at ++ rest_at = ap₂ (λ (a b : ℕ). (128 * a + 64 * b + length c.args.vendor.now) ∷ rest_at) (sym c.present.ensures) (sym c.present-2.ensures) in
    let room : length (head_at ++ rest_at) ≤ length c.args.out.now = subst (λ (l : List ℕ). length l ≤ length c.args.out.now) whole c.requires.3 in
    let head : AtFront head_at c.args.out.now (set c.args.out.now 0 (128 * c.present.result + 64 * c.present-2.result + length c.args.vendor.now)) 1 = stores head_at c.args.out.now (first_fits head_at rest_at room) in
    omega (arith, within head rest_at room)

pub slice_bounds-put_output-start : goal.slice_bounds-put_output-start
slice_bounds-put_output-start c = slice_bounds-put_output-count c

pub put_output-requires : goal.put_output-requires
unfolding special_bytes
put_output-requires c =
    let rest_at : List ℕ = side_bytes c.args.output ++ (side_bytes c.args.input ++ c.args.vendor.now) in
    let head_at : List ℕ = (128 * c.present.result + 64 * c.present-2.result + length c.args.vendor.now) ∷ [] in
    let whole : special_bytes c.args.input c.args.output c.args.vendor.now ≡ head_at ++ rest_at = ap₂ (λ (a b : ℕ). (128 * a + 64 * b + length c.args.vendor.now) ∷ rest_at) (sym c.present.ensures) (sym c.present-2.ensures) in
    let room : length (head_at ++ rest_at) ≤ length c.args.out.now = subst (λ (l : List ℕ). length l ≤ length c.args.out.now) whole c.requires.3 in
    let head : AtFront head_at c.args.out.now (set c.args.out.now 0 (128 * c.present.result + 64 * c.present-2.result + length c.args.vendor.now)) 1 = stores head_at c.args.out.now (first_fits head_at rest_at room) in
    (c.requires.0, c.requires.1, rest_fits head rest_at room)

pub returns : goal.returns
unfolding special_bytes
returns c =
    let head_at : List ℕ = (128 * c.present.result + 64 * c.present-2.result + length c.args.vendor.now) ∷ [] in
    let rest_at : List ℕ = side_bytes c.args.output ++ (side_bytes c.args.input ++ c.args.vendor.now) in
    let whole : special_bytes c.args.input c.args.output c.args.vendor.now ≡ head_at ++ rest_at = ap₂ (λ (a b : ℕ). (128 * a + 64 * b + length c.args.vendor.now) ∷ rest_at) (sym c.present.ensures) (sym c.present-2.ensures) in
    let room : length (head_at ++ rest_at) ≤ length c.args.out.now = subst (λ (l : List ℕ). length l ≤ length c.args.out.now) whole c.requires.3 in
    let head : AtFront head_at c.args.out.now (set c.args.out.now 0 (128 * c.present.result + 64 * c.present-2.result + length c.args.vendor.now)) 1 = stores head_at c.args.out.now (first_fits head_at rest_at room) in
    rw whole (both head c.put_output.ensures)

pub overflow_add-result : goal.overflow_add-result
overflow_add-result c = omega (arith, (returns c).counted)

pub shape_of-out : goal.shape_of-out
shape_of-out c =
    ap length (returns c).bytes ∙ simp (length-append, length-drop) (omega (arith, c.requires.3))
