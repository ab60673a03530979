-- `book_reader::table::sum_before` meets its contract. The sum over the pairs is the sum over every second byte.
use mathlib.Core.Path.{◌≡◌, refl, ap, ap₂, ◌∙◌}
use mathlib.Core.List.{List, [], ◌∷◌}
use Prim.Native.Nat.{ℕ, zero, suc, ◌+◌, ◌*◌, ◌≤◌, ◌<◌}
use native.Mathlib.Omega.{arith}
use lib.ListN.{length, get_or}
use borrow.Author.Rules.{rules}
use Rattle.std.specs.List.{sum_by}
use Rattle.std.proofs.lemmas.List.Sums.{sum_by-cons}
use Rattle.std.proofs.lemmas.Iterator.{YieldsList-from_slice, YieldsList-from_map}
use Rattle.std.proofs.lemmas.Iterator.Consumers.{sum_by_from_yields_List, fits_by_from_yields_list}
use Rattle.book.specs.Table.{every_second, sum_of}
use Rattle.book_reader.proofs.Pairs.{table_pairs}
use Rattle.book_reader.proofs.table.sum_before.Goals as goal

-- the length of a pair
abbrev len_in : List ℕ → ℕ
len_in pair = get_or pair 1 0

-- m pairs, each with its length at every second byte of s from the i-th on
sum_of_lens : (m i : ℕ) (s : List ℕ) (pairs : List (List ℕ)) → length pairs ≡ m → ((k : ℕ) → k < m → get_or (get_or pairs k []) 1 0 ≡ get_or s (i + 2 * k) 0)
    → sum_by len_in pairs ≡ sum_of (every_second m i s)
sum_of_lens zero i s [] l e = refl
sum_of_lens zero i s (p ∷ pairs) l e = absurd (omega arith)
sum_of_lens (suc m) i s [] l e = absurd (omega arith)
sum_of_lens (suc m) i s (p ∷ pairs) l e =
    let first : i + 2 * 0 ≡ i = omega arith in
    let here : get_or p 1 0 ≡ get_or s i 0 = e 0 (omega arith) ∙ ap (λ (j : ℕ). get_or s j 0) first in
    let next = λ (k : ℕ) (h : k < m). let z : i + 2 * suc k ≡ suc (suc i) + 2 * k = omega arith in e (suc k) (omega arith) ∙ ap (λ (j : ℕ). get_or s j 0) z in
    sum_by-cons len_in p pairs ∙ ap₂ (λ (x y : ℕ). x + y) here (sum_of_lens m (suc (suc i)) s pairs (omega arith) next)

sum_small : (m i : ℕ) (s : List ℕ) → ((k : ℕ) → get_or s k 0 < 256) → sum_of (every_second m i s) ≤ 255 * m
sum_small zero i s b = omega arith
sum_small (suc m) i s b = omega (arith, b i, sum_small m (suc (suc i)) s b)

pub sum-requires-clause-fits : goal.sum-requires-clause-fits
sum-requires-clause-fits c =
    let pairs = c.as_chunks.result.0.now in
    let p = table_pairs c.args.k c.args.bytes.now c.requires.1 pairs c.as_chunks.ensures.front c.as_chunks.ensures.front_len in
    let all = sum_of_lens c.args.k 2 c.args.bytes.now pairs p.count p.len in
    let small = sum_small c.args.k 2 c.args.bytes.now (λ k. (c.type_inv.bytes k).fits) in
    fits_by_from_yields_list len_in pairs c.map.result _ (YieldsList-from_map _ len_in (YieldsList-from_slice pairs cc) c.map.ensures.closure (λ x r q k. search rules)) (omega arith)

pub returns : goal.returns
returns c =
    let pairs = c.as_chunks.result.0.now in
    let p = table_pairs c.args.k c.args.bytes.now c.requires.1 pairs c.as_chunks.ensures.front c.as_chunks.ensures.front_len in
    let all = sum_of_lens c.args.k 2 c.args.bytes.now pairs p.count p.len in
    let small = sum_small c.args.k 2 c.args.bytes.now (λ k. (c.type_inv.bytes k).fits) in
    let e = sum_by_from_yields_List len_in pairs c.map.result c.sum.result c.sum.ensures.ran (YieldsList-from_map _ len_in (YieldsList-from_slice pairs cc) c.map.ensures.closure (λ x r q k. search rules)) in
    (e ∙ all, omega arith)
