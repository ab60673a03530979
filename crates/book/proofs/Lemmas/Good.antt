-- Tables that are not refused.
use Rattle.std.specs.Prelude.{◌≡◌, refl, List, [], ◌∷◌, ℕ, suc, ◌+◌, length, Ok, Err}
use Rattle.std.proofs.Common.{sym, ap, ◌∙◌, arith, add-zero, add_assoc}
use Rattle.book.specs.Table.{sum_of, pair_of, further, table_of, Table}
use Rattle.book.proofs.Lemmas.Pairs.{GoodPair, good, taken}

-- slots from m on that rise strictly, each with its length
pub data Good : ℕ → List ℕ → List ℕ → Type 0 where
  none : {m : ℕ} → Good m [] []
  one : {m x n : ℕ} {xs ns : List ℕ} → GoodPair m x n → Good (x + 1) xs ns → Good m (x ∷ xs) (n ∷ ns)

pub same_count : {m : ℕ} {xs ns : List ℕ} → Good m xs ns → length ns ≡ length xs
same_count none = refl
same_count (one p g) = ap suc (same_count g)

pub table_taken : {m : ℕ} {xs ns : List ℕ} (a : ℕ) → Good m xs ns → table_of m a xs ns ≡ Ok (a + sum_of ns)
unfolding table_of
table_taken a none = ap Ok (sym (add-zero a))
table_taken {m} a (one {x = x} {n = n} {xs = xs} {ns = ns} p g) =
    ap (λ (w : Table). further w (λ t. table_of (x + 1) t xs ns)) (taken m a x n p)
    ∙ table_taken (a + n) g
    ∙ ap Ok (add_assoc a n (sum_of ns))

pub record Judged (m a : ℕ) (xs ns : List ℕ) (t : ℕ) : Type 0 where
  pub good : Good m xs ns
  pub sum : t ≡ a + sum_of ns

pub table_good : (m a : ℕ) (xs ns : List ℕ) {t : ℕ} → length ns ≡ length xs → table_of m a xs ns ≡ Ok t → Judged m a xs ns t
unfolding table_of
table_good m a [] [] {t} h e = let f : a ≡ t = cc in record { good = none; sum = omega arith }
table_good m a [] (n ∷ ns) h e = absurd (omega arith)
table_good m a (x ∷ xs) [] h e = absurd (omega arith)
table_good m a (x ∷ xs) (n ∷ ns) {t} h e = by_pair (pair_of m a x n) refl e (λ u. table_good (x + 1) u xs ns (omega arith))
  where
    by_pair : (w : Table) → pair_of m a x n ≡ w → further w (λ u. table_of (x + 1) u xs ns) ≡ Ok t
        → ((u : ℕ) → table_of (x + 1) u xs ns ≡ Ok t → Judged (x + 1) u xs ns t) → Judged m a (x ∷ xs) (n ∷ ns) t
    by_pair (Ok u) p e go =
        let g = good m a x n p in
        let r = go u e in
        record { good = one g.0 r.good; sum = omega (arith, g.1, r.sum) }
    by_pair (Err r) p e go = absurd (let z : ◌≡◌ {A = ℕ} 0 1 = cc in omega arith)
