-- A pair of a table, and every second byte.
use Rattle.std.specs.Prelude.{◌≡◌, refl, Bool, true, List, ◌∷◌, ℕ, zero, suc, ◌+◌, ◌-◌, ◌*◌, ◌≤◌, ◌<◌, get_or, take, leb, Ok, Err}
use Rattle.std.proofs.Common.{ap, ◌∙◌, subst, arith}
use borrow.Author.Tests.{leb-true, le-leb}
use Rattle.octets.specs.Choice.{◌and◌}
use Rattle.octets.proofs.Choice.{by_pick, and_left, and_right}
use Rattle.book.specs.Table.{every_second, good_pair, pair_of, Table}

-- ---- a slot and its length that are not refused

pub record GoodPair (least x n : ℕ) : Type 0 where
  pub rises : least ≤ x
  pub slot : x ≤ 15
  pub some : 1 ≤ n
  pub most : n ≤ 200

pub good_pair_lem : (least x n : ℕ) → good_pair least x n ≡ true → GoodPair least x n
unfolding good_pair
good_pair_lem least x n e =
    let b : Bool = leb x 15 in
    let c : Bool = leb 1 n in
    let d : Bool = leb n 200 in
    let e2 = and_right (leb least x) (b and c and d) e in
    let e3 = and_right b (c and d) e2 in
    record {
      rises = leb-true least x (and_left (leb least x) (b and c and d) e);
      slot = leb-true x 15 (and_left b (c and d) e2);
      some = leb-true 1 n (and_left c d e3);
      most = leb-true n 200 (and_right c d e3);
    }

module _ (least total x n : ℕ) where
  abbrev GoodIf : Table → Type 0
  GoodIf (Ok t) = GoodPair least x n × (t ≡ total + n)
  GoodIf (Err r) = Unit

  judged : GoodIf (pair_of least total x n)
  unfolding pair_of
  judged = by_pick GoodIf (good_pair least x n) (λ e. (good_pair_lem least x n e, refl)) (λ _. tt)

  pub good : {t : ℕ} → pair_of least total x n ≡ Ok t → GoodPair least x n × (t ≡ total + n)
  good e = subst GoodIf e judged

  pub taken : GoodPair least x n → pair_of least total x n ≡ Ok (total + n)
  unfolding pair_of good_pair
  taken g = simp (le-leb _ _ g.rises, le-leb _ _ g.slot, le-leb _ _ g.some, le-leb _ _ g.most)

-- ---- every second byte

-- of n from the i-th on, k are passed
pub second_next : (n k i : ℕ) (s : List ℕ) → k < n
    → every_second (n - k) (i + 2 * k) s ≡ get_or s (i + 2 * k) 0 ∷ every_second (n - (k + 1)) (i + 2 * (k + 1)) s
second_next n k i s h =
    let e : n - k ≡ suc (n - (k + 1)) = omega arith in
    let f : suc (suc (i + 2 * k)) ≡ i + 2 * (k + 1) = omega arith in
    rw (e, f)

pub second_at : (k j i : ℕ) (s : List ℕ) → j < k → get_or (every_second k i s) j 0 ≡ get_or s (i + 2 * j) 0
second_at zero j i s h = absurd (omega arith)
second_at (suc k) zero i s h = let e : i + 2 * 0 ≡ i = omega arith in rw e
second_at (suc k) (suc j) i s h = let e : suc (suc i) + 2 * j ≡ i + 2 * suc j = omega arith in second_at k j (suc (suc i)) s (omega arith) ∙ rw e

pub second_take : (k j i : ℕ) (s : List ℕ) → j ≤ k → take j (every_second k i s) ≡ every_second j i s
second_take k zero i s h = refl
second_take zero (suc j) i s h = absurd (omega arith)
second_take (suc k) (suc j) i s h = ap (λ (l : List ℕ). get_or s i 0 ∷ l) (second_take k j (suc (suc i)) s (omega arith))
