-- A table while it is judged: what the pairs that are left come to, from the total so far, is what the whole comes to.
use Rattle.std.specs.Prelude.{◌≡◌, refl, Bool, true, false, not, List, [], ◌∷◌, ℕ, ◌+◌, ◌*◌, ◌≤◌, Ok}
use Rattle.std.proofs.Math.Path.{sym}
use Rattle.std.proofs.Common.{ap, ◌∙◌, arith}
use Rattle.std.proofs.lemmas.Bool.{not-true, not-false}
use Rattle.octets.specs.Choice.{pick}
use Rattle.book.specs.Table.{wrong, good_pair, pair_of, further, table_of, Table}
use Rattle.book.proofs.Lemmas.Pairs.{good_pair_lem}

-- k pairs are passed
pub record Running (whole : Table) (k least total : ℕ) (slots lengths : List ℕ) : Type 0 where
  pub low : least ≤ 16
  pub small : total ≤ 200 * k
  pub same : table_of least total slots lengths ≡ whole

pub begins : (slots lengths : List ℕ) → Running (table_of 0 0 slots lengths) 0 0 0 slots lengths
begins slots lengths = record { low = omega arith; small = omega arith; same = refl }

module _ {whole : Table} {k least total x n : ℕ} {slots lengths : List ℕ} (r : Running whole k least total (x ∷ slots) (n ∷ lengths)) where
  -- what is left after the pair, by how it is judged
  after : (b : Bool) → good_pair least x n ≡ b → further (pick b (Ok (total + n)) wrong) (λ t. table_of (x + 1) t slots lengths) ≡ whole
  unfolding table_of pair_of
  after b e = sym (ap (λ (v : Bool). further (pick v (Ok (total + n)) wrong) (λ t. table_of (x + 1) t slots lengths)) e) ∙ r.same

  -- b is how the pair was judged
  pub goes : {b : Bool} → b ≡ good_pair least x n → not b ≡ false → Running whole (k + 1) (x + 1) (total + n) slots lengths
  goes j t =
      let e : good_pair least x n ≡ true = not-false _ (ap not (sym j) ∙ t) in
      let g = good_pair_lem least x n e in
      record { low = omega (arith, g.slot); small = omega (arith, r.small, g.most); same = after true e }

  pub breaks : {b : Bool} → b ≡ good_pair least x n → not b ≡ true → wrong ≡ whole
  breaks j t = after false (not-true _ (ap not (sym j) ∙ t))

pub done : {whole : Table} {k least total : ℕ} {lengths : List ℕ} → Running whole k least total [] lengths → Ok total ≡ whole
unfolding table_of
done r = r.same
