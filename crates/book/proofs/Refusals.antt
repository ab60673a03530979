-- Every refusal of a book, read, looked into or to be written, has a number of document 01's table.
use Rattle.std.specs.Prelude.{ℕ, ◌≡◌, refl, true, List, [], ◌∷◌, Ok, Err}
use Rattle.octets.proofs.Choice.{through, alike}
use Rattle.octets.specs.Refusals.{listed, numbered}
use Rattle.book.specs.Table.{pair_of, further, table_of, Table}
use Rattle.book.specs.Reading.{bodies_by, read_of, Reading}
use Rattle.book.specs.Template.{entry_at, template_by, template_of}
use Rattle.book.specs.Writing.{bodies_verdict, verdict_of}
use Rattle.book.specs.Refusals.{verdict_in, template_verdict, table_verdict}

-- ---- the table
pair_numbered : (least total x n : ℕ) → numbered (table_verdict (pair_of least total x n)) ≡ true
unfolding pair_of listed
pair_numbered least total x n = simp (through table_verdict, through numbered, alike)

further_numbered : (t : Table) (rest : ℕ → Table) → numbered (table_verdict t) ≡ true → ((k : ℕ) → numbered (table_verdict (rest k)) ≡ true)
    → numbered (table_verdict (further t rest)) ≡ true
further_numbered (Ok k) rest h all = all k
further_numbered (Err r) rest h all = h

table_numbered : (slots lengths : List ℕ) (least total : ℕ) → numbered (table_verdict (table_of least total slots lengths)) ≡ true
unfolding table_of
table_numbered [] lengths least total = refl
table_numbered (x ∷ slots) [] least total = refl
table_numbered (x ∷ slots) (n ∷ lengths) least total =
    further_numbered (pair_of least total x n) _ (pair_numbered least total x n) (table_numbered slots lengths _)

-- ---- reading
bodies_numbered : (there n : ℕ) (t : Table) → numbered (table_verdict t) ≡ true → numbered (verdict_in (bodies_by there n t)) ≡ true
unfolding bodies_by listed
bodies_numbered there n (Ok t) h = simp (through verdict_in, through numbered, alike)
bodies_numbered there n (Err r) h = h

pub reading_numbered : (s : List ℕ) → numbered (verdict_in (read_of s)) ≡ true
unfolding read_of listed
reading_numbered s = simp (through verdict_in, through numbered, alike, bodies_numbered, table_numbered)

template_numbered_by : (s : List ℕ) (k : ℕ) (r : Reading) → numbered (verdict_in r) ≡ true → numbered (template_verdict (template_by s k r)) ≡ true
unfolding entry_at listed
template_numbered_by s k (Ok n) h = simp (through template_verdict, through numbered, alike)
template_numbered_by s k (Err r) h = h

pub template_numbered : (s : List ℕ) (k : ℕ) → numbered (template_verdict (template_of s k)) ≡ true
unfolding template_of
template_numbered s k = template_numbered_by s k (read_of s) (reading_numbered s)

-- ---- writing
verdict_by_lem : (there : ℕ) (t : Table) → numbered (table_verdict t) ≡ true → numbered (bodies_verdict there t) ≡ true
unfolding listed
verdict_by_lem there (Ok t) h = simp (through numbered, alike)
verdict_by_lem there (Err r) h = h

pub verdict_numbered : (slots lengths bodies : List ℕ) → numbered (verdict_of slots lengths bodies) ≡ true
unfolding verdict_of listed
verdict_numbered slots lengths bodies = simp (through numbered, alike, verdict_by_lem, table_numbered)
