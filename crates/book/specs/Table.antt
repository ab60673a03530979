-- The table of a book (document 01, "A book"): slots and lengths in pairs.
use Rattle.std.specs.Prelude.{Bool, List, [], ◌∷◌, ℕ, zero, suc, ◌+◌, get_or, leb, Ok, Err, Result}
use Rattle.octets.specs.Choice.{pick, ◌and◌}

-- what a table comes to: the sum of its lengths, or a refusal's number
abbrev pub Table : Type 0
Table = Result ℕ ℕ

-- k elements of s, every second one from the i-th on
abbrev pub every_second : (k i : ℕ) → List ℕ → List ℕ
every_second zero i s = []
every_second (suc k) i s = get_or s i 0 ∷ every_second k (suc (suc i)) s

-- the sum of lengths
abbrev pub sum_of : List ℕ → ℕ
sum_of [] = 0
sum_of (x ∷ xs) = x + sum_of xs

-- 32: the table is wrong
abbrev pub wrong : Table
wrong = Err 32

-- a slot x, `least` to 15, and its length n, 1 to 200
unfoldable pub good_pair : (least x n : ℕ) → Bool
good_pair least x n = leb least x and leb x 15 and leb 1 n and leb n 200

-- the length of a good pair is added to the total
unfoldable pub pair_of : (least total x n : ℕ) → Table
pair_of least total x n = pick (good_pair least x n) (Ok (total + n)) wrong

-- what follows a pair that is not refused
abbrev pub further : Table → (ℕ → Table) → Table
further (Ok t) rest = rest t
further (Err r) rest = Err r

-- The pairs in their order: behind slot x comes one from x + 1 on, so that the slots rise strictly.
unfoldable pub table_of : (least total : ℕ) → (slots lengths : List ℕ) → Table
table_of least total [] lengths = Ok total
table_of least total (x ∷ slots) [] = Ok total
table_of least total (x ∷ slots) (n ∷ lengths) = further (pair_of least total x n) (λ t. table_of (x + 1) t slots lengths)
