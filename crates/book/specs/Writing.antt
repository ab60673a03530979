-- Writing a book (document 01, "A book"): the bytes, and what may be written.
use Rattle.std.specs.Prelude.{not, List, [], ◌∷◌, ◌++◌, ℕ, length, eqb, ltb, Ok, Err}
use Rattle.octets.specs.Choice.{pick}
use Rattle.octets.specs.Front.{Verdict, fine, fault}
use Rattle.book.specs.Table.{table_of, Table}

-- the table: pairs of slot and length
abbrev pub pairs_of : (slots lengths : List ℕ) → List ℕ
pairs_of [] lengths = []
pairs_of (x ∷ slots) [] = []
pairs_of (x ∷ slots) (n ∷ lengths) = x ∷ n ∷ pairs_of slots lengths

-- the count, the table, the bodies
abbrev pub book_bytes : (slots lengths bodies : List ℕ) → List ℕ
book_bytes slots lengths bodies = (length slots ∷ pairs_of slots lengths) ++ bodies

-- 32: bodies that are not as many bytes as the lengths say
abbrev pub bodies_verdict : (there : ℕ) → Table → Verdict
bodies_verdict there (Ok t) = pick (not (eqb there t)) (fault 32) fine
bodies_verdict there (Err r) = fault r

-- 32, for all that reading would refuse: the count not 1 to 16; not as many lengths as slots; the table; the bodies
unfoldable pub verdict_of : (slots lengths bodies : List ℕ) → Verdict
verdict_of slots lengths bodies =
    pick (ltb (length slots) 1) (fault 32)
    (pick (ltb 16 (length slots)) (fault 32)
    (pick (not (eqb (length lengths) (length slots))) (fault 32)
    (bodies_verdict (length bodies) (table_of 0 0 slots lengths))))
