-- Reading a book (document 01, "A book").
use Rattle.std.specs.Prelude.{List, ℕ, ◌+◌, ◌*◌, length, get_or, drop, ltb, Ok, Err, Result}
use Rattle.octets.specs.Choice.{pick}
use Rattle.book.specs.Table.{every_second, table_of, Table}

-- what reading answers: how many templates there are, or a refusal's number
abbrev pub Reading : Type 0
Reading = Result ℕ ℕ

abbrev pub refused : ℕ → Reading
refused k = Err k

-- ---- what stands where

-- the count n
abbrev pub counted : List ℕ → ℕ
counted s = get_or s 0 0

-- the n pairs of slot and length
abbrev pub slots_of : List ℕ → List ℕ
slots_of s = every_second (counted s) 1 s

abbrev pub lengths_of : List ℕ → List ℕ
lengths_of s = every_second (counted s) 2 s

-- the bodies in that order
abbrev pub bodies_of : List ℕ → List ℕ
bodies_of s = drop (1 + 2 * counted s) s

-- ---- the order of refusals

-- 1: bodies cut; 4: bytes after the bodies
unfoldable pub bodies_by : (there count : ℕ) → Table → Reading
bodies_by there n (Ok t) = pick (ltb there t) (refused 1) (pick (ltb t there) (refused 4) (Ok n))
bodies_by there n (Err r) = Err r

-- 1: no count; 32: count not 1 to 16; 1: table cut; then the table, then the bodies
unfoldable pub read_of : List ℕ → Reading
read_of s =
    pick (ltb (length s) 1) (refused 1)
    (pick (ltb (counted s) 1) (refused 32)
    (pick (ltb 16 (counted s)) (refused 32)
    (pick (ltb (length s) (1 + 2 * counted s)) (refused 1)
    (bodies_by (length (bodies_of s)) (counted s) (table_of 0 0 (slots_of s) (lengths_of s))))))
