-- One template of a book, counted from 1.
use Rattle.std.specs.Prelude.{List, ℕ, ◌+◌, ◌-◌, ◌*◌, length, get_or, take, ltb, Ok, Err, Result}
use Rattle.octets.specs.Choice.{pick}
use Rattle.book.specs.Table.{sum_of}
use Rattle.book.specs.Reading.{counted, slots_of, lengths_of, read_of, Reading}
use Rattle.book.specs.declared.answers.Template as template

-- what finding a template answers: the template, or a refusal's number
abbrev pub Template : Type 0
Template = Result template.Template ℕ

abbrev pub refused : ℕ → Template
refused k = Err k

-- where the body of template i begins, counted from 0: behind the table and the bodies before it
abbrev pub start_of : List ℕ → (i : ℕ) → ℕ
start_of s i = 1 + 2 * counted s + sum_of (take i (lengths_of s))

-- template i, counted from 0
unfoldable pub entry_at : List ℕ → (i : ℕ) → Template
entry_at s i = Ok (record { slot = get_or (slots_of s) i 0; start = start_of s i; len = get_or (lengths_of s) i 0 })

-- template k, counted from 1, by the table alone, which must be there with its count; nothing else of the book is looked at
unfoldable pub listed_of : List ℕ → (k : ℕ) → Template
listed_of s k =
    pick (ltb (length s) 1) (refused 12)
    (pick (ltb k 1) (refused 12)
    (pick (ltb (counted s) k) (refused 12)
    (pick (ltb 16 (counted s)) (refused 12) (pick (ltb (length s) (1 + 2 * counted s)) (refused 12) (entry_at s (k - 1))))))

-- a refused book gives its own number; 12: there is no template k
abbrev pub template_by : List ℕ → (k : ℕ) → Reading → Template
template_by s k (Err r) = Err r
template_by s k (Ok n) = pick (ltb k 1) (refused 12) (pick (ltb n k) (refused 12) (entry_at s (k - 1)))

unfoldable pub template_of : List ℕ → (k : ℕ) → Template
template_of s k = template_by s k (read_of s)
