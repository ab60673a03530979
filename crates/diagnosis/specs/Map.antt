-- The map of a module block (document 01, "Diagnosis"): module k is bit k % 8 of byte k / 8.
use Rattle.std.specs.Prelude.{ℕ, zero, suc, ◌+◌, ◌*◌, ◌/◌, ◌%◌, ◌^◌, Bool, List, length, get_or, eqb, Some, None, Option}
use Rattle.octets.specs.Choice.{pick}

-- the lowest module that reports, if one does
abbrev pub Lowest : Type 0
Lowest = Option ℕ

-- module k reports
unfoldable pub reports : (map : List ℕ) (k : ℕ) → Bool
reports map k = eqb (get_or map (k / 8) 0 / 2 ^ (k % 8) % 2) 1

-- of the n numbers from k on: how many pass a test, and the lowest that does
unfoldable pub count_from : (test : ℕ → Bool) (k n : ℕ) → ℕ
count_from test k zero = 0
count_from test k (suc n) = pick (test k) 1 0 + count_from test (suc k) n

unfoldable pub lowest_from : (test : ℕ → Bool) (k n : ℕ) → Lowest
lowest_from test k zero = None
lowest_from test k (suc n) = pick (test k) (Some k) (lowest_from test (suc k) n)

-- the number of modules that report, and the lowest that does
abbrev pub set_of : (map : List ℕ) → ℕ
set_of map = count_from (reports map) 0 (8 * length map)

abbrev pub lowest_of : (map : List ℕ) → Lowest
lowest_of map = lowest_from (reports map) 0 (8 * length map)

-- its number; 65535 where none reports, which no module has: the longest map has the modules 0 to 495
abbrev pub lowest_number : Lowest → ℕ
lowest_number (Some k) = k
lowest_number None = 65535
