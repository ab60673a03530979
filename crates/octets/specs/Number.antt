-- Numbers in bytes, high byte first, at every width. (Low byte first is the same of the reversed bytes.)
use Rattle.std.specs.Prelude.{ℕ, zero, suc, ◌+◌, ◌*◌, ◌/◌, ◌%◌, List, [], ◌∷◌, ◌++◌}

abbrev pub number_from : ℕ → List ℕ → ℕ
number_from high [] = high
number_from high (x ∷ xs) = number_from (high * 256 + x) xs

-- the number that bytes are
abbrev pub number_of : List ℕ → ℕ
number_of s = number_from 0 s

-- the bytes of a number, as many as the width says
abbrev pub bytes_of : (width : ℕ) → ℕ → List ℕ
bytes_of zero n = []
bytes_of (suc k) n = bytes_of k (n / 256) ++ (n % 256 ∷ [])
