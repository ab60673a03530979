-- What holds of the rule (document 01, "Function codes"): how many function codes there are of each class, counted over it, and
-- that one of them is reserved.
use Rattle.std.specs.Prelude.{◌≡◌, refl, ℕ, zero, suc, ◌+◌, eqb}
use Rattle.octets.specs.Choice.{pick}
use Rattle.function_code.specs.Code.{class_of, class_number}
use Rattle.function_code.specs.declared.code.Class.{Class}
use Rattle.function_code.specs.declared.code.Class.TheVariants.{Opening, Counted, Uncounted, Bare, Data, Reserved}

-- how many of the first so many function codes are of a class
abbrev pub total : Class → (below : ℕ) → ℕ
total c zero = 0
total c (suc n) = pick (eqb (class_number (class_of n)) (class_number c)) 1 0 + total c n

pub totals :
    (total Opening 256 ≡ 5) × (total Counted 256 ≡ 10) × (total Uncounted 256 ≡ 7)
    × (total Bare 256 ≡ 20) × (total Data 256 ≡ 16) × (total Reserved 256 ≡ 198)
unfolding class_of
totals = (refl, refl, refl, refl, refl, refl)

-- 68 hex, which SD2 telegrams begin with
pub start_byte_reserved : class_of 0x68 ≡ Reserved
unfolding class_of
start_byte_reserved = refl
