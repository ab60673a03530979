-- The class of a function code (document 01, "Function codes"), by its bits: bit k of a byte is its quotient by 2^k,
-- modulo 2.
use Rattle.std.specs.Prelude.{ℕ, ◌/◌, ◌%◌, ◌≡◌, Bool, List, [], ◌∷◌, eqb, get_or}
use Rattle.octets.specs.Choice.{pick, ◌and◌, one_of}
use Rattle.function_code.specs.declared.code.Class.{Class}
use Rattle.function_code.specs.declared.code.Class.TheVariants.{Opening, Counted, Uncounted, Bare, Data, Reserved}

-- a call, from its function and the bits FCV and FCB
abbrev pub call_of : (function fcv fcb : ℕ) → Class
call_of function fcv fcb =
    pick (one_of function (3 ∷ 5 ∷ 7 ∷ 12 ∷ 13 ∷ []))
    (pick (eqb fcv 1) Counted (pick (eqb fcb 1) Opening Reserved))
    (pick (one_of function (0 ∷ 4 ∷ 6 ∷ 9 ∷ 14 ∷ 15 ∷ []) and eqb fcv 0 and eqb fcb 0) Uncounted Reserved)

-- an answer, from its function; bits 5 and 4 only name the station type
abbrev pub answer_of : (function : ℕ) → Class
answer_of function =
    pick (one_of function (0 ∷ 1 ∷ 2 ∷ 3 ∷ 9 ∷ [])) Bare (pick (one_of function (8 ∷ 10 ∷ 12 ∷ 13 ∷ [])) Data Reserved)

-- With bit 7 set only C0, the clock value, is not reserved. Bit 6 tells a call from an answer.
unfoldable pub class_of : ℕ → Class
class_of fc =
    pick (eqb (fc / 128 % 2) 1) (pick (eqb fc 0xC0) Uncounted Reserved)
    (pick (eqb (fc / 64 % 2) 1) (call_of (fc % 16) (fc / 16 % 2) (fc / 32 % 2)) (answer_of (fc % 16)))

-- the number of each class
abbrev pub class_number : Class → ℕ
class_number Opening = 0
class_number Counted = 1
class_number Uncounted = 2
class_number Bare = 3
class_number Data = 4
class_number Reserved = 5

abbrev pub is_reserved : Class → Bool
is_reserved c = eqb (class_number c) (class_number Reserved)

-- what a table has at a function code
pub record Entry (table : List Class) (fc : ℕ) (c : Class) : Type 0 where
  pub there : c ≡ get_or table fc Reserved
