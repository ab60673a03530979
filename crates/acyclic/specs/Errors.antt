-- The error bytes of a negative answer (document 01, "DPV1").
use Rattle.std.specs.Prelude.{ℕ, ◌/◌, ◌%◌, Bool, true, eqb, leb}
use Rattle.octets.specs.Choice.{pick, ◌or◌}

-- 128, 254 or 255
abbrev pub good_decode : ℕ → Bool
good_decode d = eqb d 128 or eqb d 254 or eqb d 255

-- class 10 codes 0..2, 8..15; class 11 all; class 12 codes 0..3, 8..15; classes 13..15 all. (Both have four bits.)
unfoldable pub named_in : (class code : ℕ) → Bool
named_in class code =
    pick (eqb class 10) (leb code 2 or leb 8 code)
    (pick (eqb class 11) true
    (pick (eqb class 12) (leb code 3 or leb 8 code) (leb 13 class)))

-- under 128 the high four bits are the class and the low four the code; under the others code 1 is free
unfoldable pub good_code1 : (decode code1 : ℕ) → Bool
good_code1 d c = pick (eqb d 128) (named_in (c / 16) (c % 16)) true
