-- What the bytes in front of DA say: which format stands there and how long its PDU is, or which telegram without a frame it is, or
-- the first fault. What is read by them is what `fdl` reads.
use Rattle.std.specs.Prelude.{ℕ, ◌-◌, ◌≤◌, ◌≡◌, not, List, length, get_or, eqb, ltb, Ok, Err, Result}
use Rattle.octets.specs.Choice.{pick}
use Rattle.function_code.specs.Code.{class_of}
use Rattle.fdl.specs.Telegram.{start_byte, token_byte, confirmation_byte}
use Rattle.fdl.specs.Reading.{token_of, most_le, framed_of, Reading}
use Rattle.fdl.specs.declared.telegram.Format.{Format}
use Rattle.fdl.specs.declared.telegram.Format.TheVariants.{Sd1, Sd2, Sd3}
use Rattle.fdl.specs.declared.reading.Reading.TheVariants as reading
use Rattle.fdl_leading.specs.declared.Leading as declared-leading
use Rattle.fdl_leading.specs.declared.Leading.TheVariants.{Framed, Token, Confirmation}

-- what is left to judge, or a refusal's number
abbrev pub Leading : Type 0
Leading = Result declared-leading.Leading ℕ

abbrev pub refused : ℕ → Leading
refused k = Err k

-- LE, LEr and the second start byte
unfoldable pub sd2_leading : List ℕ → Leading
sd2_leading s =
    pick (ltb (length s) 4) (refused 1)
    (pick (ltb (get_or s 1 0) 4) (refused 3)
    (pick (ltb most_le (get_or s 1 0)) (refused 3)
    (pick (not (eqb (get_or s 2 0) (get_or s 1 0))) (refused 3)
    (pick (not (eqb (get_or s 3 0) (start_byte Sd2))) (refused 3) (Ok (Framed Sd2 (get_or s 1 0 - 3)))))))

-- by the start byte
unfoldable pub leading_of : List ℕ → Leading
leading_of s =
    let b = get_or s 0 0 in
    pick (eqb (length s) 0) (refused 1)
    (pick (eqb b (start_byte Sd1)) (Ok (Framed Sd1 0))
    (pick (eqb b (start_byte Sd2)) (sd2_leading s)
    (pick (eqb b (start_byte Sd3)) (Ok (Framed Sd3 8))
    (pick (eqb b token_byte) (Ok Token)
    (pick (eqb b confirmation_byte) (pick (eqb (length s) 1) (Ok Confirmation) (refused 4)) (refused 2))))))

-- DA stands behind the start byte, and in SD2 behind four bytes
abbrev pub place_of : Format → ℕ
place_of Sd1 = 1
place_of Sd2 = 4
place_of Sd3 = 1

-- the bytes s are read as this; no PDU is longer than 246
abbrev pub Leads : (s : List ℕ) → Reading → Leading → Type 0
Leads s r (Ok (Framed f pdu)) = (framed_of class_of s f (place_of f) pdu ≡ r) × (pdu ≤ 246)
Leads s r (Ok Token) = token_of s ≡ r
Leads s r (Ok Confirmation) = Ok reading.Confirmation ≡ r
Leads s r (Err x) = Err x ≡ r
