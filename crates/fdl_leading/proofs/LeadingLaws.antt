-- What the bytes in front of DA say: which format stands there and how long its PDU is, or which telegram without a frame it is, or
-- the first fault. What is read by them is what `fdl` reads.
use Rattle.std.specs.Prelude.{ℕ, ◌≡◌, refl, Bool, true, false, not, List, length, get_or, eqb, ltb}
use Rattle.std.proofs.Common.{arith, ltb-false}
use Rattle.octets.specs.Choice.{pick}
use Rattle.function_code.specs.Code.{class_of}
use Rattle.fdl.specs.Telegram.{start_byte, token_byte, confirmation_byte}
use Rattle.fdl.specs.Reading.{most_le, sd2_of, read_by, read_of, Reading}
use Rattle.fdl.specs.declared.telegram.Format.TheVariants.{Sd1, Sd2, Sd3}
use Rattle.fdl_leading.specs.Leading.{Leading, sd2_leading, leading_of, Leads}

-- the same test on both sides
both : (P : Reading → Leading → Type 0) (b : Bool) {r q : Reading} {l m : Leading} → P r l → (b ≡ false → P q m) → P (pick b r q) (pick b l m)
both P true t f = t
both P false t f = f refl

sd2_leads : (s : List ℕ) → Leads s (sd2_of class_of s) (sd2_leading s)
unfolding sd2_of sd2_leading
sd2_leads s =
    both (Leads s) (ltb (length s) 4) refl
    (λ _. both (Leads s) (ltb (get_or s 1 0) 4) refl
    (λ _. both (Leads s) (ltb most_le (get_or s 1 0)) refl
    (λ h. both (Leads s) (not (eqb (get_or s 2 0) (get_or s 1 0))) refl
    (λ _. both (Leads s) (not (eqb (get_or s 3 0) (start_byte Sd2))) refl
    (λ _. (refl, omega (arith, ltb-false most_le (get_or s 1 0) h)))))))

pub leads : (s : List ℕ) → Leads s (read_of s) (leading_of s)
unfolding read_by leading_of
leads s =
    let b = get_or s 0 0 in
    both (Leads s) (eqb (length s) 0) refl
    (λ _. both (Leads s) (eqb b (start_byte Sd1)) (refl, omega arith)
    (λ _. both (Leads s) (eqb b (start_byte Sd2)) (sd2_leads s)
    (λ _. both (Leads s) (eqb b (start_byte Sd3)) (refl, omega arith)
    (λ _. both (Leads s) (eqb b token_byte) refl
    (λ _. both (Leads s) (eqb b confirmation_byte) (both (Leads s) (eqb (length s) 1) refl (λ _. refl)) (λ _. refl))))))
