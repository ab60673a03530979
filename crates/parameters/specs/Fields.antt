-- The fields of parameters (document 01, "Parameters"): what each byte may hold, and the verdict on all of them, which
-- reader and writer share.
use Rattle.std.specs.Prelude.{ℕ, ◌/◌, ◌%◌, Bool, not, eqb, ltb, leb}
use Rattle.octets.specs.Choice.{pick, ◌and◌}
use Rattle.octets.specs.Front.{Verdict, fine, fault}
use Rattle.octets.specs.declared.Mode.{Mode}
use Rattle.octets.specs.declared.Mode.TheVariants as mode
use Rattle.parameters.specs.declared.fields.BitTimes.{BitTimes}
use Rattle.parameters.specs.declared.fields.Extension.{Extension}
use Rattle.parameters.specs.declared.fields.Extension.TheVariants.{Dpv0, Dpv1}
use Rattle.parameters.specs.declared.fields.Parameters.{Parameters}

-- the version that an extension is of
abbrev pub mode_of : Extension → Mode
mode_of Dpv0 = mode.Dpv0
mode_of (Dpv1 a b c) = mode.Dpv1

-- how many bytes stand before the user bytes
abbrev pub fixed_length : Mode → ℕ
fixed_length mode.Dpv0 = 7
fixed_length mode.Dpv1 = 10

-- ---- each byte

-- byte 1: bits 0..2 are 0
abbrev pub good_flags : ℕ → Bool
good_flags b = eqb (b % 8) 0

-- byte 4: 11..255, and a byte is at most 255
abbrev pub good_response : BitTimes → Bool
good_response t = leb 11 t.0

-- byte 8: bits 0, 1, 3 and 4 are 0
abbrev pub good_status1 : ℕ → Bool
good_status1 b = eqb (b % 4) 0 and eqb (b / 8 % 4) 0

-- byte 9: bit 1 is 0
abbrev pub good_status2 : ℕ → Bool
good_status2 b = eqb (b / 2 % 2) 0

-- byte 10: bits 5 and 6 are 0
abbrev pub good_status3 : ℕ → Bool
good_status3 b = eqb (b / 32 % 4) 0

-- ---- all of them

-- bytes 8, 9 and 10, which DPV1 has
unfoldable pub extension_verdict : Extension → Verdict
extension_verdict Dpv0 = fine
extension_verdict (Dpv1 a b c) =
    pick (not (good_status1 a)) (fault 21)
    (pick (not (good_status2 b)) (fault 21)
    (pick (not (good_status3 c)) (fault 21) fine))

-- parameters of so many bytes in all
unfoldable pub verdict_of : Parameters → (size : ℕ) → Verdict
verdict_of f size =
    pick (ltb 244 size) (fault 20)
    (pick (not (good_flags f.flags)) (fault 21)
    (pick (not (good_response f.response)) (fault 21) (extension_verdict f.extension)))
