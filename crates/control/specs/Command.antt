-- Global_Control (document 01, "Services by access point"): 2 bytes, the command and the groups; bits 0, 6 and 7 of the
-- first are 0.
use Rattle.std.specs.Prelude.{ℕ, ◌+◌, ◌-◌, ◌/◌, ◌%◌, Bool, not, List, [], ◌∷◌, ◌++◌, length, get_or, eqb, Ok, Err, Result}
use Rattle.octets.specs.Choice.{pick, ◌and◌}
use Rattle.octets.specs.Front.{Verdict, fine, fault}
use Rattle.octets.specs.Fixed.{judged}
use Rattle.control.specs.declared.command.GlobalCommand.{GlobalCommand}
use Rattle.octets.specs.declared.Read.{Read}

-- what reading answers: the fields and where the bytes behind them stand, or a refusal's number
abbrev pub CommandReading : Type 0
CommandReading = Result (Read GlobalCommand) ℕ

-- bit 0 is 0, and so are bits 6 and 7
abbrev pub good_command : ℕ → Bool
good_command b = eqb (b % 2) 0 and eqb (b / 64) 0

-- the verdict on the fields, at so many bytes in all, which reader and writer share: the length, then the command
unfoldable pub verdict_of : GlobalCommand → (size : ℕ) → Verdict
verdict_of f size = pick (not (eqb size 2)) (fault 20) (pick (not (good_command f.command)) (fault 21) fine)

-- ---- reading

abbrev pub refused : ℕ → CommandReading
refused k = Err k

abbrev pub fields_in : List ℕ → GlobalCommand
fields_in s = record { command = get_or s 0 0; groups = get_or s 1 0 }

unfoldable pub read_of : List ℕ → CommandReading
read_of s = judged refused (verdict_of (fields_in s) (length s)) (Ok (record { fields = fields_in s; start = 2; len = length s - 2 }))

-- ---- writing

abbrev pub fixed_bytes : GlobalCommand → List ℕ
fixed_bytes f = f.command ∷ f.groups ∷ []

abbrev pub bytes_for : GlobalCommand → (rest : List ℕ) → List ℕ
bytes_for f rest = fixed_bytes f ++ rest

-- the verdict at the length that the bytes will have
abbrev pub verdict_for : GlobalCommand → (rest : List ℕ) → Verdict
verdict_for f rest = verdict_of f (2 + length rest)
