-- The watchdog time (document 01, "Parameters").
use Rattle.std.specs.Prelude.{ℕ, ◌*◌, ◌/◌, ◌%◌, Bool, eqb, leb}
use Rattle.octets.specs.Choice.{pick}
use Rattle.parameters.specs.declared.fields.Extension.{Extension}
use Rattle.parameters.specs.declared.fields.Extension.TheVariants.{Dpv0, Dpv1}
use Rattle.parameters.specs.declared.fields.Milliseconds.{Milliseconds}
use Rattle.parameters.specs.declared.fields.Parameters.{Parameters}

-- 10 ms, or 1 ms when DPV1 byte 8 bit 2 is set
abbrev pub base_of : Extension → ℕ
base_of Dpv0 = 10
base_of (Dpv1 a b c) = pick (eqb (a / 4 % 2) 1) 1 10

-- factor x factor x base
abbrev pub watchdog_of : Parameters → Milliseconds
watchdog_of f = record { 0 = f.factor1 * f.factor2 * base_of f.extension }

-- the elapsed time has reached the watchdog time
abbrev pub expired_of : (watchdog elapsed : Milliseconds) → Bool
expired_of w t = leb w.0 t.0
