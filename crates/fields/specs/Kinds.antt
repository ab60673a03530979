-- Kinds of telegram as numbers: 0 a short confirmation, 1 a token, and then the three formats.
use Rattle.std.specs.Prelude.{ℕ, ◌<◌, ◌≡◌, eqb, Option, Some, None}
use Rattle.octets.specs.Choice.{pick}
use Rattle.fdl.specs.declared.telegram.Format.{Format}
use Rattle.fdl.specs.declared.telegram.Format.TheVariants.{Sd1, Sd2, Sd3}
use Rattle.fields.specs.declared.kinds.Kind as the-kind
use Rattle.fields.specs.declared.kinds.Kind.TheVariants as kind

-- the kind that a number names, if it names one
abbrev pub Kind : Type 0
Kind = Option the-kind.Kind

abbrev pub confirmation_number : ℕ
confirmation_number = 0

abbrev pub token_number : ℕ
token_number = 1

abbrev pub format_number : Format → ℕ
format_number Sd1 = 2
format_number Sd2 = 3
format_number Sd3 = 4

abbrev pub kind_of : ℕ → Kind
kind_of n =
    pick (eqb n confirmation_number) (Some kind.Confirmation)
    (pick (eqb n token_number) (Some kind.Token)
    (pick (eqb n (format_number Sd1)) (Some (kind.Telegram Sd1))
    (pick (eqb n (format_number Sd2)) (Some (kind.Telegram Sd2)) (pick (eqb n (format_number Sd3)) (Some (kind.Telegram Sd3)) None))))

-- what a number is that names this kind
abbrev pub Numbered : ℕ → Kind → Type 0
Numbered n (Some kind.Confirmation) = n ≡ confirmation_number
Numbered n (Some kind.Token) = n ≡ token_number
Numbered n (Some (kind.Telegram f)) = n ≡ format_number f
Numbered n None = format_number Sd3 < n
