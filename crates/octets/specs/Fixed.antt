-- Formats of fixed bytes with a lent part behind them: what their reader answers by a verdict on the fields.
use Rattle.std.specs.Prelude.{ℕ}
use Rattle.octets.specs.Front.{Verdict, fine, fault}

-- a reader's answer, where the verdict lets it stand; else its refusal with the verdict's number
abbrev pub judged : {A : Type 0} → (refuse : ℕ → A) → Verdict → A → A
judged refuse fine a = a
judged refuse (fault k) a = refuse k
