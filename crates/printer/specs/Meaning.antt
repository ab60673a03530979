-- What the step has of lent bytes, in the words of `protocol`.
use Rattle.std.specs.Prelude.{List, [], ℕ}
use Rattle.octets.specs.Part.{part_of}
use Rattle.protocol.specs.Slots.{Slots}
use Rattle.printer_input.specs.declared.Ask.{Ask}
use Rattle.printer_input.specs.declared.Ask.TheVariants as ask

-- the body that a call carries: a write's
abbrev pub body_in : (telegram : List ℕ) → Ask → List ℕ
body_in s ask.SlaveDiag = []
body_in s (ask.Write slot index start len) = part_of s start len
body_in s ask.Poll = []
body_in s ask.Unknown = []
body_in s ask.Undecodable = []

-- the slots, as code has them
abbrev pub slots_of : (lengths bodies : List ℕ) → Slots
slots_of lengths bodies = record { lengths = lengths; bodies = bodies }
