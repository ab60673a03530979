-- What the answer says, in the words of `protocol`: the body of a write is the part that it names.
use Rattle.std.specs.Prelude.{ℕ, List}
use Rattle.octets.specs.Part.{part_of}
use Rattle.protocol.specs.Printer as printer
use Rattle.printer_input.specs.declared.Ask.{Ask}
use Rattle.printer_input.specs.declared.Ask.TheVariants as ask
use Rattle.printer_input.specs.declared.Received.{Received}
use Rattle.printer_input.specs.declared.Received.TheVariants as received

abbrev pub ask_in : (telegram : List ℕ) → Ask → printer.Ask
ask_in s ask.SlaveDiag = printer.slave_diag
ask_in s (ask.Write slot index start len) = printer.write slot index (part_of s start len)
ask_in s ask.Poll = printer.poll
ask_in s ask.Unknown = printer.unknown
ask_in s ask.Undecodable = printer.undecodable

abbrev pub received_in : (telegram : List ℕ) → Received → printer.Received
received_in s received.Nothing = printer.nothing
received_in s received.Elsewhere = printer.elsewhere
received_in s (received.Status sa) = printer.status sa
received_in s received.Uncounted = printer.uncounted
received_in s (received.Opening sa a) = printer.opening sa (ask_in s a)
received_in s (received.Counted fcb sa a) = printer.counted fcb sa (ask_in s a)
