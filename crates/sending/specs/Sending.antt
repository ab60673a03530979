-- One sending of a request, over lent bytes: what the printer does, and how many bytes of its reply come back.
use Rattle.std.specs.Prelude.{ℕ, List, ltb, get_or, Ok, Err}
use Rattle.octets.specs.Choice.{pick}
use Rattle.protocol.specs.Line.{Passage, through, request_lost, reply_lost, request_damaged, reply_damaged}
use Rattle.protocol.specs.Download.{passage_by}
use Rattle.protocol.specs.Printer.{Station, Stepped, step_of, Reaction}

-- nothing came of it, and the printer is as it was
abbrev pub unheard : Reaction → Station → Stepped
unheard r x = record { answer = r; slots = x.slots; buffer = x.buffer }

-- its reply is lost
abbrev pub quieted : Reaction → Reaction
quieted (Ok found) = Ok (record { printer = found.printer; reply = 0 })
quieted (Err k) = Err k

abbrev pub unanswered : Stepped → Stepped
unanswered y = record { answer = quieted y.answer; slots = y.slots; buffer = y.buffer }

-- the number for a write is the one at the place of the writes performed so far, a missing one 0
abbrev pub sent_by : Passage → (request not_yet diagnosis : List ℕ) → Station → Stepped
sent_by through q n d x = step_of d (get_or n x.printer.writes 0) q x
sent_by request_lost q n d x = unheard (Ok (record { printer = x.printer; reply = 0 })) x
sent_by reply_lost q n d x = unanswered (step_of d (get_or n x.printer.writes 0) q x)
sent_by (request_damaged bytes) q n d x = unheard (Ok (record { printer = x.printer; reply = 0 })) x
sent_by (reply_damaged bytes) q n d x = unanswered (step_of d (get_or n x.printer.writes 0) q x)

-- as the line's entry has it; any above 2 gives 12
unfoldable pub sent_of : (entry : ℕ) → (request not_yet diagnosis : List ℕ) → Station → Stepped
sent_of entry q n d x = pick (ltb 2 entry) (unheard (Err 12) x) (sent_by (passage_by entry) q n d x)
