-- What the answer says, in the words of `protocol`.
use Rattle.std.specs.Prelude.{ℕ, List, Ok, Err, Some, None, Option}
use Rattle.access.specs.declared.route.Route.{Route}
use Rattle.access.specs.declared.route.Route.TheVariants as route
use Rattle.content.specs.Reading.{answer_of, UserData}
use Rattle.protocol.specs.Controller.{Got, got_of, nothing, confirmation, diagnosis, positive, negative, other}
use Rattle.controller_input.specs.declared.Reply.{Reply}
use Rattle.controller_input.specs.declared.Reply.TheVariants as reply

-- what came back, if anything did
abbrev pub Exchange : Type 0
Exchange = Option Reply

abbrev pub got_by : Reply → Got
got_by reply.Confirmation = confirmation
got_by reply.Diagnosis = diagnosis
got_by (reply.Positive slot index len) = positive slot index len
got_by (reply.Negative code1 code2) = negative code1 code2
got_by reply.Other = other

abbrev pub exchanged : Exchange → Got
exchanged (Some r) = got_by r
exchanged None = nothing

-- what user data say: those that cannot be read are another reply
abbrev pub got_of_data : UserData → Got
got_of_data (Ok found) = got_of found.fields
got_of_data (Err r) = other

-- no call is a reply that a download has a use for
abbrev pub got_of_route : Route → (user : List ℕ) → Got
got_of_route route.Nowhere user = other
got_of_route (route.Call s) user = other
got_of_route (route.Answer a) user = got_of_data (answer_of a user)
