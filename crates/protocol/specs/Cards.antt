-- Two cards on a line, as firmware runs them (document 01, "Template book, printer, download"). One calls the controller's step and
-- the other the printer's, each with what it keeps and lends, and only bytes go between them. A lost telegram calls no step. That a
-- step refuses is an outcome of its own, so that it can be said that it never comes.
use Rattle.std.specs.Prelude.{ℕ, zero, suc, ◌≤◌, ◌≡◌, List, [], ◌∷◌, length, get_or, take, Ok, Err}
use Rattle.octets.specs.Front.{fine}
use Rattle.book.specs.Reading as book-format
use Rattle.protocol.specs.Line.{Passage, through, request_lost, reply_lost, request_damaged, reply_damaged, Answered, Sending, go, stop, passage_of, rest_of}
use Rattle.protocol.specs.Slots.{Slots}
use Rattle.protocol.specs.Printer as printer-step
use Rattle.protocol.specs.Printer.{Station, Stepped, Reaction}
use Rattle.protocol.specs.Controller as controller-step
use Rattle.protocol.specs.Controller.{Move, Acted, settings_verdict, book_verdict, Action}
use Rattle.protocol.specs.Download.{Config, given, bound}
use Rattle.protocol.specs.Demand.{Demand3, final, all}
use Rattle.protocol.specs.declared.controller.Action.TheVariants as action
use Rattle.protocol.specs.declared.controller.Controller.{Controller}
use Rattle.protocol.specs.declared.controller.Controller.TheVariants as controller
use Rattle.protocol.specs.declared.controller.Settings.{Settings}

-- both cards between two sendings
pub record Cards : Type 0 where
  -- what the controller's card does next, by its step's last answer: it sends these bytes and keeps this state; or it has ended
  pub move : Move
  -- its request buffer
  pub request : List ℕ
  -- the printer's card: its state, and the slots and the reply buffer that it lends
  pub printer : Station
  -- the line that is left, and the number of sendings
  pub line : List Passage
  pub sent : ℕ

-- a step that was called may have refused
pub data OrRefused (A : Type 0) : Type 0 where
  on : A → OrRefused A
  refused : (number : ℕ) → OrRefused A

-- ---- the printer's card

-- by its step's answer: as many bytes of the front of its buffer go back as it says
abbrev pub reacted_by : Reaction → Slots → (buffer : List ℕ) → OrRefused (Answered Station)
reacted_by (Ok found) s b = on (record { state = record { printer = found.printer; slots = s; buffer = b }; reply = take found.reply b })
reacted_by (Err k) s b = refused k

abbrev pub reacted : Stepped → OrRefused (Answered Station)
reacted y = reacted_by y.answer y.slots y.buffer

-- other bytes come in place of its reply, or none
abbrev pub instead : (bytes : List ℕ) → OrRefused (Answered Station) → OrRefused (Answered Station)
instead s (on a) = on (record { state = a.state; reply = s })
instead s (refused k) = refused k

-- ---- the controller's card

-- by its step's answer: as many bytes of the front of its buffer go out as it says
abbrev pub acted_by : Action → (request : List ℕ) → Station → List Passage → (sent : ℕ) → OrRefused Cards
acted_by (Ok (action.Send o n)) u x l m = on (record { move = go (take n u) o; request = u; printer = x; line = l; sent = m })
acted_by (Ok (action.End e)) u x l m = on (record { move = stop e; request = u; printer = x; line = l; sent = m })
acted_by (Err k) u x l m = refused k

abbrev pub acts : Acted → Station → List Passage → (sent : ℕ) → OrRefused Cards
acts a x l m = acted_by a.answer a.buffer x l m

module _ (c : Settings) (book not_yet diagnosis : List ℕ) where
  -- bytes reach the printer's card, which calls its step: the number for a write is the one at the place of the writes performed so
  -- far, a missing one 0
  abbrev pub reaching : (bytes : List ℕ) → Station → OrRefused (Answered Station)
  reaching s x = reacted (printer-step.step_of diagnosis (get_or not_yet x.printer.writes 0) s x)

  -- a request on the line: the printer's card then, and the bytes that come back
  abbrev pub crossing : Passage → (request : List ℕ) → Station → OrRefused (Answered Station)
  crossing through q x = reaching q x
  crossing request_lost q x = on (record { state = x; reply = [] })
  crossing reply_lost q x = instead [] (reaching q x)
  crossing (request_damaged bytes) q x = reaching bytes x
  crossing (reply_damaged bytes) q x = instead bytes (reaching q x)

  -- the controller's card calls its step, with the bytes that came back
  abbrev pub calling : Controller → (reply request : List ℕ) → Station → List Passage → (sent : ℕ) → OrRefused Cards
  calling o s u x l m = acts (controller-step.step_of c book o s u) x l m

  -- before the first sending: its first call, with no reply
  abbrev pub switched_on : List Passage → Station → (request : List ℕ) → OrRefused Cards
  switched_on l x u = calling controller.Fresh [] u x l 0

  -- one turn: a request goes out, and the controller's card calls its step with what comes back; who has ended stays as it is
  abbrev pub back_by : OrRefused (Answered Station) → Controller → Cards → OrRefused Cards
  back_by (on a) o z = calling o a.reply z.request a.state (rest_of z.line) (suc z.sent)
  back_by (refused k) o z = refused k

  abbrev pub turn_by : Move → Cards → OrRefused Cards
  turn_by (go q o) z = back_by (crossing (passage_of z.line) q z.printer) o z
  turn_by (stop e) z = on z

  abbrev pub turn : OrRefused Cards → OrRefused Cards
  turn (on z) = turn_by z.move z
  turn (refused k) = refused k

  -- m turns
  unfoldable pub turns : ℕ → OrRefused Cards → OrRefused Cards
  turns zero z = z
  turns (suc m) z = turns m (turn z)

  -- and what went over the line, in order
  abbrev pub logged_by : (request : List ℕ) → Passage → OrRefused (Answered Station) → List Sending → List Sending
  logged_by q p (on a) rest = record { request = q; passage = p; reply = a.reply } ∷ rest
  logged_by q p (refused k) rest = []

  abbrev pub logged : Move → Cards → List Sending → List Sending
  logged (go q o) z rest = logged_by q (passage_of z.line) (crossing (passage_of z.line) q z.printer) rest
  logged (stop e) z rest = []

  abbrev pub log : OrRefused Cards → List Sending → List Sending
  log (on z) rest = logged z.move z rest
  log (refused k) rest = []

  unfoldable pub traffic : ℕ → OrRefused Cards → List Sending
  traffic zero z = []
  traffic (suc m) z = log z (traffic m (turn z))

-- what is not refused of two cards: the settings, the book, the printer with what it lends, and room for every request
pub record Fit (c : Settings) (book diagnosis : List ℕ) (x : Station) (request : List ℕ) : Type 0 where
  pub settings : settings_verdict c ≡ fine
  pub templates : book_verdict (book-format.read_of book) ≡ fine
  pub station : printer-step.verdict_of diagnosis x ≡ fine
  pub room : 255 ≤ length request

-- the cards that show a configuration of the definition
abbrev pub cards_at : Config → (request : List ℕ) → Cards
cards_at y u = record { move = y.move; request = u; printer = y.printer; line = y.line; sent = y.sent }

-- Demand 3 of two cards: it holds of the download, and after as many turns as the bound no step has refused and the cards have come
-- to its end. They have the ending, the count and the slots of which it speaks, and what went over the line is all that it speaks of.
pub record MeetDemand3 (c : Settings) (book not_yet diagnosis : List ℕ) (l : List Passage) (x : Station) (request : List ℕ) : Type 0 where
  pub demand : Demand3 (given c book not_yet diagnosis) l x
  pub cards : Cards
  pub come_to : turns c book not_yet diagnosis (bound (given c book not_yet diagnosis)) (switched_on c book not_yet diagnosis l x request) ≡ on cards
  pub ended : cards.move ≡ stop demand.ending
  pub sent : cards.sent ≡ (final (given c book not_yet diagnosis) l x).sent
  pub slots : cards.printer.slots ≡ (final (given c book not_yet diagnosis) l x).printer.slots
  pub over_line : traffic c book not_yet diagnosis (bound (given c book not_yet diagnosis)) (switched_on c book not_yet diagnosis l x request)
      ≡ all (given c book not_yet diagnosis) l x
