-- The download (document 01, "Template book, printer, download"): the controller's step joined to the printer's along a line.
use Rattle.std.specs.Prelude.{ℕ, ◌+◌, ◌*◌, List, [], ◌∷◌, eqb, ltb, length, get_or, take, Ok, Err, Result}
use Rattle.octets.specs.Choice.{pick}
use Rattle.octets.specs.Fixed.{judged}
use Rattle.octets.specs.Front.{Verdict, fine, fault, over}
use Rattle.book.specs.Contents.{Entry, templates_of}
use Rattle.book.specs.Reading as book-format
use Rattle.protocol.specs.Line as line
use Rattle.protocol.specs.Line.{Passage, through, request_lost, reply_lost, Answered, Sending, go, stop}
use Rattle.protocol.specs.Slots.{Slots}
use Rattle.protocol.specs.Printer as printer
use Rattle.protocol.specs.Printer.{Station, Heard, hear}
use Rattle.protocol.specs.Controller.{Move, move_of, settings_verdict, book_verdict}
use Rattle.protocol.specs.declared.controller.Settings.{Settings}
use Rattle.protocol.specs.declared.controller.Controller.{Controller}
use Rattle.protocol.specs.declared.controller.Controller.TheVariants as controller
use Rattle.protocol.specs.declared.controller.Ending.{Ending}
use Rattle.protocol.specs.declared.download.Downloaded as ended
use Rattle.protocol.specs.declared.printer.Printer.{Printer}

-- what a download came to, or a refusal's number
abbrev pub Downloaded : Type 0
Downloaded = Result ended.Downloaded ℕ

-- what is given for a download and stays: the settings, the templates of the book, the number of "not yet" answers for each
-- write, and the printer's diagnosis
pub record Given : Type 0 where
  pub settings : Settings
  pub book : List Entry
  pub not_yet : List ℕ
  pub diagnosis : List ℕ

abbrev pub Config : Type 0
Config = line.Config Station Controller Ending

abbrev pub replied : Heard → Answered Station
replied h = record { state = h.station; reply = take h.reply h.station.buffer }

-- the printer hears bytes; the number for a write is the one at the place of the writes performed so far, a missing one 0
abbrev pub hears : Given → Station → List ℕ → Answered Station
hears g x s = replied (hear g.diagnosis (get_or g.not_yet x.printer.writes 0) s x)

abbrev pub steps : Given → Controller → (reply : List ℕ) → Move
steps g o reply = move_of g.settings g.book o reply

-- before the first sending
abbrev pub begin : Given → List Passage → Station → Config
begin g l x = record { line = l; printer = x; move = steps g controller.Fresh []; sent = 0 }

-- after m sendings, and what was sent
abbrev pub after : Given → List Passage → Station → (m : ℕ) → Config
after g l x m = line.run (hears g) (steps g) m (begin g l x)

abbrev pub sendings : Given → List Passage → Station → (m : ℕ) → List Sending
sendings g l x m = line.transcript (hears g) (steps g) m (begin g l x)

-- the opening once; each template's write and P polls, each R + 1 times
abbrev pub bound : Given → ℕ
bound g = 1 + length g.book * (1 + g.settings.polls) * (g.settings.repeats + 1)

-- that many sendings are enough
unfoldable pub download : Given → List Passage → Station → Config
download g l x = after g l x (bound g)

-- ---- over lent bytes

abbrev pub given : Settings → (book not_yet diagnosis : List ℕ) → Given
given c book not_yet diagnosis = record { settings = c; book = templates_of book; not_yet = not_yet; diagnosis = diagnosis }

-- the line: 0 through, 1 request lost, 2 reply lost
abbrev pub passage_by : ℕ → Passage
passage_by b = pick (eqb b 1) request_lost (pick (eqb b 2) reply_lost through)

abbrev pub passages_of : (line : List ℕ) → List Passage
passages_of [] = []
passages_of (b ∷ l) = passage_by b ∷ passages_of l

unfoldable pub line_verdict : (line : List ℕ) → Verdict
line_verdict [] = fine
line_verdict (b ∷ l) = pick (ltb 2 b) (fault 12) (line_verdict l)

-- room for every telegram
abbrev pub room_verdict : (buffer : List ℕ) → Verdict
room_verdict buffer = pick (ltb (length buffer) 255) (fault 11) fine

-- the settings, the book, the line, the printer, and last the room for a request; nothing is sent before
unfoldable pub verdict_of : Settings → (book line diagnosis : List ℕ) → Station → (request : List ℕ) → Verdict
verdict_of c book l diagnosis x request =
    judged fault (settings_verdict c)
    (judged fault (book_verdict (book-format.read_of book))
    (judged fault (line_verdict l)
    (judged fault (printer.verdict_of diagnosis x) (room_verdict request))))

-- each request was stored at the front of its buffer
abbrev pub request_buffer : List Sending → (buffer : List ℕ) → List ℕ
request_buffer [] u = u
request_buffer (s ∷ l) u = request_buffer l (over s.request u)

-- the answer, and what every lent byte is then
pub record Whole : Type 0 where
  pub answer : Downloaded
  pub slots : Slots
  pub reply : List ℕ
  pub request : List ℕ

abbrev pub leaving : Downloaded → (lengths bodies reply request : List ℕ) → Whole
leaving a lengths bodies reply request =
    record { answer = a; slots = record { lengths = lengths; bodies = bodies }; reply = reply; request = request }

-- how it ended. That it does is proved (Theorem): the second case never is.
abbrev pub ended_by : Move → (sent : ℕ) → Printer → Downloaded
ended_by (stop e) sent p = Ok (record { ending = e; sent = sent; printer = p })
ended_by (go q o) sent p = Err 12

abbrev pub whole_by : Config → List Sending → (request : List ℕ) → Whole
whole_by z sent request =
    record {
      answer = ended_by z.move z.sent z.printer.printer;
      slots = z.printer.slots;
      reply = z.printer.buffer;
      request = request_buffer sent request;
    }

abbrev pub download_by : Verdict → Given → List Passage → Station → (request : List ℕ) → Whole
download_by fine g l x request = whole_by (download g l x) (sendings g l x (bound g)) request
download_by (fault k) g l x request = record { answer = Err k; slots = x.slots; reply = x.buffer; request = request }

unfoldable pub download_of : Settings → (book line not_yet diagnosis : List ℕ) → Station → (request : List ℕ) → Whole
download_of c book l not_yet diagnosis x request =
    download_by (verdict_of c book l diagnosis x request) (given c book not_yet diagnosis) (passages_of l) x request
