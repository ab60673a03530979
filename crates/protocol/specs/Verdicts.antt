-- What document 01 does not refuse, in its own inequalities: settings, a printer, a controller's step, a download. That each
-- verdict is fine exactly there is proved (VerdictLaws).
use Rattle.std.specs.Prelude.{ℕ, ◌-◌, ◌%◌, ◌≤◌, ◌<◌, ◌≡◌, Bool, false, List, [], ◌∷◌, eqb, length, get_or, Ok, Err}
use Rattle.octets.specs.Front.{fine}
use Rattle.diagnosis.specs.Reading as diagnosis-format
use Rattle.diagnosis.specs.declared.reading.Header.{Header}
use Rattle.book.specs.Contents.{templates_of}
use Rattle.book.specs.Reading as book-format
use Rattle.protocol.specs.Line.{Passage, through, request_lost, reply_lost, request_damaged, reply_damaged, Damage}
use Rattle.protocol.specs.Printer.{Station}
use Rattle.protocol.specs.Download.{Given, passages_of, verdict_of}
use Rattle.protocol.specs.declared.controller.Settings.{Settings}
use Rattle.protocol.specs.declared.controller.Job.{Job}
use Rattle.protocol.specs.declared.controller.Job.TheVariants as job
use Rattle.protocol.specs.declared.controller.Controller.{Controller}
use Rattle.protocol.specs.declared.controller.Controller.TheVariants as controller

-- "R 0..7, P 1..31, printer and controller 0..126, unequal"
pub record Settled (c : Settings) : Type 0 where
  pub printer : c.printer ≤ 126
  pub controller : c.controller ≤ 126
  pub unequal : c.printer ≡ c.controller → ⊥
  pub repeats : c.repeats ≤ 7
  pub some_polls : 1 ≤ c.polls
  pub polls : c.polls ≤ 31

-- a book, and a diagnosis, that its reader does not refuse
abbrev pub Readable : (book : List ℕ) → Type 0
Readable s = (r : ℕ) → book-format.read_of s ≡ Err r → ⊥

abbrev pub Diagnosed : (diagnosis : List ℕ) → Type 0
Diagnosed s = (r : ℕ) → diagnosis-format.read_of s ≡ Err r → ⊥

-- a diagnosis with what it is read as
pub record Valid (diag : List ℕ) : Type 0 where
  pub header : Header
  pub blocks : ℕ
  pub read : diagnosis-format.read_of diag ≡ Ok (record { header = header; blocks = blocks })

-- a printer: "A printer address above 126, a slot length above 200 or a refused diagnosis gives 12, a reply buffer under 255
-- bytes 11"
pub record Usable (diag : List ℕ) (x : Station) : Type 0 where
  pub address : x.printer.address ≤ 126
  pub lengths : (slot : ℕ) → get_or x.slots.lengths slot 0 ≤ 200
  pub diagnosis : Diagnosed diag
  pub room : 255 ≤ length x.buffer

-- ---- the controller's step

-- a poll of P at most
abbrev pub PollsLeft : Settings → Job → Type 0
PollsLeft c job.Write = Unit {0}
PollsLeft c (job.Poll left) = left < c.polls

-- FCB where the template's write has 0: it alternates with each request
abbrev pub Alternates : Settings → Job → (fcb : Bool) → Type 0
Alternates c job.Write fcb = fcb ≡ false
Alternates c (job.Poll left) fcb = fcb ≡ eqb ((c.polls - left) % 2) 1

-- at a template that the book has, with no more repeats or polls left than set. The write of the first template has FCB 0, and so has
-- every write where a template has one poll; else either may be.
pub record Asks (c : Settings) (templates k : ℕ) (j : Job) (fcb : Bool) (left : ℕ) : Type 0 where
  pub from_one : 1 ≤ k
  pub in_book : k ≤ templates
  pub polls : PollsLeft c j
  pub repeats : left ≤ c.repeats
  pub first_fcb : k ≡ 1 → Alternates c j fcb
  pub one_poll_fcb : c.polls ≡ 1 → Alternates c j fcb

abbrev pub InReach : Settings → (templates : ℕ) → Controller → Type 0
InReach c n controller.Fresh = Unit {0}
InReach c n controller.Opening = Unit {0}
InReach c n (controller.Asking k j fcb repeats) = Asks c n k j fcb repeats

pub record MayStep (c : Settings) (s : List ℕ) (o : Controller) : Type 0 where
  pub settings : Settled c
  pub book : Readable s
  pub state : InReach c (length (templates_of s)) o

-- ---- the download

pub record MayRun (c : Settings) (s line diag : List ℕ) (x : Station) (request : List ℕ) : Type 0 where
  pub settings : Settled c
  pub book : Readable s
  -- 0 through, 1 request lost, 2 reply lost
  pub entries : (i : ℕ) → get_or line i 0 ≤ 2
  pub station : Usable diag x
  pub room : 255 ≤ length request

-- a line that damages nothing, and its bytes
abbrev pub Undamaged : List Passage → Type 0
Undamaged = Damage (λ bytes. ⊥)

abbrev pub entry_for : Passage → ℕ
entry_for through = 0
entry_for request_lost = 1
entry_for reply_lost = 2
entry_for (request_damaged bytes) = 1
entry_for (reply_damaged bytes) = 2

abbrev pub entries_for : List Passage → List ℕ
entries_for [] = []
entries_for (h ∷ l) = entry_for h ∷ entries_for l

-- a book with these templates, a line with these entries, and a request's buffer, with which the download is not refused
pub record SaidBy (g : Given) (l : List Passage) (x : Station) (s entries request : List ℕ) : Type 0 where
  pub templates : templates_of s ≡ g.book
  pub passages : passages_of entries ≡ l
  pub taken : verdict_of g.settings s entries g.diagnosis x request ≡ fine
