-- Each end's step, called as its last answer left it: it refuses nothing, and its telegram fits.
use Rattle.std.specs.Prelude.{ℕ, ◌≤◌, ◌≡◌, refl, List, length, get_or}
use Rattle.octets.specs.Front.{fine}
use Rattle.book.specs.Contents.{Entry, InOrder, templates_of}
use Rattle.book.specs.Reading as book-format
use Rattle.protocol.specs.Line as line
use Rattle.protocol.specs.Line.{Passage, through, request_lost, reply_lost, request_damaged, reply_damaged, go, stop}
use Rattle.protocol.specs.Printer as printer-step
use Rattle.protocol.specs.Printer.{Station, stepped, hear}
use Rattle.protocol.specs.Controller as controller-step
use Rattle.protocol.specs.Controller.{Move, move_of, settings_verdict, book_verdict, state_verdict, acted}
use Rattle.protocol.specs.Download.{Given, hears, steps}
use Rattle.protocol.proofs.MachineLaws.Room.{request_fits}
use Rattle.protocol.proofs.MachineLaws.States.{state_counts, state_kept}
use Rattle.protocol.proofs.MachineLaws.Stations.{station_kept}
use Rattle.protocol.specs.declared.controller.Controller.{Controller}
use Rattle.protocol.specs.declared.controller.Settings.{Settings}

-- ---- the printer

-- A printer that may be used hears,
pub step_hears : (diag : List ℕ) (n : ℕ) (s : List ℕ) (x : Station) → printer-step.verdict_of diag x ≡ fine → printer-step.step_of diag n s x ≡ stepped (hear diag n s x)
unfolding printer-step.step_of
step_hears diag n s x e = rw e

-- and may be used after every sending.
pub usable_after : (g : Given) (p : Passage) (x : Station) (q : List ℕ) → printer-step.verdict_of g.diagnosis x ≡ fine
    → printer-step.verdict_of g.diagnosis (line.printer_after (hears g) (steps g) p x q) ≡ fine
usable_after g through x q e = station_kept g.diagnosis (get_or g.not_yet x.printer.writes 0) q x e
usable_after g request_lost x q e = e
usable_after g reply_lost x q e = station_kept g.diagnosis (get_or g.not_yet x.printer.writes 0) q x e
usable_after g (request_damaged bytes) x q e = station_kept g.diagnosis (get_or g.not_yet x.printer.writes 0) bytes x e
usable_after g (reply_damaged bytes) x q e = station_kept g.diagnosis (get_or g.not_yet x.printer.writes 0) q x e

-- ---- the controller

-- a state that is not refused, and a request that fits
abbrev pub Kept : Settings → List Entry → Move → Type 0
Kept c book (go q o) = (state_verdict c (length book) o ≡ fine) × (length q ≤ 255)
Kept c book (stop e) = Unit {0}

module _ (c : Settings) (book : List ℕ) (o : Controller) (v : settings_verdict c ≡ fine) (b : book_verdict (book-format.read_of book) ≡ fine)
    (e : state_verdict c (length (templates_of book)) o ≡ fine) where
  may_step : controller-step.verdict_of c book o ≡ fine
  unfolding controller-step.verdict_of
  may_step = rw (v, b) e

  -- From a state that is not refused the step does what its move says,
  pub step_moves : (s buffer : List ℕ) → controller-step.step_of c book o s buffer ≡ acted (move_of c (templates_of book) o s) buffer
  unfolding controller-step.step_of
  step_moves s buffer = rw may_step

-- which leads to such a state again, with a request of at most 255 bytes.
pub move_kept : (c : Settings) (book : List Entry) (o : Controller) (s : List ℕ) → settings_verdict c ≡ fine → InOrder 0 book → state_verdict c (length book) o ≡ fine
    → Kept c book (move_of c book o s)
move_kept c book o s v ordered e = by (move_of c book o s) refl
  where
    by : (m : Move) → move_of c book o s ≡ m → Kept c book m
    by (go q o') h = (state_kept c book o s v e h, request_fits c book ordered o s (state_counts c (length book) o e) h)
    by (stop f) h = tt
