-- Every refusal of the printer's step, of the controller's step and of the download has a number of document 01's table.
use Rattle.std.specs.Prelude.{ℕ, ◌≡◌, refl, true, List, [], ◌∷◌, Ok, Err}
use Rattle.octets.proofs.Choice.{through, alike}
use Rattle.octets.specs.Front.{Verdict, fine, fault}
use Rattle.octets.specs.Refusals.{listed, numbered}
use Rattle.octets.proofs.Refusals.{both_numbered}
use Rattle.book.proofs.Refusals.{reading_numbered}
use Rattle.protocol.specs.Line.{Passage, go, stop}
use Rattle.protocol.specs.Printer as printer
use Rattle.protocol.specs.Printer.{Station, Reaction}
use Rattle.protocol.specs.Controller as controller-end
use Rattle.protocol.specs.Controller.{Move, Acted, settings_verdict, state_verdict, Action}
use Rattle.protocol.specs.Download as joined
use Rattle.protocol.specs.Download.{Given, download, line_verdict, ended_by, Downloaded}
use Rattle.protocol.specs.declared.printer.Printer.{Printer}
use Rattle.protocol.specs.declared.controller.Settings.{Settings}
use Rattle.protocol.specs.declared.controller.Controller.{Controller}
use Rattle.protocol.specs.declared.controller.Controller.TheVariants as controller
use Rattle.protocol.specs.declared.controller.Action.TheVariants as action

-- the verdict that a step came to, and a download
abbrev pub reaction_verdict : Reaction → Verdict
reaction_verdict (Ok found) = fine
reaction_verdict (Err k) = fault k

abbrev pub action_verdict : Action → Verdict
action_verdict (Ok (action.Send o n)) = fine
action_verdict (Ok (action.End e)) = fine
action_verdict (Err k) = fault k

abbrev pub downloaded_verdict : Downloaded → Verdict
downloaded_verdict (Ok found) = fine
downloaded_verdict (Err k) = fault k

-- ---- the printer

printer_numbered : (diag : List ℕ) (x : Station) → numbered (printer.verdict_of diag x) ≡ true
unfolding printer.verdict_of listed
printer_numbered diag x = simp (through numbered, alike)

reaction_by : (v : Verdict) (diag : List ℕ) (not_yet : ℕ) (s : List ℕ) (x : Station) → numbered v ≡ true
    → numbered (reaction_verdict (printer.step_by v diag not_yet s x).answer) ≡ true
reaction_by fine diag not_yet s x h = refl
reaction_by (fault k) diag not_yet s x h = h

pub reaction_numbered : (diag : List ℕ) (not_yet : ℕ) (s : List ℕ) (x : Station) → numbered (reaction_verdict (printer.step_of diag not_yet s x).answer) ≡ true
unfolding printer.step_of
reaction_numbered diag not_yet s x = reaction_by (printer.verdict_of diag x) diag not_yet s x (printer_numbered diag x)

-- ---- the controller

settings_numbered : (c : Settings) → numbered (settings_verdict c) ≡ true
unfolding settings_verdict listed
settings_numbered c = simp (through numbered, alike)

state_numbered : (c : Settings) (n : ℕ) (o : Controller) → numbered (state_verdict c n o) ≡ true
unfolding state_verdict listed
state_numbered c n controller.Fresh = refl
state_numbered c n controller.Opening = refl
state_numbered c n (controller.Asking k j fcb repeats) = simp (through numbered, alike)

acted_numbered : (m : Move) (buffer : List ℕ) → numbered (action_verdict (controller-end.acted m buffer).answer) ≡ true
unfolding listed
acted_numbered (go request o) buffer = simp (through (λ (a : Acted). a.answer), through action_verdict, through numbered, alike)
acted_numbered (stop e) buffer = refl

action_by : (v : Verdict) (m : Move) (buffer : List ℕ) → numbered v ≡ true
    → numbered (action_verdict (controller-end.step_by v m buffer).answer) ≡ true
action_by fine m buffer h = acted_numbered m buffer
action_by (fault k) m buffer h = h

pub action_numbered : (c : Settings) (book : List ℕ) (o : Controller) (reply buffer : List ℕ)
    → numbered (action_verdict (controller-end.step_of c book o reply buffer).answer) ≡ true
unfolding controller-end.step_of controller-end.verdict_of
action_numbered c book o reply buffer =
    action_by (controller-end.verdict_of c book o) _ buffer (simp (both_numbered, alike, settings_numbered, reading_numbered, state_numbered))

-- ---- the download

line_numbered : (l : List ℕ) → numbered (line_verdict l) ≡ true
unfolding line_verdict listed
line_numbered [] = refl
line_numbered (b ∷ l) = simp (through numbered, alike, line_numbered l)

ended_numbered : (m : Move) (sent : ℕ) (p : Printer) → numbered (downloaded_verdict (ended_by m sent p)) ≡ true
unfolding listed
ended_numbered (go request o) sent p = refl
ended_numbered (stop e) sent p = refl

download_by_lem : (v : Verdict) (g : Given) (l : List Passage) (x : Station) (request : List ℕ) → numbered v ≡ true
    → numbered (downloaded_verdict (joined.download_by v g l x request).answer) ≡ true
download_by_lem fine g l x request h = ended_numbered (download g l x).move _ _
download_by_lem (fault k) g l x request h = h

verdict_numbered : (c : Settings) (book l diagnosis : List ℕ) (x : Station) (request : List ℕ)
    → numbered (joined.verdict_of c book l diagnosis x request) ≡ true
unfolding joined.verdict_of listed
verdict_numbered c book l diagnosis x request =
    simp (both_numbered, settings_numbered, reading_numbered, line_numbered, printer_numbered, through numbered, alike)

pub download_numbered : (c : Settings) (book line not_yet diagnosis : List ℕ) (x : Station) (request : List ℕ)
    → numbered (downloaded_verdict (joined.download_of c book line not_yet diagnosis x request).answer) ≡ true
unfolding joined.download_of
download_numbered c book line not_yet diagnosis x request =
    download_by_lem (joined.verdict_of c book line diagnosis x request) _ _ x request (verdict_numbered c book line diagnosis x request)
