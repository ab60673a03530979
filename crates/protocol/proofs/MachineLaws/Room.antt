-- Every telegram of a download fits in 255 bytes.
use Rattle.std.specs.Prelude.{ℕ, zero, suc, ◌≤◌, ◌≡◌, Bool, true, List, [], ◌∷◌, length, drop, None}
use Rattle.std.proofs.Common.{sym, ◌∙◌, subst, arith, length-append, length-drop}
use Rattle.std.proofs.Math.Seq.{drop-nil}
use Rattle.octets.specs.Front.{over}
use Rattle.fdl.proofs.Lemmas.Fields.{sap_small, telegram_length}
use Rattle.fdl.specs.Writing.{telegram_of}
use Rattle.fdl.specs.declared.telegram.Format.TheVariants.{Sd1, Sd2}
use Rattle.fdl.specs.declared.telegram.Header.{Header}
use Rattle.access.specs.Route.{header_of, header_with}
use Rattle.access.specs.declared.table.Service.TheVariants as service
use Rattle.acyclic.specs.declared.calls.Call.TheVariants as call
use Rattle.diagnosis.proofs.Laws.{read_is_tiled}
use Rattle.content.specs.Fields.{service_of}
use Rattle.content.proofs.Laws.{bytes_long, fixed_small}
use Rattle.content.specs.Writing.{bytes_for}
use Rattle.content.specs.declared.fields.Content.{Content}
use Rattle.content.specs.declared.fields.Content.TheVariants as content
use Rattle.service.specs.Writing.{telegram_for}
use Rattle.book.specs.Contents.{Entry, InOrder}
use Rattle.protocol.specs.Line.{go, stop}
use Rattle.protocol.specs.Telegrams.{carrying, opening_code, counted_code, reply_code, answer_of}
use Rattle.protocol.specs.Printer.{Reply, confirmation, bare, diagnosis, result, reply_bytes}
use Rattle.protocol.specs.Verdicts.{Valid}
use Rattle.protocol.specs.Controller.{Move, request_bytes, move_of}
use Rattle.protocol.proofs.MachineLaws.Controller.{Sends, opens, asks, ends, counts_from_one, request_of_state}
use Rattle.protocol.specs.declared.controller.Controller.{Controller}
use Rattle.protocol.specs.declared.controller.Job.{Job}
use Rattle.protocol.specs.declared.controller.Job.TheVariants as job
use Rattle.protocol.specs.declared.controller.Settings.{Settings}

-- What fits in a buffer leaves it as long as it was.
pub over_long : (q l : List ℕ) → length q ≤ length l → length (over q l) ≡ length l
over_long q l h = simp (length-append, length-drop) (omega arith)

-- in SD2 with at most 244 bytes of user data
framed_fits : (h : Header) (user : List ℕ) → length user ≤ 244 → length (telegram_of Sd2 h user) ≤ 255
framed_fits h user l = omega (arith, telegram_length h user Sd2, sap_small h.dsap, sap_small h.ssap)

-- carrying a service with at most 200 bytes of data
carrying_fits : (c : Content) (to from fc : ℕ) (part : List ℕ) → length part ≤ 200 → length (carrying c to from fc part) ≤ 255
unfolding telegram_for
carrying_fits c to from fc part l =
    framed_fits (header_of (service_of c) to from fc) (bytes_for c part) (omega (arith, bytes_long c part, fixed_small c))

-- ---- replies

-- Every new reply of a printer whose diagnosis is not refused has at most 255 bytes.
pub reply_fits : (diag : List ℕ) (address to : ℕ) (r : Reply) → Valid diag → length (reply_bytes diag address to r) ≤ 255
reply_fits diag address to confirmation v = omega arith
reply_fits diag address to (bare function) v = omega (arith, telegram_length (header_with to address function None None) [] Sd1)
reply_fits diag address to diagnosis v = framed_fits (header_of service.SlaveDiag to address reply_code) diag (read_is_tiled diag v.read).short
reply_fits diag address to (result o) v = carrying_fits (content.Dpv1Answer (answer_of o)) to address reply_code [] (omega arith)

-- ---- requests

body_fits : (m i : ℕ) (ts : List Entry) {t : Entry} {rest : List Entry} → InOrder m ts → drop i ts ≡ t ∷ rest → length t.body ≤ 200
body_fits m i [] {t} {rest} o e = absurd (let none : [] ≡ t ∷ rest = sym (drop-nil i) ∙ e in let z : ◌≡◌ {A = ℕ} 0 1 = cc in omega arith)
body_fits m zero (a ∷ ts) {t} o e = let same : a ≡ t = cc in subst (λ (x : Entry). length x.body ≤ 200) same o.3
body_fits m (suc i) (a ∷ ts) o e = body_fits (suc a.slot) i ts o.4 e

-- what a request has
abbrev Fits : Move → Type 0
Fits (go q o) = length q ≤ 255
Fits (stop e) = Unit {0}

module _ (c : Settings) (book : List Entry) (ordered : InOrder 0 book) where
  job_fits : (j : Job) (fcb : Bool) (t : Entry) → length t.body ≤ 200 → length (request_bytes c j fcb t) ≤ 255
  job_fits job.Write fcb t l = carrying_fits (content.Dpv1Call (call.Write 1 t.slot)) c.printer c.controller (counted_code fcb) t.body l
  job_fits (job.Poll left) fcb t l = carrying_fits (content.Dpv1Call call.Poll) c.printer c.controller (counted_code fcb) [] (omega arith)

  move_fits : {m : Move} → Sends c book m → Fits m
  move_fits opens = carrying_fits content.SlaveDiagCall c.printer c.controller opening_code [] (omega arith)
  move_fits (asks i j fcb r t l) = job_fits j fcb t (body_fits 0 i book ordered l)
  move_fits ends = tt

  -- Every request has at most 255 bytes.
  pub request_fits : (o : Controller) (s : List ℕ) {q : List ℕ} {o' : Controller} → counts_from_one o ≡ true → move_of c book o s ≡ go q o' → length q ≤ 255
  request_fits o s f e = subst Fits e (move_fits (request_of_state c book o s f))
