-- What the printer sends: SC, a bare answer in SD1, or data that the service reader reads.
use Rattle.std.specs.Prelude.{ℕ, zero, suc, ◌%◌, ◌≤◌, ◌≡◌, Bool, true, not, eqb, leb, ltb, length, take, Ok, None}
use Rattle.std.proofs.Math.Path.{refl}
use Rattle.std.proofs.Common.{sym, subst, arith, le-leb, le-ltb, ltb-false}
use mathlib.Core.List.{List, []}
use Rattle.octets.proofs.Choice.{by_pick}
use Rattle.octets.specs.Front.{fine, over}
use Rattle.octets.specs.declared.Mode.TheVariants as mode
use Rattle.function_code.specs.Code.{class_of}
use Rattle.fdl.proofs.Laws as telegram-laws
use Rattle.fdl.proofs.Lemmas.Reads as case
use Rattle.fdl.proofs.Lemmas.Reads.{Reads, reads, header_in}
use Rattle.fdl.specs.Reading as telegram
use Rattle.fdl.specs.Reading.{read_by}
use Rattle.fdl.specs.Writing.{good_header, verdict_by}
use Rattle.fdl.specs.Writing as telegram-writing
use Rattle.function_code.specs.declared.code.Class.{Class}
use Rattle.function_code.specs.declared.code.Class.TheVariants as class
use Rattle.fdl.specs.declared.reading.Reading.TheVariants as telegram-reading
use Rattle.fdl.specs.declared.telegram.Format.{Format}
use Rattle.fdl.specs.declared.telegram.Format.TheVariants.{Sd1, Sd2}
use Rattle.fdl.specs.declared.telegram.Header.{Header}
use Rattle.access.specs.Route.{header_with}
use Rattle.acyclic.specs.Answers as answers
use Rattle.acyclic.specs.Errors.{named_in, good_code1}
use Rattle.acyclic.specs.Forms.{ranged_of, negative_of}
use Rattle.content.specs.declared.fields.Content.{Content}
use Rattle.content.specs.declared.fields.Content.TheVariants as content
use Rattle.service.proofs.Laws.{reads_back}
use Rattle.service.specs.Reading as service
use Rattle.service.specs.declared.reading.Way.TheVariants as way
use Rattle.protocol.specs.Slots.{Slots}
use Rattle.protocol.proofs.Lemmas.Read.{outcome_fine, result_header, result_route}
use Rattle.protocol.specs.Verdicts.{Valid}
use Rattle.protocol.proofs.Lemmas.Replies.{diagnosis_read}
use Rattle.protocol.proofs.Lemmas.Hearing.{stored_sent}
use Rattle.protocol.specs.Telegrams.{answer_of, reply_code}
use Rattle.protocol.specs.Printer as printer
use Rattle.protocol.specs.Printer.{Ask, slave_diag, write, poll, unknown, undecodable, Received, nothing, elsewhere, status, uncounted, opening, counted, is_call, called_by, received_by, received_of, Reply, confirmation, diagnosis, result, guarded, judge, Deed, perform, opening_reply, Station, Heard, is_repeat, reply_bytes, heard_by, hear}
use Rattle.protocol.specs.declared.printer.Outcome.{Outcome}
use Rattle.protocol.specs.declared.printer.Pending.{Pending}
use Rattle.protocol.specs.declared.printer.Pending.TheVariants as pending

-- ---- results that a write could have left

pub data Left : Outcome → Type 0 where
  left : (boarding : Bool) (slot index len : ℕ) → Left (judge boarding slot index len)

abbrev pub LeftIn : Pending → Type 0
LeftIn pending.Nothing = Unit {0}
LeftIn (pending.Result o wait) = Left o

-- DPV1 has an answer for each
left_fine : {o : Outcome} → Left o → answers.verdict_of (answer_of o) 0 ≡ fine
unfolding judge negative_of good_code1 named_in ranged_of
left_fine (left boarding slot index len) =
    by_pick (λ o. answers.verdict_of (answer_of o) 0 ≡ fine) (not (eqb slot 1)) (λ _. refl) (λ _.
    by_pick (λ o. answers.verdict_of (answer_of o) 0 ≡ fine) (ltb 15 index) (λ _. refl) (λ _.
    by_pick (λ o. answers.verdict_of (answer_of o) 0 ≡ fine) (ltb 200 len) (λ _. refl) (λ l.
    by_pick (λ o. answers.verdict_of (answer_of o) 0 ≡ fine) (guarded boarding index) (λ _. refl) (λ _.
    let most : len ≤ 240 = omega (arith, ltb-false 200 len l) in simp (le-ltb 240 len most)))))

-- ---- what may be sent

pub data Proper (s : List ℕ) : Type 0 where
  silent : s ≡ [] → Proper s
  confirms : telegram.read_of s ≡ Ok telegram-reading.Confirmation → Proper s
  bare : {h : Header} {start : ℕ} → telegram.read_of s ≡ Ok (telegram-reading.Telegram Sd1 h start 0) → class_of h.fc ≡ class.Bare → Proper s
  carries : {f : Format} {h : Header} {c : Content} {start len : ℕ} → service.read_of s mode.Dpv1 ≡ Ok (record { format = f; header = h; way = way.Answer; content = c; start = start; len = len }) → Proper s

-- a bare reply has a bare code, and a result was left by a write
abbrev Fits : Reply → Type 0
Fits confirmation = Unit {0}
Fits (printer.bare function) = class_of function ≡ class.Bare
Fits diagnosis = Unit {0}
Fits (result o) = Left o

pub bare_fine : (to from : ℕ) → to ≤ 126 → from ≤ 126 → (function : ℕ) → class_of function ≡ class.Bare → telegram-writing.verdict_of Sd1 (header_with to from function None None) [] ≡ fine
unfolding good_header verdict_by
bare_fine to from t f function e =
    let da : leb to 127 ≡ true = le-leb to 127 (omega arith) in
    simp (da, le-leb from 126 f, e)

module _ (diag : List ℕ) (to from : ℕ) (t : to ≤ 126) (f : from ≤ 126) (v : Valid diag) where
  proper_reply : (r : Reply) → Fits r → Proper (reply_bytes diag from to r)
  unfolding read_by
  proper_reply confirmation e = confirms refl
  proper_reply (printer.bare function) e =
      bare (telegram-laws.telegram_reads_back class_of Sd1 (header_with to from function None None) [] (bare_fine to from t f function e)) e
  proper_reply diagnosis e = carries (diagnosis_read to from t f diag v)
  proper_reply (result o) e =
      let c : Content = content.Dpv1Answer (answer_of o) in
      carries (rw (result_header to from, result_route to from) at (reads_back Sd2 to from reply_code c [] mode.Dpv1 tt tt (outcome_fine to from t f o (left_fine e))).0)

-- ---- what is received comes from a station 0..126

abbrev pub Comes : Received → Type 0
Comes nothing = Unit {0}
Comes elsewhere = Unit {0}
Comes (status sa) = sa ≤ 126
Comes uncounted = Unit {0}
Comes (opening sa ask) = sa ≤ 126
Comes (counted fcb sa ask) = sa ≤ 126

module _ (address : ℕ) (s : List ℕ) where
  by_class : (k : Class) (h : Header) → h.sa ≤ 126 → Comes (called_by k s h)
  by_class class.Opening h e = e
  by_class class.Counted h e = e
  by_class class.Uncounted h e = by_pick Comes (eqb (h.fc % 16) 9) (λ _. e) (λ _. tt)
  by_class class.Bare h e = tt
  by_class class.Data h e = tt
  by_class class.Reserved h e = tt

  by_reading : {r : telegram.Reading} → Reads class_of s r → Comes (received_by address s r)
  by_reading (case.confirmation e) = tt
  by_reading (case.token e x y) = tt
  by_reading (case.telegram {f} {at} {pdu} {dsap} {ssap} starts frames) =
      let h : Header = header_in s at dsap ssap in
      by_pick Comes (is_call (class_of h.fc)) (λ _.
      by_pick Comes (eqb h.da address) (λ _. by_class (class_of h.fc) h (omega (arith, frames.source))) (λ _. tt)) (λ _. tt)
  by_reading case.refusal = tt

  pub comes : Comes (received_of address s)
  unfolding received_of
  comes = by_reading (reads class_of s)

-- ---- the step

-- the pending result is one that a write could have left, and the held reply may be sent
pub record Sound (x : Station) : Type 0 where
  pub pending : LeftIn x.printer.pending
  pub held : Proper (take x.printer.held x.buffer)

-- what a new call leaves and sends
abbrev Fair : Deed → Type 0
Fair d = LeftIn d.pending × Fits d.reply

by_ask : (boarding : Bool) (n : ℕ) (p : Pending) (s : Slots) (w : ℕ) (ask : Ask) → LeftIn p → Fair (perform boarding n p s w ask)
unfolding class_of
by_ask boarding n p s w slave_diag l = (l, tt)
by_ask boarding n pending.Nothing s w (write slot index body) l = (left boarding slot index (length body), tt)
by_ask boarding n (pending.Result o wait) s w (write slot index body) l = (l, refl)
by_ask boarding n pending.Nothing s w poll l = (tt, tt)
by_ask boarding n (pending.Result o zero) s w poll l = (tt, l)
by_ask boarding n (pending.Result o (suc wait)) s w poll l = (l, tt)
by_ask boarding n p s w unknown l = (l, refl)
by_ask boarding n p s w undecodable l = (l, refl)

opening_fits : (ask : Ask) → Fits (opening_reply ask)
unfolding class_of
opening_fits slave_diag = tt
opening_fits (write slot index body) = refl
opening_fits poll = refl
opening_fits unknown = refl
opening_fits undecodable = refl

status_fits : Fits (printer.bare 0)
unfolding class_of
status_fits = refl

module _ (diag : List ℕ) (n : ℕ) (x : Station) (a : x.printer.address ≤ 126) (v : Valid diag) (z : Sound x) where
  abbrev Keeps : Heard → Type 0
  Keeps h = Sound h.station × Proper (take h.reply h.station.buffer)

  abbrev bytes_to : (sa : ℕ) → Reply → List ℕ
  bytes_to sa r = reply_bytes diag x.printer.address sa r

  -- what is stored in front is what is sent
  sent : (sa : ℕ) → sa ≤ 126 → (r : Reply) → Fits r → Proper (take (length (bytes_to sa r)) (over (bytes_to sa r) x.buffer))
  sent sa f r e = subst Proper (sym (stored_sent (bytes_to sa r) x.buffer)) (proper_reply diag sa x.printer.address f a v r e)

  by_received : (r : Received) → Comes r → Keeps (heard_by diag n r x)
  by_received nothing f = (z, silent refl)
  by_received elsewhere f = (record { pending = z.pending; held = silent refl }, silent refl)
  by_received uncounted f = (record { pending = z.pending; held = silent refl }, silent refl)
  by_received (status sa) f = (record { pending = z.pending; held = silent refl }, sent sa f (printer.bare 0) status_fits)
  by_received (opening sa ask) f = (record { pending = tt; held = silent refl }, sent sa f (opening_reply ask) (opening_fits ask))
  by_received (counted fcb sa ask) f =
      by_pick Keeps (is_repeat x.printer fcb sa) (λ _. (z, z.held)) (λ _.
      let d : Deed = perform x.printer.boarding n x.printer.pending x.slots x.printer.writes ask in
      let e : Fair d = by_ask x.printer.boarding n x.printer.pending x.slots x.printer.writes ask z.pending in
      (record { pending = e.0; held = sent sa f d.reply e.1 }, sent sa f d.reply e.1))

-- From a state whose pending result a write could have left, which every step keeps, every data reply is a telegram that
-- `service` reads as an answer, and every other a bare SD1 or SC.
pub replies_proper : (diag : List ℕ) (not_yet : ℕ) (s : List ℕ) (x : Station) → x.printer.address ≤ 126 → Valid diag → Sound x
    → Sound (hear diag not_yet s x).station × Proper (take (hear diag not_yet s x).reply (hear diag not_yet s x).station.buffer)
unfolding hear
replies_proper diag not_yet s x a v z = by_received diag not_yet x a v z (received_of x.printer.address s) (comes x.printer.address s)
