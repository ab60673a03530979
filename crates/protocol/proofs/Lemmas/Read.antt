-- What the telegrams of a download are read as, at the other end.
use Prim.Native.Nat.{ℕ, ◌+◌, ◌≤◌}
use Rattle.std.specs.Prelude.{◌≡◌, Bool, eqb, leb, length, Ok, Some}
use Rattle.std.proofs.Math.Path.{refl, ap}
use Rattle.std.proofs.Common.{◌∙◌, arith}
use Rattle.std.proofs.Math.Bool.{true, false}
use mathlib.Core.List.{List, []}
use borrow.Author.Tests.{le-leb, le-ltb, eq-eqb, ne_eqb}
use Rattle.octets.specs.Choice.{pick}
use Rattle.octets.specs.Front.{Verdict, fine, fault}
use Rattle.octets.specs.Fixed.{judged}
use Rattle.octets.specs.declared.Mode.{Mode}
use Rattle.octets.specs.declared.Mode.TheVariants as mode
use Rattle.function_code.specs.Code.{class_of, is_reserved}
use Rattle.fdl.proofs.Laws as telegram-laws
use Rattle.fdl.specs.Reading as telegram
use Rattle.fdl.specs.Writing.{user_start, good_header, verdict_by}
use Rattle.fdl.specs.Writing as telegram-writing
use Rattle.function_code.specs.declared.code.Class.TheVariants as class
use Rattle.fdl.specs.declared.telegram.Format.TheVariants.{Sd2}
use Rattle.fdl.specs.declared.telegram.Header.{Header}
use Rattle.fdl.specs.declared.reading.Reading.TheVariants as telegram-reading
use Rattle.access.specs.Table.{services, look}
use Rattle.access.specs.Route.{header_of, header_with, route_of, kind_of}
use Rattle.access.specs.declared.route.Answering.TheVariants as answering
use Rattle.access.specs.declared.route.Route.{Route}
use Rattle.access.specs.declared.route.Route.TheVariants as route
use Rattle.access.specs.declared.table.Service.TheVariants as service
use Rattle.acyclic.specs.Answers as answers
use Rattle.acyclic.specs.Forms.{alone_of, counted_of}
use Rattle.acyclic.specs.declared.calls.Call as content-call
use Rattle.acyclic.specs.declared.calls.Call.TheVariants as call
use Rattle.content.specs.Fields.{service_of, ModeFits, IdentFits}
use Rattle.content.proofs.Laws.{bytes_long, fixed_small}
use Rattle.content.specs.Writing.{bytes_for, at_most, call_verdict, answer_verdict}
use Rattle.content.specs.declared.fields.Content.{Content}
use Rattle.content.specs.declared.fields.Content.TheVariants as content
use Rattle.service.proofs.Laws.{reads_back}
use Rattle.service.specs.Reading.{read_of}
use Rattle.service.specs.Writing.{telegram_for, route_verdict, verdict_of}
use Rattle.protocol.specs.Telegrams.{carrying, opening_code, counted_code, reply_code, opening_bytes, write_bytes, poll_bytes, answer_of, outcome_bytes}
use Rattle.protocol.specs.Printer.{slave_diag, write, poll, elsewhere, opening, counted, ask_of, ask_by, ask_in, is_srd, fcb_of, received_by, received_of}
use Rattle.protocol.specs.Controller.{got_of, got_by}
use Rattle.protocol.specs.Words.{names_station, asked}
use Rattle.protocol.specs.declared.printer.Outcome.{Outcome}

-- ---- the headers of requests and replies

module _ (to from : ℕ) where
  pub opening_header : header_of service.SlaveDiag to from opening_code ≡ header_with to from opening_code (Some 60) (Some 62)
  unfolding header_of kind_of class_of
  opening_header = refl

  pub counted_header : (fcb : Bool) → header_of service.Dpv1 to from (counted_code fcb) ≡ header_with to from (counted_code fcb) (Some 51) (Some 51)
  unfolding header_of kind_of class_of
  counted_header false = refl
  counted_header true = refl

  pub diagnosis_header : header_of service.SlaveDiag to from reply_code ≡ header_with to from reply_code (Some 62) (Some 60)
  unfolding header_of kind_of class_of
  diagnosis_header = refl

  pub result_header : header_of service.Dpv1 to from reply_code ≡ header_with to from reply_code (Some 51) (Some 51)
  unfolding header_of kind_of class_of
  result_header = refl

  -- their routes
  pub opening_route : route_of (header_with to from opening_code (Some 60) (Some 62)) ≡ route.Call service.SlaveDiag
  unfolding route_of kind_of class_of look services
  opening_route = refl

  pub counted_route : (fcb : Bool) → route_of (header_with to from (counted_code fcb) (Some 51) (Some 51)) ≡ route.Call service.Dpv1
  unfolding route_of kind_of class_of look services
  counted_route false = refl
  counted_route true = refl

  pub diagnosis_route : route_of (header_with to from reply_code (Some 62) (Some 60)) ≡ route.Answer answering.SlaveDiag
  unfolding route_of kind_of class_of look services
  diagnosis_route = refl

  pub result_route : route_of (header_with to from reply_code (Some 51) (Some 51)) ≡ route.Answer answering.Dpv1
  unfolding route_of kind_of class_of look services
  result_route = refl

  -- their classes
  pub opening_class : class_of opening_code ≡ class.Opening
  unfolding class_of
  opening_class = refl

  pub counted_class : (fcb : Bool) → class_of (counted_code fcb) ≡ class.Counted
  unfolding class_of
  counted_class false = refl
  counted_class true = refl

  pub reply_class : class_of reply_code ≡ class.Data
  unfolding class_of
  reply_class = refl

-- ---- what may be written

-- between two stations, with both access points
pub writable : (to from fc a b : ℕ) (user : List ℕ) → to ≤ 126 → from ≤ 126 → is_reserved (class_of fc) ≡ false → leb a 63 ≡ true → leb b 63 ≡ true
    → length user ≤ 244 → telegram-writing.verdict_of Sd2 (header_with to from fc (Some a) (Some b)) user ≡ fine
unfolding good_header verdict_by
writable to from fc a b user t f k x y l =
    let da : leb to 127 ≡ true = le-leb to 127 (omega arith) in
    let sa : leb from 126 ≡ true = le-leb from 126 f in
    let some : eqb (1 + 1 + length user) 0 ≡ false = ne_eqb (1 + 1 + length user) 0 (λ e. omega arith) in
    let most : leb (1 + 1 + length user) 246 ≡ true = le-leb (1 + 1 + length user) 246 (omega arith) in
    simp (da, sa, k, x, y, some, most)

-- a service's telegram, by its header and its route
module _ (c : Content) (to from fc : ℕ) (part : List ℕ) (h : Header) (header : header_of (service_of c) to from fc ≡ h) where
  fine_when : (r : Route) → telegram-writing.verdict_of Sd2 h (bytes_for c part) ≡ fine → route_of h ≡ r → route_verdict r c part ≡ fine
      → verdict_of Sd2 to from fc c part ≡ fine
  unfolding verdict_of
  fine_when r t e v = rw (header, t, e) v

module _ (to from : ℕ) (t : to ≤ 126) (f : from ≤ 126) where
  pub opening_fine : verdict_of Sd2 to from opening_code content.SlaveDiagCall [] ≡ fine
  unfolding call_verdict at_most bytes_for
  opening_fine =
      fine_when content.SlaveDiagCall to from opening_code [] _ (opening_header to from) _
      (writable to from opening_code 60 62 [] t f (ap is_reserved (opening_class to from)) refl refl (omega arith))
      (opening_route to from) refl

  pub write_fine : (fcb : Bool) (index : ℕ) (body : List ℕ) → 1 ≤ length body → length body ≤ 200
      → verdict_of Sd2 to from (counted_code fcb) (content.Dpv1Call (call.Write 1 index)) body ≡ fine
  unfolding call_verdict counted_of
  write_fine fcb index body some most =
      let c : Content = content.Dpv1Call (call.Write 1 index) in
      fine_when c to from (counted_code fcb) body _ (counted_header to from fcb) _
      (writable to from (counted_code fcb) 51 51 (bytes_for c body) t f (ap is_reserved (counted_class to from fcb)) refl refl (omega (arith, bytes_long c body)))
      (counted_route to from fcb)
      (simp (le-ltb (length body) 1 some, le-ltb 240 (length body) (omega arith)))

  pub poll_fine : (fcb : Bool) → verdict_of Sd2 to from (counted_code fcb) (content.Dpv1Call call.Poll) [] ≡ fine
  unfolding call_verdict alone_of bytes_for
  poll_fine fcb =
      fine_when (content.Dpv1Call call.Poll) to from (counted_code fcb) [] _ (counted_header to from fcb) _
      (writable to from (counted_code fcb) 51 51 [] t f (ap is_reserved (counted_class to from fcb)) refl refl (omega arith))
      (counted_route to from fcb) refl

  -- a result whose answer is one that DPV1 has
  pub outcome_fine : (o : Outcome) → answers.verdict_of (answer_of o) 0 ≡ fine → verdict_of Sd2 to from reply_code (content.Dpv1Answer (answer_of o)) [] ≡ fine
  unfolding answer_verdict
  outcome_fine o e =
      let c : Content = content.Dpv1Answer (answer_of o) in
      fine_when c to from reply_code [] _ (result_header to from) _
      (writable to from reply_code 51 51 (bytes_for c []) t f (ap is_reserved (reply_class to from)) refl refl (omega (arith, bytes_long c [], fixed_small c)))
      (result_route to from) e

-- a result's telegram
pub outcome_telegram : (to from : ℕ) (o : Outcome)
    → outcome_bytes to from o ≡ telegram-writing.telegram_of Sd2 (header_of service.Dpv1 to from reply_code) (bytes_for (content.Dpv1Answer (answer_of o)) [])
unfolding telegram_for
outcome_telegram to from o = refl

-- ---- what is read

first_fine : (v w : Verdict) → judged fault v w ≡ fine → v ≡ fine
first_fine fine w e = refl
first_fine (fault k) w e = e

counted_srd : (fcb : Bool) → is_srd (counted_code fcb) ≡ true
counted_srd false = refl
counted_srd true = refl

counted_fcb : (fcb : Bool) → fcb_of (counted_code fcb) ≡ fcb
counted_fcb false = refl
counted_fcb true = refl

-- of a service's telegram that may be written
module _ (c : Content) (to from fc : ℕ) (part : List ℕ) (m : Mode) (ident : IdentFits c) (version : ModeFits c m) (e : verdict_of Sd2 to from fc c part ≡ fine) where
  pub ask_read : ask_by (carrying c to from fc part) (read_of (carrying c to from fc part) m) ≡ ask_of c part
  ask_read =
      let back = reads_back Sd2 to from fc c part m ident version e in
      ap (ask_by (carrying c to from fc part)) back.0 ∙ ap (ask_of c) back.1

  pub got_read : got_by (read_of (carrying c to from fc part) m) ≡ got_of c
  got_read = ap got_by (reads_back Sd2 to from fc c part m ident version e).0

  pub telegram_read : telegram.read_of (carrying c to from fc part)
      ≡ Ok (telegram-reading.Telegram Sd2 (header_of (service_of c) to from fc) (user_start Sd2 (header_of (service_of c) to from fc)) (length (bytes_for c part)))
  unfolding verdict_of telegram_for
  telegram_read =
      telegram-laws.telegram_reads_back class_of Sd2 (header_of (service_of c) to from fc) (bytes_for c part)
      (first_fine (telegram-writing.verdict_of Sd2 (header_of (service_of c) to from fc) (bytes_for c part)) _ e)

module _ (to from : ℕ) (t : to ≤ 126) (f : from ≤ 126) where
  -- the station that they name
  pub opening_names : (a : ℕ) → names_station a (telegram.read_of (opening_bytes to from)) ≡ eqb to a
  opening_names a =
      ap (names_station a) (telegram_read content.SlaveDiagCall to from opening_code [] mode.Dpv1 tt tt (opening_fine to from t f))
      ∙ rw (opening_header to from)

  pub opening_asked : asked (opening_bytes to from) ≡ slave_diag
  opening_asked = ask_read content.SlaveDiagCall to from opening_code [] mode.Dpv1 tt tt (opening_fine to from t f)

  counted_names : (fcb : Bool) (c : content-call.Call) (part : List ℕ) → verdict_of Sd2 to from (counted_code fcb) (content.Dpv1Call c) part ≡ fine
      → names_station to (telegram.read_of (carrying (content.Dpv1Call c) to from (counted_code fcb) part)) ≡ true
  counted_names fcb c part e =
      ap (names_station to) (telegram_read (content.Dpv1Call c) to from (counted_code fcb) part mode.Dpv1 tt tt e)
      ∙ rw (counted_header to from fcb, eq-eqb to to refl)

  pub write_names : (fcb : Bool) (index : ℕ) (body : List ℕ) → 1 ≤ length body → length body ≤ 200
      → names_station to (telegram.read_of (write_bytes to from fcb index body)) ≡ true
  write_names fcb index body some most = counted_names fcb (call.Write 1 index) body (write_fine to from t f fcb index body some most)

  pub poll_names : (fcb : Bool) → names_station to (telegram.read_of (poll_bytes to from fcb)) ≡ true
  poll_names fcb = counted_names fcb call.Poll [] (poll_fine to from t f fcb)

  -- what they ask for
  pub write_asked : (fcb : Bool) (index : ℕ) (body : List ℕ) → 1 ≤ length body → length body ≤ 200
      → asked (write_bytes to from fcb index body) ≡ write 1 index body
  write_asked fcb index body some most =
      ask_read (content.Dpv1Call (call.Write 1 index)) to from (counted_code fcb) body mode.Dpv1 tt tt (write_fine to from t f fcb index body some most)

  pub poll_asked : (fcb : Bool) → asked (poll_bytes to from fcb) ≡ poll
  poll_asked fcb = ask_read (content.Dpv1Call call.Poll) to from (counted_code fcb) [] mode.Dpv1 tt tt (poll_fine to from t f fcb)

module _ (to from : ℕ) (t : to ≤ 126) (f : from ≤ 126) (address : ℕ) where
  pub opening_received : received_of address (opening_bytes to from) ≡ pick (eqb to address) (opening from slave_diag) elsewhere
  unfolding received_of ask_in
  opening_received =
      let e = opening_fine to from t f in
      let s : List ℕ = opening_bytes to from in
      ap (received_by address s) (telegram_read content.SlaveDiagCall to from opening_code [] mode.Dpv1 tt tt e)
      ∙ rw (opening_header to from, opening_class to from, ask_read content.SlaveDiagCall to from opening_code [] mode.Dpv1 tt tt e)

  pub write_received : (fcb : Bool) (index : ℕ) (body : List ℕ) → 1 ≤ length body → length body ≤ 200
      → received_of address (write_bytes to from fcb index body) ≡ pick (eqb to address) (counted fcb from (write 1 index body)) elsewhere
  unfolding received_of ask_in
  write_received fcb index body some most =
      let c : Content = content.Dpv1Call (call.Write 1 index) in
      let e = write_fine to from t f fcb index body some most in
      ap (received_by address (write_bytes to from fcb index body)) (telegram_read c to from (counted_code fcb) body mode.Dpv1 tt tt e)
      ∙ rw (counted_header to from fcb, counted_class to from fcb, counted_srd fcb, counted_fcb fcb, ask_read c to from (counted_code fcb) body mode.Dpv1 tt tt e)

  pub poll_received : (fcb : Bool) → received_of address (poll_bytes to from fcb) ≡ pick (eqb to address) (counted fcb from poll) elsewhere
  unfolding received_of ask_in
  poll_received fcb =
      let c : Content = content.Dpv1Call call.Poll in
      let e = poll_fine to from t f fcb in
      ap (received_by address (poll_bytes to from fcb)) (telegram_read c to from (counted_code fcb) [] mode.Dpv1 tt tt e)
      ∙ rw (counted_header to from fcb, counted_class to from fcb, counted_srd fcb, counted_fcb fcb, ask_read c to from (counted_code fcb) [] mode.Dpv1 tt tt e)
