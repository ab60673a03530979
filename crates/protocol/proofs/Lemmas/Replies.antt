-- What the controller makes of the printer's replies.
use Rattle.std.specs.Prelude.{ℕ, ◌+◌, ◌-◌, ◌≤◌, ◌≡◌, true, false, length, Ok, Err}
use Rattle.std.proofs.Math.Path.{refl, ap}
use Rattle.std.proofs.Common.{sym, ◌∙◌}
use mathlib.Core.List.{List, []}
use borrow.Author.Tests.{eq-eqb}
use Rattle.octets.proofs.Choice.{never}
use Rattle.octets.specs.Front.{fine}
use Rattle.octets.specs.Part.{part_of}
use Rattle.octets.specs.declared.Mode.TheVariants as mode
use Rattle.function_code.specs.Code.{class_of, is_reserved}
use Rattle.fdl.proofs.Laws as telegram-laws
use Rattle.fdl.proofs.Lemmas.Back.{user_back}
use Rattle.fdl.proofs.Lemmas.Fields as fields
use Rattle.fdl.specs.Reading as telegram
use Rattle.fdl.specs.Reading.{read_by}
use Rattle.fdl.specs.Writing.{user_start, confirmation_bytes}
use Rattle.fdl.specs.Writing as telegram-writing
use Rattle.fdl.specs.declared.reading.Reading.TheVariants as telegram-reading
use Rattle.fdl.specs.declared.telegram.Format.TheVariants.{Sd2}
use Rattle.fdl.specs.declared.telegram.Header.{Header}
use Rattle.access.specs.Route.{header_of}
use Rattle.access.specs.declared.table.Service.TheVariants as service
use Rattle.diagnosis.proofs.Laws.{read_is_tiled}
use Rattle.diagnosis.specs.Reading as diagnosis-format
use Rattle.acyclic.specs.Answers as answers
use Rattle.content.specs.Reading.{answer_of}
use Rattle.content.specs.declared.fields.Content.{Content}
use Rattle.content.specs.declared.fields.Content.TheVariants as content
use Rattle.service.specs.Reading.{read_of}
use Rattle.service.specs.declared.reading.Way.TheVariants as way
use Rattle.protocol.proofs.Lemmas.Read.{writable, diagnosis_header, diagnosis_route, result_header, reply_class, outcome_fine, telegram_read, got_read}
use Rattle.protocol.specs.Telegrams.{reply_code, diagnosis_bytes, outcome_bytes}
use Rattle.protocol.specs.Telegrams as telegrams
use Rattle.protocol.specs.Printer.{is_refused}
use Rattle.protocol.specs.Controller.{Got, nothing, confirmation, diagnosis, positive, negative, is_printers, got_of, got_by, got_from, got_in}
use Rattle.protocol.specs.Verdicts.{Valid}
use Rattle.protocol.specs.declared.controller.Settings.{Settings}
use Rattle.protocol.specs.declared.printer.Outcome.{Outcome}
use Rattle.protocol.specs.declared.printer.Outcome.TheVariants as outcome

-- a diagnosis that is not refused is valid
pub valid : (diag : List ℕ) → is_refused (diagnosis-format.read_of diag) ≡ false → Valid diag
valid diag e = by (diagnosis-format.read_of diag) refl e
  where
    by : (r : diagnosis-format.Reading) → diagnosis-format.read_of diag ≡ r → is_refused r ≡ false → Valid diag
    by (Ok found) q f = record { header = found.header; blocks = found.blocks; read = q }
    by (Err r) q f = absurd (never (sym f))

-- a diagnosis reply between two stations: its framing, and the service's answer
module _ (to from : ℕ) (t : to ≤ 126) (f : from ≤ 126) (diag : List ℕ) (v : Valid diag) where
  abbrev head : Header
  head = header_of service.SlaveDiag to from reply_code

  pub diagnosis_fine : telegram-writing.verdict_of Sd2 head diag ≡ fine
  diagnosis_fine =
      rw (diagnosis_header to from)
      (writable to from reply_code 62 60 diag t f (ap is_reserved (reply_class to from)) refl refl (read_is_tiled diag v.read).short)

  pub diagnosis_framed : telegram.read_of (diagnosis_bytes to from diag) ≡ Ok (telegram-reading.Telegram Sd2 head (user_start Sd2 head) (length diag))
  diagnosis_framed = telegram-laws.telegram_reads_back class_of Sd2 head diag diagnosis_fine

  diagnosis_user : part_of (diagnosis_bytes to from diag) (user_start Sd2 head) (length diag) ≡ diag
  diagnosis_user = user_back class_of Sd2 head diag (fields.writable class_of Sd2 head diag diagnosis_fine)

  pub diagnosis_read : read_of (diagnosis_bytes to from diag) mode.Dpv1
      ≡ Ok (record { format = Sd2; header = head; way = way.Answer; content = content.SlaveDiag v.header; start = user_start Sd2 head + 6; len = length diag - 6 })
  unfolding read_of answer_of
  diagnosis_read = rw (diagnosis_framed, diagnosis_user, diagnosis_header to from, diagnosis_route to from, v.read)

abbrev pub got_outcome : Outcome → Got
got_outcome (outcome.Positive slot index len) = positive slot index len
got_outcome (outcome.Negative code1 code2) = negative code1 code2

module _ (c : Settings) where
  pub got_nothing : got_in c [] ≡ nothing
  unfolding got_in read_by
  got_nothing = refl

  pub got_confirmation_lem : got_in c confirmation_bytes ≡ confirmation
  unfolding got_in read_by
  got_confirmation_lem = refl

  module _ (p : c.printer ≤ 126) (k : c.controller ≤ 126) where
    -- the printer's results
    content_got : (o : Outcome) → got_of (content.Dpv1Answer (telegrams.answer_of o)) ≡ got_outcome o
    content_got (outcome.Positive slot index len) = refl
    content_got (outcome.Negative code1 code2) = refl

    pub got_outcome_lem : (o : Outcome) → answers.verdict_of (telegrams.answer_of o) 0 ≡ fine
        → got_in c (outcome_bytes c.controller c.printer o) ≡ got_outcome o
    unfolding got_in
    got_outcome_lem o v =
        let x : Content = content.Dpv1Answer (telegrams.answer_of o) in
        let e = outcome_fine c.controller c.printer k p o v in
        ap (got_from c (outcome_bytes c.controller c.printer o)) (telegram_read x c.controller c.printer reply_code [] mode.Dpv1 tt tt e)
        ∙ rw (result_header c.controller c.printer, eq-eqb c.printer c.printer refl, eq-eqb c.controller c.controller refl)
        (got_read x c.controller c.printer reply_code [] mode.Dpv1 tt tt e ∙ content_got o)

    -- its diagnosis
    own_diagnosis : is_printers c Sd2 (header_of service.SlaveDiag c.controller c.printer reply_code) ≡ true
    own_diagnosis =
        rw (diagnosis_header c.controller c.printer, eq-eqb c.printer c.printer refl, eq-eqb c.controller c.controller refl)

    pub got_diagnosis : (diag : List ℕ) → Valid diag → got_in c (diagnosis_bytes c.controller c.printer diag) ≡ diagnosis
    unfolding got_in
    got_diagnosis diag v =
        ap (got_from c (diagnosis_bytes c.controller c.printer diag)) (diagnosis_framed c.controller c.printer k p diag v)
        ∙ rw own_diagnosis (ap got_by (diagnosis_read c.controller c.printer k p diag v))
