-- What a reply is to the controller, at every settings and every list of bytes: each case exactly when document 01 says so
-- of the telegram's fields and of the bytes of its user data.
use Rattle.std.specs.Prelude.{ℕ, ◌≡◌, Bool, true, false, not, ◌↔◌, ltb, length, Ok, Err, Some, None}
use Rattle.std.proofs.Math.Path.{refl, ap, subst}
use Rattle.std.proofs.Common.{sym, ◌∙◌}
use mathlib.Core.List.{List, [], ◌∷◌}
use borrow.Author.Tests.{eq-eqb, le-ltb, ltb-false, not-false}
use Rattle.octets.specs.Choice.{pick}
use Rattle.octets.proofs.Choice.{by_pick, never}
use Rattle.octets.proofs.Fixed.{passed}
use Rattle.octets.specs.Front.{Verdict, fine, fault}
use Rattle.octets.specs.Part.{part_of}
use Rattle.octets.specs.declared.Mode.TheVariants as mode
use Rattle.function_code.specs.Code.{class_of}
use Rattle.fdl.specs.Contents.{accepted}
use Rattle.fdl.proofs.Lemmas.Reads as case
use Rattle.fdl.proofs.Lemmas.Reads.{Reads, reads}
use Rattle.fdl.specs.Reading as telegram
use Rattle.fdl.specs.Reading.{extension_of, source_of, destination_of, token_of, fields_of, framed_of, sd2_of, read_by}
use Rattle.fdl.specs.Telegram.{checksum_of}
use Rattle.fdl.specs.declared.reading.Reading.TheVariants as telegram-reading
use Rattle.fdl.specs.declared.telegram.Format.{Format}
use Rattle.fdl.specs.declared.telegram.Format.TheVariants.{Sd2}
use Rattle.fdl.specs.declared.telegram.Header.{Header}
use Rattle.access.proofs.Laws as access-laws
use Rattle.access.specs.Laws as access-laws-words
use Rattle.access.specs.Route.{kind_of, named_by, answerer_of, answer_route, route_of, header_of, header_with}
use Rattle.access.specs.Table.{services, look, Named}
use Rattle.access.specs.declared.route.Answering.{Answering}
use Rattle.access.specs.declared.route.Answering.TheVariants as answering
use Rattle.access.specs.declared.route.Route.TheVariants as route
use Rattle.access.specs.declared.table.Service.{Service}
use Rattle.access.specs.declared.table.Service.TheVariants as service
use Rattle.acyclic.specs.Answers.{four_of, read_answer_of, bytes_for, verdict_for, AnswerReading}
use Rattle.acyclic.specs.Errors.{good_decode, named_in, good_code1}
use Rattle.acyclic.specs.Forms.{alone_of, ranged_of, counted_of, counted_as_of, negative_of, by_number, where_allowed}
use Rattle.acyclic.proofs.Laws.{answer_reads_back, answer_writes_back}
use Rattle.acyclic.proofs.Lemmas.Forms.{no_bytes}
use Rattle.acyclic.specs.Numbers.{failed_by}
use Rattle.acyclic.specs.declared.answers.Answer.{Answer}
use Rattle.acyclic.specs.declared.answers.Answer.TheVariants as answer
use Rattle.acyclic.specs.declared.numbers.Function.TheVariants as function
use Rattle.configuration.specs.Reading as configuration
use Rattle.diagnosis.specs.Block.{good_code, channel_of, found_by}
use Rattle.diagnosis.specs.Reading as diagnosis-format
use Rattle.diagnosis.specs.Reading.{good_status1, good_status2, good_master, blocks_in, ext_diag_agrees, judge}
use Rattle.content.specs.Reading.{plain_of, configuration_in, diagnosis_in, dpv1_answer_in, answer_of, UserData}
use Rattle.content.specs.declared.fields.Content.{Content}
use Rattle.content.specs.declared.fields.Content.TheVariants as content
use Rattle.service.specs.Reading.{placed_at, routed_by, read_of}
use Rattle.service.specs.declared.reading.Way.TheVariants as way
use Rattle.protocol.specs.Controller.{Got, nothing, confirmation, diagnosis, positive, negative, other, is_printers, got_of_dpv1, got_by, got_from, got_in}
use Rattle.protocol.proofs.Lemmas.Ours.{got_bad}
use Rattle.protocol.proofs.Lemmas.Read.{diagnosis_header, diagnosis_route, result_header, result_route}
use Rattle.protocol.proofs.Lemmas.Replies.{valid}
use Rattle.protocol.proofs.Lemmas.Replies as replies
use Rattle.protocol.proofs.MachineLaws.Controller.{Own, own}
use Rattle.protocol.specs.Printer.{is_refused}
use Rattle.protocol.specs.Reply.{Sc, FromPrinter, Diagnosis, Positive, Negative, Another}
use Rattle.protocol.specs.Words.{FramingRefuses}
use Rattle.protocol.specs.declared.controller.Settings.{Settings}

-- ---- what is got says of the bytes

module _ (c : Settings) (s : List ℕ) where
  abbrev Only : Got → Type 0
  Only nothing = FramingRefuses s
  Only confirmation = Sc s
  Only diagnosis = Diagnosis c s
  Only (positive slot index len) = Positive c slot index len s
  Only (negative code1 code2) = Negative c code1 code2 s
  Only other = Unit {0}

  -- from the printer, with user data that an answer's format reads
  module _ {f : Format} {h : Header} {start len : ℕ} (framed : telegram.read_of s ≡ Ok (telegram-reading.Telegram f h start len))
      (o : Own c (Ok (telegram-reading.Telegram f h start len)))
    where
      abbrev user : List ℕ
      user = part_of s start len

      header_is : h ≡ o.header
      header_is = let e = o.read in cc

      from_printer_lem : (x : Service) (dsap ssap : ℕ) → header_of x c.controller c.printer 0x08 ≡ header_with c.controller c.printer 0x08 (Some dsap) (Some ssap)
          → header_of x h.da h.sa h.fc ≡ h → FromPrinter c dsap ssap user s
      from_printer_lem x dsap ssap points again =
          let e = o.read in
          let da : h.da ≡ c.controller = ap (λ (k : Header). k.da) header_is ∙ o.destination in
          let sa : h.sa ≡ c.printer = ap (λ (k : Header). k.sa) header_is ∙ o.source in
          let fc : h.fc ≡ 0x08 = ap (λ (k : Header). k.fc) header_is ∙ o.code in
          let same : header_with c.controller c.printer 0x08 (Some dsap) (Some ssap) ≡ h = sym points ∙ rw (← da, ← sa, ← fc) again in
          record { start = start; len = len; framed = cc; bytes = refl }

      -- as an answer from a service that answers, or from none
      abbrev GotBy : UserData → Got
      GotBy d = got_by (placed_at f h way.Answer start d)

      plain : (x : Content) → Only (GotBy (Ok (record { fields = x; start = 0; len = length user }))) → Only (GotBy (plain_of x (length user)))
      unfolding plain_of
      plain x e = by_pick (λ (d : UserData). Only (GotBy d)) (ltb 244 (length user)) (λ _. tt) (λ _. e)

      configured : (r : configuration.Reading) → Only (GotBy (configuration_in content.GetCfg r (length user)))
      configured (Ok found) = tt
      configured (Err r) = tt

      diagnosed : FromPrinter c 62 60 user s → (r : diagnosis-format.Reading) → diagnosis-format.read_of user ≡ r → Only (GotBy (diagnosis_in r (length user)))
      diagnosed k (Ok found) e = record { user = user; from = k; read = ap is_refused e }
      diagnosed k (Err r) e = tt

      -- DPV1: by the bytes that the answer is written as
      module _ (from : FromPrinter c 51 51 user s) where
        with_user : (u : List ℕ) → u ≡ user → FromPrinter c 51 51 u s
        with_user u e = record { start = from.start; len = from.len; framed = from.framed; bytes = from.bytes ∙ sym e }

        positive_only : (slot index len : ℕ) (part : List ℕ) → verdict_for (answer.Write slot index len) part ≡ fine → bytes_for (answer.Write slot index len) part ≡ user
            → Positive c slot index len s
        unfolding ranged_of
        positive_only slot index len part taken same =
            let least = passed 20 (ltb 0 (length part)) (pick (ltb 240 len) (fault 21) fine) taken in
            let most = passed 21 (ltb 240 len) fine least.1 in
            let e : 0x5F ∷ slot ∷ index ∷ len ∷ [] ≡ user = rw (no_bytes part (ltb-false 0 (length part) least.0)) at same in
            record { from = with_user (0x5F ∷ slot ∷ index ∷ len ∷ []) e; most = ltb-false 240 len most.0 }

        negative_only : (decode code1 code2 : ℕ) (part : List ℕ) → verdict_for (answer.Negative function.Write decode code1 code2) part ≡ fine
            → bytes_for (answer.Negative function.Write decode code1 code2) part ≡ user → Negative c code1 code2 s
        unfolding negative_of
        negative_only decode code1 code2 part taken same =
            let codes : Verdict = pick (not (good_code1 decode code1)) (fault 28) fine in
            let least = passed 20 (ltb 0 (length part)) (pick (not (good_decode decode)) (fault 21) codes) taken in
            let decodes = passed 21 (not (good_decode decode)) codes least.1 in
            let known = passed 28 (not (good_code1 decode code1)) fine decodes.1 in
            let e : 0xDF ∷ decode ∷ code1 ∷ code2 ∷ [] ≡ user = rw (no_bytes part (ltb-false 0 (length part) least.0)) at same in
            record {
              decode = decode;
              from = with_user (0xDF ∷ decode ∷ code1 ∷ code2 ∷ []) e;
              decoded = not-false (good_decode decode) decodes.0;
              known = not-false (good_code1 decode code1) known.0;
            }

        by_answer : (x : Answer) (part : List ℕ) → verdict_for x part ≡ fine → bytes_for x part ≡ user → Only (got_of_dpv1 x)
        by_answer (answer.Read slot index) part taken same = tt
        by_answer (answer.Write slot index len) part taken same = positive_only slot index len part taken same
        by_answer (answer.AlarmAck slot alarm specifier) part taken same = tt
        by_answer answer.Idle part taken same = tt
        by_answer (answer.Transport slot index) part taken same = tt
        by_answer (answer.Negative function.Read decode code1 code2) part taken same = tt
        by_answer (answer.Negative function.Write decode code1 code2) part taken same = negative_only decode code1 code2 part taken same
        by_answer (answer.Negative function.AlarmAck decode code1 code2) part taken same = tt
        by_answer (answer.Negative function.Transport decode code1 code2) part taken same = tt

        by_dpv1 : (r : AnswerReading) → read_answer_of user ≡ r → Only (GotBy (dpv1_answer_in r))
        by_dpv1 (Ok found) e = let w = answer_writes_back user e in by_answer found.fields (part_of user found.start found.len) w.0 w.1
        by_dpv1 (Err r) e = tt

      -- the header that leads to a service is the one that its telegram has
      led : {a : Answering} → route_of h ≡ route.Answer a → header_of (answerer_of a) h.da h.sa h.fc ≡ h
      led e = subst (access-laws-words.Again h) e (access-laws.header_again h)

      by_named : (n : Named) → route_of h ≡ answer_route n → Only (got_by (routed_by (answer_route n) f h start user mode.Dpv1))
      unfolding answer_of
      by_named None e = tt
      by_named (Some service.DataExchange) e = plain content.DataExchange tt
      by_named (Some service.Dpv1) e = by_dpv1 (from_printer_lem service.Dpv1 51 51 (result_header c.controller c.printer) (led e)) (read_answer_of user) refl
      by_named (Some service.ExtUserPrm) e = tt
      by_named (Some service.SetSlaveAdr) e = tt
      by_named (Some service.RdInp) e = plain content.RdInp tt
      by_named (Some service.RdOutp) e = plain content.RdOutp tt
      by_named (Some service.GlobalControl) e = tt
      by_named (Some service.GetCfg) e = configured (configuration.read_of user)
      by_named (Some service.SlaveDiag) e =
          diagnosed (from_printer_lem service.SlaveDiag 62 60 (diagnosis_header c.controller c.printer) (led e)) (diagnosis-format.read_of user) refl
      by_named (Some service.SetPrm) e = tt
      by_named (Some service.ChkCfg) e = tt

      -- function code 08 is an answer's
      routed : route_of h ≡ answer_route (named_by h.ssap h.dsap)
      unfolding route_of kind_of class_of
      routed = let fc : h.fc ≡ 0x08 = ap (λ (k : Header). k.fc) header_is ∙ o.code in rw fc

      by_service : Only (got_by (read_of s mode.Dpv1))
      unfolding read_of
      by_service = rw (framed, routed) (by_named (named_by h.ssap h.dsap) routed)

  by_telegram : (r : telegram.Reading) → telegram.read_of s ≡ r → Reads class_of s r → Only (got_from c s r)
  by_telegram (Ok telegram-reading.Confirmation) q (case.confirmation e) = e
  by_telegram (Ok (telegram-reading.Token da sa)) q k = tt
  by_telegram (Ok (telegram-reading.Telegram f h start len)) q k =
      by_pick Only (is_printers c f h) (λ e. by_service q (own c s f h start len e)) (λ _. tt)
  by_telegram (Err r) q k = ap accepted q

  only : {g : Got} → got_in c s ≡ g → Only g
  unfolding got_in
  only e = subst Only e (by_telegram (telegram.read_of s) refl (reads class_of s))

  -- ---- the bytes say what is got

  module _ {dsap ssap : ℕ} {user : List ℕ} (k : FromPrinter c dsap ssap user s) where
    abbrev head : Header
    head = header_with c.controller c.printer 0x08 (Some dsap) (Some ssap)

    abbrev GotAs : UserData → Got
    GotAs d = got_by (placed_at Sd2 head way.Answer k.start d)

    by_framing : got_in c s ≡ got_by (read_of s mode.Dpv1)
    unfolding got_in
    by_framing = rw (k.framed, eq-eqb c.printer c.printer refl, eq-eqb c.controller c.controller refl)

    by_user : {a : Answering} → route_of head ≡ route.Answer a → got_in c s ≡ GotAs (answer_of a user)
    unfolding read_of
    by_user e = by_framing ∙ rw (k.framed, e, k.bytes)

    by_result : route_of head ≡ route.Answer answering.Dpv1 → (x : Answer) → bytes_for x [] ≡ user → verdict_for x [] ≡ fine → got_in c s ≡ got_of_dpv1 x
    unfolding answer_of
    by_result e x same taken =
        by_user e ∙ ap (λ (r : AnswerReading). GotAs (dpv1_answer_in r)) (ap read_answer_of (sym same) ∙ (answer_reads_back x [] taken).0)

  diagnosis_when : Diagnosis c s → got_in c s ≡ diagnosis
  unfolding answer_of
  diagnosis_when d =
      let v = valid d.user d.read in
      by_user d.from (diagnosis_route c.controller c.printer)
      ∙ ap (λ (r : diagnosis-format.Reading). GotAs d.from (diagnosis_in r (length d.user))) v.read

  positive_when : {slot index len : ℕ} → Positive c slot index len s → got_in c s ≡ positive slot index len
  unfolding ranged_of
  positive_when {slot} {index} {len} p =
      by_result p.from (result_route c.controller c.printer) (answer.Write slot index len) refl (rw (le-ltb 240 len p.most))

  negative_when : {code1 code2 : ℕ} → Negative c code1 code2 s → got_in c s ≡ negative code1 code2
  unfolding negative_of
  negative_when {code1} {code2} n =
      by_result n.from (result_route c.controller c.printer) (answer.Negative function.Write n.decode code1 code2) refl (rw (n.decoded, n.known))

abbrev is_other : Got → Bool
is_other nothing = false
is_other confirmation = false
is_other diagnosis = false
is_other (positive slot index len) = false
is_other (negative code1 code2) = false
is_other other = true

pub framing_takes : (b : Bool) → (b ≡ false → ⊥) → b ≡ true
framing_takes true e = refl
framing_takes false e = absurd (e refl)

-- ---- the laws

module _ (c : Settings) (s : List ℕ) where
  -- Nothing is got exactly where framing refuses the bytes.
  pub got_nothing : got_in c s ≡ nothing ↔ FramingRefuses s
  got_nothing = (only c s, got_bad c s)

  -- SC is exactly the one byte E5.
  pub got_confirmation_lem : got_in c s ≡ confirmation ↔ Sc s
  got_confirmation_lem = (only c s, λ e. ap (got_in c) e ∙ replies.got_confirmation_lem c)

  -- The diagnosis is exactly the printer's answer from Slave_Diag that is not refused.
  pub got_diagnosis : got_in c s ≡ diagnosis ↔ Diagnosis c s
  got_diagnosis = (only c s, diagnosis_when c s)

  -- Positive is exactly the printer's 5F with these three bytes.
  pub got_positive : {slot index len : ℕ} → got_in c s ≡ positive slot index len ↔ Positive c slot index len s
  got_positive = (only c s, positive_when c s)

  -- Negative is exactly the printer's DF with these codes.
  pub got_negative_lem : {code1 code2 : ℕ} → got_in c s ≡ negative code1 code2 ↔ Negative c code1 code2 s
  got_negative_lem = (only c s, negative_when c s)

  no_other : {g : Got} → got_in c s ≡ other → got_in c s ≡ g → is_other g ≡ true
  no_other e f = ap is_other (sym f ∙ e)

  else_only : got_in c s ≡ other → Another c s
  else_only e =
      record {
        framed = framing_takes (accepted (telegram.read_of s)) (λ f. never (no_other e (got_nothing.1 f)));
        no_sc = λ f. never (no_other e (got_confirmation_lem.1 f));
        no_diagnosis = λ f. never (no_other e (got_diagnosis.1 f));
        no_positive = λ f. never (no_other e (got_positive.1 f));
        no_negative = λ f. never (no_other e (got_negative_lem.1 f));
      }

  else_when : (g : Got) → got_in c s ≡ g → Another c s → g ≡ other
  else_when nothing e a = absurd (never (sym (got_nothing.0 e) ∙ a.framed))
  else_when confirmation e a = absurd (a.no_sc (got_confirmation_lem.0 e))
  else_when diagnosis e a = absurd (a.no_diagnosis (got_diagnosis.0 e))
  else_when (positive slot index len) e a = absurd (a.no_positive (got_positive.0 e))
  else_when (negative code1 code2) e a = absurd (a.no_negative (got_negative_lem.0 e))
  else_when other e a = refl

  -- Another reply is exactly all else that framing accepts.
  pub got_other : got_in c s ≡ other ↔ Another c s
  got_other = (else_only, else_when (got_in c s) refl)

-- ---- replies, computed: from printer 7 to controller 2

abbrev settings : Settings
settings = record { printer = 7; controller = 2; repeats = 1; polls = 2 }

pub record Rows : Type 0 where
  pub no_bytes : got_in settings [] ≡ nothing
  pub short_confirmation_lem : got_in settings (0xE5 ∷ []) ≡ confirmation
  pub a_token : got_in settings (0xDC ∷ 0x02 ∷ 0x07 ∷ []) ≡ other
  pub the_diagnosis : got_in settings (0x68 ∷ 0x0E ∷ 0x0E ∷ 0x68 ∷ 0x82 ∷ 0x87 ∷ 0x08 ∷ 0x3E ∷ 0x3C ∷ 0x08 ∷ 0x0C ∷ 0x00 ∷ 0x02 ∷ 0x12 ∷ 0x34 ∷ 0x82 ∷ 0x43 ∷ 0x26 ∷ 0xD2 ∷ 0x16 ∷ []) ≡ diagnosis
  -- the same bytes from Rd_Inp
  pub inputs : got_in settings (0x68 ∷ 0x0E ∷ 0x0E ∷ 0x68 ∷ 0x82 ∷ 0x87 ∷ 0x08 ∷ 0x3E ∷ 0x38 ∷ 0x08 ∷ 0x0C ∷ 0x00 ∷ 0x02 ∷ 0x12 ∷ 0x34 ∷ 0x82 ∷ 0x43 ∷ 0x26 ∷ 0xCE ∷ 0x16 ∷ []) ≡ other
  pub the_5_f : got_in settings (0x68 ∷ 0x09 ∷ 0x09 ∷ 0x68 ∷ 0x82 ∷ 0x87 ∷ 0x08 ∷ 0x33 ∷ 0x33 ∷ 0x5F ∷ 0x01 ∷ 0x07 ∷ 0x03 ∷ 0xE1 ∷ 0x16 ∷ []) ≡ positive 1 7 3
  -- decode 128 and 254
  pub the_df : got_in settings (0x68 ∷ 0x09 ∷ 0x09 ∷ 0x68 ∷ 0x82 ∷ 0x87 ∷ 0x08 ∷ 0x33 ∷ 0x33 ∷ 0xDF ∷ 0x80 ∷ 0xB6 ∷ 0x00 ∷ 0x8C ∷ 0x16 ∷ []) ≡ negative 0xB6 0
  pub a_df : got_in settings (0x68 ∷ 0x09 ∷ 0x09 ∷ 0x68 ∷ 0x82 ∷ 0x87 ∷ 0x08 ∷ 0x33 ∷ 0x33 ∷ 0xDF ∷ 0xFE ∷ 0x01 ∷ 0x02 ∷ 0x57 ∷ 0x16 ∷ []) ≡ negative 1 2
  pub a_5_e : got_in settings (0x68 ∷ 0x09 ∷ 0x09 ∷ 0x68 ∷ 0x82 ∷ 0x87 ∷ 0x08 ∷ 0x33 ∷ 0x33 ∷ 0x5E ∷ 0x01 ∷ 0x07 ∷ 0x00 ∷ 0xDD ∷ 0x16 ∷ []) ≡ other
  pub a_de : got_in settings (0x68 ∷ 0x09 ∷ 0x09 ∷ 0x68 ∷ 0x82 ∷ 0x87 ∷ 0x08 ∷ 0x33 ∷ 0x33 ∷ 0xDE ∷ 0x80 ∷ 0xB6 ∷ 0x00 ∷ 0x8B ∷ 0x16 ∷ []) ≡ other
  pub a_dc : got_in settings (0x68 ∷ 0x09 ∷ 0x09 ∷ 0x68 ∷ 0x82 ∷ 0x87 ∷ 0x08 ∷ 0x33 ∷ 0x33 ∷ 0xDC ∷ 0x80 ∷ 0xB6 ∷ 0x00 ∷ 0x89 ∷ 0x16 ∷ []) ≡ other

pub worked_replies : Rows
unfolding part_of class_of extension_of source_of destination_of token_of fields_of framed_of sd2_of read_by checksum_of good_code channel_of found_by good_status1 good_status2 good_master blocks_in ext_diag_agrees judge diagnosis-format.read_of kind_of route_of services look read_answer_of four_of failed_by named_in good_code1 alone_of ranged_of counted_of counted_as_of negative_of by_number where_allowed plain_of answer_of read_of got_in
worked_replies =
    record {
      no_bytes = refl;
      short_confirmation_lem = refl;
      a_token = refl;
      the_diagnosis = refl;
      inputs = refl;
      the_5_f = refl;
      the_df = refl;
      a_df = refl;
      a_5_e = refl;
      a_de = refl;
      a_dc = refl;
    }
