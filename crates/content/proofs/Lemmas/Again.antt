-- What is read may be written, and gives the same bytes again.
use Rattle.std.specs.Prelude.{ℕ, ◌+◌, ◌-◌, ◌≤◌, ◌≡◌, List, [], length, take, drop, ltb, Ok, Err}
use Rattle.std.proofs.Math.Path.{refl, ap}
use Rattle.std.proofs.Common.{sym, ◌∙◌, arith, le_trans, length-take-le, drop_at, ltb-false, le-ltb}
use Rattle.octets.specs.Choice.{pick}
use Rattle.octets.proofs.Choice.{by_pick}
use Rattle.octets.specs.Bytes.{Bytes}
use Rattle.octets.specs.Part.{part_of}
use Rattle.octets.specs.Front.{Verdict, fine}
use Rattle.octets.proofs.Fixed.{by_verdict, part_behind, part_tiles}
use Rattle.octets.specs.declared.Mode.{Mode}
use Rattle.acyclic.specs.Answers.{read_answer_of, AnswerReading}
use Rattle.acyclic.specs.Calls.{read_call_of, CallReading}
use Rattle.acyclic.proofs.Laws.{call_writes_back, call_data_inside, answer_writes_back, answer_data_inside}
use Rattle.acyclic.proofs.Lemmas.Again.{part_count}
use Rattle.address_change.specs.Address.{verdict_of as addressVerdict, fields_in as addressFields, read_of as readAddress, AddressReading}
use Rattle.address_change.proofs.Laws.{address_writes_back}
use Rattle.configuration.specs.Contents.{accepted}
use Rattle.configuration.proofs.Laws.{configuration_writes_back}
use Rattle.configuration.specs.Reading.{read_of as readConfiguration}
use Rattle.configuration.specs.Writing.{verdict_of as configurationVerdict}
use Rattle.configuration.specs.Reading as configuration-type
use Rattle.control.specs.Command.{verdict_of as commandVerdict, fields_in as commandFields, read_of as readCommand, CommandReading}
use Rattle.control.proofs.Laws.{command_writes_back}
use Rattle.diagnosis.specs.Contents as contents
use Rattle.diagnosis.proofs.Laws as diagnosis
use Rattle.diagnosis.specs.Reading.{judge, header_of, answered, read_of as readDiagnosis, Count}
use Rattle.diagnosis.specs.Writing.{diagnosis_bytes, verdict_of}
use Rattle.diagnosis.specs.Reading as diagnosis-type
use Rattle.parameters.specs.Fields.{fixed_length as modeLength, verdict_of as parametersVerdict}
use Rattle.parameters.proofs.Laws as parameters
use Rattle.parameters.specs.Reading.{extension_in, fields_in as parametersFields, read_of as readParameters}
use Rattle.parameters.specs.Reading as parameters-type
use Rattle.access.specs.Route.{answerer_of}
use Rattle.access.specs.declared.table.Service.{Service}
use Rattle.access.specs.declared.table.Service.TheVariants as service
use Rattle.access.specs.declared.route.Answering.{Answering}
use Rattle.access.specs.declared.route.Answering.TheVariants as answering
use Rattle.content.specs.Fields.{service_of, fixed_length, IdentFits, Fits, FitsEvery}
use Rattle.content.specs.Reading.{refused, plain_of, empty_of, address_in, command_in, diagnosis_in, parameters_in, configuration_in, dpv1_call_in, dpv1_answer_in, call_of, answer_of, UserData}
use Rattle.content.specs.Writing.{bytes_for, at_most, call_verdict, answer_verdict, Again}
use Rattle.content.proofs.Lemmas.Lengths.{bytes_long}
use Rattle.content.specs.declared.fields.Content.{Content}
use Rattle.content.specs.declared.fields.Content.TheVariants as content

-- where user data have a content, this holds of it and its part
abbrev pub Holds : (Content → (start len : ℕ) → Type 0) → UserData → Type 0
Holds P (Ok found) = P found.fields found.start found.len
Holds P (Err r) = Unit

-- ---- where the part begins, and that two bytes hold the ident number

-- where user data have a content, its part begins there, and its ident number has two bytes
abbrev From : ℕ → UserData → Type 0
From n d = Holds (λ c start _. (start ≡ n) × IdentFits c) d

address_from : (u : List ℕ) → Bytes u → From 4 (address_in (readAddress u))
unfolding readAddress
address_from u b =
    by_verdict (λ (r : AddressReading). From 4 (address_in r)) (addressVerdict (addressFields u) (length u)) (λ _. tt)
    (λ _. (refl, omega (arith, b 1, b 2)))

command_from : (u : List ℕ) → From 2 (command_in (readCommand u))
unfolding readCommand
command_from u = by_verdict (λ (r : CommandReading). From 2 (command_in r)) (commandVerdict (commandFields u) (length u)) (λ _. tt) (λ _. (refl, tt))

parameters_from : (u : List ℕ) → Bytes u → (m : Mode) → From (modeLength m) (parameters_in (readParameters u m))
unfolding readParameters
parameters_from u b m =
    by_pick (λ (r : parameters-type.Reading). From (modeLength m) (parameters_in r)) (ltb (length u) (modeLength m)) (λ _. tt)
    (λ _. by_verdict (λ (r : parameters-type.Reading). From (modeLength m) (parameters_in r)) (parametersVerdict (parametersFields u (extension_in u m)) (length u)) (λ _. tt)
    (λ _. (refl, omega (arith, b 4, b 5))))

diagnosis_from : (u : List ℕ) → Bytes u → From 6 (diagnosis_in (readDiagnosis u) (length u))
unfolding readDiagnosis
diagnosis_from u b =
    by_pick (λ (r : diagnosis-type.Reading). From 6 (diagnosis_in r (length u))) (ltb (length u) 6) (λ _. tt) (λ _. counted (judge (header_of u) (drop 6 u)))
  where
    counted : (k : Count) → From 6 (diagnosis_in (answered (header_of u) k) (length u))
    counted (Ok n) = (refl, omega (arith, b 4, b 5))
    counted (Err r) = tt

module _ (u : List ℕ) (bytes : Bytes u) where
  -- ---- the part

  -- all bytes are the part from 0
  whole : part_of u 0 (length u) ≡ u
  whole = part_behind [] u

  -- the part from n to the end
  rest : (n : ℕ) → n ≤ length u → drop n u ≡ part_of u n (length u - n)
  rest n long =
      sym (ap (drop n) (part_tiles n u long refl)) ∙ drop_at (take n u) (part_of u n (length u - n)) n (length-take-le n u long)

  -- a part that reaches to the end begins where the fields end
  front_is : (c : Content) (start len : ℕ) → start + len ≡ length u → bytes_for c (part_of u start len) ≡ u → start ≡ fixed_length c
  front_is c start len e same =
      omega (arith, e, part_count u start len e, bytes_long c (part_of u start len), ap length same)

  -- ---- bytes as they are

  module _ (verdict : Content → List ℕ → Verdict) (Fitting : Content → Type 0) (c : Content) (fits : Fitting c) (none : 0 ≡ fixed_length c) (same : bytes_for c u ≡ u) where
    abbrev Kept : UserData → Type 0
    Kept d = Holds (Again verdict Fitting (service_of c) u) d

    whole_again : verdict c u ≡ fine → Again verdict Fitting (service_of c) u c 0 (length u)
    whole_again good =
        record { service = refl; fits = fits; front = none; taken = ap (verdict c) whole ∙ good; same = ap (bytes_for c) whole ∙ same }

    -- what is read is no more than what may be written
    at_most_again : {limit most : ℕ} → verdict c u ≡ at_most most u → limit ≤ most → Kept (pick (ltb limit (length u)) (refused 20) (Ok (record { fields = c; start = 0; len = length u })))
    unfolding at_most
    at_most_again {limit} {most} e h =
        by_pick Kept (ltb limit (length u)) (λ _. tt) (λ t. whole_again (e ∙ simp (le-ltb _ _ (le_trans (ltb-false _ _ t) h))))

    configuration_again : verdict c u ≡ configurationVerdict u → (r : configuration-type.Reading) → readConfiguration u ≡ r → Kept (configuration_in c r (length u))
    configuration_again e (Ok found) h = whole_again (e ∙ (configuration_writes_back u bytes (ap accepted h)).taken)
    configuration_again e (Err r) h = tt

  -- ---- calls

  module _ (m : Mode) where
    abbrev Called : Service → UserData → Type 0
    Called s d = Holds (Again call_verdict (λ c. Fits c m) s u) d

    address_again : (r : AddressReading) → readAddress u ≡ r → From 4 (address_in r) → Called service.SetSlaveAdr (address_in r)
    unfolding call_verdict bytes_for
    address_again (Ok found) e s =
        let w = address_writes_back u bytes e in
        record { service = refl; fits = (tt, s.1); front = s.0; taken = w.0; same = w.1 }
    address_again (Err r) e s = tt

    command_again : (r : CommandReading) → readCommand u ≡ r → From 2 (command_in r) → Called service.GlobalControl (command_in r)
    unfolding call_verdict bytes_for
    command_again (Ok found) e s =
        let w = command_writes_back u e in
        record { service = refl; fits = (tt, s.1); front = s.0; taken = w.0; same = w.1 }
    command_again (Err r) e s = tt

    parameters_again : (r : parameters-type.Reading) → readParameters u m ≡ r → From (modeLength m) (parameters_in r) → Called service.SetPrm (parameters_in r)
    unfolding call_verdict bytes_for
    parameters_again (Ok found) e s =
        let w = parameters.writes_back u bytes m e in
        record { service = refl; fits = (w.mode, s.1); front = s.0 ∙ ap modeLength (sym w.mode); taken = w.taken; same = w.same }
    parameters_again (Err r) e s = tt

    dpv1_call_again : (r : CallReading) → read_call_of u ≡ r → Called service.Dpv1 (dpv1_call_in r)
    unfolding call_verdict bytes_for
    dpv1_call_again (Ok found) e =
        let w = call_writes_back u e in
        record { service = refl; fits = (tt, tt); front = front_is (content.Dpv1Call found.fields) found.start found.len (call_data_inside u e) w.1; taken = w.0; same = w.1 }
    dpv1_call_again (Err r) e = tt

    pub call_again : (s : Service) → Called s (call_of s u m)
    unfolding call_of plain_of empty_of bytes_for call_verdict
    call_again service.DataExchange = at_most_again call_verdict (λ c. Fits c m) content.DataExchange (tt, tt) refl refl refl (omega arith)
    call_again service.Dpv1 = dpv1_call_again (read_call_of u) refl
    call_again service.ExtUserPrm = at_most_again call_verdict (λ c. Fits c m) content.ExtUserPrm (tt, tt) refl refl refl (omega arith)
    call_again service.SetSlaveAdr = address_again (readAddress u) refl (address_from u bytes)
    call_again service.RdInp = at_most_again call_verdict (λ c. Fits c m) content.RdInp (tt, tt) refl refl refl (omega arith)
    call_again service.RdOutp = at_most_again call_verdict (λ c. Fits c m) content.RdOutp (tt, tt) refl refl refl (omega arith)
    call_again service.GlobalControl = command_again (readCommand u) refl (command_from u)
    call_again service.GetCfg = at_most_again call_verdict (λ c. Fits c m) content.GetCfg (tt, tt) refl refl refl (omega arith)
    call_again service.SlaveDiag = at_most_again call_verdict (λ c. Fits c m) content.SlaveDiagCall (tt, tt) refl refl refl (omega arith)
    call_again service.SetPrm = parameters_again (readParameters u m) refl (parameters_from u bytes m)
    call_again service.ChkCfg =
        configuration_again call_verdict (λ c. Fits c m) content.ChkCfg (tt, tt) refl refl refl (readConfiguration u) refl

  -- ---- answers

  abbrev Answered : Service → UserData → Type 0
  Answered s d = Holds (Again answer_verdict FitsEvery s u) d

  diagnosis_again : (r : diagnosis-type.Reading) → readDiagnosis u ≡ r → From 6 (diagnosis_in r (length u))
      → Answered service.SlaveDiag (diagnosis_in r (length u))
  unfolding answer_verdict bytes_for
  diagnosis_again (Ok found) e s =
      let w = diagnosis.writes_back u bytes (ap contents.accepted e) in
      let p = rest 6 (diagnosis.read_is_tiled u e).long in
      record {
        service = refl;
        fits = λ m. (tt, s.1);
        front = s.0;
        taken = ap (verdict_of found.header) (sym p) ∙ ap (λ (r : diagnosis-type.Reading). contents.verdict_for (contents.contents_in u r)) (sym e) ∙ w.taken;
        same = ap (diagnosis_bytes found.header) (sym p) ∙ ap (λ (r : diagnosis-type.Reading). contents.bytes_for (contents.contents_in u r)) (sym e) ∙ w.same;
      }
  diagnosis_again (Err r) e s = tt

  dpv1_answer_again : (r : AnswerReading) → read_answer_of u ≡ r → Answered service.Dpv1 (dpv1_answer_in r)
  unfolding answer_verdict bytes_for
  dpv1_answer_again (Ok found) e =
      let w = answer_writes_back u e in
      record { service = refl; fits = λ m. (tt, tt); front = front_is (content.Dpv1Answer found.fields) found.start found.len (answer_data_inside u e) w.1; taken = w.0; same = w.1 }
  dpv1_answer_again (Err r) e = tt

  pub answer_again : (a : Answering) → Answered (answerer_of a) (answer_of a u)
  unfolding answer_of plain_of bytes_for answer_verdict
  answer_again answering.DataExchange = at_most_again answer_verdict FitsEvery content.DataExchange (λ m. (tt, tt)) refl refl refl (omega arith)
  answer_again answering.Dpv1 = dpv1_answer_again (read_answer_of u) refl
  answer_again answering.RdInp = at_most_again answer_verdict FitsEvery content.RdInp (λ m. (tt, tt)) refl refl refl (omega arith)
  answer_again answering.RdOutp = at_most_again answer_verdict FitsEvery content.RdOutp (λ m. (tt, tt)) refl refl refl (omega arith)
  answer_again answering.GetCfg =
      configuration_again answer_verdict FitsEvery content.GetCfg (λ m. (tt, tt)) refl refl refl (readConfiguration u) refl
  answer_again answering.SlaveDiag = diagnosis_again (readDiagnosis u) refl (diagnosis_from u bytes)
