-- What is written reads back.
use Rattle.std.specs.Prelude.{ℕ, ◌-◌, ◌≤◌, ◌<◌, ◌≡◌, refl, true, List, ltb, Ok, Err}
use Rattle.std.proofs.Common.{sym, ◌∙◌, subst, arith, le_trans, ltb-false, le-ltb}
use Rattle.std.proofs.Math.Path.{ap}
use Rattle.std.proofs.Math.ListN.{length}
use Rattle.octets.specs.Choice.{pick}
use Rattle.octets.proofs.Choice.{never}
use Rattle.octets.specs.Front.{fine}
use Rattle.octets.proofs.Fixed.{passed, fault_fine}
use Rattle.octets.specs.declared.Mode.{Mode}
use Rattle.acyclic.proofs.Laws.{call_reads_back, answer_reads_back}
use Rattle.address_change.proofs.Laws.{address_reads_back}
use Rattle.configuration.specs.Contents.{accepted}
use Rattle.configuration.proofs.Laws.{configuration_reads_back}
use Rattle.configuration.specs.Reading as configuration
use Rattle.control.proofs.Laws.{command_reads_back}
use Rattle.diagnosis.specs.Contents as diagnosis-contents
use Rattle.diagnosis.specs.Contents.{contents_in, verdict_for}
use Rattle.diagnosis.proofs.Laws.{reads_back}
use Rattle.diagnosis.specs.Reading as diagnosis
use Rattle.diagnosis.specs.Writing.{diagnosis_bytes, verdict_of}
use Rattle.diagnosis.specs.declared.reading.Header.{Header}
use Rattle.parameters.proofs.Laws as parameters
use Rattle.access.proofs.Laws.{answerer_routed}
use Rattle.access.specs.Route.{answerer_of, answer_from}
use Rattle.access.specs.declared.route.Answering.{Answering}
use Rattle.access.specs.declared.route.Answering.TheVariants as answering
use Rattle.access.specs.declared.route.Route.TheVariants as route
use Rattle.content.specs.Fields.{service_of, fixed_length, ModeFits, IdentFits}
use Rattle.content.specs.Reading.{refused, plain_of, empty_of, address_in, command_in, diagnosis_in, diagnosis_of, parameters_in, parameters_of, configuration_in, configuration_of, dpv1_call_in, dpv1_answer_in, call_of, answer_of, UserData}
use Rattle.content.specs.Writing.{bytes_for, at_most, call_verdict, answer_verdict}
use Rattle.content.proofs.Lemmas.Lengths.{call_long, answer_long, bytes_long}
use Rattle.content.specs.declared.fields.Content.{Content}
use Rattle.content.specs.declared.fields.Content.TheVariants as content

-- ---- each format

-- plain bytes, and none: what may be written is no more than what is read
at_most_back : {limit most : ℕ} (c : Content) (part : List ℕ) → at_most most part ≡ fine → most ≤ limit
    → pick (ltb limit (length part)) (refused 20) (Ok (record { fields = c; start = 0; len = length part })) ≡ Ok (record { fields = c; start = 0; len = length part })
unfolding at_most
at_most_back {limit} {most} c part e h =
    let short : length part ≤ most = ltb-false _ _ (passed 20 (ltb most (length part)) fine e).0 in
    simp (le-ltb _ _ (le_trans short h))

configuration_back : (c : Content) (part : List ℕ) → accepted (configuration.read_of part) ≡ true → configuration_of c part ≡ Ok (record { fields = c; start = 0; len = length part })
configuration_back c part = by_reading (configuration.read_of part)
  where
    by_reading : (r : configuration.Reading) → accepted r ≡ true → configuration_in c r (length part) ≡ (Ok (record { fields = c; start = 0; len = length part }))
    by_reading (Ok found) a = refl
    by_reading (Err r) a = absurd (never a)

module _ (h : Header) (part : List ℕ) (good : verdict_of h part ≡ fine) where
  abbrev s : List ℕ
  s = diagnosis_bytes h part

  diagnosis_in_lem : (r : diagnosis.Reading) → contents_in s r ≡ diagnosis-contents.diagnosis h part → diagnosis_in r (length s) ≡ Ok (record { fields = content.SlaveDiag h; start = 6; len = length s - 6 })
  diagnosis_in_lem (Ok found) e =
      let same : found.header ≡ h = cc in
      ap (λ (x : Header). (Ok (record { fields = content.SlaveDiag x; start = 6; len = length s - 6 }))) same
  diagnosis_in_lem (Err r) e = absurd (fault_fine (ap verdict_for e ∙ good))

  diagnosis_back : h.ident < 65536 → diagnosis_of s ≡ Ok (record { fields = content.SlaveDiag h; start = 6; len = length part })
  unfolding bytes_for
  diagnosis_back word =
      let long : length s - 6 ≡ length part = omega (arith, bytes_long (content.SlaveDiag h) part) in
      diagnosis_in_lem (diagnosis.read_of s) (reads_back h part word good) ∙ ap (λ (n : ℕ). Ok (record { fields = content.SlaveDiag h; start = 6; len = n })) long

-- ---- the service that answers

-- a service answers in one way
one_answers : (a b : Answering) → answerer_of a ≡ answerer_of b → a ≡ b
one_answers a b e =
    let same : route.Answer a ≡ route.Answer b = sym (answerer_routed a) ∙ ap answer_from e ∙ answerer_routed b in
    cc

-- ---- each way

module _ (part : List ℕ) where
  abbrev Back : UserData → Content → Type 0
  Back d c = d ≡ Ok (record { fields = c; start = fixed_length c; len = length part })

  pub call_back : (c : Content) (m : Mode) → IdentFits c → ModeFits c m → call_verdict c part ≡ fine → Back (call_of (service_of c) (bytes_for c part) m) c
  unfolding call_of plain_of empty_of bytes_for call_verdict
  call_back content.DataExchange m i f e = at_most_back content.DataExchange part e (omega arith)
  call_back (content.Dpv1Call c) m i f e =
      ap dpv1_call_in (call_reads_back c part e).0 ∙ ap (λ (n : ℕ). (Ok (record { fields = content.Dpv1Call c; start = n; len = length part }))) (call_long c (length part))
  call_back (content.Dpv1Answer x) m i f e = absurd (fault_fine e)
  call_back content.ExtUserPrm m i f e = at_most_back content.ExtUserPrm part e (omega arith)
  call_back (content.SetSlaveAdr a) m i f e = ap address_in (address_reads_back a part i e).0
  call_back content.RdInp m i f e = at_most_back content.RdInp part e (omega arith)
  call_back content.RdOutp m i f e = at_most_back content.RdOutp part e (omega arith)
  call_back (content.GlobalControl g) m i f e = ap command_in (command_reads_back g part e).0
  call_back content.GetCfg m i f e = at_most_back content.GetCfg part e (omega arith)
  call_back content.SlaveDiagCall m i f e = at_most_back content.SlaveDiagCall part e (omega arith)
  call_back (content.SlaveDiag h) m i f e = absurd (fault_fine e)
  call_back (content.SetPrm p) m i f e =
      ap (parameters_of (bytes_for (content.SetPrm p) part)) (sym f) ∙ ap parameters_in (parameters.reads_back p part i e).0
  call_back content.ChkCfg m i f e = configuration_back content.ChkCfg part (configuration_reads_back part e)

  answer_at : (c : Content) (a b : Answering) → answerer_of a ≡ answerer_of b → Back (answer_of b (bytes_for c part)) c → Back (answer_of a (bytes_for c part)) c
  answer_at c a b e h = subst (λ (x : Answering). Back (answer_of x (bytes_for c part)) c) (one_answers b a (sym e)) h

  pub answer_back : (c : Content) (a : Answering) → IdentFits c → answerer_of a ≡ service_of c → answer_verdict c part ≡ fine → Back (answer_of a (bytes_for c part)) c
  unfolding answer_of plain_of bytes_for answer_verdict
  answer_back content.DataExchange a i s e = answer_at content.DataExchange a answering.DataExchange s (at_most_back content.DataExchange part e (omega arith))
  answer_back (content.Dpv1Call c) a i s e = absurd (fault_fine e)
  answer_back (content.Dpv1Answer x) a i s e =
      answer_at (content.Dpv1Answer x) a answering.Dpv1 s
      (ap dpv1_answer_in (answer_reads_back x part e).0 ∙ ap (λ (n : ℕ). (Ok (record { fields = content.Dpv1Answer x; start = n; len = length part }))) (answer_long x (length part)))
  answer_back content.ExtUserPrm a i s e = absurd (fault_fine e)
  answer_back (content.SetSlaveAdr f) a i s e = absurd (fault_fine e)
  answer_back content.RdInp a i s e = answer_at content.RdInp a answering.RdInp s (at_most_back content.RdInp part e (omega arith))
  answer_back content.RdOutp a i s e = answer_at content.RdOutp a answering.RdOutp s (at_most_back content.RdOutp part e (omega arith))
  answer_back (content.GlobalControl f) a i s e = absurd (fault_fine e)
  answer_back content.GetCfg a i s e =
      answer_at content.GetCfg a answering.GetCfg s (configuration_back content.GetCfg part (configuration_reads_back part e))
  answer_back content.SlaveDiagCall a i s e = absurd (fault_fine e)
  answer_back (content.SlaveDiag h) a i s e = answer_at (content.SlaveDiag h) a answering.SlaveDiag s (diagnosis_back h part e i)
  answer_back (content.SetPrm f) a i s e = absurd (fault_fine e)
  answer_back content.ChkCfg a i s e = absurd (fault_fine e)
