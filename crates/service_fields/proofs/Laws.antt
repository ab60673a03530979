-- The fields of a content name it again; what fields name has them in every place that it has; and which way is right.
use Prim.Native.Nat.{ℕ, ◌%◌}
use Rattle.std.specs.Prelude.{◌≡◌, false, take, replicate, ltb, Some, None}
use Rattle.std.proofs.Math.Path.{refl, ap}
use Rattle.std.proofs.Common.{sym, subst, arith}
use Rattle.std.proofs.Math.Bool.{Bool, true}
use mathlib.Core.List.{List, [], ◌∷◌, ◌++◌}
use Rattle.std.proofs.Math.ListN.{get_or}
use Rattle.std.proofs.Math.Dec.{eqb}
use borrow.Author.Tests.{eqb-true}
use Rattle.octets.specs.Places.{places_of}
use Rattle.octets.specs.Choice.{pick}
use Rattle.octets.proofs.Choice.{by_pick}
use Rattle.octets.specs.Bytes.{Bytes}
use Rattle.octets.specs.Elements.{elements}
use Rattle.octets.specs.Number.{number_of, bytes_of}
use Rattle.octets.proofs.Number.{number_bytes}
use Rattle.octets.proofs.Fixed.{number_again}
use Rattle.octets.specs.declared.Mode.TheVariants as mode
use Rattle.function_code.specs.Code.{class_of}
use Rattle.function_code.specs.declared.code.Class.{Class}
use Rattle.function_code.specs.declared.code.Class.TheVariants as class
use Rattle.fdl.specs.declared.telegram.Header.{Header}
use Rattle.fdl.specs.Sap.{Sap}
use Rattle.address_change.specs.declared.AddressChange.{AddressChange}
use Rattle.control.specs.declared.command.GlobalCommand.{GlobalCommand}
use Rattle.diagnosis.specs.declared.reading.Header as diagnosis-type
use Rattle.parameters.specs.Fields as parameters
use Rattle.parameters.specs.Writing.{fixed_bytes, status_bytes}
use Rattle.parameters.specs.declared.fields.Extension.{Extension}
use Rattle.parameters.specs.declared.fields.Extension.TheVariants as extension
use Rattle.parameters.specs.declared.fields.Parameters.{Parameters}
use Rattle.acyclic.specs.declared.calls.Call.{Call}
use Rattle.acyclic.specs.declared.calls.Call.TheVariants as call
use Rattle.acyclic.specs.declared.answers.Answer.{Answer}
use Rattle.acyclic.specs.declared.answers.Answer.TheVariants as answer
use Rattle.access.specs.Table.{service_number, look, services}
use Rattle.access.specs.Route as access
use Rattle.access.specs.Route.{is_global_control, kind_by, kind_of, call_route, command_route, answer_route, route_by, route_of}
use Rattle.access.specs.declared.table.Service.{Service}
use Rattle.access.specs.declared.table.Service.TheVariants as service
use Rattle.access.specs.Table as access-named
use Rattle.access.specs.declared.route.Kind.{Kind}
use Rattle.access.specs.declared.route.Route.{Route}
use Rattle.access.specs.declared.route.Route.TheVariants as route
use Rattle.content.specs.Fields.{Fits}
use Rattle.content.specs.declared.fields.Content.{Content}
use Rattle.content.specs.declared.fields.Content.TheVariants as content
use Rattle.acyclic_fields.specs.Four.{call_four, answer_four, call_named, answer_named, call_places, answer_places, Case}
use Rattle.acyclic_fields.proofs.Laws.{call_four_named, call_named_four, call_named_no_answer, answer_four_named, answer_named_four, answer_named_no_call}
use Rattle.acyclic_fields.specs.declared.four.Case.TheVariants as case
use Rattle.service_fields.specs.Service.{content_bytes, content_number, fields_with, content_places, is_answer, WayFits, right_way, named_by, dpv1_in, address_in, diagnosis_in, mode_of, parameters_in, content_by, content_in}
use Rattle.service_fields.specs.declared.Named.{Named}
use Rattle.service_fields.specs.declared.Named.TheVariants as named

-- ---- from a content to its fields and back

module _ (version way kind_number_lem da sa fc start len : ℕ) where
  abbrev Again : Content → Type 0
  Again c = content_in (fields_with way kind_number_lem da sa fc start len c) version ≡ named.Content c

  call_again : (c : Call) → is_answer (class_of fc) ≡ false → Again (content.Dpv1Call c)
  unfolding content_by dpv1_in
  call_again call.Poll w = rw (w, call_four_named call.Poll)
  call_again (call.Read slot index l) w = rw (w, call_four_named (call.Read slot index l))
  call_again (call.Write slot index) w = rw (w, call_four_named (call.Write slot index))
  call_again (call.AlarmAck slot alarm specifier) w = rw (w, call_four_named (call.AlarmAck slot alarm specifier))
  call_again call.Idle w = rw (w, call_four_named call.Idle)
  call_again (call.Transport slot index) w = rw (w, call_four_named (call.Transport slot index))

  answer_again : (x : Answer) → is_answer (class_of fc) ≡ true → Again (content.Dpv1Answer x)
  unfolding content_by dpv1_in
  answer_again (answer.Read slot index) w = rw (w, answer_four_named (answer.Read slot index))
  answer_again (answer.Write slot index l) w = rw (w, answer_four_named (answer.Write slot index l))
  answer_again (answer.AlarmAck slot alarm specifier) w = rw (w, answer_four_named (answer.AlarmAck slot alarm specifier))
  answer_again answer.Idle w = rw (w, answer_four_named answer.Idle)
  answer_again (answer.Transport slot index) w = rw (w, answer_four_named (answer.Transport slot index))
  answer_again (answer.Negative f decode code1 code2) w = rw (w, answer_four_named (answer.Negative f decode code1 code2))

  -- the extension of parameters, where its version is the one that the test says
  status_again : (b : Bool) (x : Extension) → parameters.mode_of x ≡ pick b mode.Dpv0 mode.Dpv1
      → let l = take 3 (status_bytes x ++ replicate 10 0) in
      pick b extension.Dpv0 (extension.Dpv1 (get_or l 0 0) (get_or l 1 0) (get_or l 2 0)) ≡ x
  status_again true extension.Dpv0 e = refl
  status_again true (extension.Dpv1 a b c) e = absurd (let z : ◌≡◌ {A = ℕ} 0 1 = cc in omega arith)
  status_again false extension.Dpv0 e = absurd (let z : ◌≡◌ {A = ℕ} 0 1 = cc in omega arith)
  status_again false (extension.Dpv1 a b c) e = refl

  -- The fields of a content, with a function code of its way, name it in its version.
  pub content_named : (c : Content) → Fits c (mode_of version) → WayFits c fc → content_in (fields_with way kind_number_lem da sa fc start len c) version ≡ named.Content c
  unfolding content_by diagnosis_in parameters_in
  content_named content.DataExchange f w = refl
  content_named (content.Dpv1Call c) f w = call_again c w
  content_named (content.Dpv1Answer x) f w = answer_again x w
  content_named content.ExtUserPrm f w = refl
  content_named (content.SetSlaveAdr x) f w = rw (number_bytes 2 x.ident f.1)
  content_named content.RdInp f w = refl
  content_named content.RdOutp f w = refl
  content_named (content.GlobalControl x) f w = refl
  content_named content.GetCfg f w = refl
  content_named content.SlaveDiagCall f w = rw w
  content_named (content.SlaveDiag h) f w = rw (w, number_bytes 2 h.ident f.1)
  content_named (content.SetPrm x) f w = rw (number_bytes 2 x.ident f.1, status_again (eqb version 0) x.extension f.0)
  content_named content.ChkCfg f w = refl

module _ (way kind_number_lem da sa fc start len : ℕ) where
  abbrev Own-kept : Content → Type 0
  Own-kept c = elements (content_places c) 8 (fields_with way kind_number_lem da sa fc start len c) ≡ take (content_places c) (content_bytes c)

  call_kept : (c : Call) → Own-kept (content.Dpv1Call c)
  call_kept call.Poll = refl
  call_kept (call.Read slot index l) = refl
  call_kept (call.Write slot index) = refl
  call_kept (call.AlarmAck slot alarm specifier) = refl
  call_kept call.Idle = refl
  call_kept (call.Transport slot index) = refl

  answer_kept : (x : Answer) → Own-kept (content.Dpv1Answer x)
  answer_kept (answer.Read slot index) = refl
  answer_kept (answer.Write slot index l) = refl
  answer_kept (answer.AlarmAck slot alarm specifier) = refl
  answer_kept answer.Idle = refl
  answer_kept (answer.Transport slot index) = refl
  answer_kept (answer.Negative f decode code1 code2) = refl

  parameters_kept : (f : Parameters) (x : Extension) →
      let n = parameters.fixed_length (parameters.mode_of x) in
      let l = fixed_bytes f ++ status_bytes x in
      elements n 8 (61 ∷ way ∷ kind_number_lem ∷ da ∷ sa ∷ fc ∷ start ∷ len ∷ places_of 10 l) ≡ take n l
  parameters_kept f extension.Dpv0 = refl
  parameters_kept f (extension.Dpv1 a b c) = refl

  -- The fields of a content are its own in every place that it has.
  pub content_kept : (c : Content) → elements (content_places c) 8 (fields_with way kind_number_lem da sa fc start len c) ≡ take (content_places c) (content_bytes c)
  content_kept content.DataExchange = refl
  content_kept (content.Dpv1Call c) = call_kept c
  content_kept (content.Dpv1Answer x) = answer_kept x
  content_kept content.ExtUserPrm = refl
  content_kept (content.SetSlaveAdr f) = refl
  content_kept content.RdInp = refl
  content_kept content.RdOutp = refl
  content_kept (content.GlobalControl f) = refl
  content_kept content.GetCfg = refl
  content_kept content.SlaveDiagCall = refl
  content_kept (content.SlaveDiag h) = refl
  content_kept (content.SetPrm f) = parameters_kept f f.extension
  content_kept content.ChkCfg = refl

-- ---- from fields to the content that they name and back

-- all that holds of a content that fields name in a version
pub record Names (fields : List ℕ) (version : ℕ) (c : Content) : Type 0 where
  pub service : get_or fields 0 0 ≡ content_number c
  pub own : elements (content_places c) 8 fields ≡ take (content_places c) (content_bytes c)
  pub way : WayFits c (get_or fields 5 0)
  pub fits : Fits c (mode_of version)

module _ (fields : List ℕ) (version : ℕ) (b : Bytes fields) where
  abbrev NamesIn : Named → Type 0
  NamesIn (named.Content c) = Names fields version c
  NamesIn named.Reserved = Unit
  NamesIn named.Unlisted = Unit
  NamesIn named.Nothing = Unit

  -- the two bytes of an ident number stand at i
  ident_bytes : (i : ℕ) → bytes_of 2 (number_of (elements 2 i fields)) ≡ elements 2 i fields
  ident_bytes i = number_again 2 i fields b

  -- ---- DPV1

  own_call : (c : Call) → call_named (get_or fields 8 0) (get_or fields 9 0) (get_or fields 10 0) (get_or fields 11 0) ≡ Some (case.Call c)
      → elements (call_places c) 8 fields ≡ take (call_places c) (call_four c)
  own_call call.Poll e = sym (call_named_four _ _ _ _ e)
  own_call (call.Read slot index l) e = sym (call_named_four _ _ _ _ e)
  own_call (call.Write slot index) e = sym (call_named_four _ _ _ _ e)
  own_call (call.AlarmAck slot alarm specifier) e = sym (call_named_four _ _ _ _ e)
  own_call call.Idle e = sym (call_named_four _ _ _ _ e)
  own_call (call.Transport slot index) e = sym (call_named_four _ _ _ _ e)

  own_answer : (x : Answer) → answer_named (get_or fields 8 0) (get_or fields 9 0) (get_or fields 10 0) (get_or fields 11 0) ≡ Some (case.Answer x)
      → elements (answer_places x) 8 fields ≡ take (answer_places x) (answer_four x)
  own_answer (answer.Read slot index) e = sym (answer_named_four _ _ _ _ e)
  own_answer (answer.Write slot index l) e = sym (answer_named_four _ _ _ _ e)
  own_answer (answer.AlarmAck slot alarm specifier) e = sym (answer_named_four _ _ _ _ e)
  own_answer answer.Idle e = sym (answer_named_four _ _ _ _ e)
  own_answer (answer.Transport slot index) e = sym (answer_named_four _ _ _ _ e)
  own_answer (answer.Negative f decode code1 code2) e = sym (answer_named_four _ _ _ _ e)

  module _ (n : get_or fields 0 0 ≡ 51) where
    call_in_lem : is_answer (class_of (get_or fields 5 0)) ≡ false → (k : Case) → call_named (get_or fields 8 0) (get_or fields 9 0) (get_or fields 10 0) (get_or fields 11 0) ≡ k
        → NamesIn (named_by k)
    call_in_lem w (Some (case.Call c)) e = record { service = n; own = own_call c e; way = w; fits = (tt, tt) }
    call_in_lem w (Some (case.Answer x)) e = absurd (call_named_no_answer _ _ _ _ e)
    call_in_lem w None e = tt

    answer_in_lem : is_answer (class_of (get_or fields 5 0)) ≡ true → (k : Case) → answer_named (get_or fields 8 0) (get_or fields 9 0) (get_or fields 10 0) (get_or fields 11 0) ≡ k
        → NamesIn (named_by k)
    answer_in_lem w (Some (case.Call c)) e = absurd (answer_named_no_call _ _ _ _ e)
    answer_in_lem w (Some (case.Answer x)) e = record { service = n; own = own_answer x e; way = w; fits = (tt, tt) }
    answer_in_lem w None e = tt

    dpv1_names : NamesIn (dpv1_in fields)
    unfolding dpv1_in
    dpv1_names =
        by_pick NamesIn (is_answer (class_of (get_or fields 5 0))) (λ w. answer_in_lem w (answer_named _ _ _ _) refl) (λ w. call_in_lem w (call_named _ _ _ _) refl)

  -- ---- the other formats

  address_names : get_or fields 0 0 ≡ 55 → Names fields version (content.SetSlaveAdr (address_in fields))
  address_names n =
      record {
        service = n;
        own = ap (λ (t : List ℕ). get_or fields 8 0 ∷ (t ++ (get_or fields 11 0 ∷ []))) (sym (ident_bytes 9));
        way = tt;
        fits = (tt, omega (arith, b 9, b 10));
      }

  diagnosis_names : get_or fields 0 0 ≡ 60 → Names fields version (diagnosis_in fields)
  unfolding diagnosis_in
  diagnosis_names n =
      by_pick (Names fields version) (is_answer (class_of (get_or fields 5 0)))
      (λ w.
      record {
        service = n;
        own = ap (λ (t : List ℕ). get_or fields 8 0 ∷ get_or fields 9 0 ∷ get_or fields 10 0 ∷ get_or fields 11 0 ∷ t) (sym (ident_bytes 12));
        way = w;
        fits = (tt, omega (arith, b 12, b 13));
      })
      (λ w. record { service = n; own = refl; way = w; fits = (tt, tt) })

  -- parameters with this extension, and their bytes, with those behind the ident number
  abbrev parameters_with : Extension → Parameters
  parameters_with x =
      record {
        flags = get_or fields 8 0;
        factor1 = get_or fields 9 0;
        factor2 = get_or fields 10 0;
        response = record { 0 = get_or fields 11 0 };
        ident = number_of (elements 2 12 fields);
        groups = get_or fields 14 0;
        extension = x;
      }

  abbrev around : (behind ident : List ℕ) → List ℕ
  around behind ident = get_or fields 8 0 ∷ get_or fields 9 0 ∷ get_or fields 10 0 ∷ get_or fields 11 0 ∷ (ident ++ behind)

  parameters_names : get_or fields 0 0 ≡ 61 → Names fields version (content.SetPrm (parameters_in fields version))
  unfolding parameters_in
  parameters_names n =
      by_pick (λ (x : Extension). Names fields version (content.SetPrm (parameters_with x))) (eqb version 0)
      (λ e.
      record {
        service = n;
        own = ap (around (get_or fields 14 0 ∷ [])) (sym (ident_bytes 12));
        way = tt;
        fits = (rw e, omega (arith, b 12, b 13));
      })
      (λ e.
      record {
        service = n;
        own = ap (around (elements 4 14 fields)) (sym (ident_bytes 12));
        way = tt;
        fits = (rw e, omega (arith, b 12, b 13));
      })

  -- ---- by the service's number

  -- a content without fields
  none : (c : Content) → content_places c ≡ 0 → WayFits c (get_or fields 5 0) → Fits c (mode_of version) → get_or fields 0 0 ≡ content_number c
      → Names fields version c
  none c p w f n = record { service = n; own = rw p; way = w; fits = f }

  names : NamesIn (content_in fields version)
  unfolding content_by
  names =
      let n : ℕ = get_or fields 0 0 in
      let at : Service → Bool = λ s. eqb n (service_number s) in
      let is : (s : Service) → at s ≡ true → n ≡ service_number s = λ s. eqb-true n (service_number s) in
      by_pick NamesIn (at service.DataExchange) (λ e. none content.DataExchange refl tt (tt, tt) (is service.DataExchange e))
      (λ _. by_pick NamesIn (at service.Dpv1) (λ e. dpv1_names (is service.Dpv1 e))
      (λ _. by_pick NamesIn (at service.ExtUserPrm) (λ e. none content.ExtUserPrm refl tt (tt, tt) (is service.ExtUserPrm e))
      (λ _. by_pick NamesIn (at service.SetSlaveAdr) (λ e. address_names (is service.SetSlaveAdr e))
      (λ _. by_pick NamesIn (at service.RdInp) (λ e. none content.RdInp refl tt (tt, tt) (is service.RdInp e))
      (λ _. by_pick NamesIn (at service.RdOutp) (λ e. none content.RdOutp refl tt (tt, tt) (is service.RdOutp e))
      (λ _. by_pick NamesIn (at service.GlobalControl) (λ e. record { service = is service.GlobalControl e; own = refl; way = tt; fits = (tt, tt) })
      (λ _. by_pick NamesIn (at service.GetCfg) (λ e. none content.GetCfg refl tt (tt, tt) (is service.GetCfg e))
      (λ _. by_pick NamesIn (at service.SlaveDiag) (λ e. diagnosis_names (is service.SlaveDiag e))
      (λ _. by_pick NamesIn (at service.SetPrm) (λ e. parameters_names (is service.SetPrm e))
      (λ _. by_pick NamesIn (at service.ChkCfg) (λ e. none content.ChkCfg refl tt (tt, tt) (is service.ChkCfg e))
      (λ _. by_pick NamesIn (ltb 63 n) (λ _. tt) (λ _. tt))))))))))))

  -- A content that fields name is of the service that they name, has them in every place that it has, goes the function code's way
  -- and is of the version.
  pub named_content : {c : Content} → content_in fields version ≡ named.Content c → Names fields version c
  named_content e = subst NamesIn e names

-- ---- how many places each content has, in plain numbers; a call or answer of DPV1 has those of its case

pub record Places : Type 0 where
  pub data_exchange : content_places content.DataExchange ≡ 0
  pub dpv1_call : (c : Call) → content_places (content.Dpv1Call c) ≡ call_places c
  pub dpv1_answer : (x : Answer) → content_places (content.Dpv1Answer x) ≡ answer_places x
  pub ext_user_prm : content_places content.ExtUserPrm ≡ 0
  pub set_slave_adr : (f : AddressChange) → content_places (content.SetSlaveAdr f) ≡ 4
  pub rd_inp : content_places content.RdInp ≡ 0
  pub rd_outp : content_places content.RdOutp ≡ 0
  pub global_control : (f : GlobalCommand) → content_places (content.GlobalControl f) ≡ 2
  pub get_cfg : content_places content.GetCfg ≡ 0
  pub slave_diag_call : content_places content.SlaveDiagCall ≡ 0
  pub slave_diag_lem : (h : diagnosis-type.Header) → content_places (content.SlaveDiag h) ≡ 6
  pub set_prm_dpv0 : (f : Parameters) → f.extension ≡ extension.Dpv0 → content_places (content.SetPrm f) ≡ 7
  pub set_prm_dpv1 : (f : Parameters) {a b c : ℕ} → f.extension ≡ extension.Dpv1 a b c → content_places (content.SetPrm f) ≡ 10
  pub chk_cfg : content_places content.ChkCfg ≡ 0

pub places_computed : Places
places_computed =
    record {
      data_exchange = refl;
      dpv1_call = λ _. refl;
      dpv1_answer = λ _. refl;
      ext_user_prm = refl;
      set_slave_adr = λ _. refl;
      rd_inp = refl;
      rd_outp = refl;
      global_control = λ _. refl;
      get_cfg = refl;
      slave_diag_call = refl;
      slave_diag_lem = λ _. refl;
      set_prm_dpv0 = λ f e. rw e;
      set_prm_dpv1 = λ f e. rw e;
      chk_cfg = refl;
    }

-- ---- the way

-- The way that fields give is right exactly where it is 1 with the function code of an answer, and 0 with any other.
pub right_way_lem : (fields : List ℕ) → get_or fields 1 0 ≡ pick (is_answer (class_of (get_or fields 5 0))) 1 0 → right_way fields ≡ true
unfolding right_way
right_way_lem fields e = rw e (by_answer (is_answer (class_of (get_or fields 5 0)))) where
  by_answer : (b : Bool) → pick b (eqb (pick b 1 0) 1) (eqb (pick b 1 0) 0) ≡ true
  by_answer true = refl
  by_answer false = refl

pub right_way_only : (fields : List ℕ) → right_way fields ≡ true → get_or fields 1 0 ≡ pick (is_answer (class_of (get_or fields 5 0))) 1 0
unfolding right_way
right_way_only fields e = by_answer (is_answer (class_of (get_or fields 5 0))) e where
  by_answer : (b : Bool) → pick b (eqb (get_or fields 1 0) 1) (eqb (get_or fields 1 0) 0) ≡ true → get_or fields 1 0 ≡ pick b 1 0
  by_answer true = eqb-true (get_or fields 1 0) 1
  by_answer false = eqb-true (get_or fields 1 0) 0

-- a route goes the way of an answer or not, or nowhere
abbrev pub Goes : (answer : Bool) → Route → Type 0
Goes answer (route.Call s) = answer ≡ false
Goes answer (route.Answer a) = answer ≡ true
Goes answer route.Nowhere = Unit

call_goes : (n : access-named.Named) → Goes false (call_route n)
call_goes None = tt
call_goes (Some s) = by_pick (Goes false) (is_global_control s) (λ _. tt) (λ _. refl)

command_goes : (n : access-named.Named) → Goes false (command_route n)
command_goes None = tt
command_goes (Some s) = by_pick (Goes false) (is_global_control s) (λ _. refl) (λ _. tt)

answer_goes : (n : access-named.Named) → Goes true (answer_route n)
answer_goes None = tt
answer_goes (Some service.DataExchange) = refl
answer_goes (Some service.Dpv1) = refl
answer_goes (Some service.ExtUserPrm) = tt
answer_goes (Some service.SetSlaveAdr) = tt
answer_goes (Some service.RdInp) = refl
answer_goes (Some service.RdOutp) = refl
answer_goes (Some service.GlobalControl) = tt
answer_goes (Some service.GetCfg) = refl
answer_goes (Some service.SlaveDiag) = refl
answer_goes (Some service.SetPrm) = tt
answer_goes (Some service.ChkCfg) = tt

goes_by : (x : Class) (fc : ℕ) (dsap ssap : Sap) → Goes (is_answer x) (route_by (kind_by x fc) dsap ssap)
goes_by class.Opening fc dsap ssap = call_goes (access.named_by dsap ssap)
goes_by class.Counted fc dsap ssap = call_goes (access.named_by dsap ssap)
goes_by class.Uncounted fc dsap ssap =
    by_pick (λ (k : Kind). Goes false (route_by k dsap ssap)) (eqb (fc % 16) 4) (λ _. command_goes (access.named_by dsap ssap))
    (λ _. by_pick (λ (k : Kind). Goes false (route_by k dsap ssap)) (eqb (fc % 16) 6) (λ _. command_goes (access.named_by dsap ssap)) (λ _. tt))
goes_by class.Bare fc dsap ssap = tt
goes_by class.Data fc dsap ssap = answer_goes (access.named_by ssap dsap)
goes_by class.Reserved fc dsap ssap = tt

-- A header that leads to a service leads there on its function code's way.
pub route_goes : (h : Header) → Goes (is_answer (class_of h.fc)) (route_of h)
unfolding route_of kind_of
route_goes h = goes_by (class_of h.fc) h.fc h.dsap h.ssap

-- ---- each law holds of something

-- a write call, a diagnosis and DPV1 parameters as fields; the way of a write call
pub record Examples : Type 0 where
  pub write_named : content_in (51 ∷ 0 ∷ 3 ∷ 7 ∷ 2 ∷ 0x5C ∷ 13 ∷ 2 ∷ 0x5F ∷ 1 ∷ 7 ∷ 0 ∷ 0 ∷ 0 ∷ 0 ∷ 0 ∷ 0 ∷ 0 ∷ []) 0
      ≡ named.Content (content.Dpv1Call (call.Write 1 7))
  pub diagnosis_named : content_in (60 ∷ 1 ∷ 3 ∷ 2 ∷ 7 ∷ 0x08 ∷ 15 ∷ 0 ∷ 0 ∷ 4 ∷ 0 ∷ 255 ∷ 0x12 ∷ 0x34 ∷ 0 ∷ 0 ∷ 0 ∷ 0 ∷ []) 0
      ≡ named.Content (content.SlaveDiag (record { status1 = 0; status2 = 4; status3 = 0; master = 255; ident = 0x1234 }))
  pub parameters_named : content_in (61 ∷ 0 ∷ 3 ∷ 7 ∷ 2 ∷ 0x5D ∷ 19 ∷ 0 ∷ 8 ∷ 1 ∷ 10 ∷ 11 ∷ 0x12 ∷ 0x34 ∷ 3 ∷ 4 ∷ 1 ∷ 16 ∷ []) 1
      ≡ named.Content (content.SetPrm (record { flags = 8; factor1 = 1; factor2 = 10; response = record { 0 = 11 }; ident = 0x1234; groups = 3; extension = extension.Dpv1 4 1 16 }))
  pub call_way : is_answer (class_of 0x5C) ≡ false
  pub answer_way : is_answer (class_of 0x08) ≡ true
  pub write_routed : route_of (record { da = 7; sa = 2; fc = 0x5C; dsap = Some 51; ssap = Some 51 }) ≡ route.Call service.Dpv1

pub examples : Examples
unfolding class_of look services kind_of route_of call_named content_by dpv1_in diagnosis_in parameters_in
examples =
    record {
      write_named = refl;
      diagnosis_named = refl;
      parameters_named = refl;
      call_way = refl;
      answer_way = refl;
      write_routed = refl;
    }
