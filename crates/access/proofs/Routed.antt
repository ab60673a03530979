-- Every service is routed: a header leads to a service exactly when document 01 says so.
use Rattle.std.specs.Prelude.{ℕ, ◌+◌, ◌*◌, ◌/◌, ◌%◌, ◌≤◌, ◌<◌, ◌≡◌, Bool, true, false, ◌↔◌, eqb, Some, None}
use Rattle.std.proofs.Math.Path.{refl, ap, ap₂, subst}
use Rattle.std.proofs.Common.{sym, ◌∙◌, arith, eqb-true}
use Rattle.std.proofs.Math.Nat.{div-div-eq-div-mul}
use Rattle.std.proofs.lemmas.Bool.{eqb-false}
use Rattle.octets.specs.Choice.{pick, ◌and◌}
use Rattle.octets.proofs.Choice.{by_pick, and_left, and_right, never}
use Rattle.function_code.specs.Code.{class_of}
use Rattle.function_code.specs.Code as codes
use Rattle.function_code.specs.declared.code.Class.{Class}
use Rattle.function_code.specs.declared.code.Class.TheVariants as class
use Rattle.fdl.specs.declared.telegram.Header.{Header}
use Rattle.fdl.specs.Sap.{Sap}
use Rattle.access.specs.Table.{look, services, points_of}
use Rattle.access.specs.Route.{named_by, kind_by, kind_of, is_global_control, call_route, command_route, answerer_of, answer_from, answer_route, way_by, route_by, route_of, header_with, header_by, header_of, service_route}
use Rattle.access.proofs.Laws.{points_named, answerer_routed, header_route, header_again}
use Rattle.access.specs.Laws.{Again}
use Rattle.access.specs.Headers.{CallPoints, AnswerPoints, Calls, opening, counted, function_4, function_6, Answers}
use Rattle.access.specs.declared.table.Service.{Service}
use Rattle.access.specs.declared.table.Service.TheVariants as service
use Rattle.access.specs.declared.route.Answering.{Answering}
use Rattle.access.specs.declared.route.Answering.TheVariants as answering
use Rattle.access.specs.declared.route.Kind.{Kind}
use Rattle.access.specs.declared.route.Kind.TheVariants as kind
use Rattle.access.specs.declared.route.Route.{Route}
use Rattle.access.specs.declared.route.Route.TheVariants as route

-- ---- Global_Control and the others

is_global : (s : Service) → is_global_control s ≡ true → s ≡ service.GlobalControl
is_global service.GlobalControl e = refl
is_global service.DataExchange e = absurd (never e)
is_global service.Dpv1 e = absurd (never e)
is_global service.ExtUserPrm e = absurd (never e)
is_global service.SetSlaveAdr e = absurd (never e)
is_global service.RdInp e = absurd (never e)
is_global service.RdOutp e = absurd (never e)
is_global service.GetCfg e = absurd (never e)
is_global service.SlaveDiag e = absurd (never e)
is_global service.SetPrm e = absurd (never e)
is_global service.ChkCfg e = absurd (never e)

not_global : (s : Service) → (s ≡ service.GlobalControl → ⊥) → is_global_control s ≡ false
not_global s n = by (is_global_control s) refl
  where
    by : (b : Bool) → is_global_control s ≡ b → b ≡ false
    by true e = absurd (n (is_global s e))
    by false e = refl

-- ---- function codes

-- a number of which half and the last bit are known
halved : (q k b : ℕ) → q / 2 ≡ k → q % 2 ≡ b → q ≡ 2 * k + b
halved q k b h e = omega arith

-- bit by bit from the highest
bits : {f : ℕ} (fc : ℕ) → fc < 256 → (fc / 128 % 2 ≡ 1 → ⊥) → fc / 64 % 2 ≡ 1 → fc / 32 % 2 ≡ 0 → fc / 16 % 2 ≡ 0 → fc % 16 ≡ f → fc ≡ 64 + f
bits fc byte seven six five four m =
    let a : fc / 64 / 2 ≡ 0 = high fc byte seven in
    let b : fc / 32 / 2 ≡ 1 = half fc 32 ∙ halved (fc / 64) 0 1 a six in
    let c : fc / 16 / 2 ≡ 2 = half fc 16 ∙ halved (fc / 32) 1 0 b five in
    let d : fc / 16 ≡ 4 = halved (fc / 16) 2 0 c four in
    whole fc d m
  where
    high : (n : ℕ) → n < 256 → (n / 128 % 2 ≡ 1 → ⊥) → n / 64 / 2 ≡ 0
    high n h e = omega arith

    half : (n k : ℕ) → n / k / 2 ≡ n / (k * 2)
    half n k = div-div-eq-div-mul n k 2

    whole : {f : ℕ} (n : ℕ) → n / 16 ≡ 4 → n % 16 ≡ f → n ≡ 64 + f
    whole n d m = omega arith

-- an uncounted call with function f, which no answer has, is 40 hex plus f
uncounted_code : (f fc : ℕ) → fc < 256 → 1 ≤ f
    → ((fcv fcb : ℕ) → codes.call_of f fcv fcb ≡ pick (eqb fcv 0 and eqb fcb 0) class.Uncounted class.Reserved)
    → codes.answer_of f ≡ class.Reserved → class_of fc ≡ class.Uncounted → fc % 16 ≡ f → fc ≡ 64 + f
unfolding class_of
uncounted_code f fc byte some call answer u m =
    by_pick P (eqb (fc / 128 % 2) 1)
    (λ _. by_pick P (eqb fc 0xC0) (λ e _. let z : fc ≡ 0xC0 = eqb-true fc 0xC0 e in absurd (omega arith)) (λ _ e. absurd (reserved e)))
    (λ a. by_pick P (eqb (fc / 64 % 2) 1)
    (λ b. rw (m, call (fc / 16 % 2) (fc / 32 % 2))
    (by_pick P (eqb (fc / 16 % 2) 0 and eqb (fc / 32 % 2) 0)
    (λ c _.
    let seven : fc / 128 % 2 ≡ 1 → ⊥ = eqb-false (fc / 128 % 2) 1 a in
    let six : fc / 64 % 2 ≡ 1 = eqb-true (fc / 64 % 2) 1 b in
    let five : fc / 32 % 2 ≡ 0 = eqb-true (fc / 32 % 2) 0 (and_right (eqb (fc / 16 % 2) 0) (eqb (fc / 32 % 2) 0) c) in
    let four : fc / 16 % 2 ≡ 0 = eqb-true (fc / 16 % 2) 0 (and_left (eqb (fc / 16 % 2) 0) (eqb (fc / 32 % 2) 0) c) in
    bits fc byte seven six five four m)
    (λ _ e. absurd (reserved e))))
    (λ _ e. absurd (reserved (sym answer ∙ ap codes.answer_of (sym m) ∙ e))))
    u
  where
    P : Class → Type 0
    P c = c ≡ class.Uncounted → fc ≡ 64 + f

    reserved : class.Reserved ≡ class.Uncounted → ⊥
    reserved e = let z : ◌≡◌ {A = ℕ} 0 1 = cc in omega arith

-- ---- from the header to the route

module _ (h : Header) where
  by_call : {s : Service} → kind_of h.fc ≡ kind.Call → CallPoints h s → (s ≡ service.GlobalControl → ⊥) → route_of h ≡ route.Call s
  unfolding route_of
  by_call {s} e p n =
      ap (λ (k : Kind). route_by k h.dsap h.ssap) e
      ∙ ap₂ (λ (d m : Sap). call_route (named_by d m)) p.to p.from
      ∙ ap call_route (points_named s)
      ∙ simp (not_global s n)

  by_command : kind_of h.fc ≡ kind.Command → CallPoints h service.GlobalControl → route_of h ≡ route.Call service.GlobalControl
  unfolding route_of
  by_command e p =
      ap (λ (k : Kind). route_by k h.dsap h.ssap) e
      ∙ ap₂ (λ (d m : Sap). command_route (named_by d m)) p.to p.from
      ∙ ap command_route (points_named service.GlobalControl)

  call_routed : {s : Service} → Calls h s → route_of h ≡ route.Call s
  unfolding kind_of class_of
  call_routed (opening e p n) = by_call (ap (λ (c : Class). kind_by c h.fc) e) p n
  call_routed (counted e p n) = by_call (ap (λ (c : Class). kind_by c h.fc) e) p n
  call_routed (function_4 e p) = by_command (ap kind_of e) p
  call_routed (function_6 e p) = by_command (ap kind_of e) p

  answer_routed : {a : Answering} → Answers h a → route_of h ≡ route.Answer a
  unfolding route_of kind_of
  answer_routed {a} x =
      ap (λ (c : Class). route_by (kind_by c h.fc) h.dsap h.ssap) x.code
      ∙ ap₂ (λ (d m : Sap). answer_route (named_by d m)) x.points.from x.points.to
      ∙ ap answer_route (points_named (answerer_of a))
      ∙ answerer_routed a

-- ---- from the route to the header

-- two routes of different cases
call_nowhere : {s : Service} → route.Nowhere ≡ route.Call s → ⊥
call_nowhere e = let z : ◌≡◌ {A = ℕ} 0 1 = cc in omega arith

answer_nowhere : {a : Answering} → route.Nowhere ≡ route.Answer a → ⊥
answer_nowhere e = let z : ◌≡◌ {A = ℕ} 0 1 = cc in omega arith

call_answer : {s : Service} {a : Answering} → route.Call s ≡ route.Answer a → ⊥
call_answer e = let z : ◌≡◌ {A = ℕ} 0 1 = cc in omega arith

-- a data answer is no call
no_call : {s : Service} (x : Service) → answer_from x ≡ route.Call s → ⊥
no_call service.DataExchange e = call_answer (sym e)
no_call service.Dpv1 e = call_answer (sym e)
no_call service.ExtUserPrm e = call_nowhere e
no_call service.SetSlaveAdr e = call_nowhere e
no_call service.RdInp e = call_answer (sym e)
no_call service.RdOutp e = call_answer (sym e)
no_call service.GlobalControl e = call_nowhere e
no_call service.GetCfg e = call_answer (sym e)
no_call service.SlaveDiag e = call_answer (sym e)
no_call service.SetPrm e = call_nowhere e
no_call service.ChkCfg e = call_nowhere e

module _ (h : Header) where
  abbrev made : Kind → Service → Header
  made k s = header_by k h.da h.sa h.fc (points_of s)

  call_points : {s : Service} → made kind.Call s ≡ h → CallPoints h s
  call_points {s} e =
      record {
        to = ap (λ (x : Header). x.dsap) (sym e);
        from = ap (λ (x : Header). x.ssap) (sym e);
      }

  answer_points : {s : Service} → made kind.Answer s ≡ h → AnswerPoints h s
  answer_points {s} e =
      record {
        to = ap (λ (x : Header). x.dsap) (sym e);
        from = ap (λ (x : Header). x.ssap) (sym e);
      }

  -- what a kind of code says of a header that leads to a call of a service
  abbrev CallBy : Kind → Service → Type 0
  CallBy kind.Call s = CallPoints h s × (s ≡ service.GlobalControl → ⊥)
  CallBy kind.Command s = CallPoints h s × (s ≡ service.GlobalControl)
  CallBy kind.Answer s = ⊥
  CallBy kind.Other s = ⊥

  call_by : (k : Kind) {s : Service} → made k s ≡ h → way_by k (Some s) ≡ route.Call s → CallBy k s
  call_by kind.Call e w = (call_points e, λ g. call_nowhere (rw g at w))
  call_by kind.Command {s} e w = (call_points e, by (is_global_control s) refl w)
    where
      by : (b : Bool) → is_global_control s ≡ b → pick b (route.Call s) route.Nowhere ≡ route.Call s → s ≡ service.GlobalControl
      by true g w = is_global s g
      by false g w = absurd (call_nowhere w)
  call_by kind.Answer {s} e w = no_call s w
  call_by kind.Other e w = call_nowhere w

  call_class : h.fc < 256 → {s : Service} (c : Class) → class_of h.fc ≡ c → CallBy (kind_by c h.fc) s → Calls h s
  call_class byte class.Opening e b = opening e b.0 b.1
  call_class byte class.Counted e b = counted e b.0 b.1
  call_class byte {s} class.Uncounted e b =
      by_pick (λ k. CallBy k s → Calls h s) (eqb (h.fc % 16) 4)
      (λ m c. subst (Calls h) (sym c.1) (function_4 (uncounted_code 4 h.fc byte (omega arith) (λ _ _. refl) refl e (eqb-true (h.fc % 16) 4 m)) (subst (CallPoints h) c.1 c.0)))
      (λ _. by_pick (λ k. CallBy k s → Calls h s) (eqb (h.fc % 16) 6)
      (λ m c. subst (Calls h) (sym c.1) (function_6 (uncounted_code 6 h.fc byte (omega arith) (λ _ _. refl) refl e (eqb-true (h.fc % 16) 6 m)) (subst (CallPoints h) c.1 c.0)))
      (λ _ c. absurd c)) b
  call_class byte class.Bare e b = absurd b
  call_class byte class.Data e b = absurd b
  call_class byte class.Reserved e b = absurd b

  -- and to an answer
  abbrev AnswerBy : Kind → Answering → Type 0
  AnswerBy kind.Call a = ⊥
  AnswerBy kind.Command a = ⊥
  AnswerBy kind.Answer a = AnswerPoints h (answerer_of a)
  AnswerBy kind.Other a = ⊥

  answer_by_lem : (k : Kind) {a : Answering} → made k (answerer_of a) ≡ h → way_by k (Some (answerer_of a)) ≡ route.Answer a → AnswerBy k a
  answer_by_lem kind.Call {a} e w = by_pick (λ r. r ≡ route.Answer a → ⊥) (is_global_control (answerer_of a)) (λ _. answer_nowhere) (λ _. call_answer) w
  answer_by_lem kind.Command {a} e w = by_pick (λ r. r ≡ route.Answer a → ⊥) (is_global_control (answerer_of a)) (λ _. call_answer) (λ _. answer_nowhere) w
  answer_by_lem kind.Answer e w = answer_points e
  answer_by_lem kind.Other e w = answer_nowhere w

  answer_class : {a : Answering} (c : Class) → class_of h.fc ≡ c → AnswerBy (kind_by c h.fc) a → Answers h a
  answer_class class.Opening e b = absurd b
  answer_class class.Counted e b = absurd b
  answer_class {a} class.Uncounted e b =
      by_pick (λ k. AnswerBy k a → Answers h a) (eqb (h.fc % 16) 4) (λ _ c. absurd c)
      (λ _. by_pick (λ k. AnswerBy k a → Answers h a) (eqb (h.fc % 16) 6) (λ _ c. absurd c) (λ _ c. absurd c)) b
  answer_class class.Bare e b = absurd b
  answer_class class.Data e b = record { code = e; points = b }
  answer_class class.Reserved e b = absurd b

  -- the header of a service, by its route
  led : (s : Service) → header_of s h.da h.sa h.fc ≡ h → route_of h ≡ service_route s h.fc
  led s e = sym (ap route_of e) ∙ header_route s h.da h.sa h.fc

  routed_call : h.fc < 256 → {s : Service} → route_of h ≡ route.Call s → Calls h s
  unfolding header_of service_route kind_of
  routed_call byte {s} e =
      let again : header_of s h.da h.sa h.fc ≡ h = subst (Again h) e (header_again h) in
      call_class byte (class_of h.fc) refl (call_by (kind_of h.fc) again (sym (led s again) ∙ e))

  routed_answer : {a : Answering} → route_of h ≡ route.Answer a → Answers h a
  unfolding header_of service_route kind_of
  routed_answer {a} e =
      let again : header_of (answerer_of a) h.da h.sa h.fc ≡ h = subst (Again h) e (header_again h) in
      answer_class (class_of h.fc) refl (answer_by_lem (kind_of h.fc) again (sym (led (answerer_of a) again) ∙ e))

  -- ---- the laws

  -- A header leads to a call of a service exactly when it calls it: every opening and counted code every service but Global_Control,
  -- functions 4 and 6 that one. (A function code is a byte.)
  pub calls_routed : h.fc < 256 → (s : Service) → route_of h ≡ route.Call s ↔ Calls h s
  calls_routed byte s = (routed_call byte, call_routed h)

  -- A header leads to an answer of a service exactly when it answers from it: every data code, each service that answers.
  pub answers_routed : (a : Answering) → route_of h ≡ route.Answer a ↔ Answers h a
  answers_routed a = (routed_answer, answer_routed h)

  -- And every other header leads nowhere.
  pub others_nowhere : h.fc < 256 → ((s : Service) → Calls h s → ⊥) → ((a : Answering) → Answers h a → ⊥) → route_of h ≡ route.Nowhere
  others_nowhere byte no-calls no-answers = by (route_of h) refl
    where
      by : (r : Route) → route_of h ≡ r → r ≡ route.Nowhere
      by (route.Call s) e = absurd (no-calls s (routed_call byte e))
      by (route.Answer a) e = absurd (no-answers a (routed_answer e))
      by route.Nowhere e = refl

-- The header that a service is written with is the plain one, of a call and of an answer.
pub call_header : (s : Service) (da sa fc : ℕ) → let h = header_with da sa fc (points_of s).slave (points_of s).master in Calls h s → header_of s da sa fc ≡ h
call_header s da sa fc c =
    let h = header_with da sa fc (points_of s).slave (points_of s).master in
    subst (Again h) (call_routed h c) (header_again h)

pub answer_header : (a : Answering) (da sa fc : ℕ) →
    let h = header_with da sa fc (points_of (answerer_of a)).master (points_of (answerer_of a)).slave in Answers h a → header_of (answerer_of a) da sa fc ≡ h
answer_header a da sa fc x =
    let h = header_with da sa fc (points_of (answerer_of a)).master (points_of (answerer_of a)).slave in
    subst (Again h) (answer_routed h x) (header_again h)

-- ---- every pair of document 01, in plain numbers

-- an opening call from the master's access point to the slave's, and a data answer back
abbrev called : (slave master : ℕ) → Route
called slave master = route_of (header_with 7 2 0x6D (Some slave) (Some master))

abbrev answered : (slave master : ℕ) → Route
answered slave master = route_of (header_with 2 7 0x0A (Some master) (Some slave))

pub record Pairs : Type 0 where
  pub dpv1 : (called 51 51 ≡ route.Call service.Dpv1) × (answered 51 51 ≡ route.Answer answering.Dpv1)
  pub ext_user_prm : (called 53 62 ≡ route.Call service.ExtUserPrm) × (answered 53 62 ≡ route.Nowhere)
  pub set_slave_adr : (called 55 62 ≡ route.Call service.SetSlaveAdr) × (answered 55 62 ≡ route.Nowhere)
  pub rd_inp : (called 56 62 ≡ route.Call service.RdInp) × (answered 56 62 ≡ route.Answer answering.RdInp)
  pub rd_outp : (called 57 62 ≡ route.Call service.RdOutp) × (answered 57 62 ≡ route.Answer answering.RdOutp)
  pub global_control : (called 58 62 ≡ route.Nowhere) × (answered 58 62 ≡ route.Nowhere)
  pub get_cfg : (called 59 62 ≡ route.Call service.GetCfg) × (answered 59 62 ≡ route.Answer answering.GetCfg)
  pub slave_diag_lem : (called 60 62 ≡ route.Call service.SlaveDiag) × (answered 60 62 ≡ route.Answer answering.SlaveDiag)
  pub set_prm : (called 61 62 ≡ route.Call service.SetPrm) × (answered 61 62 ≡ route.Nowhere)
  pub chk_cfg : (called 62 62 ≡ route.Call service.ChkCfg) × (answered 62 62 ≡ route.Nowhere)
  -- Global_Control's own function, and Data_Exchange without access points, both ways
  pub function_6_broadcast : route_of (header_with 127 2 0x46 (Some 58) (Some 62)) ≡ route.Call service.GlobalControl
  pub no_access_point : route_of (header_with 7 2 0x5D None None) ≡ route.Call service.DataExchange
  pub no_access_point_back : route_of (header_with 2 7 0x08 None None) ≡ route.Answer answering.DataExchange

pub pairs_routed : Pairs
unfolding route_of kind_of class_of look services
pairs_routed =
    record {
      dpv1 = (refl, refl);
      ext_user_prm = (refl, refl);
      set_slave_adr = (refl, refl);
      rd_inp = (refl, refl);
      rd_outp = (refl, refl);
      global_control = (refl, refl);
      get_cfg = (refl, refl);
      slave_diag_lem = (refl, refl);
      set_prm = (refl, refl);
      chk_cfg = (refl, refl);
      function_6_broadcast = refl;
      no_access_point = refl;
      no_access_point_back = refl;
    }
