-- `service_writer::write` meets its contract: the test of the fields is the verdict's first, and each route has its line.
use mathlib.Core.Path.{◌≡◌, refl, sym, ap, ◌∙◌}
use mathlib.Core.Bool.{Bool, true}
use mathlib.Core.List.{List}
use Prim.Native.Nat.{ℕ, ◌+◌}
use native.Mathlib.Omega.{arith}
use lib.ListN.{length}
use Rattle.octets.proofs.Front.{refused}
use Rattle.fdl.specs.Around.{good_fields}
use Rattle.fdl.proofs.Lemmas.Around.{fit}
use Rattle.fdl.specs.Writing.{telegram_of}
use Rattle.fdl.specs.declared.telegram.Format.{Format}
use Rattle.fdl.specs.declared.telegram.Header.{Header}
use Rattle.access.proofs.Laws.{header_route}
use Rattle.access.specs.Route.{route_of, header_of, service_route}
use Rattle.access.specs.declared.route.Route.{Route}
use Rattle.access.specs.declared.route.Route.TheVariants as route
use Rattle.access.specs.declared.table.Service.{Service}
use Rattle.content.specs.Fields.{service_of, fixed_length}
use Rattle.content.proofs.Laws.{bytes_long}
use Rattle.content.specs.Writing.{bytes_for}
use Rattle.content.specs.declared.fields.Content.{Content}
use Rattle.service.specs.Writing.{way_by, header_for, way_verdict, route_verdict, verdict_of, telegram_for}
use Rattle.service.specs.declared.reading.Way.{Way}
use Rattle.service.proofs.Lemmas.Verdict.{bad_fields, good_fields_lem}
use Rattle.service_writer.proofs.write.Goals as goal

-- a route that leads somewhere has its way's verdict
led : (r : Route) (c : Content) (part : List ℕ) → (r ≡ route.Nowhere → ⊥) → route_verdict r c part ≡ way_verdict (way_by r) c part
led (route.Call s) c part h = refl
led (route.Answer a) c part h = refl
led route.Nowhere c part h = absurd (h refl)

module _ (f : Format) (da sa fc : ℕ) (c : Content) (part : List ℕ) {s : Service} (service : s ≡ service_of c) where
  -- the header that was made is the one of the definition
  made : {h : Header} → h ≡ header_of s da sa fc → h ≡ header_for da sa fc c
  made e = e ∙ ap (λ (x : Service). header_of x da sa fc) service

  -- what the test says is what the definition asks
  tested : {h : Header} {n : ℕ} {b : Bool} → h ≡ header_of s da sa fc → n ≡ fixed_length c → b ≡ good_fields f h (n + length part)
      → good_fields f (header_for da sa fc c) (fixed_length c + length part) ≡ b
  tested {n = n} e size g =
      ap (λ (k : ℕ). good_fields f (header_for da sa fc c) (k + length part)) (sym size)
      ∙ ap (λ (x : Header). good_fields f x (n + length part)) (sym (made e)) ∙ sym g

  -- what the test leaves: the verdict of the route
  routed : {r : Route} → r ≡ service_route s fc → good_fields f (header_for da sa fc c) (fixed_length c + length part) ≡ true
      → verdict_of f da sa fc c part ≡ route_verdict r c part
  routed {r} e g =
      let way : route_of (header_for da sa fc c) ≡ r =
      ap (λ (x : Service). route_of (header_of x da sa fc)) (sym service) ∙ header_route s da sa fc ∙ sym e in
      good_fields_lem f da sa fc c part g ∙ ap (λ (x : Route). route_verdict x c part) way

pub overflow_add-len : goal.overflow_add-len
overflow_add-len c =
    let a = c.args in
    let size : length (bytes_for a.content a.part.now) ≡ c.fixed_length-fixed.result + length a.part.now =
    bytes_long a.content a.part.now ∙ ap (λ (n : ℕ). n + length a.part.now) (sym c.fixed_length-fixed.ensures) in
    let good = sym c.writable_with.ensures ∙ c.if-writable_with.true in
    omega (arith, (fit a.format c.header_of-header.result (bytes_for a.content a.part.now) size good).most)

pub write_way-requires : goal.write_way-requires
write_way-requires c =
    (ap (λ (n : ℕ). n + length c.args.part.now) c.fixed_length-fixed.ensures, sym c.writable_with.ensures ∙ c.if-writable_with.true)

pub returns-in-Nowhere : goal.returns-in-Nowhere
returns-in-Nowhere c =
    let a = c.args in
    let good = tested a.format a.da a.sa a.fc a.content a.part.now c.service_of-service.ensures c.header_of-header.ensures c.fixed_length-fixed.ensures c.writable_with.ensures ∙ c.if-writable_with.true in
    let verdict = routed a.format a.da a.sa a.fc a.content a.part.now c.service_of-service.ensures c.in-Nowhere.ensures good in
    record { answer = rw verdict (refused 10 _ _).0; bytes = rw verdict (refused 10 _ _).1 }

pub returns-in_default : goal.returns-in_default
unfolding telegram_for
returns-in_default c =
    let a = c.args in
    let good = tested a.format a.da a.sa a.fc a.content a.part.now c.service_of-service.ensures c.header_of-header.ensures c.fixed_length-fixed.ensures c.writable_with.ensures ∙ c.if-writable_with.true in
    let written : telegram_of a.format c.header_of-header.result (bytes_for a.content a.part.now) ≡ telegram_for a.format a.da a.sa a.fc a.content a.part.now =
    ap (λ (h : Header). telegram_of a.format h (bytes_for a.content a.part.now)) (made a.format a.da a.sa a.fc a.content a.part.now c.service_of-service.ensures c.header_of-header.ensures) in
    let verdict : verdict_of a.format a.da a.sa a.fc a.content a.part.now ≡ way_verdict c.way_of.result a.content a.part.now =
    routed a.format a.da a.sa a.fc a.content a.part.now c.service_of-service.ensures c.route_for-route.ensures good
    ∙ led c.route_for-route.result a.content a.part.now c.in_default.not-Nowhere
    ∙ ap (λ (x : Way). way_verdict x a.content a.part.now) (sym c.way_of.ensures) in
    let told = c.write_way.ensures in
    record { answer = rw (verdict, ← written) told.answer; bytes = rw (verdict, ← written) told.bytes }

pub returns-else-writable_with : goal.returns-else-writable_with
returns-else-writable_with c =
    let a = c.args in
    let bad = tested a.format a.da a.sa a.fc a.content a.part.now c.service_of-service.ensures c.header_of-header.ensures c.fixed_length-fixed.ensures c.writable_with.ensures ∙ c.if-writable_with.false in
    let verdict = bad_fields a.format a.da a.sa a.fc a.content a.part.now bad in
    record { answer = rw verdict (refused 12 _ _).0; bytes = rw verdict (refused 12 _ _).1 }
