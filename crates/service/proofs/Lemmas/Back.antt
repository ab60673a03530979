-- What is written for a service reads back.
use Prim.Native.Nat.{ℕ, ◌+◌, ◌≤◌}
use Rattle.std.specs.Prelude.{◌≡◌, refl, Ok}
use Rattle.std.proofs.Math.Path.{sym, ap}
use Rattle.std.proofs.Common.{◌∙◌, arith}
use mathlib.Core.List.{List, []}
use Rattle.std.proofs.Math.ListN.{length}
use Rattle.octets.specs.Front.{Verdict, fine, fault}
use Rattle.octets.specs.Fixed.{judged}
use Rattle.octets.proofs.Fixed.{fault_fine}
use Rattle.octets.specs.Part.{part_of}
use Rattle.octets.specs.declared.Mode.{Mode}
use Rattle.function_code.specs.Code.{class_of}
use Rattle.fdl.specs.Contents.{Contents, nothing, confirmation, token, contents_in}
use Rattle.fdl.specs.Contents as carried
use Rattle.fdl.proofs.Laws as telegram-laws
use Rattle.fdl.specs.Reading as telegram
use Rattle.fdl.specs.Writing as telegram-writing
use Rattle.fdl.specs.declared.telegram.Format.{Format}
use Rattle.fdl.specs.declared.telegram.Header.{Header}
use Rattle.fdl.specs.declared.reading.Reading.TheVariants as telegram-reading
use Rattle.access.specs.Laws.{Leads}
use Rattle.access.proofs.Laws.{header_leads}
use Rattle.access.specs.Route.{route_of}
use Rattle.access.specs.declared.route.Route.{Route}
use Rattle.access.specs.declared.route.Route.TheVariants as route
use Rattle.access.specs.declared.table.Service.{Service}
use Rattle.content.specs.Fields.{service_of, fixed_length, ModeFits, IdentFits}
use Rattle.content.proofs.Lemmas.Lengths as lengths
use Rattle.content.proofs.Laws.{bytes_long, call_reads_back, answer_reads_back}
use Rattle.content.specs.Reading.{call_of}
use Rattle.content.specs.Writing.{bytes_for}
use Rattle.content.specs.declared.fields.Content.{Content}
use Rattle.service.proofs.Lemmas.Parts.{part_within}
use Rattle.service.specs.Reading.{placed_at, routed_by, service_in, read_of}
use Rattle.service.specs.Writing.{header_for, telegram_for, route_verdict, verdict_of, way_by}
use Rattle.service.specs.declared.reading.Way.TheVariants as way

-- where one verdict comes before another, and the whole is fine, both are
pub both_fine : (v w : Verdict) → judged fault v w ≡ fine → (v ≡ fine) × (w ≡ fine)
both_fine fine w e = (refl, e)
both_fine (fault k) w e = absurd (fault_fine e)

abbrev user_of : Contents → List ℕ
user_of nothing = []
user_of confirmation = []
user_of (token da sa) = []
user_of (carried.telegram f h user) = user

-- ---- a telegram

module _ (f : Format) (h : Header) (u : List ℕ) (e : telegram-writing.verdict_of f h u ≡ fine) where
  abbrev whole : List ℕ
  whole = telegram-writing.telegram_of f h u

  abbrev start : ℕ
  start = telegram-writing.user_start f h

  read_again : telegram.read_of whole ≡ Ok (telegram-reading.Telegram f h start (length u))
  read_again = telegram-laws.telegram_reads_back class_of f h u e

  user_again : part_of whole start (length u) ≡ u
  user_again =
      ap (λ (r : telegram.Reading). user_of (contents_in whole r)) (sym read_again)
      ∙ ap user_of (telegram-laws.reads_back class_of (carried.telegram f h u) e)

-- ---- its service

module _ (f : Format) (da sa fc : ℕ) (c : Content) (part : List ℕ) (m : Mode) (ident : IdentFits c) (mode : ModeFits c m) where
  abbrev head : Header
  head = header_for da sa fc c

  abbrev place_of : ℕ
  place_of = telegram-writing.user_start f head + fixed_length c

  by_route : (r : Route) → Leads (service_of c) r → route_verdict r c part ≡ fine
      → routed_by r f head (telegram-writing.user_start f head) (bytes_for c part) m ≡ Ok (record { format = f; header = head; way = way_by r; content = c; start = place_of; len = length part })
  by_route (route.Call s) l v =
      ap (λ (x : Service). placed_at f head way.Call (telegram-writing.user_start f head) (call_of x (bytes_for c part) m)) l
      ∙ ap (placed_at f head way.Call (telegram-writing.user_start f head)) (call_reads_back c part m ident mode v).0
  by_route (route.Answer a) l v =
      ap (placed_at f head way.Answer (telegram-writing.user_start f head)) (answer_reads_back c part a l ident v).0
  by_route route.Nowhere l v = absurd (fault_fine v)

  pub back : verdict_of f da sa fc c part ≡ fine → read_of (telegram_for f da sa fc c part) m ≡ Ok (record { format = f; header = head; way = way_by (route_of head); content = c; start = place_of; len = length part })
  unfolding verdict_of telegram_for read_of
  back e =
      let u : List ℕ = bytes_for c part in
      let t : List ℕ = telegram-writing.telegram_of f head u in
      let v = both_fine (telegram-writing.verdict_of f head u) (route_verdict (route_of head) c part) e in
      ap (service_in t m) (read_again f head u v.0)
      ∙ ap (λ (l : List ℕ). routed_by (route_of head) f head (telegram-writing.user_start f head) l m) (user_again f head u v.0)
      ∙ by_route (route_of head) (header_leads (service_of c) da sa fc) v.1

  pub part_back : verdict_of f da sa fc c part ≡ fine → part_of (telegram_for f da sa fc c part) place_of (length part) ≡ part
  unfolding verdict_of telegram_for
  part_back e =
      let u : List ℕ = bytes_for c part in
      let t : List ℕ = telegram-writing.telegram_of f head u in
      let at : ℕ = telegram-writing.user_start f head in
      let v = both_fine (telegram-writing.verdict_of f head u) (route_verdict (route_of head) c part) e in
      let inside = telegram-laws.data_inside class_of t (read_again f head u v.0) in
      let outer : at + length u ≤ length t = omega (arith, inside.ends) in
      let inner : fixed_length c + length part ≤ length u = omega (arith, bytes_long c part) in
      sym (part_within t at (length u) (fixed_length c) (length part) outer inner)
      ∙ ap (λ (l : List ℕ). part_of l (fixed_length c) (length part)) (user_again f head u v.0)
      ∙ lengths.part_back c part
