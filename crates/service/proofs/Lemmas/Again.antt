-- What is read as a service may be written, and gives the same bytes again.
use Rattle.std.specs.Prelude.{ℕ, ◌+◌, ◌≤◌, ◌≡◌, refl, true, List, length, Ok, Err}
use Rattle.std.proofs.Common.{sym, ap, ◌∙◌, subst, arith}
use Rattle.octets.specs.Bytes.{Bytes}
use Rattle.octets.specs.Front.{fine}
use Rattle.octets.specs.Part.{part_of}
use Rattle.octets.proofs.PartLaws.{part_short}
use Rattle.octets.specs.declared.Mode.{Mode}
use Rattle.function_code.specs.Code.{class_of}
use Rattle.fdl.specs.Contents.{contents_in, accepted}
use Rattle.fdl.proofs.Laws as telegram-laws
use Rattle.fdl.specs.Reading as telegram
use Rattle.fdl.specs.Writing as telegram-writing
use Rattle.fdl.specs.declared.telegram.Format.{Format}
use Rattle.fdl.specs.declared.telegram.Header.{Header}
use Rattle.fdl.specs.declared.reading.Reading.TheVariants as telegram-reading
use Rattle.access.proofs.Laws as access-laws
use Rattle.access.specs.Laws as access-laws-words
use Rattle.access.specs.Laws.{answers_at}
use Rattle.access.proofs.Laws.{answerer_routed}
use Rattle.access.specs.Route.{answer_from, route_of, header_of}
use Rattle.access.specs.declared.route.Answering.{Answering}
use Rattle.access.specs.declared.route.Route.{Route}
use Rattle.access.specs.declared.route.Route.TheVariants as route
use Rattle.access.specs.declared.table.Service.{Service}
use Rattle.content.specs.Fields.{service_of, Fits}
use Rattle.content.proofs.Laws.{call_inside, answer_inside, call_writes_back, answer_writes_back}
use Rattle.content.specs.Reading.{end_of, call_of, answer_of, UserData}
use Rattle.content.specs.Writing.{bytes_for}
use Rattle.content.specs.declared.fields.Content.{Content}
use Rattle.service.proofs.Lemmas.Parts.{part_within, part_bytes}
use Rattle.service.specs.Reading.{placed_at, routed_by, service_in, read_of, Reading}
use Rattle.service.specs.Writing.{telegram_for, route_verdict, verdict_of, route_for}
use Rattle.service.specs.declared.reading.Way.{Way}
use Rattle.service.specs.declared.reading.Way.TheVariants as way

-- the access points from which a service may come on its way
abbrev pub ComesFrom : Way → Header → Type 0
ComesFrom way.Call h = Unit
ComesFrom way.Answer h = answers_at h.ssap h.dsap ≡ true

-- all that holds of a reading of the bytes s, in a version
pub record Holds (s : List ℕ) (m : Mode) (f : Format) (h : Header) (w : Way) (c : Content) (start len : ℕ) : Type 0 where
  pub inside : start + len ≤ length s
  pub named : route_of h ≡ route_for w (service_of c)
  pub comes : ComesFrom w h
  pub fits : Fits c m
  pub taken : verdict_of f h.da h.sa h.fc c (part_of s start len) ≡ fine
  pub same : telegram_for f h.da h.sa h.fc c (part_of s start len) ≡ s

abbrev HoldsOf : List ℕ → Mode → Reading → Type 0
HoldsOf s m (Ok found) = Holds s m found.format found.header found.way found.content found.start found.len
HoldsOf s m (Err r) = Unit

-- ---- of a telegram with the user data u, whose header leads to a service

module _ (s : List ℕ) (m : Mode) (f : Format) (h : Header) (at l : ℕ) (within : at + l ≤ length s) (fits : telegram-writing.verdict_of f h (part_of s at l) ≡ fine)
    (again : telegram-writing.telegram_of f h (part_of s at l) ≡ s)
  where
    abbrev user : List ℕ
    user = part_of s at l

    holds : (w : Way) (c : Content) (start len : ℕ) → start + len ≤ l → route_of h ≡ route_for w (service_of c) → ComesFrom w h → Fits c m
        → header_of (service_of c) h.da h.sa h.fc ≡ h
        → route_verdict (route_of h) c (part_of user start len) ≡ fine → bytes_for c (part_of user start len) ≡ user
        → Holds s m f h w c (at + start) len
    unfolding verdict_of telegram_for
    holds w c start len inner named comes fits-version made taken same =
        let part = part_within s at l start len within inner in
        record {
          inside = omega arith;
          named = named;
          comes = comes;
          fits = fits-version;
          taken = rw (made, ← part, same, fits) taken;
          same = rw (made, ← part, same) again;
        }

    module _ (bytes : Bytes s) where
      inner : {d : UserData} {e : UserData} → d ≡ e → end_of d ≤ length user → end_of e ≤ l
      inner g i = omega (arith, ap end_of g, i, part_short s at l)

      by_call : (x : Service) → route_of h ≡ route.Call x → (d : UserData) → call_of x user m ≡ d → HoldsOf s m (placed_at f h way.Call at d)
      by_call x e (Err r) g = tt
      by_call x e (Ok found) g =
          let k = call_writes_back user (part_bytes s at l bytes) x m g in
          holds way.Call found.fields found.start found.len (inner g (call_inside x user m)) (e ∙ ap route.Call (sym k.service)) tt k.fits
          (ap (λ (y : Service). header_of y h.da h.sa h.fc) k.service ∙ subst (access-laws-words.Again h) e (access-laws.header_again h))
          (ap (λ (r : Route). route_verdict r found.fields (part_of user found.start found.len)) e ∙ k.taken) k.same

      by_answer : (a : Answering) → route_of h ≡ route.Answer a → (d : UserData) → answer_of a user ≡ d → HoldsOf s m (placed_at f h way.Answer at d)
      by_answer a e (Err r) g = tt
      by_answer a e (Ok found) g =
          let k = answer_writes_back user (part_bytes s at l bytes) a g in
          holds way.Answer found.fields found.start found.len (inner g (answer_inside a user)) (e ∙ sym (ap answer_from k.service ∙ answerer_routed a)) (access-laws.answers_only_from h e) (k.fits m)
          (ap (λ (y : Service). header_of y h.da h.sa h.fc) k.service ∙ subst (access-laws-words.Again h) e (access-laws.header_again h))
          (ap (λ (r : Route). route_verdict r found.fields (part_of user found.start found.len)) e ∙ k.taken) k.same

      by_route : (r : Route) → route_of h ≡ r → HoldsOf s m (routed_by r f h at user m)
      by_route route.Nowhere e = tt
      by_route (route.Call x) e = by_call x e (call_of x user m) refl
      by_route (route.Answer a) e = by_answer a e (answer_of a user) refl

-- ---- of every telegram

in_telegram : (s : List ℕ) → Bytes s → (m : Mode) (t : telegram.Reading) → telegram.read_of s ≡ t → HoldsOf s m (service_in s m t)
in_telegram s b m (Ok telegram-reading.Confirmation) e = tt
in_telegram s b m (Ok (telegram-reading.Token da sa)) e = tt
in_telegram s b m (Ok (telegram-reading.Telegram f h start len)) e =
    let inside = telegram-laws.data_inside class_of s e in
    let k =
    subst (λ (r : telegram.Reading). telegram-laws.Again class_of s (contents_in s r)) e (telegram-laws.writes_back class_of s b (ap accepted e))
    in
    by_route s m f h start len (omega (arith, inside.ends)) k.taken k.same b (route_of h) refl
in_telegram s b m (Err r) e = tt

pub holds_of : (s : List ℕ) → Bytes s → (m : Mode) {f : Format} {h : Header} {w : Way} {c : Content} {start len : ℕ}
    → read_of s m ≡ Ok (record { format = f; header = h; way = w; content = c; start = start; len = len }) → Holds s m f h w c start len
unfolding read_of
holds_of s b m e = subst (HoldsOf s m) e (in_telegram s b m (telegram.read_of s) refl)
