-- What an answer of 0 says of a reading, and both ways between a service telegram and its eighteen fields.
use Rattle.std.specs.Prelude.{ℕ, ◌+◌, ◌≡◌, refl, Bool, true, false, List, length, get_or, eqb, ltb, Ok, Err, Some, None}
use Rattle.std.proofs.Common.{sym, ap, ◌∙◌, subst}
use Rattle.octets.specs.Choice.{pick}
use Rattle.octets.proofs.Choice.{never}
use Rattle.octets.specs.Bytes.{Bytes}
use Rattle.octets.specs.Elements.{elements}
use Rattle.octets.specs.Part.{part_of}
use Rattle.octets.specs.Front.{Verdict, fine, fault}
use Rattle.octets.proofs.Fixed.{fault_fine, passed}
use Rattle.octets.specs.Refusals.{Status, is_fine}
use Rattle.function_code.specs.Code.{class_of}
use Rattle.fdl.specs.Writing as telegram
use Rattle.fdl.specs.declared.telegram.Format.{Format}
use Rattle.fdl.specs.declared.telegram.Header.{Header}
use Rattle.access.proofs.Laws.{header_code}
use Rattle.access.specs.Table.{points_of}
use Rattle.access.specs.Route.{kind_of, route_of, header_by, header_of}
use Rattle.access.specs.declared.route.Kind as route-kind
use Rattle.access.specs.declared.route.Kind.TheVariants as route-kinds
use Rattle.access.specs.declared.route.Route.{Route}
use Rattle.access.specs.declared.route.Route.TheVariants as route
use Rattle.content.specs.Fields.{service_of, fixed_length}
use Rattle.content.specs.Writing.{bytes_for, call_verdict, answer_verdict}
use Rattle.content.specs.declared.fields.Content.{Content}
use Rattle.content.specs.declared.fields.Content.TheVariants as content
use Rattle.service.proofs.Laws.{reads_back, writes_back, reads_fit, way_routed}
use Rattle.service.specs.Reading.{refused, read_of, accepted, goes, Reading}
use Rattle.service.proofs.Refusals as service-refusals
use Rattle.service.proofs.Lemmas.Back.{both_fine}
use Rattle.service.specs.Writing.{header_for, telegram_for, route_verdict, verdict_of, way_by}
use Rattle.service.specs.declared.reading.Way.{Way}
use Rattle.service.specs.declared.reading.Way.TheVariants as way
use Rattle.fields.specs.Kinds.{format_number, Numbered, Kind}
use Rattle.fields.specs.Kinds as kinds
use Rattle.fields.proofs.Laws.{format_named, kind_numbered}
use Rattle.fields.specs.declared.kinds.Kind.TheVariants as kind
use Rattle.service_fields.specs.Service.{is_answer, WayFits, content_places, places_in, right_way, mode_of, content_in}
use Rattle.service_fields.proofs.Laws.{right_way_lem, right_way_only, Goes, route_goes, content_named, content_kept, named_content}
use Rattle.service_fields.specs.declared.Named.{Named}
use Rattle.service_fields.specs.declared.Named.TheVariants as named
use Rattle.capi_service.specs.Service.{way_number, fields_of, read_in, refusal_of, fields_after, kind_verdict, kind_bytes, verdict_in, bytes_in, part_in}
use Rattle.capi_service.proofs.Refusals.{read_service_status}

-- ---- an answer of 0

told_by : (r : Reading) → Status (is_fine (service-refusals.verdict_in r)) (refusal_of r) → refusal_of r ≡ 0 → accepted r ≡ true
told_by (Ok found) t z = refl
told_by (Err r) t z = absurd (never (sym t.zero_is_accepted ∙ ap (λ (k : ℕ). eqb k 0) z))

known : (unknown : Bool) (r : Reading) → accepted (pick unknown (refused 12) r) ≡ true → (unknown ≡ false) × (accepted r ≡ true)
known true r a = absurd (never a)
known false r a = (refl, a)

-- a reading is answered with 0 in a version that is known, and where it is accepted alone
pub told : (s : List ℕ) (version : ℕ) → refusal_of (read_in s version) ≡ 0 → (ltb 1 version ≡ false) × (accepted (read_of s (mode_of version)) ≡ true)
told s version z = known (ltb 1 version) (read_of s (mode_of version)) (told_by (read_in s version) (read_service_status s version) z)

-- a reading that is refused is not answered with 0
pub not_told : (s : List ℕ) (version : ℕ) → accepted (read_of s (mode_of version)) ≡ false → refusal_of (read_in s version) ≡ 0 → ⊥
not_told s version e z = never (sym e ∙ (told s version z).1)

-- ---- the way

-- a route that goes a way, which is the function code's, has its number
way_numbered : (w : Way) (r : Route) (answer : Bool) → goes w r ≡ true → Goes answer r → way_number w ≡ pick answer 1 0
way_numbered way.Call (route.Call s) answer g e = rw e
way_numbered way.Call (route.Answer a) answer g e = absurd (never g)
way_numbered way.Call route.Nowhere answer g e = absurd (never g)
way_numbered way.Answer (route.Call s) answer g e = absurd (never g)
way_numbered way.Answer (route.Answer a) answer g e = rw e
way_numbered way.Answer route.Nowhere answer g e = absurd (never g)

-- a content that may be written goes the function code's way
way_fits : (fc : ℕ) (r : Route) → Goes (is_answer (class_of fc)) r → (c : Content) (part : List ℕ) → route_verdict r c part ≡ fine → WayFits c fc
unfolding call_verdict answer_verdict
way_fits fc r g content.DataExchange part e = tt
way_fits fc (route.Call s) g (content.Dpv1Call c) part e = g
way_fits fc (route.Answer a) g (content.Dpv1Call c) part e = absurd (fault_fine e)
way_fits fc route.Nowhere g (content.Dpv1Call c) part e = absurd (fault_fine e)
way_fits fc (route.Call s) g (content.Dpv1Answer x) part e = absurd (fault_fine e)
way_fits fc (route.Answer a) g (content.Dpv1Answer x) part e = g
way_fits fc route.Nowhere g (content.Dpv1Answer x) part e = absurd (fault_fine e)
way_fits fc r g content.ExtUserPrm part e = tt
way_fits fc r g (content.SetSlaveAdr f) part e = tt
way_fits fc r g content.RdInp part e = tt
way_fits fc r g content.RdOutp part e = tt
way_fits fc r g (content.GlobalControl f) part e = tt
way_fits fc r g content.GetCfg part e = tt
way_fits fc (route.Call s) g content.SlaveDiagCall part e = g
way_fits fc (route.Answer a) g content.SlaveDiagCall part e = absurd (fault_fine e)
way_fits fc route.Nowhere g content.SlaveDiagCall part e = absurd (fault_fine e)
way_fits fc (route.Call s) g (content.SlaveDiag h) part e = absurd (fault_fine e)
way_fits fc (route.Answer a) g (content.SlaveDiag h) part e = g
way_fits fc route.Nowhere g (content.SlaveDiag h) part e = absurd (fault_fine e)
way_fits fc r g (content.SetPrm f) part e = tt
way_fits fc r g content.ChkCfg part e = tt

module _ (f : Format) (da sa fc : ℕ) (c : Content) (part : List ℕ) where
  abbrev head : Header
  head = header_for da sa fc c

  -- the header has what it was made with
  made : (head.da ≡ da) × (head.sa ≡ sa)
  unfolding header_of
  made = by_kind (kind_of fc) where
    by_kind : (k : route-kind.Kind) → let h = header_by k da sa fc (points_of (service_of c)) in (h.da ≡ da) × (h.sa ≡ sa)
    by_kind route-kinds.Call = (refl, refl)
    by_kind route-kinds.Command = (refl, refl)
    by_kind route-kinds.Answer = (refl, refl)
    by_kind route-kinds.Other = (refl, refl)

  -- its route goes the function code's way
  head_goes : Goes (is_answer (class_of fc)) (route_of head)
  head_goes = subst (λ (k : ℕ). Goes (is_answer (class_of k)) (route_of head)) (header_code (service_of c) da sa fc) (route_goes head)

  pub written_fits : verdict_of f da sa fc c part ≡ fine → WayFits c fc
  unfolding verdict_of
  written_fits e =
      way_fits fc (route_of head) head_goes c part (both_fine (telegram.verdict_of f head (bytes_for c part)) (route_verdict (route_of head) c part) e).1

-- ---- from the bytes

-- fields, with the part that they name, may be written in a version, and give the bytes s
abbrev Writes : (s : List ℕ) (version : ℕ) (fields : List ℕ) → Type 0
Writes s version fields = (verdict_in fields version (part_in s fields) ≡ fine) × (bytes_in fields version (part_in s fields) ≡ s)

way_small : (w : Way) → ltb 1 (way_number w) ≡ false
way_small way.Call = refl
way_small way.Answer = refl

-- what was read is written again
writes : (s before : List ℕ) (version : ℕ) → Bytes s → ltb 1 version ≡ false → (r : Reading) → read_of s (mode_of version) ≡ r → accepted r ≡ true
    → Writes s version (fields_after r before)
writes s before version b v (Ok found) e a =
    let fields = fields_of found.format found.header found.way found.content found.start found.len in
    let right = right_way_lem fields (way_numbered found.way (route_of found.header) (is_answer (class_of found.header.fc)) (way_routed s (mode_of version) e) (route_goes found.header)) in
    let k = writes_back s b (mode_of version) e in
    let goes_right = written_fits found.format found.header.da found.header.sa found.header.fc found.content (part_of s found.start found.len) k.0 in
    let again = content_named version (way_number found.way) (format_number found.format) found.header.da found.header.sa found.header.fc found.start found.len found.content (reads_fit s b (mode_of version) e) goes_right in
    rw (v, way_small found.way, format_named found.format, again, right) k
writes s before version b v (Err r) e a = absurd (never a)

pub zero_writes : (s before : List ℕ) (version : ℕ) → Bytes s → refusal_of (read_in s version) ≡ 0 → Writes s version (fields_after (read_in s version) before)
zero_writes s before version b z =
    let k = told s version z in
    let same : read_of s (mode_of version) ≡ read_in s version = rw k.0 in
    subst (λ (r : Reading). Writes s version (fields_after r before)) same (writes s before version b k.0 (read_of s (mode_of version)) refl k.1)

-- ---- from the fields

-- where a choice is fine that else is a fault, it was made
chosen : (b : Bool) (v : Verdict) (k : ℕ) → pick b v (fault k) ≡ fine → (b ≡ true) × (v ≡ fine)
chosen true v k e = (refl, e)
chosen false v k e = absurd (fault_fine e)

-- bytes t are read as the fields in every place that they have, so many of the service's own among them, with this part
abbrev ReadAs : (own : ℕ) (fields part t before : List ℕ) → Reading → Type 0
ReadAs own fields part t before r =
    let again = fields_after r before in
    (refusal_of r ≡ 0) × (elements 6 0 again ≡ elements 6 0 fields) × (elements own 8 again ≡ elements own 8 fields) × (part_in t again ≡ part)

module _ (fields part before : List ℕ) (version : ℕ) (b : Bytes fields) (v : ltb 1 version ≡ false) where
  -- a content's
  content_read : (f : Format) → get_or fields 2 0 ≡ format_number f → (c : Content) → content_in fields version ≡ named.Content c → right_way fields ≡ true
      → verdict_of f (get_or fields 3 0) (get_or fields 4 0) (get_or fields 5 0) c part ≡ fine
      → let t = telegram_for f (get_or fields 3 0) (get_or fields 4 0) (get_or fields 5 0) c part in ReadAs (content_places c) fields part t before (read_in t version)
  content_read f n c e right g =
      let da = get_or fields 3 0 in
      let sa = get_or fields 4 0 in
      let fc = get_or fields 5 0 in
      let t = telegram_for f da sa fc c part in
      let h : Header = header_for da sa fc c in
      let names = named_content fields version b e in
      let r = reads_back f da sa fc c part (mode_of version) names.fits.1 names.fits.0 g in
      let w : Way = way_by (route_of h) in
      let place : ℕ = telegram.user_start f h + fixed_length c in
      let whole : read_in t version ≡ (Ok (record { format = f; header = h; way = w; content = c; start = place; len = length part })) = rw v r.0 in
      let way_is : get_or fields 1 0 ≡ way_number w =
      right_way_only fields right ∙ sym (way_numbered w (route_of h) (is_answer (class_of fc)) (way_routed t (mode_of version) r.0) (head_goes f da sa fc c part)) in
      let m = made f da sa fc c part in
      let six : elements 6 0 (fields_of f h w c place (length part)) ≡ elements 6 0 fields =
      rw (names.service, way_is, n, m.0, m.1, header_code (service_of c) da sa fc) in
      let own : elements (content_places c) 8 (fields_of f h w c place (length part)) ≡ elements (content_places c) 8 fields =
      content_kept (way_number w) (format_number f) h.da h.sa h.fc place (length part) c ∙ sym names.own in
      subst (ReadAs (content_places c) fields part t before) (sym whole) (refl, six, own, r.1)

  -- what was written is read again
  kind_read : (k : Kind) → Numbered (get_or fields 2 0) k → (x : Named) → content_in fields version ≡ x → kind_verdict k x fields part ≡ fine
      → let t = kind_bytes k x fields part in ReadAs (places_in x) fields part t before (read_in t version)
  kind_read (Some kind.Confirmation) n x e g = absurd (fault_fine g)
  kind_read (Some kind.Token) n x e g = absurd (fault_fine g)
  kind_read (Some (kind.Telegram f)) n (named.Content c) e g =
      let w = chosen (right_way fields) _ _ g in
      content_read f n c e w.0 w.1
  kind_read (Some (kind.Telegram f)) n named.Reserved e g = absurd (fault_fine g)
  kind_read (Some (kind.Telegram f)) n named.Unlisted e g = absurd (fault_fine g)
  kind_read (Some (kind.Telegram f)) n named.Nothing e g = absurd (fault_fine g)
  kind_read None n x e g = absurd (fault_fine g)

pub read_as : (fields part before : List ℕ) (version : ℕ) → Bytes fields → verdict_in fields version part ≡ fine
    → let t = bytes_in fields version part in ReadAs (places_in (content_in fields version)) fields part t before (read_in t version)
read_as fields part before version b e =
    let p = passed 12 (ltb 1 version) _ e in
    let q = passed 12 (ltb 1 (get_or fields 1 0)) _ p.1 in
    kind_read fields part before version b p.0 (kinds.kind_of (get_or fields 2 0)) (kind_numbered (get_or fields 2 0)) (content_in fields version) refl q.1
