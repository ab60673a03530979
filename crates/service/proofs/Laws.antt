-- The customer's second demand for whole service telegrams, and what a reading says of its header.
use Rattle.std.specs.Prelude.{ℕ, ◌+◌, ◌≤◌, ◌<◌, ◌≡◌, refl, true, false, List, [], ◌∷◌, length, get_or, set, Ok}
use Rattle.std.proofs.Common.{subst}
use Rattle.octets.specs.Bytes.{Bytes}
use Rattle.octets.specs.Front.{fine}
use Rattle.octets.specs.Part.{part_of}
use Rattle.octets.specs.declared.Mode.{Mode}
use Rattle.octets.specs.declared.Mode.TheVariants as mode
use Rattle.function_code.specs.Code.{class_of}
use Rattle.acyclic.specs.Forms.{alone_of, by_number, where_allowed}
use Rattle.acyclic.specs.Calls.{read_call_of}
use Rattle.acyclic.specs.declared.calls.Call.TheVariants as call
use Rattle.fdl.specs.Telegram.{checksum_of}
use Rattle.fdl.specs.Reading as telegram
use Rattle.fdl.specs.Reading.{extension_of, source_of, destination_of, fields_of, framed_of, sd2_of, read_by}
use Rattle.fdl.specs.Writing.{user_start, good_header, verdict_by}
use Rattle.fdl.proofs.Laws.{our_one_byte_changed}
use Rattle.fdl.specs.declared.telegram.Format.{Format}
use Rattle.fdl.specs.declared.telegram.Format.TheVariants.{Sd2}
use Rattle.fdl.specs.declared.telegram.Header.{Header}
use Rattle.access.specs.Laws.{answers_at}
use Rattle.access.specs.Table.{look, services}
use Rattle.access.specs.Route.{kind_of, route_of, header_of}
use Rattle.content.specs.Fields.{service_of, fixed_length, ModeFits, IdentFits, Fits}
use Rattle.content.specs.Reading.{call_of}
use Rattle.content.specs.Writing.{bytes_for, call_verdict}
use Rattle.content.specs.declared.fields.Content.{Content}
use Rattle.content.specs.declared.fields.Content.TheVariants as content
use Rattle.service.proofs.Lemmas.Again.{holds_of}
use Rattle.service.proofs.Lemmas.Back.{back, part_back}
use Rattle.service.proofs.Lemmas.Changed.{is_telegram, refused_alike}
use Rattle.service.proofs.Lemmas.Ways.{Goes, service_goes}
use Rattle.service.specs.Reading.{read_of, accepted, goes}
use Rattle.service.specs.Writing.{header_for, telegram_for, verdict_of, route_for, way_by}
use Rattle.service.specs.declared.reading.Way.{Way}
use Rattle.service.specs.declared.reading.Way.TheVariants as way

-- (a) What is written reads back as the same format, addresses, function code, fields and part: in the version of its
-- parameters, where it has any. The service stands at the access points that it was written with. (An ident number has two bytes.)
module _ (f : Format) (da sa fc : ℕ) (c : Content) (part : List ℕ) where
  abbrev head : Header
  head = header_for da sa fc c

  abbrev place : ℕ
  place = user_start f head + fixed_length c

  pub reads_back : (m : Mode) → IdentFits c → ModeFits c m → verdict_of f da sa fc c part ≡ fine
      → (read_of (telegram_for f da sa fc c part) m ≡ Ok (record { format = f; header = head; way = way_by (route_of head); content = c; start = place; len = length part })) × (part_of (telegram_for f da sa fc c part) place (length part) ≡ part)
  reads_back m i v e = (back f da sa fc c part m i v e, part_back f da sa fc c part m i v e)

module _ (s : List ℕ) (bytes : Bytes s) (m : Mode) {f : Format} {h : Header} {w : Way} {c : Content} {start len : ℕ} (e : read_of s m ≡ Ok (record { format = f; header = h; way = w; content = c; start = start; len = len })) where
  -- (b) What is read may be written, and gives the same bytes again.
  pub writes_back : (verdict_of f h.da h.sa h.fc c (part_of s start len) ≡ fine) × (telegram_for f h.da h.sa h.fc c (part_of s start len) ≡ s)
  writes_back = let k = holds_of s bytes m e in (k.taken, k.same)

  -- It is of the version that it was read in, and its ident number has two bytes.
  pub reads_fit : Fits c m
  reads_fit = (holds_of s bytes m e).fits

  -- The part lies inside the telegram.
  pub part_inside : start + len ≤ length s
  part_inside = (holds_of s bytes m e).inside

  -- The service and the way are those that the function code and the access points name.
  pub service_named : route_of h ≡ route_for w (service_of c)
  service_named = (holds_of s bytes m e).named

-- The way is that of the header's route.
pub way_routed : (s : List ℕ) (m : Mode) {f : Format} {h : Header} {w : Way} {c : Content} {start len : ℕ}
    → read_of s m ≡ Ok (record { format = f; header = h; way = w; content = c; start = start; len = len }) → goes w (route_of h) ≡ true
unfolding read_of
way_routed s m e = subst Goes e (service_goes s m (telegram.read_of s))

-- (c) One byte changed to another value in a telegram that was read as a service is refused, in whichever version.
pub one_byte_changed : (s : List ℕ) → Bytes s → (m : Mode) → accepted (read_of s m) ≡ true
    → (i v : ℕ) → i < length s → v < 256 → (v ≡ get_or s i 0 → ⊥) → (n : Mode) → accepted (read_of (set s i v) n) ≡ false
unfolding read_of
one_byte_changed s b m e i v h w ne n =
    let k = is_telegram s m (telegram.read_of s) e in
    refused_alike (set s i v) n (telegram.read_of (set s i v)) (our_one_byte_changed s b k.0 k.1 i v h w ne)

-- An answer is read only from 51, 56, 57, 59 and 60, with both access points, or without any.
pub answers_only_from : (s : List ℕ) → Bytes s → (m : Mode) {f : Format} {h : Header} {c : Content} {start len : ℕ}
    → read_of s m ≡ Ok (record { format = f; header = h; way = way.Answer; content = c; start = start; len = len }) → answers_at h.ssap h.dsap ≡ true
answers_only_from s bytes m e = (holds_of s bytes m e).comes

-- ---- each law holds of something

-- an idle call of DPV1, read and written
pub record Examples : Type 0 where
  pub idle_read : accepted (read_of (0x68 ∷ 6 ∷ 6 ∷ 0x68 ∷ 0x87 ∷ 0x82 ∷ 0x5C ∷ 51 ∷ 51 ∷ 0x48 ∷ 0x13 ∷ 0x16 ∷ []) mode.Dpv0) ≡ true
  pub idle_written : verdict_of Sd2 7 2 0x5C (content.Dpv1Call call.Idle) [] ≡ fine

pub examples : Examples
unfolding class_of extension_of source_of destination_of fields_of framed_of sd2_of read_by checksum_of good_header verdict_by look services kind_of route_of header_of alone_of by_number where_allowed read_call_of part_of call_of bytes_for call_verdict read_of verdict_of
examples = record { idle_read = refl; idle_written = refl }
