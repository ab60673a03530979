-- Fields that were read can be given back, and what was written is read as it was given: over the eighteen fields that the C
-- interface has of a service telegram, and over the answers and bytes that its functions promise. And what a reading says of its part.
use Rattle.std.specs.Prelude.{ℕ, ◌+◌, ◌≤◌, ◌<◌, ◌≡◌, List, [], ◌∷◌, length, get_or, set, Ok, Err}
use Rattle.std.proofs.Math.Path.{refl}
use Rattle.std.proofs.Common.{arith}
use Rattle.octets.specs.Bytes.{Bytes}
use Rattle.octets.specs.Elements.{elements}
use Rattle.octets.specs.Part.{part_of}
use Rattle.octets.proofs.PartLaws.{part_short}
use Rattle.octets.specs.Front.{over, answer_by}
use Rattle.octets.specs.declared.Mode.{Mode}
use Rattle.function_code.specs.Code.{class_of}
use Rattle.fdl.proofs.Laws.{data_inside}
use Rattle.fdl.specs.Telegram.{checksum_of}
use Rattle.fdl.specs.Reading as telegram
use Rattle.fdl.specs.Reading.{extension_of, source_of, destination_of, fields_of, framed_of, sd2_of, read_by}
use Rattle.fdl.specs.Writing.{core_of, telegram_of, good_header, verdict_by}
use Rattle.fdl.specs.declared.telegram.Format.{Format}
use Rattle.fdl.specs.declared.telegram.Header.{Header}
use Rattle.fdl.specs.declared.reading.Reading.TheVariants as telegram-reading
use Rattle.diagnosis.specs.Reading as diagnosis
use Rattle.diagnosis.specs.Reading.{good_status1, good_status2, good_master, blocks_in, ext_diag_agrees, judge}
use Rattle.parameters.specs.Fields as parameters
use Rattle.parameters.specs.Fields.{extension_verdict}
use Rattle.parameters.specs.Reading as parameters-reading
use Rattle.acyclic.specs.Forms.{counted_of, counted_as_of, by_number, where_allowed}
use Rattle.acyclic.specs.Calls.{four_of, read_call_of}
use Rattle.access.specs.Table.{look, services}
use Rattle.access.specs.Route.{kind_of, route_of, header_of}
use Rattle.access.specs.declared.route.Route.{Route}
use Rattle.access.specs.declared.route.Route.TheVariants as route
use Rattle.content.proofs.Laws.{call_inside, answer_inside}
use Rattle.content.specs.Reading.{end_of, call_of, answer_of, UserData}
use Rattle.content.specs.Writing.{bytes_for, call_verdict, answer_verdict}
use Rattle.service.proofs.Laws as service-laws
use Rattle.service.specs.Reading.{placed_at, routed_by, service_in, read_of, Reading}
use Rattle.service.specs.Writing.{telegram_for, verdict_of}
use Rattle.service.specs.declared.reading.Way.{Way}
use Rattle.service.specs.declared.reading.Way.TheVariants as way
use Rattle.acyclic_fields.specs.Four.{call_named}
use Rattle.fields.specs.Outcome.{status_of, stored_by}
use Rattle.fields.proofs.Lemmas.{fine_stored}
use Rattle.fields.proofs.Refusals.{tells}
use Rattle.fields.proofs.Laws.{zero_stored}
use Rattle.service_fields.specs.Service.{places_in, right_way, dpv1_in, diagnosis_in, mode_of, parameters_in, content_by, content_in}
use Rattle.capi_service.specs.Service as fields-of
use Rattle.capi_service.specs.Service.{read_in, refusal_of, fields_after, verdict_in, bytes_in, held_of, part_in}
use Rattle.capi_service.proofs.Refusals.{fields_numbered}
use Rattle.capi_service.proofs.Lemmas.{told, not_told, zero_writes, read_as}

-- ---- start and length of the part are bytes

abbrev pub Ends : Reading → Type 0
Ends (Ok found) = found.start + found.len ≤ 255
Ends (Err r) = Unit

placed_ends : (f : Format) (h : Header) (w : Way) (at : ℕ) (d : UserData) → at + end_of d ≤ 255 → Ends (placed_at f h w at d)
placed_ends f h w at (Ok found) e = omega arith
placed_ends f h w at (Err r) e = tt

routed_ends : (r : Route) (f : Format) (h : Header) (at : ℕ) (user : List ℕ) (m : Mode) → at + length user ≤ 255
    → Ends (routed_by r f h at user m)
routed_ends route.Nowhere f h at user m e = tt
routed_ends (route.Call s) f h at user m e = placed_ends f h way.Call at (call_of s user m) (omega (arith, call_inside s user m))
routed_ends (route.Answer a) f h at user m e = placed_ends f h way.Answer at (answer_of a user) (omega (arith, answer_inside a user))

module _ (s : List ℕ) (m : Mode) where
  in_ends : (t : telegram.Reading) → telegram.read_of s ≡ t → Ends (service_in s m t)
  in_ends (Ok telegram-reading.Confirmation) e = tt
  in_ends (Ok (telegram-reading.Token da sa)) e = tt
  in_ends (Ok (telegram-reading.Telegram f h start len)) e =
      let i = data_inside class_of s e in
      routed_ends (route_of h) f h start (part_of s start len) m (omega (arith, part_short s start len, i.ends, i.most))
  in_ends (Err r) e = tt

  pub read_ends : Ends (read_of s m)
  unfolding read_of
  read_ends = in_ends (telegram.read_of s) refl

-- ---- what is read

module _ (s before : List ℕ) (version : ℕ) (b : Bytes s) (e : refusal_of (read_in s version) ≡ 0) where
  -- The fields of a service telegram that was read, with the part that they name, give the same bytes in the same version.
  pub fields_write_back : (out : List ℕ) → length s ≤ length out → let fields = fields_after (read_in s version) before in
      (fields-of.answer_of fields version (part_in s fields) (length out) ≡ Ok (length s)) × (held_of fields version (part_in s fields) out ≡ over s out)
  fields_write_back out h = let w = zero_writes s before version b e in fine_stored w.0 w.1 out h

  -- One byte of it changed to another value is refused, in whichever version.
  pub one_byte_changed : (i v : ℕ) → i < length s → v < 256 → (v ≡ get_or s i 0 → ⊥) → (other : ℕ) → refusal_of (read_in (set s i v) other) ≡ 0 → ⊥
  one_byte_changed i v h w ne other z =
      not_told (set s i v) other (service-laws.one_byte_changed s b (mode_of version) (told s version e).1 i v h w ne (mode_of other)) z

-- ---- what is written

-- What was stored is read in the same version with the answer 0, as the fields that were given in every place that their case has:
-- the service, the way, the kind, DA, SA and FC, and of the service's own those of its content; and the part that is read is the one
-- that was given.
pub fields_read_back : (fields : List ℕ) → Bytes fields → (version : ℕ) (part out : List ℕ) (count : ℕ)
    → status_of (fields-of.answer_of fields version part (length out)) ≡ 0 → (before : List ℕ) →
    let t = stored_by (fields-of.answer_of fields version part (length out)) count (held_of fields version part out) in
    let again = fields_after (read_in t version) before in
    let own = places_in (content_in fields version) in
    (refusal_of (read_in t version) ≡ 0) × (elements 6 0 again ≡ elements 6 0 fields) × (elements own 8 again ≡ elements own 8 fields) × (part_in t again ≡ part)
fields_read_back fields b version part out count e before =
    let told_fields = tells (verdict_in fields version part) (fields_numbered fields version part) in
    let w = zero_stored (verdict_in fields version part) (bytes_in fields version part) out count told_fields e in
    rw w.1 (read_as fields part before version b w.0)

-- ---- each law holds of something

-- a write call, a Slave_Diag answer and Set_Prm in DPV1, as bytes and as fields
pub record Examples : Type 0 where
  pub write_read : refusal_of (read_in (0x68 ∷ 0x0B ∷ 0x0B ∷ 0x68 ∷ 0x87 ∷ 0x82 ∷ 0x5C ∷ 0x33 ∷ 0x33 ∷ 0x5F ∷ 0x01 ∷ 0x07 ∷ 0x02 ∷ 0x41 ∷ 0x42 ∷ 0xB7 ∷ 0x16 ∷ []) 0) ≡ 0
  pub write_written : status_of (fields-of.answer_of (51 ∷ 0 ∷ 3 ∷ 7 ∷ 2 ∷ 0x5C ∷ 0 ∷ 0 ∷ 0x5F ∷ 1 ∷ 7 ∷ 0 ∷ 0 ∷ 0 ∷ 0 ∷ 0 ∷ 0 ∷ 0 ∷ []) 0 (65 ∷ 66 ∷ []) 17) ≡ 0
  pub diagnosis_read : refusal_of (read_in (0x68 ∷ 0x0B ∷ 0x0B ∷ 0x68 ∷ 0x82 ∷ 0x87 ∷ 0x08 ∷ 0x3E ∷ 0x3C ∷ 0x00 ∷ 0x04 ∷ 0x00 ∷ 0xFF ∷ 0x12 ∷ 0x34 ∷ 0xD4 ∷ 0x16 ∷ []) 0) ≡ 0
  pub diagnosis_written : status_of (fields-of.answer_of (60 ∷ 1 ∷ 3 ∷ 2 ∷ 7 ∷ 0x08 ∷ 0 ∷ 0 ∷ 0 ∷ 4 ∷ 0 ∷ 255 ∷ 0x12 ∷ 0x34 ∷ 0 ∷ 0 ∷ 0 ∷ 0 ∷ []) 0 [] 17) ≡ 0
  pub parameters_read : refusal_of (read_in (0x68 ∷ 0x0F ∷ 0x0F ∷ 0x68 ∷ 0x87 ∷ 0x82 ∷ 0x5D ∷ 0x3D ∷ 0x3E ∷ 0x08 ∷ 0x01 ∷ 0x0A ∷ 0x0B ∷ 0x12 ∷ 0x34 ∷ 0x03 ∷ 0x04 ∷ 0x01 ∷ 0x10 ∷ 0x5D ∷ 0x16 ∷ []) 1) ≡ 0
  pub parameters_written : status_of (fields-of.answer_of (61 ∷ 0 ∷ 3 ∷ 7 ∷ 2 ∷ 0x5D ∷ 0 ∷ 0 ∷ 8 ∷ 1 ∷ 10 ∷ 11 ∷ 0x12 ∷ 0x34 ∷ 3 ∷ 4 ∷ 1 ∷ 16 ∷ []) 1 [] 21) ≡ 0

pub examples : Examples
unfolding part_of answer_by class_of checksum_of extension_of source_of destination_of fields_of framed_of sd2_of read_by core_of telegram_of good_header verdict_by good_status1 good_status2 good_master blocks_in ext_diag_agrees judge diagnosis.read_of extension_verdict parameters.verdict_of parameters-reading.read_of counted_of counted_as_of by_number where_allowed four_of read_call_of look services kind_of route_of header_of call_of answer_of bytes_for call_verdict answer_verdict read_of telegram_for verdict_of call_named right_way dpv1_in diagnosis_in parameters_in content_by
examples =
    record {
      write_read = refl;
      write_written = refl;
      diagnosis_read = refl;
      diagnosis_written = refl;
      parameters_read = refl;
      parameters_written = refl;
    }
