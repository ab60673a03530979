-- What a reading says of the bytes: one case for each kind of telegram, from the reading and back to it. Every law of
-- Laws.antt starts from here.
use Rattle.std.specs.Prelude.{◌≡◌, true, false, not, List, [], ◌∷◌, take, drop, eqb, ltb, leb, Ok, Err}
use Rattle.std.proofs.Math.Path.{refl, ap, ap₂}
use Rattle.std.proofs.Common.{sym, ◌∙◌, get_or-take}
use Prim.Native.Nat.{ℕ, ◌+◌, ◌-◌, ◌%◌, ◌≤◌, ◌<◌}
use native.Mathlib.Omega.{arith}
use Rattle.std.proofs.Math.ListN.{length, get_or}
use borrow.Author.Tests.{le-ltb, le-leb, leb-true, eq-eqb, ne_eqb, ltb-false, eqb-true, eqb-false, not-true, not-false}
use Rattle.octets.proofs.Choice.{by_pick, and_left, and_right}
use Rattle.octets.proofs.Elements.{part_elements, rest_elements}
use Rattle.function_code.specs.Code.{is_reserved}
use Rattle.fdl.specs.Telegram.{start_byte, token_byte, confirmation_byte, checksum_of, sap_length}
use Rattle.fdl.specs.Reading.{extension_of, with_source, source_of, with_destination, destination_of, token_of, most_le, fields_of, framed_of, sd2_of, read_by, Extension, Reading}
use Rattle.fdl.specs.Writing.{start_bytes, token_bytes, confirmation_bytes, good_length}
use Rattle.fdl.proofs.Lemmas.Extends.{Extends, Found, found, reads_extension}
use Rattle.function_code.specs.declared.code.Class.{Class}
use Rattle.fdl.specs.declared.telegram.Format.{Format}
use Rattle.fdl.specs.declared.telegram.Format.TheVariants.{Sd1, Sd2, Sd3}
use Rattle.fdl.specs.declared.telegram.Header.{Header}
use Rattle.fdl.specs.Sap.{Sap}
use Rattle.fdl.specs.declared.reading.Reading.TheVariants.{Confirmation, Token, Telegram}

-- ---- the cases

-- s starts as the format does: its DA stands at `at`, and its PDU has a length that the format has
pub record Starts (s : List ℕ) (f : Format) (at pdu : ℕ) : Type 0 where
  pub place : at ≡ length (start_bytes f 0)
  pub bytes : take at s ≡ start_bytes f (pdu + 3)
  pub sized : good_length f pdu ≡ true

-- the rest of s is DA SA FC PDU FCS ED, with these access points
pub record Frames (classes : ℕ → Class) (s : List ℕ) (at pdu : ℕ) (dsap ssap : Sap) : Type 0 where
  pub size : length s ≡ at + pdu + 5
  pub ending : get_or s (at + pdu + 4) 0 ≡ 0x16
  pub sum : get_or s (at + pdu + 3) 0 ≡ checksum_of (take (pdu + 3) (drop at s))
  pub source : get_or s (at + 1) 0 % 128 ≡ 127 → ⊥
  pub code : is_reserved (classes (get_or s (at + 2) 0)) ≡ false
  pub destination_sap : Extends s (get_or s at 0) (at + 3) pdu dsap
  pub source_sap : Extends s (get_or s (at + 1) 0) (at + 3 + sap_length dsap) (pdu - sap_length dsap) ssap

abbrev pub header_in : (s : List ℕ) (at : ℕ) (dsap ssap : Sap) → Header
header_in s at dsap ssap =
    record { da = get_or s at 0 % 128; sa = get_or s (at + 1) 0 % 128; fc = get_or s (at + 2) 0; dsap = dsap; ssap = ssap }

abbrev pub telegram_in : (s : List ℕ) (f : Format) (at pdu : ℕ) (dsap ssap : Sap) → Reading
telegram_in s f at pdu dsap ssap =
    Ok (Telegram f (header_in s at dsap ssap) (at + 3 + sap_length dsap + sap_length ssap) (pdu - sap_length dsap - sap_length ssap))

pub data Reads (classes : ℕ → Class) (s : List ℕ) : Reading → Type 0 where
  confirmation : s ≡ confirmation_bytes → Reads classes s (Ok Confirmation)
  token : {da sa : ℕ} → s ≡ token_bytes da sa → da ≤ 126 → sa ≤ 126 → Reads classes s (Ok (Token da sa))
  telegram : {f : Format} {at pdu : ℕ} {dsap ssap : Sap} → Starts s f at pdu → Frames classes s at pdu dsap ssap → Reads classes s (telegram_in s f at pdu dsap ssap)
  refusal : {r : ℕ} → Reads classes s (Err r)

-- ---- from the reading to its case

module _ (classes : ℕ → Class) (s : List ℕ) where
  R : Reading → Type 0
  R = Reads classes s

  module _ (f : Format) (at pdu : ℕ) (starts : Starts s f at pdu) where
    -- with the access points still open
    record Closed : Type 0 where
      pub size : length s ≡ at + pdu + 5
      pub ending : get_or s (at + pdu + 4) 0 ≡ 0x16
      pub sum : get_or s (at + pdu + 3) 0 ≡ checksum_of (take (pdu + 3) (drop at s))
      pub source : get_or s (at + 1) 0 % 128 ≡ 127 → ⊥
      pub code : is_reserved (classes (get_or s (at + 2) 0)) ≡ false

    by_source : Closed → (dsap : Sap) → Extends s (get_or s at 0) (at + 3) pdu dsap
        → (x : Extension) → Found s (get_or s (at + 1) 0) (at + 3 + sap_length dsap) (pdu - sap_length dsap) x
        → R (with_source x f (get_or s at 0) (get_or s (at + 1) 0) (get_or s (at + 2) 0) dsap (at + 3 + sap_length dsap) (pdu - sap_length dsap))
    unfolding R
    by_source c dsap d (Ok ssap) e =
        telegram starts
        (record { size = c.size; ending = c.ending; sum = c.sum; source = c.source; code = c.code; destination_sap = d; source_sap = e })
    by_source c dsap d (Err r) e = refusal

    by_destination : Closed → (x : Extension) → Found s (get_or s at 0) (at + 3) pdu x → R (with_destination x s f at pdu)
    unfolding R source_of
    by_destination c (Ok dsap) d = by_source c dsap d (extension_of s (get_or s (at + 1) 0) (at + 3 + sap_length dsap) (pdu - sap_length dsap)) (found s _ _ _)
    by_destination c (Err r) d = refusal

    by_frame : R (framed_of classes s f at pdu)
    unfolding R framed_of fields_of destination_of
    by_frame =
        by_pick R (ltb (length s) (at + pdu + 5)) (λ _. refusal)
        (λ a. by_pick R (ltb (at + pdu + 5) (length s)) (λ _. refusal)
        (λ b. by_pick R (not (eqb (get_or s (at + pdu + 4) 0) 0x16)) (λ _. refusal)
        (λ c. by_pick R (not (eqb (get_or s (at + pdu + 3) 0) (checksum_of (take (pdu + 3) (drop at s))))) (λ _. refusal)
        (λ d. by_pick R (eqb (get_or s (at + 1) 0 % 128) 127) (λ _. refusal)
        (λ e. by_pick R (is_reserved (classes (get_or s (at + 2) 0))) (λ _. refusal)
        (λ g.
        by_destination
        (record {
          size = omega (arith, ltb-false (length s) (at + pdu + 5) a, ltb-false (at + pdu + 5) (length s) b);
          ending = eqb-true _ _ (not-false _ c);
          sum = eqb-true _ _ (not-false _ d);
          source = eqb-false _ _ e;
          code = g;
        })
        (extension_of s (get_or s at 0) (at + 3) pdu) (found s _ _ _)))))))

  short_start : (f : Format) (pdu b : ℕ) → 0 < length s → get_or s 0 0 ≡ b → 1 ≡ length (start_bytes f 0) → start_bytes f (pdu + 3) ≡ b ∷ [] → good_length f pdu ≡ true → Starts s f 1 pdu
  short_start f pdu b h e p q g = record { place = p; bytes = part_elements 1 0 s (omega arith) ∙ ap (λ (x : ℕ). x ∷ []) e ∙ sym q; sized = g }

  by_sd2 : get_or s 0 0 ≡ start_byte Sd2 → R (sd2_of classes s)
  unfolding R sd2_of
  by_sd2 z =
      let le : ℕ = get_or s 1 0 in
      by_pick R (ltb (length s) 4) (λ _. refusal)
      (λ a. by_pick R (ltb le 4) (λ _. refusal)
      (λ b. by_pick R (ltb most_le le) (λ _. refusal)
      (λ c. by_pick R (not (eqb (get_or s 2 0) le)) (λ _. refusal)
      (λ d. by_pick R (not (eqb (get_or s 3 0) (start_byte Sd2))) (λ _. refusal)
      (λ e.
      let low : 4 ≤ le = ltb-false le 4 b in
      let high : le - 3 ≤ 246 = omega (arith, ltb-false most_le le c) in
      let back : le - 3 + 3 ≡ le = omega arith in
      let again : get_or s 2 0 ≡ le = eqb-true _ _ (not-false _ d) in
      let second : get_or s 3 0 ≡ start_byte Sd2 = eqb-true _ _ (not-false _ e) in
      let some : le - 3 ≡ 0 → ⊥ = λ q. omega arith in
      by_frame Sd2 4 (le - 3)
      (record {
        place = refl;
        bytes =
            part_elements 4 0 s (ltb-false (length s) 4 a)
            ∙ ap₂ (λ (x y : ℕ). x ∷ le ∷ y ∷ get_or s 3 0 ∷ []) z again
            ∙ ap₂ (λ (x y : ℕ). start_byte Sd2 ∷ x ∷ x ∷ y ∷ []) (sym back) second;
        sized = simp (ne_eqb _ _ some, le-leb _ _ high);
      }))))))

  by_token : get_or s 0 0 ≡ token_byte → R (token_of s)
  unfolding R token_of
  by_token z =
      by_pick R (ltb (length s) 3) (λ _. refusal)
      (λ a. by_pick R (ltb 3 (length s)) (λ _. refusal)
      (λ b. by_pick R (ltb 126 (get_or s 1 0)) (λ _. refusal)
      (λ c. by_pick R (ltb 126 (get_or s 2 0)) (λ _. refusal)
      (λ d.
      let three : length s ≡ 3 = omega (arith, ltb-false (length s) 3 a, ltb-false 3 (length s) b) in
      token (rest_elements 3 0 s (sym three) ∙ ap (λ (x : ℕ). x ∷ get_or s 1 0 ∷ get_or s 2 0 ∷ []) z) (ltb-false 126 (get_or s 1 0) c) (ltb-false 126 (get_or s 2 0) d)))))

  pub reads : Reads classes s (read_by classes s)
  unfolding R read_by
  reads =
      let b : ℕ = get_or s 0 0 in
      by_pick R (eqb (length s) 0) (λ _. refusal)
      (λ z.
      let some : length s ≡ 0 → ⊥ = eqb-false (length s) 0 z in
      let long : 0 < length s = omega arith in
      by_pick R (eqb b (start_byte Sd1)) (λ e. by_frame Sd1 1 0 (short_start Sd1 0 (start_byte Sd1) long (eqb-true b (start_byte Sd1) e) refl refl refl))
      (λ _. by_pick R (eqb b (start_byte Sd2)) (λ e. by_sd2 (eqb-true b (start_byte Sd2) e))
      (λ _. by_pick R (eqb b (start_byte Sd3)) (λ e. by_frame Sd3 1 8 (short_start Sd3 8 (start_byte Sd3) long (eqb-true b (start_byte Sd3) e) refl refl refl))
      (λ _. by_pick R (eqb b token_byte) (λ e. by_token (eqb-true b token_byte e))
      (λ _. by_pick R (eqb b confirmation_byte)
      (λ e. by_pick R (eqb (length s) 1) (λ l. confirmation (rest_elements 1 0 s (sym (eqb-true (length s) 1 l)) ∙ ap (λ (x : ℕ). x ∷ []) (eqb-true b confirmation_byte e))) (λ _. refusal))
      (λ _. refusal))))))

-- ---- from the case to the reading

module _ (classes : ℕ → Class) (s : List ℕ) (f : Format) (at pdu : ℕ) {dsap ssap : Sap} (frames : Frames classes s at pdu dsap ssap) where
  frame_read : framed_of classes s f at pdu ≡ telegram_in s f at pdu dsap ssap
  unfolding framed_of fields_of destination_of source_of
  frame_read =
      let long : at + pdu + 5 ≤ length s = omega (arith, frames.size) in
      let short : length s ≤ at + pdu + 5 = omega (arith, frames.size) in
      simp (
        le-ltb _ _ long,
        le-ltb _ _ short,
        eq-eqb _ _ frames.ending,
        eq-eqb _ _ frames.sum,
        ne_eqb _ _ frames.source,
        frames.code,
        reads_extension _ _ _ _ frames.destination_sap,
        reads_extension _ _ _ _ frames.source_sap,
      )

-- the byte at a place of the start
pub start_byte_lem : {s : List ℕ} {f : Format} {at pdu : ℕ} → Starts s f at pdu → (i : ℕ) → i < at → get_or s i 0 ≡ get_or (start_bytes f (pdu + 3)) i 0
start_byte_lem {s} {f} {at} starts i h = sym (get_or-take at s i 0 h) ∙ ap (λ (l : List ℕ). get_or l i 0) starts.bytes

starts_read : (classes : ℕ → Class) (s : List ℕ) (f : Format) (at pdu : ℕ) → Starts s f at pdu → 5 ≤ length s → read_by classes s ≡ framed_of classes s f at pdu
unfolding read_by sd2_of
starts_read classes s Sd1 at pdu starts long =
    let some : length s ≡ 0 → ⊥ = λ e. omega arith in
    let b : get_or s 0 0 ≡ start_byte Sd1 = start_byte_lem starts 0 (omega (arith, starts.place)) in
    simp (ne_eqb _ _ some, b) (ap₂ (framed_of classes s Sd1) (sym starts.place) (sym (eqb-true pdu 0 starts.sized)))
starts_read classes s Sd3 at pdu starts long =
    let some : length s ≡ 0 → ⊥ = λ e. omega arith in
    let b : get_or s 0 0 ≡ start_byte Sd3 = start_byte_lem starts 0 (omega (arith, starts.place)) in
    simp (ne_eqb _ _ some, b) (ap₂ (framed_of classes s Sd3) (sym starts.place) (sym (eqb-true pdu 8 starts.sized)))
starts_read classes s Sd2 at pdu starts long =
    let some : length s ≡ 0 → ⊥ = λ e. omega arith in
    let four : at ≡ 4 = starts.place in
    let b : get_or s 0 0 ≡ start_byte Sd2 = start_byte_lem starts 0 (omega arith) in
    let le : get_or s 1 0 ≡ pdu + 3 = start_byte_lem starts 1 (omega arith) in
    let again : get_or s 2 0 ≡ get_or s 1 0 = start_byte_lem starts 2 (omega arith) ∙ sym le in
    let second : get_or s 3 0 ≡ start_byte Sd2 = start_byte_lem starts 3 (omega arith) in
    let size : 4 ≤ length s = omega arith in
    let filled : pdu ≡ 0 → ⊥ = eqb-false pdu 0 (not-true _ (and_left (not (eqb pdu 0)) (leb pdu 246) starts.sized)) in
    let small : pdu ≤ 246 = leb-true pdu 246 (and_right (not (eqb pdu 0)) (leb pdu 246) starts.sized) in
    let low : 4 ≤ get_or s 1 0 = omega arith in
    let high : get_or s 1 0 ≤ most_le = omega arith in
    let back : get_or s 1 0 - 3 ≡ pdu = omega arith in
    simp (ne_eqb _ _ some, b, le-ltb _ _ size, le-ltb _ _ low, le-ltb _ _ high, eq-eqb _ _ again, eq-eqb _ _ second)
    (ap₂ (framed_of classes s Sd2) (sym four) back)

pub telegram_read : (classes : ℕ → Class) (s : List ℕ) {f : Format} {at pdu : ℕ} {dsap ssap : Sap} → Starts s f at pdu → Frames classes s at pdu dsap ssap
    → read_by classes s ≡ telegram_in s f at pdu dsap ssap
telegram_read classes s {f} {at} {pdu} starts frames =
    starts_read classes s f at pdu starts (omega (arith, frames.size)) ∙ frame_read classes s f at pdu frames
