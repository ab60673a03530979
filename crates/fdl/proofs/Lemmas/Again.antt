-- What is read, written again, gives the same bytes.
use Rattle.std.specs.Prelude.{◌≡◌, refl, true, ℕ, suc, ◌+◌, ◌-◌, ◌*◌, ◌%◌, ◌≤◌, ◌<◌, drop}
use Rattle.std.proofs.Math.Path.{sym, ap, ap₂}
use Rattle.std.proofs.Common.{◌∙◌, add_comm, length-drop, drop-cons, drop-drop, take-add, length-take-le}
use mathlib.Core.List.{List, [], ◌∷◌, ◌++◌}
use Rattle.std.proofs.Math.Numerals.{unary_clauses}
use native.Mathlib.Omega.{arith}
use Rattle.std.proofs.Math.ListN.{length, get_or, take, take-append-drop}
use borrow.Author.Tests.{le-leb}
use Rattle.octets.specs.Bytes.{Bytes}
use Rattle.octets.specs.Elements.{elements}
use Rattle.octets.proofs.Elements.{part_elements, rest_elements}
use Rattle.octets.specs.Part.{part_of}
use Rattle.octets.specs.Front.{fine}
use Rattle.fdl.specs.Telegram.{checksum_of, sap_length}
use Rattle.fdl.specs.Writing.{start_bytes, sap_bytes, address_bytes, core_of, closed_of, telegram_of, good_sap, pdu_length, good_header, verdict_by}
use Rattle.fdl.proofs.Lemmas.Extends.{Extends, none, one, within}
use Rattle.fdl.proofs.Lemmas.Reads.{Starts, Frames, header_in}
use Rattle.fdl.proofs.Lemmas.Fields.{core_length}
use Rattle.function_code.specs.declared.code.Class.{Class}
use Rattle.fdl.specs.declared.telegram.Format.{Format}
use Rattle.fdl.specs.declared.telegram.Header.{Header}
use Rattle.fdl.specs.Sap.{Sap}

-- ---- an access point that was found

module _ {s : List ℕ} {address start len : ℕ} where
  -- its address byte
  address_again : {sap : Sap} → Extends s address start len sap → address < 256 → address % 128 + 128 * sap_length sap ≡ address
  address_again (none a) h = omega arith
  address_again (one a b c) h = omega arith

  good_again : {sap : Sap} → Extends s address start len sap → good_sap sap ≡ true
  good_again (none a) = refl
  good_again (one a b c) = le-leb _ _ c

  -- and its bytes
  bytes_again : {sap : Sap} → Extends s address start len sap → start < length s → sap_bytes sap ≡ take (sap_length sap) (drop start s)
  bytes_again (none a) h = refl
  bytes_again (one a b c) h = sym (ap (take 1) (drop-cons s start 0 h))

module _ (classes : ℕ → Class) (s : List ℕ) (at pdu : ℕ) (dsap ssap : Sap) (frames : Frames classes s at pdu dsap ssap) (bytes : Bytes s) where
  abbrev header : Header
  header = header_in s at dsap ssap

  -- the user data
  abbrev user : List ℕ
  user = part_of s (at + 3 + sap_length dsap + sap_length ssap) (pdu - sap_length dsap - sap_length ssap)

  d_fits : sap_length dsap ≤ pdu
  d_fits = within _ _ _ _ frames.destination_sap

  e_fits : sap_length ssap ≤ pdu - sap_length dsap
  e_fits = within _ _ _ _ frames.source_sap

  user_is : user ≡ take (pdu - sap_length dsap - sap_length ssap) (drop (at + 3 + sap_length dsap + sap_length ssap) s)
  unfolding part_of
  user_is =
      let h : at + 3 + sap_length dsap + sap_length ssap + (pdu - sap_length dsap - sap_length ssap) ≤ length s = omega (arith, d_fits, e_fits, frames.size) in
      simp (le-leb _ _ h)

  addresses_are : address_bytes header ≡ take 3 (drop at s)
  addresses_are =
      let da : get_or s at 0 % 128 + 128 * sap_length dsap ≡ get_or s at 0 = address_again frames.destination_sap (bytes at) in
      let sa : get_or s (at + 1) 0 % 128 + 128 * sap_length ssap ≡ get_or s (at + 1) 0 = address_again frames.source_sap (bytes (at + 1)) in
      ap₂ (λ (x y : ℕ). x ∷ y ∷ get_or s (at + 2) 0 ∷ []) da sa
      ∙ simp unary_clauses (sym (part_elements 3 at s (omega (arith, frames.size))))

  pdu_is : sap_bytes dsap ++ (sap_bytes ssap ++ user) ≡ take pdu (drop (at + 3) s)
  pdu_is =
      let n : ℕ = sap_length dsap in
      let m : ℕ = sap_length ssap in
      let l : ℕ = pdu - n - m in
      let all : n + (m + l) ≡ pdu = omega (arith, d_fits, e_fits) in
      let k : ℕ = at + 3 in
      ap₂ (λ (x y : List ℕ). x ++ (y ++ user)) (bytes_again frames.destination_sap (omega (arith, frames.size)))
      (bytes_again frames.source_sap (omega (arith, d_fits, frames.size)))
      ∙ ap (λ (x : List ℕ). take n (drop k s) ++ (take m (drop (k + n) s) ++ x)) user_is
      ∙ ap (λ (x : List ℕ). take n (drop k s) ++ x)
      (ap (λ (x : List ℕ). take m (drop (k + n) s) ++ take l x) (sym (drop-drop m (k + n) s))
      ∙ sym (take-add m l (drop (k + n) s))
      ∙ ap (take (m + l)) (sym (drop-drop n k s)))
      ∙ sym (take-add n (m + l) (drop k s))
      ∙ ap (λ (x : ℕ). take x (drop k s)) all

  core_is : core_of header user ≡ take (pdu + 3) (drop at s)
  unfolding core_of
  core_is =
      ap₂ (λ (x y : List ℕ). x ++ y) addresses_are (pdu_is ∙ ap (take pdu) (sym (drop-drop 3 at s)))
      ∙ sym (take-add 3 pdu (drop at s))
      ∙ ap (λ (k : ℕ). take k (drop at s)) (add_comm 3 pdu)

  core_long : length (core_of header user) ≡ pdu + 3
  core_long = ap length core_is ∙ length-take-le (pdu + 3) (drop at s) (simp length-drop (omega (arith, frames.size)))

  end_is : checksum_of (take (pdu + 3) (drop at s)) ∷ 0x16 ∷ [] ≡ drop (pdu + 3) (drop at s)
  end_is =
      let next : at + pdu + 4 ≡ suc (at + pdu + 3) = omega arith in
      let place : at + pdu + 3 ≡ at + (pdu + 3) = omega arith in
      ap₂ (λ (x y : ℕ). x ∷ y ∷ []) (sym frames.sum) (sym frames.ending ∙ ap (λ (k : ℕ). get_or s k 0) next)
      ∙ ap (λ (k : ℕ). elements 2 k s) place
      ∙ sym (drop-drop (pdu + 3) at s ∙ rest_elements 2 (at + (pdu + 3)) s (omega (arith, frames.size)))

  closed_is : closed_of (core_of header user) ≡ drop at s
  closed_is =
      ap closed_of core_is
      ∙ ap (λ (x : List ℕ). take (pdu + 3) (drop at s) ++ x) end_is
      ∙ take-append-drop (pdu + 3) (drop at s)

  header_good : good_header classes header ≡ true
  unfolding good_header
  header_good =
      let a : get_or s at 0 % 128 ≤ 127 = omega arith in
      let b : get_or s (at + 1) 0 % 128 ≤ 126 = omega (arith, frames.source) in
      simp (le-leb _ _ a, le-leb _ _ b, frames.code, good_again frames.destination_sap, good_again frames.source_sap)

  user_long : pdu_length header user ≡ pdu
  user_long = omega (arith, core_long, core_length header user)

  module _ (f : Format) (starts : Starts s f at pdu) where
    pub fine_again : verdict_by classes f (header_in s at dsap ssap) (part_of s (at + 3 + sap_length dsap + sap_length ssap) (pdu - sap_length dsap - sap_length ssap)) ≡ fine
    unfolding verdict_by
    fine_again = simp (header_good, user_long, starts.sized)

    pub same_again : telegram_of f (header_in s at dsap ssap) (part_of s (at + 3 + sap_length dsap + sap_length ssap) (pdu - sap_length dsap - sap_length ssap)) ≡ s
    unfolding telegram_of
    same_again =
        ap₂ (λ (x y : List ℕ). x ++ y) (ap (start_bytes f) core_long ∙ sym starts.bytes) closed_is
        ∙ take-append-drop at s
