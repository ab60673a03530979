-- What is written reads back.
use Rattle.std.specs.Prelude.{◌≡◌, refl, true, ℕ, ◌+◌, ◌-◌, ◌*◌, ◌%◌, ◌≤◌, drop, leb, Ok, Some, None}
use Rattle.std.proofs.Common.{sym, ◌∙◌, subst, add-zero, add_assoc, length-append, get_or-append-add, take_at, drop_at, leb-true, le-leb, le-ltb}
use Rattle.std.proofs.Math.Path.{ap, ap₂}
use mathlib.Core.List.{List, ◌∷◌, ◌++◌, append_assoc}
use native.Mathlib.Omega.{arith}
use Rattle.std.proofs.Math.ListN.{length, get_or, take}
use Rattle.std.proofs.Math.Seq.{drop-append_seam, take-append_seam}
use Rattle.octets.specs.Choice.{◌and◌}
use Rattle.octets.proofs.Choice.{and_left, and_right}
use Rattle.octets.specs.Part.{part_of}
use Rattle.octets.specs.Front.{fine}
use Rattle.function_code.specs.Code.{is_reserved}
use Rattle.fdl.specs.Telegram.{checksum_of, sap_length}
use Rattle.fdl.specs.Reading.{token_of, read_by}
use Rattle.fdl.specs.Writing.{start_bytes, sap_bytes, address_bytes, core_of, end_bytes, closed_of, telegram_of, user_start, token_bytes, confirmation_bytes, good_sap, pdu_length, token_verdict}
use Rattle.fdl.proofs.Lemmas.Extends.{Extends, none, one}
use Rattle.fdl.proofs.Lemmas.Reads.{Starts, Frames, header_in, telegram_read}
use Rattle.fdl.proofs.Lemmas.Fields.{Writable, fine_true, sap_small, sap_bytes_length, start_length, core_length, telegram_length}
use Rattle.function_code.specs.declared.code.Class.{Class}
use Rattle.fdl.specs.declared.telegram.Format.{Format}
use Rattle.fdl.specs.declared.telegram.Header.{Header}
use Rattle.fdl.specs.Sap.{Sap}
use Rattle.fdl.specs.declared.reading.Reading.TheVariants.{Confirmation, Token, Telegram}

-- an access point is found as it was written
sap_back : (sap : Sap) (rest t : List ℕ) (low address start len : ℕ) → good_sap sap ≡ true → low ≤ 127 → address ≡ low + 128 * sap_length sap → sap_length sap ≤ len
    → get_or t start 0 ≡ get_or (sap_bytes sap ++ rest) 0 0 → Extends t address start len sap
sap_back None rest t low address start len g l a r e = none (omega arith)
sap_back (Some x) rest t low address start len g l a r e =
    subst (λ (y : ℕ). Extends t address start len (Some y)) e
    (one (omega arith) r (omega (arith, leb-true x 63 g, e)))

-- the byte behind an access point that follows three bytes
behind_sap : (sap : Sap) (a b c : ℕ) (rest : List ℕ) → get_or (a ∷ b ∷ c ∷ (sap_bytes sap ++ rest)) (3 + sap_length sap) 0 ≡ get_or rest 0 0
behind_sap None a b c rest = refl
behind_sap (Some x) a b c rest = refl

module _ (classes : ℕ → Class) (f : Format) (h : Header) (user : List ℕ) (ok : Writable classes f h user) where
  abbrev core : List ℕ
  core = core_of h user

  abbrev pre : List ℕ
  pre = start_bytes f (length core)

  abbrev t : List ℕ
  t = pre ++ closed_of core

  abbrev at : ℕ
  at = length pre

  abbrev pdu : ℕ
  pdu = pdu_length h user

  core_pdu : length core ≡ pdu + 3
  core_pdu = core_length h user

  inside : (k : ℕ) → get_or t (at + k) 0 ≡ get_or (closed_of core) k 0
  inside k = get_or-append-add pre (closed_of core) k 0

  at_da : get_or t at 0 ≡ h.da + 128 * sap_length h.dsap
  unfolding core_of
  at_da = ap (λ (k : ℕ). get_or t k 0) (sym (add-zero at)) ∙ inside 0

  at_sa : get_or t (at + 1) 0 ≡ h.sa + 128 * sap_length h.ssap
  unfolding core_of
  at_sa = inside 1

  at_fc : get_or t (at + 2) 0 ≡ h.fc
  unfolding core_of
  at_fc = inside 2

  abbrev tail : List ℕ
  tail = (sap_bytes h.ssap ++ user) ++ end_bytes core

  closed_is : closed_of core ≡ (h.da + 128 * sap_length h.dsap) ∷ (h.sa + 128 * sap_length h.ssap) ∷ h.fc ∷ (sap_bytes h.dsap ++ tail)
  unfolding core_of
  closed_is = simp append_assoc

  starts : Starts t f at pdu
  starts =
      record {
        place = start_length f (length core);
        bytes = take-append_seam pre (closed_of core) ∙ ap (start_bytes f) core_pdu;
        sized = ok.sized;
      }

  -- what stands behind the first access point
  second : get_or t (at + 3 + sap_length h.dsap) 0 ≡ get_or (sap_bytes h.ssap ++ (user ++ end_bytes core)) 0 0
  second =
      ap (λ (k : ℕ). get_or t k 0) (add_assoc at 3 (sap_length h.dsap))
      ∙ inside (3 + sap_length h.dsap)
      ∙ ap (λ (b : List ℕ). get_or b (3 + sap_length h.dsap) 0) closed_is
      ∙ behind_sap h.dsap _ _ _ tail
      ∙ ap (λ (b : List ℕ). get_or b 0 0) (append_assoc (sap_bytes h.ssap) user (end_bytes core))

  frames : Frames classes t at pdu h.dsap h.ssap
  frames =
      record {
        size = omega (arith, length-append pre (closed_of core), length-append core (end_bytes core), core_pdu);
        ending = place 4 ∙ ap (λ (k : ℕ). get_or (closed_of core) k 0) last ∙ get_or-append-add core (end_bytes core) 1 0;
        sum =
            place 3
            ∙ ap (λ (k : ℕ). get_or (closed_of core) k 0) (sym core_pdu ∙ sym (add-zero (length core)))
            ∙ get_or-append-add core (end_bytes core) 0 0
            ∙ ap checksum_of
            (sym (ap (take (pdu + 3)) (drop-append_seam pre (closed_of core))
            ∙ take_at core (end_bytes core) (pdu + 3) core_pdu));
        source = λ e. omega (arith, at_sa, sap_small h.ssap, ok.header.sa, e);
        code = ap (λ (k : ℕ). is_reserved (classes k)) at_fc ∙ ok.header.code;
        destination_sap =
            sap_back h.dsap tail t h.da (get_or t at 0) (at + 3) pdu ok.header.dsap ok.header.da at_da (omega arith)
            (inside 3 ∙ ap (λ (b : List ℕ). get_or b 3 0) closed_is);
        source_sap =
            sap_back h.ssap (user ++ end_bytes core) t h.sa (get_or t (at + 1) 0) (at + 3 + sap_length h.dsap) (pdu - sap_length h.dsap)
            ok.header.ssap (omega (arith, ok.header.sa)) at_sa (omega arith) second;
      }
    where
      place : (k : ℕ) → get_or t (at + pdu + k) 0 ≡ get_or (closed_of core) (pdu + k) 0
      place k = ap (λ (i : ℕ). get_or t i 0) (add_assoc at pdu k) ∙ inside (pdu + k)

      last : pdu + 4 ≡ length core + 1
      last = omega (arith, core_pdu)

  header_is : header_in t at h.dsap h.ssap ≡ h
  header_is =
      let a : get_or t at 0 % 128 ≡ h.da = omega (arith, at_da, sap_small h.dsap, ok.header.da) in
      let b : get_or t (at + 1) 0 % 128 ≡ h.sa = omega (arith, at_sa, sap_small h.ssap, ok.header.sa) in
      simp (a, b, at_fc)

  -- the fields
  pub fields_back : read_by classes (telegram_of f h user) ≡ Ok (Telegram f h (user_start f h) (length user))
  unfolding telegram_of
  fields_back =
      let e : pdu - sap_length h.dsap - sap_length h.ssap ≡ length user = omega arith in
      telegram_read classes t starts frames
      ∙ ap₂ (λ (x : Header) (n : ℕ). (Ok (Telegram f x (at + 3 + sap_length h.dsap + sap_length h.ssap) n))) header_is e
      ∙ ap (λ (a : ℕ). (Ok (Telegram f h (a + 3 + sap_length h.dsap + sap_length h.ssap) (length user)))) (start_length f (length core))

  abbrev front : List ℕ
  front = pre ++ (address_bytes h ++ (sap_bytes h.dsap ++ sap_bytes h.ssap))

  split : telegram_of f h user ≡ front ++ (user ++ end_bytes core)
  unfolding telegram_of core_of
  split = simp append_assoc

  front_length : length front ≡ user_start f h
  front_length =
      simp length-append (omega (arith, sap_bytes_length h.dsap, sap_bytes_length h.ssap, start_length f (length core)))

  -- and the user data
  pub user_back : part_of (telegram_of f h user) (user_start f h) (length user) ≡ user
  unfolding part_of
  user_back =
      let fits : user_start f h + length user ≤ length (telegram_of f h user) = omega (arith, telegram_length h user f) in
      simp (le-leb _ _ fits)
      (ap (λ (l : List ℕ). take (length user) (drop (user_start f h) l)) split
      ∙ ap (take (length user)) (drop_at front (user ++ end_bytes core) (user_start f h) front_length)
      ∙ take-append_seam user (end_bytes core))

pub token_back : (classes : ℕ → Class) (da sa : ℕ) → token_verdict da sa ≡ fine → read_by classes (token_bytes da sa) ≡ Ok (Token da sa)
unfolding token_verdict read_by token_of
token_back classes da sa e =
    let both : (leb da 126 and leb sa 126) ≡ true = fine_true (leb da 126 and leb sa 126) 12 e in
    let a : da ≤ 126 = leb-true da 126 (and_left (leb da 126) (leb sa 126) both) in
    let b : sa ≤ 126 = leb-true sa 126 (and_right (leb da 126) (leb sa 126) both) in
    simp (le-ltb _ _ a, le-ltb _ _ b)

pub confirmation_back : (classes : ℕ → Class) → read_by classes confirmation_bytes ≡ Ok Confirmation
unfolding read_by
confirmation_back classes = refl
