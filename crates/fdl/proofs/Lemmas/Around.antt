-- What fields that may be written around user data are, and where the user data stand.
use Prim.Native.Nat.{ℕ, ◌+◌, ◌%◌, ◌≤◌}
use Rattle.std.specs.Prelude.{◌≡◌, refl, true, false, List, [], ◌∷◌, ◌++◌, length, take, drop}
use Rattle.std.proofs.Common.{sym, ap, ◌∙◌, append_assoc, arith, length-append, length-take-le, drop-drop, le-leb}
use Rattle.std.proofs.Math.Bool.{Bool}
use Rattle.octets.proofs.Choice.{and_left, and_right}
use Rattle.octets.specs.Front.{held_behind, fine, fault}
use Rattle.octets.proofs.Fixed.{fault_fine}
use Rattle.function_code.specs.Code.{class_of}
use Rattle.fdl.specs.Telegram.{sum_of, checksum_of, sap_length}
use Rattle.fdl.specs.Writing.{start_bytes, sap_bytes, address_bytes, core_of, telegram_of, user_start, good_length, good_header, verdict_by, verdict_of}
use Rattle.fdl.specs.Around.{user_in, head_bytes, good_fields}
use Rattle.fdl.proofs.Around.{user_inside, user_stored}
use Rattle.fdl.proofs.Lemmas.Fields.{Sound, sound, sap_bytes_length, start_length, start_small, pdu_small, telegram_length}
use Rattle.fdl.specs.declared.telegram.Format.{Format}
use Rattle.fdl.specs.declared.telegram.Header.{Header}

pub head_length : (h : Header) → length (head_bytes h) ≡ 3 + sap_length h.dsap + sap_length h.ssap
head_length h = simp length-append (omega (arith, sap_bytes_length h.dsap, sap_bytes_length h.ssap))

-- the core is the head and the user data
pub head_core : (h : Header) (user : List ℕ) → core_of h user ≡ head_bytes h ++ user
unfolding core_of
head_core h user =
    let saps : List ℕ = sap_bytes h.dsap ++ sap_bytes h.ssap in
    sym
    (append_assoc (address_bytes h) saps user
    ∙ ap (λ (l : List ℕ). address_bytes h ++ l) (append_assoc (sap_bytes h.dsap) (sap_bytes h.ssap) user))

pub sum_append : (a b : List ℕ) → sum_of (a ++ b) ≡ sum_of a + sum_of b
sum_append [] b = omega arith
sum_append (x ∷ a) b = omega (arith, sum_append a b)

-- so its checksum is that of both, modulo 256
pub core_checksum : (h : Header) (user : List ℕ) → checksum_of (core_of h user) ≡ (checksum_of (head_bytes h) + checksum_of user) % 256
unfolding checksum_of
core_checksum h user =
    let head : ℕ = sum_of (head_bytes h) in
    let whole : sum_of (core_of h user) ≡ head + sum_of user = ap sum_of (head_core h user) ∙ sum_append (head_bytes h) user in
    omega (arith, whole)

-- fields that may be written, with user data of so many bytes
pub record Fit (f : Format) (h : Header) (user : List ℕ) (len : ℕ) : Type 0 where
  pub verdict : verdict_of f h user ≡ fine
  pub header : Sound class_of h
  pub core : length (head_bytes h) + len ≤ 249
  pub total : length (telegram_of f h user) ≡ user_start f h + len + 2
  pub most : user_start f h + len + 2 ≤ 255

module _ (f : Format) (h : Header) (user : List ℕ) {len : ℕ} (e : length user ≡ len) where
  -- the checksum and the end byte stand behind the user data
  pub around_length : length (telegram_of f h user) ≡ user_start f h + len + 2
  around_length = omega (arith, telegram_length h user f)

  -- of the user data, their length decides
  pub fit : good_fields f h len ≡ true → Fit f h user len
  unfolding verdict_by
  fit g =
      let good : Bool = good_header class_of h in
      let pdu : ℕ = sap_length h.dsap + sap_length h.ssap + len in
      let small : pdu ≤ 246 = pdu_small f pdu (and_right good (good_length f pdu) g) in
      record {
        verdict = rw e (simp g);
        header = sound class_of h (and_left good (good_length f pdu) g);
        core = omega (arith, head_length h);
        total = around_length;
        most = omega (arith, start_small f);
      }

  pub unfit : good_fields f h len ≡ false → verdict_of f h user ≡ fault 12
  unfolding verdict_by
  unfit g = rw e (simp g)

pub good_fields_lem : (f : Format) (h : Header) (user : List ℕ) → verdict_of f h user ≡ fine → good_fields f h (length user) ≡ true
good_fields_lem f h user e = by _ refl
  where
    by : (b : Bool) → good_fields f h (length user) ≡ b → b ≡ true
    by true g = refl
    by false g = absurd (fault_fine (sym (unfit f h user refl g) ∙ e))

-- behind the start and the head stand the user data
pub user_behind : (f : Format) (h : Header) (len le : ℕ) (out : List ℕ) → user_start f h + len ≤ length out
    → take len (drop (length (head_bytes h)) (drop (length (start_bytes f le)) out)) ≡ user_in f h len out
user_behind f h len le out e =
    let place : length (start_bytes f le) + length (head_bytes h) ≡ user_start f h = omega (arith, start_length f le, head_length h) in
    rw (drop-drop, place) (sym (user_inside f h len out e))

-- and there they stand after they were stored in their place
pub user_held : (f : Format) (h : Header) (start : ℕ) (user out : List ℕ) {held : List ℕ} → start ≡ user_start f h → start + length user ≤ length out
    → held ≡ held_behind start user out → user_in f h (length user) held ≡ user
unfolding held_behind
user_held f h start user out {held} s fits e =
    let front : List ℕ = take start out in
    let rest : List ℕ = drop (start + length user) out in
    let parts : held ≡ front ++ user ++ rest = simp (le-leb _ _ fits) at e in
    ap (user_in f h (length user)) parts
    ∙ user_stored f h front user rest (length-take-le start out (omega arith) ∙ s)
