-- What fields that may be written are, and how long their telegram is.
use Rattle.std.specs.Prelude.{◌≡◌, refl, Bool, true, false, not, List, ℕ, ◌+◌, ◌≤◌, ◌<◌, length, eqb, leb, Some, None}
use Rattle.std.proofs.Common.{arith, leb-true, eqb-true, ne_eqb}
use Rattle.std.proofs.Math.ListN.{length-append}
use Rattle.std.proofs.lemmas.Bool.{lt-leb, not-true}
use Rattle.octets.specs.Choice.{pick, ◌and◌}
use Rattle.octets.proofs.Choice.{and_left, and_right}
use Rattle.octets.specs.Front.{fine, fault}
use Rattle.octets.proofs.Fixed.{fault_fine}
use Rattle.function_code.specs.Code.{is_reserved}
use Rattle.fdl.specs.Telegram.{sap_length}
use Rattle.fdl.specs.Writing.{start_bytes, sap_bytes, core_of, telegram_of, good_sap, pdu_length, good_length, good_header, verdict_by}
use Rattle.function_code.specs.declared.code.Class.{Class}
use Rattle.fdl.specs.declared.telegram.Format.{Format}
use Rattle.fdl.specs.declared.telegram.Format.TheVariants.{Sd1, Sd2, Sd3}
use Rattle.fdl.specs.declared.telegram.Header.{Header}
use Rattle.fdl.specs.Sap.{Sap}

-- a header that may be written
pub record Sound (classes : ℕ → Class) (h : Header) : Type 0 where
  pub da : h.da ≤ 127
  pub sa : h.sa ≤ 126
  pub code : is_reserved (classes h.fc) ≡ false
  pub dsap : good_sap h.dsap ≡ true
  pub ssap : good_sap h.ssap ≡ true

pub sound : (classes : ℕ → Class) (h : Header) → good_header classes h ≡ true → Sound classes h
unfolding good_header
sound classes h e =
    let saps : Bool = good_sap h.dsap and good_sap h.ssap in
    let code : Bool = not (is_reserved (classes h.fc)) in
    let e2 : (leb h.sa 126 and code and saps) ≡ true = and_right (leb h.da 127) (leb h.sa 126 and code and saps) e in
    let e3 : (code and saps) ≡ true = and_right (leb h.sa 126) (code and saps) e2 in
    let e4 : saps ≡ true = and_right code saps e3 in
    record {
      da = leb-true h.da 127 (and_left (leb h.da 127) (leb h.sa 126 and code and saps) e);
      sa = leb-true h.sa 126 (and_left (leb h.sa 126) (code and saps) e2);
      code = not-true (is_reserved (classes h.fc)) (and_left code saps e3);
      dsap = and_left (good_sap h.dsap) (good_sap h.ssap) e4;
      ssap = and_right (good_sap h.dsap) (good_sap h.ssap) e4;
    }

-- a verdict by one test
pub fine_true : (b : Bool) (k : ℕ) → pick b fine (fault k) ≡ fine → b ≡ true
fine_true true k e = refl
fine_true false k e = absurd (fault_fine e)

-- fields that may be written
pub record Writable (classes : ℕ → Class) (f : Format) (h : Header) (user : List ℕ) : Type 0 where
  pub header : Sound classes h
  pub sized : good_length f (pdu_length h user) ≡ true

pub writable : (classes : ℕ → Class) (f : Format) (h : Header) (user : List ℕ) → verdict_by classes f h user ≡ fine → Writable classes f h user
unfolding verdict_by
writable classes f h user e =
    let good : Bool = good_header classes h in
    let sized : Bool = good_length f (pdu_length h user) in
    let both : (good and sized) ≡ true = fine_true (good and sized) 12 e in
    record { header = sound classes h (and_left good sized both); sized = and_right good sized both }

-- ---- lengths

pub sap_small : (s : Sap) → sap_length s ≤ 1
sap_small None = omega arith
sap_small (Some x) = omega arith

pub sap_bytes_length : (s : Sap) → length (sap_bytes s) ≡ sap_length s
sap_bytes_length None = refl
sap_bytes_length (Some x) = refl

-- the start's length depends on the format alone
pub start_length : (f : Format) (le : ℕ) → length (start_bytes f le) ≡ length (start_bytes f 0)
start_length Sd1 le = refl
start_length Sd2 le = refl
start_length Sd3 le = refl

pub start_small : (f : Format) → length (start_bytes f 0) ≤ 4
start_small Sd1 = omega arith
start_small Sd2 = omega arith
start_small Sd3 = omega arith

pub start_some : (f : Format) → 1 ≤ length (start_bytes f 0)
start_some Sd1 = omega arith
start_some Sd2 = omega arith
start_some Sd3 = omega arith

pub pdu_small : (f : Format) (pdu : ℕ) → good_length f pdu ≡ true → pdu ≤ 246
pdu_small Sd1 pdu e = omega (arith, eqb-true pdu 0 e)
pdu_small Sd2 pdu e = leb-true pdu 246 (and_right (not (eqb pdu 0)) (leb pdu 246) e)
pdu_small Sd3 pdu e = omega (arith, eqb-true pdu 8 e)

pub pdu_large : (f : Format) (pdu : ℕ) → 246 < pdu → good_length f pdu ≡ false
pdu_large Sd1 pdu e = ne_eqb pdu 0 (λ z. omega arith)
pdu_large Sd2 pdu e = simp (ne_eqb pdu 0 (λ z. omega arith), lt-leb pdu 246 e)
pdu_large Sd3 pdu e = ne_eqb pdu 8 (λ z. omega arith)

module _ (h : Header) (user : List ℕ) where
  pub core_length : length (core_of h user) ≡ pdu_length h user + 3
  unfolding core_of
  core_length = simp length-append (omega (arith, sap_bytes_length h.dsap, sap_bytes_length h.ssap))

  pub telegram_length : (f : Format) → length (telegram_of f h user) ≡ length (start_bytes f 0) + (pdu_length h user + 5)
  unfolding telegram_of
  telegram_length f = simp length-append (omega (arith, start_length f (length (core_of h user)), core_length))
