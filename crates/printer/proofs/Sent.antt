-- Replies that may be written, and have room.
use Rattle.std.specs.Prelude.{Ok}
use mathlib.Core.Path.{◌≡◌, refl, ap, ◌∙◌, subst}
use mathlib.Core.List.{List, []}
use Prim.Native.Nat.{ℕ, ◌+◌, ◌-◌, ◌≤◌}
use native.Mathlib.Omega.{arith}
use lib.ListN.{length}
use borrow.Rule.Slice.PartMut.{mid_of, put_mid}
use borrow.Author.Tests.{le-leb}
use Rattle.octets.specs.Front.{Verdict, fine, AtFront, answer_by, held_by, Written}
use Rattle.function_code.specs.Code.{class_of, is_reserved}
use Rattle.function_code.specs.declared.code.Class.TheVariants as class
use Rattle.fdl.specs.Around.{user_in}
use Rattle.fdl.proofs.Laws.{telegram_reads_back, data_inside}
use Rattle.fdl.proofs.Lemmas.Around.{around_length, good_fields_lem}
use Rattle.fdl.specs.Writing.{telegram_of, user_start, verdict_of}
use Rattle.fdl.specs.declared.telegram.Format.{Format}
use Rattle.fdl.specs.declared.telegram.Format.TheVariants.{Sd2}
use Rattle.fdl.specs.declared.telegram.Header.{Header}
use Rattle.access.specs.Route.{header_of}
use Rattle.access.specs.declared.table.Service.TheVariants as service
use Rattle.content.specs.Writing.{bytes_for}
use Rattle.content.specs.declared.fields.Content.TheVariants as content
use Rattle.service.proofs.Lemmas.Placed.{data_placed}
use Rattle.protocol.specs.Check.{stored_in}
use Rattle.protocol.proofs.Lemmas.Read.{writable, result_header, reply_class}
use Rattle.protocol.specs.Telegrams.{reply_code, answer_of}
use Rattle.protocol.specs.declared.printer.Outcome.{Outcome}
use Rattle.protocol.specs.declared.printer.Outcome.TheVariants as outcome
use Rattle.printer_rules.specs.Meaning.{function_of}
use Rattle.printer_rules.specs.declared.rules.Status.{Status}
use Rattle.printer_rules.specs.declared.rules.Status.TheVariants as status

-- what a writer of the bytes t stored, where it may and there is room
module _ (t l : List ℕ) {v : Verdict} {w : Written} (f : v ≡ fine) (short : length t ≤ 255) (room : 255 ≤ length l) (a : w ≡ answer_by v t (length l)) where
  fits : length t ≤ length l
  fits = omega arith

  answered : w ≡ Ok (length t)
  unfolding answer_by
  answered = a ∙ rw f (simp (le-leb _ _ fits))

  pub small : stored_in w ≤ 255
  small = rw answered short

  pub sent : {after : List ℕ} {count : ℕ} → after ≡ held_by v t l → count ≡ stored_in w → AtFront t l after count
  unfolding held_by
  sent b c = record { counted = c ∙ ap stored_in answered; bytes = b ∙ rw f (simp (le-leb _ _ fits)) }

pub as_said : {p q l after : List ℕ} {count : ℕ} → p ≡ q → AtFront p l after count → AtFront q l after count
as_said {l = l} {after} {count} e f = subst (λ (p : List ℕ). AtFront p l after count) e f

-- no telegram has more than 255 bytes
pub short : (f : Format) (h : Header) (user : List ℕ) → verdict_of f h user ≡ fine → length (telegram_of f h user) ≤ 255
short f h user e = (data_inside class_of (telegram_of f h user) (telegram_reads_back class_of f h user e)).most

pub bare_class : (s : Status) → class_of (function_of s) ≡ class.Bare
unfolding class_of
bare_class status.Ok = refl
bare_class status.UserError = refl
bare_class status.NoResource = refl
bare_class status.NoService = refl

-- ---- user data that were stored in their place, and the telegram that was made around them

module _ (f : Format) (h : Header) (d out : List ℕ) (e : verdict_of f h d ≡ fine) (room : 255 ≤ length out) (start : ℕ) (place : start ≡ user_start f h) where
  -- the data lie inside
  pub place_fits : start + length d + 2 ≤ 255
  place_fits = omega (arith, around_length f h d refl, short f h d e)

  module _ {m : List ℕ} {n : ℕ} (front : AtFront d (mid_of start (length out - start) out) m n) where
    abbrev placed : List ℕ
    placed = put_mid start (length out - start) out m

    module _ {w : Written} (a : w ≡ answer_by (verdict_of f h (user_in f h n placed)) (telegram_of f h (user_in f h n placed)) (length placed)) where
      made : {after : List ℕ} → after ≡ held_by (verdict_of f h (user_in f h n placed)) (telegram_of f h (user_in f h n placed)) placed
          → (w ≡ answer_by fine (telegram_of f h d) (length out)) × (after ≡ held_by fine (telegram_of f h d) out)
      made b = data_placed f h d out start place (good_fields_lem f h d e) (omega (arith, place_fits)) front a b

      pub around_small : stored_in w ≤ 255
      around_small = small (telegram_of f h d) out refl (short f h d e) room (made refl).0

      pub around_sent : {after : List ℕ} {count : ℕ} → after ≡ held_by (verdict_of f h (user_in f h n placed)) (telegram_of f h (user_in f h n placed)) placed
          → count ≡ stored_in w → AtFront (telegram_of f h d) out after count
      around_sent b c = sent (telegram_of f h d) out refl (short f h d e) room (made b).0 (made b).1 c

-- ---- results

pub result_long : (o : Outcome) → length (bytes_for (content.Dpv1Answer (answer_of o)) []) ≡ 4
unfolding bytes_for
result_long (outcome.Positive slot index len) = refl
result_long (outcome.Negative code1 code2) = refl

pub result_fine : (to from : ℕ) → to ≤ 126 → from ≤ 126 → (o : Outcome)
    → verdict_of Sd2 (header_of service.Dpv1 to from reply_code) (bytes_for (content.Dpv1Answer (answer_of o)) []) ≡ fine
result_fine to from t f o =
    rw (result_header to from)
    (writable to from reply_code 51 51 (bytes_for (content.Dpv1Answer (answer_of o)) []) t f (ap is_reserved (reply_class to from)) refl refl (omega (arith, result_long o)))
