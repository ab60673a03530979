-- What a written request is.
use Rattle.std.specs.Prelude.{Err}
use Prim.Native.Nat.{ℕ, ◌+◌, ◌-◌, ◌≤◌, ◌<◌}
use mathlib.Core.Path.{◌≡◌, refl, sym, ◌∙◌}
use mathlib.Core.Bool.{Bool, true, false}
use mathlib.Core.List.{List}
use native.Mathlib.Omega.{arith}
use lib.Dec.{ltb, leb}
use lib.ListN.{length}
use borrow.Rule.Slice.PartMut.{mid_of, put_mid}
use borrow.Author.Tests.{ltb-true, ltb-false, le-leb, lt-leb, lt-ltb}
use Rattle.octets.proofs.Choice.{by_pick}
use Rattle.octets.specs.Front.{fine, AtFront, answer_by, held_by, Written}
use Rattle.octets.proofs.Fixed.{fault_fine}
use Rattle.fdl.specs.Around.{user_in, good_fields}
use Rattle.fdl.proofs.Lemmas.Around.{fit}
use Rattle.fdl.specs.Writing.{telegram_of, user_start}
use Rattle.fdl.specs.Writing as telegram
use Rattle.fdl.specs.declared.telegram.Format.{Format}
use Rattle.fdl.specs.declared.telegram.Format.TheVariants.{Sd2}
use Rattle.fdl.specs.declared.telegram.Header.{Header}
use Rattle.acyclic.specs.declared.calls.Call.TheVariants as call
use Rattle.content.specs.Fields.{fixed_length}
use Rattle.content.specs.declared.fields.Content.{Content}
use Rattle.content.specs.declared.fields.Content.TheVariants as content
use Rattle.service.proofs.Lemmas.Placed.{data_placed}
use Rattle.service.proofs.Lemmas.Verdict.{bad_fields}
use Rattle.service.specs.Writing.{header_for, verdict_of}
use Rattle.protocol.specs.Line.{go}
use Rattle.protocol.proofs.Lemmas.Read.{write_fine}
use Rattle.protocol.specs.Telegrams.{counted_code}
use Rattle.protocol.specs.Check.{stored_in}
use Rattle.protocol.specs.Controller.{acted, leaving, Action}
use Rattle.protocol.specs.declared.controller.Controller.{Controller}
use Rattle.controller.specs.Sent.{sent_by}

-- a telegram that may be written has at most 255 bytes, and so has what its writer answers
pub stored_short : (f : Format) (h : Header) (user : List ℕ) (room : ℕ) → good_fields f h (length user) ≡ true → stored_in (answer_by fine (telegram_of f h user) room) ≤ 255
unfolding answer_by
stored_short f h user room g =
    let t = fit f h user refl g in
    by_pick (λ (w : Written). stored_in w ≤ 255) (leb (length (telegram_of f h user)) room) (λ _. omega (arith, t.total, t.most)) (λ _. omega arith)

-- the writer's answer and what the buffer holds then are the action's
pub sends : (t l : List ℕ) (o : Controller) → leaving (sent_by o (answer_by fine t (length l))) (held_by fine t l) ≡ acted (go t o) l
unfolding answer_by held_by
sends t l o = by (ltb (length l) (length t)) refl
  where
    by : (b : Bool) → ltb (length l) (length t) ≡ b → leaving (sent_by o (answer_by fine t (length l))) (held_by fine t l) ≡ acted (go t o) l
    by true g = simp (g, lt-leb (length t) (length l) (ltb-true _ _ g))
    by false g = simp (g, le-leb (length t) (length l) (ltb-false _ _ g))

-- no room
pub unsent : (t l : List ℕ) (o : Controller) → length l < length t → leaving (Err 11) l ≡ acted (go t o) l
unsent t l o h = simp (lt-ltb _ _ h)

-- data that were stored in their place, and the telegram that was made around them
module _ (f : Format) (h : Header) (d out : List ℕ) (start : ℕ) (place : start ≡ user_start f h) (g : good_fields f h (length d) ≡ true)
    (room : start + length d + 2 ≤ length out) {m : List ℕ} {n : ℕ} (front : AtFront d (mid_of start (length out - start) out) m n) where
  abbrev around : List ℕ
  around = user_in f h n (put_mid start (length out - start) out m)

  module _ {w : Written} (a : w ≡ answer_by (telegram.verdict_of f h around) (telegram_of f h around) (length (put_mid start (length out - start) out m))) where
    pub placed_short : stored_in w ≤ 255
    placed_short = rw (data_placed f h d out start place g room front a refl).0 (stored_short f h d (length out) g)

    pub placed_sent : {after : List ℕ} {x : Action} (o : Controller)
        → after ≡ held_by (telegram.verdict_of f h around) (telegram_of f h around) (put_mid start (length out - start) out m)
        → x ≡ sent_by o w → leaving x after ≡ acted (go (telegram_of f h d) o) out
    placed_sent o b s = let p = data_placed f h d out start place g room front a b in rw (s, p.0, p.1) (sends (telegram_of f h d) out o)

-- the fields of a service that may be written
pub may : (f : Format) (da sa fc : ℕ) (c : Content) (part : List ℕ) → verdict_of f da sa fc c part ≡ fine
    → good_fields f (header_for da sa fc c) (fixed_length c + length part) ≡ true
may f da sa fc c part e = by _ refl
  where
    by : (b : Bool) → good_fields f (header_for da sa fc c) (fixed_length c + length part) ≡ b → b ≡ true
    by true g = refl
    by false g = absurd (fault_fine (sym (bad_fields f da sa fc c part g) ∙ e))

-- the write of a template's body may be written
pub write_may : (to from : ℕ) → to ≤ 126 → from ≤ 126 → (fcb : Bool) {fc x slot : ℕ} {part body : List ℕ} → fc ≡ counted_code fcb → x ≡ slot → part ≡ body
    → 1 ≤ length body → length body ≤ 200 → verdict_of Sd2 to from fc (content.Dpv1Call (call.Write 1 x)) part ≡ fine
write_may to from t f fcb {slot = slot} {body = body} e s p some most = rw (e, s, p) (write_fine to from t f fcb slot body some most)
