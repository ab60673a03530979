-- What the deed of a write that is performed comes to.
use mathlib.Core.Path.{◌≡◌, refl}
use mathlib.Core.Bool.{Bool, not}
use mathlib.Core.List.{List}
use Prim.Native.Nat.{ℕ, suc, min}
use lib.Dec.{eqb, ltb}
use borrow.Author.Tests.{ltb-false}
use Rattle.octets.proofs.Choice.{by_pick}
use Rattle.protocol.specs.Printer as printer
use Rattle.protocol.specs.Printer.{judge, guarded, only, write_deed, waited}
use Rattle.protocol.specs.Slots.{Slots}
use Rattle.protocol.specs.declared.printer.Outcome.{Outcome}
use Rattle.protocol.specs.declared.printer.Outcome.TheVariants as outcome
use Rattle.protocol.specs.declared.printer.Pending.TheVariants as pending
use Rattle.printer_rules.specs.Meaning.{Target, target_of, slots_after, Fits, Does}
use Rattle.printer_rules.specs.declared.rules.Reply.TheVariants as reply

-- a write that is performed
target_slots : (o : Outcome) (index : ℕ) (body : List ℕ) (s : Slots) → slots_after (target_of o index) body s ≡ printer.slots_after o index body s
target_slots (outcome.Positive slot i len) index body s = refl
target_slots (outcome.Negative code1 code2) index body s = refl

module _ (boarding : Bool) (not_yet n slot index len : ℕ) where
  target_fits : Fits (target_of (judge boarding slot index len) index) len
  unfolding judge
  target_fits =
      by_pick (λ (o : Outcome). Fits (target_of o index) len) (not (eqb slot 1)) (λ _. tt) (λ _.
      by_pick (λ (o : Outcome). Fits (target_of o index) len) (ltb 15 index) (λ _. tt) (λ i.
      by_pick (λ (o : Outcome). Fits (target_of o index) len) (ltb 200 len) (λ _. tt) (λ l.
      by_pick (λ (o : Outcome). Fits (target_of o index) len) (guarded boarding index) (λ _. tt) (λ _.
      (ltb-false 15 index i, ltb-false 200 len l)))))

  pub writes : {o : Outcome} {w : ℕ} {t : Target} → o ≡ judge boarding slot index len → w ≡ min 255 (suc n) → t ≡ target_of o index
      → Does (record { pending = pending.Result o not_yet; writes = w; reply = reply.Confirmation; target = t }) len
      (λ body s. write_deed boarding not_yet pending.Nothing s n slot index body)
  writes a b c =
      record {
        same = λ body s e. rw (c, a, b, e, target_slots (judge boarding slot index len) index body s);
        fits = rw (c, a) target_fits;
      }
