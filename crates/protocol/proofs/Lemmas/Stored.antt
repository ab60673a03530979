-- Which templates the printer has in the end, and what the slots then hold.
use Rattle.std.specs.Prelude.{ℕ, zero, suc, ◌≤◌, ◌≡◌, Bool, false, not, get_or}
use Rattle.std.proofs.Common.{arith, sym, ap, ◌∙◌}
use Rattle.std.proofs.Math.Path.{refl}
use Rattle.std.proofs.Math.Bool.{true}
use mathlib.Core.List.{List, [], ◌∷◌}
use Rattle.octets.specs.Choice.{pick, ◌and◌}
use Rattle.fdl.specs.Writing.{confirmation_bytes}
use Rattle.book.specs.Contents.{Entry, InOrder}
use Rattle.protocol.specs.Line.{Passage, Sending, Damage}
use Rattle.protocol.specs.Slots.{Slots, Slot, slot_in, written, Sized, filled}
use Rattle.protocol.specs.Telegrams.{write_bytes}
use Rattle.protocol.specs.Words.{any_of, heard, write_in, guarded, FramingRefuses}
use Rattle.protocol.specs.Course.{meets, one_arrives, unless, course}
use Rattle.protocol.specs.Demand.{At}
use Rattle.protocol.proofs.Lemmas.Read.{write_names}
use Rattle.protocol.proofs.Lemmas.Groups.{exchange_all}
use Rattle.protocol.proofs.Lemmas.Slots.{written_sized, slot_written, slot_kept}
use Rattle.protocol.proofs.Lemmas.Ours.{heard_arrives}
use Rattle.protocol.proofs.Lemmas.Follows.{fill_all, answered_arrived}
use Rattle.protocol.proofs.Lemmas.Means.{by_ways, wrote, onward_damage}
use Rattle.protocol.specs.declared.controller.Settings.{Settings}

-- ---- in the words: those whose write was heard and not refused

module _ (a : ℕ) (boarding : Bool) where
  abbrev pub is_stored : List (List Sending) → Entry → Bool
  is_stored rs t = any_of (heard a) (write_in rs) and not (guarded boarding t.slot)

  abbrev pub stored_in : List (List (List Sending)) → List Entry → List Entry
  stored_in [] ts = []
  stored_in (rs ∷ gs) [] = []
  stored_in (rs ∷ gs) (t ∷ ts) = pick (is_stored rs t) (t ∷ stored_in gs ts) (stored_in gs ts)

module _ (c : Settings) (boarding : Bool) (not_yet : List ℕ) (to : c.printer ≤ 126) (from : c.controller ≤ 126) (some : 1 ≤ c.polls) where
  -- The course stores just these.
  pub stored_are : (i m : ℕ) (b : Bool) (ts : List Entry) (l : List Passage) → InOrder m ts → Damage FramingRefuses l
      → (course c boarding not_yet i b ts l).stored ≡ stored_in c.printer boarding (course c boarding not_yet i b ts l).requests ts
  unfolding course
  stored_are i m b [] l order d = refl
  stored_are i m b (t ∷ ts) l order d =
      by_ways c boarding not_yet i b t ts l (λ x. x.stored ≡ stored_in c.printer boarding x.requests (t ∷ ts))
      (record {
        unanswered = λ e. rw was (by (one_arrives (wrote c boarding not_yet i b t ts l)) (guarded boarding t.slot));
        unpolled = λ e p. rw (was, arrived e) (by true (guarded boarding t.slot));
        unready = λ e p. rw (was, arrived e) (by true (guarded boarding t.slot));
        refused = λ e b' l' p g. rw (was, arrived e, g);
        well = λ e b' l' p g.
            rw (was, arrived e, g) (ap (λ (x : List Entry). t ∷ x) (stored_are (suc i) (suc t.slot) b' ts l' order.4 (onward_damage c boarding not_yet to from some i b t ts l d b' l' p)));
      })
    where
      was : any_of (heard c.printer) (wrote c boarding not_yet i b t ts l) ≡ one_arrives (wrote c boarding not_yet i b t ts l)
      was =
          heard_arrives c.printer (write_bytes c.printer c.controller b t.slot t.body)
          (write_names c.printer c.controller to from b t.slot t.body order.2 order.3) (wrote c boarding not_yet i b t ts l)
          (exchange_all c.repeats (write_bytes c.printer c.controller b t.slot t.body) confirmation_bytes l)

      arrived : meets c.repeats l ≡ true → one_arrives (wrote c boarding not_yet i b t ts l) ≡ true
      arrived e = answered_arrived c.repeats (write_bytes c.printer c.controller b t.slot t.body) confirmation_bytes l e

      by : (o g : Bool) → pick o (unless g t) [] ≡ pick (o and not g) (t ∷ []) []
      by true true = refl
      by true false = refl
      by false g = refl

-- ---- the slots

pub above_at : (m : ℕ) (ts : List Entry) (i : ℕ) (t : Entry) → InOrder m ts → At ts i t → m ≤ t.slot
above_at m [] i t h k = absurd k
above_at m (u ∷ ts) zero t h k = rw (← k) h.0
above_at m (u ∷ ts) (suc i) t h k = let r = above_at (suc u.slot) ts i t h.4 k in omega (arith, h.0)

module _ (a : ℕ) (boarding : Bool) where
  -- a slot that no template names is as before
  pub unnamed : (gs : List (List (List Sending))) (m : ℕ) (ts : List Entry) (ss : Slots) (s : ℕ) → InOrder m ts → Sized ss
      → ((i : ℕ) (t : Entry) → At ts i t → t.slot ≡ s → ⊥) → slot_in (fill_all (stored_in a boarding gs ts) ss) s ≡ slot_in ss s
  unnamed [] m ts ss s h z n = refl
  unnamed (rs ∷ gs) m [] ss s h z n = refl
  unnamed (rs ∷ gs) m (t ∷ ts) ss s h z n = by (is_stored a boarding rs t) (λ x y. unnamed gs (suc t.slot) ts x s h.4 y (λ i u k. n (suc i) u k))
    where
      by : (b : Bool) → ((x : Slots) → Sized x → slot_in (fill_all (stored_in a boarding gs ts) x) s ≡ slot_in x s)
          → slot_in (fill_all (pick b (t ∷ stored_in a boarding gs ts) (stored_in a boarding gs ts)) ss) s ≡ slot_in ss s
      by true rest =
          rest (written t.slot t.body ss) (written_sized ss z t.slot t.body h.1 h.3)
          ∙ slot_kept ss z t.slot t.body h.1 h.3 s (λ e. n 0 t refl (sym e))
      by false rest = rest ss z

  -- that of a template is new where it was stored, and else as before
  pub named : (gs : List (List (List Sending))) (m : ℕ) (ts : List Entry) (ss : Slots) (i : ℕ) (t : Entry) → InOrder m ts → Sized ss → At ts i t
      → slot_in (fill_all (stored_in a boarding gs ts) ss) t.slot ≡ pick (is_stored a boarding (get_or gs i []) t) (filled t.body (slot_in ss t.slot)) (slot_in ss t.slot)
  named gs m [] ss i t h z k = absurd k
  named [] m (u ∷ ts) ss i t h z k = refl
  named (rs ∷ gs) m (u ∷ ts) ss zero t h z k = rw (← k) (by (is_stored a boarding rs u))
    where
      later : (x : Slots) → Sized x → slot_in (fill_all (stored_in a boarding gs ts) x) u.slot ≡ slot_in x u.slot
      later x y = unnamed gs (suc u.slot) ts x u.slot h.4 y (λ i v p e. let q = above_at (suc u.slot) ts i v h.4 p in omega arith)

      by : (b : Bool) → slot_in (fill_all (pick b (u ∷ stored_in a boarding gs ts) (stored_in a boarding gs ts)) ss) u.slot
          ≡ pick b (filled u.body (slot_in ss u.slot)) (slot_in ss u.slot)
      by true = later (written u.slot u.body ss) (written_sized ss z u.slot u.body h.1 h.3) ∙ slot_written ss z u.slot u.body h.1 h.3
      by false = later ss z
  named (rs ∷ gs) m (u ∷ ts) ss (suc i) t h z k = by (is_stored a boarding rs u) (λ x y. named gs (suc u.slot) ts x i t h.4 y k)
    where
      other : slot_in (written u.slot u.body ss) t.slot ≡ slot_in ss t.slot
      other = slot_kept ss z u.slot u.body h.1 h.3 t.slot (λ e. let q = above_at (suc u.slot) ts i t h.4 k in omega arith)

      by : (b : Bool)
          → ((x : Slots) → Sized x → slot_in (fill_all (stored_in a boarding gs ts) x) t.slot ≡ pick (is_stored a boarding (get_or gs i []) t) (filled t.body (slot_in x t.slot)) (slot_in x t.slot))
          → slot_in (fill_all (pick b (u ∷ stored_in a boarding gs ts) (stored_in a boarding gs ts)) ss) t.slot
          ≡ pick (is_stored a boarding (get_or gs i []) t) (filled t.body (slot_in ss t.slot)) (slot_in ss t.slot)
      by true rest =
          rest (written u.slot u.body ss) (written_sized ss z u.slot u.body h.1 h.3)
          ∙ ap (λ (x : Slot). pick (is_stored a boarding (get_or gs i []) t) (filled t.body x) x) other
      by false rest = rest ss z
