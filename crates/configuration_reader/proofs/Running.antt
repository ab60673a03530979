-- The running offsets of one side, while they are stored: those of what is left, stored from the n-th on, make the whole.
use mathlib.Core.Path.{◌≡◌, refl, sym, ap, ◌∙◌}
use mathlib.Core.List.{List, [], ◌∷◌}
use Prim.Native.Nat.{ℕ, ◌+◌, ◌*◌, ◌≤◌}
use native.Mathlib.Omega.{arith}
use native.Mathlib.Numerals.{add-one}
use lib.ListN.{length, drop, set, length-set}
use lib.Seq.{sets}
use Rattle.configuration.specs.Walk.{walk_of}
use Rattle.configuration.specs.Reading.{offsets_by}
use Rattle.configuration.specs.Contents.{Stands}
use Rattle.configuration.specs.declared.fields.Module.{Module}

module _ (side : Module → ℕ) (s before : List ℕ) where
  abbrev pub all : List ℕ
  all = offsets_by side 0 (walk_of s 0)

  abbrev pub left : (at a : ℕ) → List ℕ
  left at a = offsets_by side a (walk_of (drop at s) 0)

  -- n offsets are stored, as far as there is room; the modules from `at` on are left, and those before have a bytes
  pub record Running (now : List ℕ) (at n a : ℕ) : Type 0 where
    pub small : a ≤ 128 * n
    pub long : length now ≡ length before
    pub same : sets now n (left at a) ≡ sets before 0 all

  pub begins : Running before 0 0 0
  begins = record { small = omega arith; long = refl; same = refl }

  module _ {now : List ℕ} {at n a : ℕ} (r : Running now at n a) where
    -- at a module: its offset is the first of what is left
    module _ {m : Module} {start len next : ℕ} (h : Stands s at m start len next) where
      opened : left at a ≡ a ∷ left next (a + side m)
      unfolding offsets_by
      opened = ap (offsets_by side a) h.walk

      pub goes :
          {later : List ℕ} {b : ℕ} → side m ≤ 128 → later ≡ set now n a → b ≡ side m → Running later next (n + 1) (a + b)
      goes k e f =
          rw (e, f)
          (record {
            small = omega (arith, r.small);
            long = length-set now n a ∙ r.long;
            same =
                ap (λ (j : ℕ). sets (set now n a) j (left next (a + side m))) (add-one n)
                ∙ ap (sets now n) (sym opened)
                ∙ r.same;
          })

    -- where nothing is left, all are stored
    pub done : left at a ≡ [] → now ≡ sets before 0 all
    done e = sym (ap (sets now n) e) ∙ r.same
