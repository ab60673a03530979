-- All modules of a configuration: written and read back, read and written again.
use Rattle.std.specs.Prelude.{◌≡◌, true, length, drop, Ok, Err}
use Rattle.std.proofs.Math.Path.{refl, sym, ap, ap₂}
use Rattle.std.proofs.Common.{◌∙◌, arith, zero-add}
use mathlib.Core.List.{List, [], ◌++◌}
use Prim.Native.Nat.{ℕ, zero, suc, ◌+◌, ◌-◌, ◌≤◌}
use Rattle.std.proofs.Math.Seq.{drop-append_seam, drop-length}
use Rattle.octets.proofs.Choice.{never}
use Rattle.octets.specs.Bytes.{Bytes}
use Rattle.octets.specs.Part.{part_of}
use Rattle.octets.specs.Front.{Verdict, fine, fault}
use Rattle.octets.proofs.Fixed.{fault_fine}
use Rattle.configuration.specs.Walk.{Walk, end, bad, more, next_of, walk_of, Step}
use Rattle.configuration.specs.Writing.{module_verdict, module_bytes}
use Rattle.configuration.specs.Contents.{ends_well, walk_bytes, and_then, walk_verdict, Whole}
use Rattle.configuration.proofs.Lemmas.Steps.{stands, ends, breaks}
use Rattle.configuration.proofs.Lemmas.One.{back, again}
use Rattle.configuration.specs.declared.walk.Step.TheVariants as step

-- two verdicts that are fine together are fine
both_fine : (a b : Verdict) → and_then a b ≡ fine → (a ≡ fine) × (b ≡ fine)
both_fine fine b e = (refl, e)
both_fine (fault k) b e = absurd (fault_fine e)

pub all_back : (w : Walk) → walk_verdict w ≡ fine → walk_of (walk_bytes w) 0 ≡ w
unfolding walk_of
all_back end e = refl
all_back (bad r) e = absurd (fault_fine e)
all_back (more m vendor w) e =
    let f = both_fine (module_verdict m vendor) (walk_verdict w) e in
    let t : List ℕ = module_bytes m vendor in
    let b = back m vendor [] (walk_bytes w) f.0 in
    let next : 0 + length t ≡ length t = zero-add (length t) in
    (stands (t ++ walk_bytes w) 0 b.fields).walk
    ∙ ap₂ (more m) b.part
    (ap (λ (k : ℕ). walk_of (drop k (t ++ walk_bytes w)) 0) next
    ∙ ap (λ (l : List ℕ). walk_of l 0) (drop-append_seam t (walk_bytes w))
    ∙ all_back w f.1)

module _ (s : List ℕ) (bytes : Bytes s) where
  Goes : (at : ℕ) → Type 0
  Goes at = at ≤ length s → ends_well (walk_of (drop at s) 0) ≡ true → Whole (drop at s)

  ended : (at : ℕ) → at ≡ length s → Whole (drop at s)
  unfolding walk_of
  ended at e = rw (e, drop-length s) (record { taken = refl; same = refl })

  by_step : (f at : ℕ) → ((k : ℕ) → length s - k ≤ f → Goes k) → length s - at ≤ suc f → at ≤ length s → (x : Step) → next_of s at ≡ x → ends_well (walk_of (drop at s) 0) ≡ true
      → Whole (drop at s)
  unfolding Goes
  by_step f at go room h (Ok (step.Module m start len next)) e w =
      let k = stands s at e in
      let a = again s bytes at e in
      let v = go next.at (omega (arith, k.further)) k.inside (sym (ap ends_well k.walk) ∙ w) in
      record {
        taken = ap walk_verdict k.walk ∙ ap₂ and_then a.taken v.taken;
        same = ap walk_bytes k.walk ∙ ap (λ (l : List ℕ). module_bytes m (part_of s start len) ++ l) v.same ∙ sym a.same;
      }
  by_step f at go room h (Ok step.End) e w = ended at (ends s at e).0
  by_step f at go room h (Err r) e w = absurd (never (sym (ap ends_well (breaks s at e h)) ∙ w))

  goes : (f at : ℕ) → length s - at ≤ f → Goes at
  unfolding Goes
  goes zero at room h w = ended at (omega arith)
  goes (suc f) at room h w = by_step f at (goes f) room h (next_of s at) refl w

pub all_again : (s : List ℕ) → Bytes s → ends_well (walk_of s 0) ≡ true → Whole s
unfolding Goes
all_again s bytes w = goes s bytes (length s) 0 (omega arith) (omega arith) w
