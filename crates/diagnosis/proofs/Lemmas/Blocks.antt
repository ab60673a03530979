-- One block more of the blocks that follow a header.
use Rattle.std.specs.Prelude.{◌≡◌, refl, ℕ, zero, suc, ◌+◌, ◌-◌, ◌<◌, length, get_or, drop, Ok, Err}
use Rattle.std.proofs.Common.{sym, ◌∙◌, arith, drop-cons, drop-drop}
use Rattle.std.proofs.Math.Path.{ap}
use mathlib.Core.List.{List, [], ◌∷◌}
use Rattle.std.proofs.Math.Seq.{drop-length}
use Rattle.diagnosis.specs.Block.{found_at, Found}
use Rattle.diagnosis.specs.Reading.{end, bad, more, onward, blocks_in}
use Rattle.diagnosis.proofs.Lemmas.Found.{within_at, found_shift}
use Rattle.diagnosis.specs.declared.block.Extent.{Extent}

-- bytes that still belong to a block are passed over
skipped : (s : List ℕ) (k : ℕ) → blocks_in s k ≡ blocks_in (drop k s) 0
unfolding blocks_in
skipped s zero = refl
skipped [] (suc k) = refl
skipped (x ∷ s) (suc k) = skipped s k

module _ (s : List ℕ) (at : ℕ) (h : at < length s) where
  here : found_at (get_or s at 0 ∷ drop (suc at) s) 0 ≡ found_at s at
  here = ap (λ (l : List ℕ). found_at l 0) (sym (drop-cons s at 0 h)) ∙ found_shift at 0 s ∙ ap (found_at s) (omega arith)

  opened : blocks_in (drop at s) 0 ≡ onward (found_at s at) (λ k. blocks_in (drop (suc at) s) k)
  unfolding blocks_in
  opened =
      ap (λ (l : List ℕ). blocks_in l 0) (drop-cons s at 0 h)
      ∙ ap (λ (f : Found). onward f (λ k. blocks_in (drop (suc at) s) k)) here

  -- a block and then those behind it, or its refusal
  pub blocks_more : {e : Extent} → found_at s at ≡ Ok e → blocks_in (drop at s) 0 ≡ more e (blocks_in (drop (at + e.len) s) 0)
  blocks_more {e} p =
      let w = within_at s at p in
      let z : suc at + (e.len - 1) ≡ at + e.len = omega arith in
      opened
      ∙ ap (λ (f : Found). onward f (λ k. blocks_in (drop (suc at) s) k)) p
      ∙ ap (more e)
      (skipped (drop (suc at) s) (e.len - 1) ∙ ap (λ (l : List ℕ). blocks_in l 0) (drop-drop (e.len - 1) (suc at) s ∙ ap (λ (i : ℕ). drop i s) z))

  pub blocks_bad : {r : ℕ} → found_at s at ≡ Err r → blocks_in (drop at s) 0 ≡ bad r
  blocks_bad p = opened ∙ ap (λ (f : Found). onward f (λ k. blocks_in (drop (suc at) s) k)) p

pub blocks_end : (s : List ℕ) (at : ℕ) → at ≡ length s → blocks_in (drop at s) 0 ≡ end
unfolding blocks_in
blocks_end s at e = rw (e, drop-length s)
