-- What is known of a block that was found: one case for each kind.
use Rattle.std.specs.Prelude.{◌≡◌, refl, true, not, List, ℕ, ◌+◌, ◌-◌, ◌/◌, ◌%◌, ◌≤◌, length, get_or, drop, eqb, ltb, Ok, Err}
use Rattle.std.proofs.Common.{ap, ◌∙◌, subst, arith, length-drop, get_or-drop}
use borrow.Author.Tests.{ltb-false, eqb-true, eqb-false, not-false}
use Rattle.octets.proofs.Choice.{by_pick}
use Rattle.diagnosis.specs.Block.{kind_number, extent, good_code, sized_of, channel_of, found_by, found_at, Found}
use Rattle.diagnosis.specs.declared.block.Kind.{Kind}
use Rattle.diagnosis.specs.declared.block.Kind.TheVariants.{Device, Module, Channel}
use Rattle.diagnosis.specs.declared.block.Extent.{Extent}

-- a length that the header has
pub record Sized (head left : ℕ) : Type 0 where
  pub low : 2 ≤ head % 64
  pub whole : head % 64 ≤ left

-- three bytes with codes that are not reserved
pub record Coded (second third left : ℕ) : Type 0 where
  pub whole : 3 ≤ left
  pub direction : second / 64 ≡ 0 → ⊥
  pub codes : good_code (third / 32) (third % 32) ≡ true

pub data Finds (head second third left : ℕ) : Found → Type 0 where
  device : head / 64 ≡ kind_number Device → Sized head left → Finds head second third left (Ok (extent Device (head % 64)))
  modules : head / 64 ≡ kind_number Module → Sized head left → Finds head second third left (Ok (extent Module (head % 64)))
  channel : head / 64 ≡ kind_number Channel → Coded second third left → Finds head second third left (Ok (extent Channel 3))
  refusal : {r : ℕ} → Finds head second third left (Err r)

module _ (head second third left : ℕ) where
  F : Found → Type 0
  F = Finds head second third left

  by_size : (kind : Kind) → (Sized head left → F (Ok (extent kind (head % 64)))) → F (sized_of kind head left)
  unfolding F sized_of
  by_size kind f =
      by_pick F (ltb (head % 64) 2) (λ _. refusal)
      (λ a. by_pick F (ltb left (head % 64)) (λ _. refusal)
      (λ b. f (record { low = ltb-false (head % 64) 2 a; whole = ltb-false left (head % 64) b })))

  by_codes : head / 64 ≡ kind_number Channel → F (channel_of second third left)
  unfolding F channel_of
  by_codes e =
      by_pick F (ltb left 3) (λ _. refusal)
      (λ a. by_pick F (eqb (second / 64) 0) (λ _. refusal)
      (λ b. by_pick F (not (good_code (third / 32) (third % 32))) (λ _. refusal)
      (λ c. channel e (record { whole = ltb-false left 3 a; direction = eqb-false (second / 64) 0 b; codes = not-false _ c }))))

  pub finds : Finds head second third left (found_by head second third left)
  unfolding F found_by
  finds =
      by_pick F (eqb (head / 64) (kind_number Device)) (λ e. by_size Device (device (eqb-true _ _ e)))
      (λ _. by_pick F (eqb (head / 64) (kind_number Module)) (λ e. by_size Module (modules (eqb-true _ _ e)))
      (λ _. by_pick F (eqb (head / 64) (kind_number Channel)) (λ e. by_codes (eqb-true _ _ e)) (λ _. refusal)))

-- a block has 2 to 63 bytes, and all of them are there
pub record Within (left len : ℕ) : Type 0 where
  pub low : 2 ≤ len
  pub high : len ≤ 63
  pub whole : len ≤ left

pub within : {head second third left : ℕ} {e : Extent} → Finds head second third left (Ok e) → Within left e.len
within (device _ s) = record { low = s.low; high = omega arith; whole = s.whole }
within (modules _ s) = record { low = s.low; high = omega arith; whole = s.whole }
within (channel _ k) = record { low = omega arith; high = omega arith; whole = k.whole }

-- and a channel block has three
three : {head second third left : ℕ} {e : Extent} → Finds head second third left (Ok e) → e.kind ≡ Channel → e.len ≡ 3
three (device _ s) k = cc
three (modules _ s) k = cc
three (channel _ _) k = refl

-- its kind is its header's
pub kind_of_lem : {head second third left : ℕ} {e : Extent} → Finds head second third left (Ok e) → head / 64 ≡ kind_number e.kind
kind_of_lem (device z _) = z
kind_of_lem (modules z _) = z
kind_of_lem (channel z _) = z

-- of the block at a place
abbrev pub FindsAt : List ℕ → (at : ℕ) → Found → Type 0
FindsAt s at = Finds (get_or s at 0) (get_or s (at + 1) 0) (get_or s (at + 2) 0) (length s - at)

pub found_at_lem : (s : List ℕ) (at : ℕ) {f : Found} → found_at s at ≡ f → FindsAt s at f
found_at_lem s at e = subst (FindsAt s at) e (finds _ _ _ _)

pub within_at : (s : List ℕ) (at : ℕ) {e : Extent} → found_at s at ≡ Ok e → Within (length s - at) e.len
within_at s at e = within (found_at_lem s at e)

pub three_at : (s : List ℕ) (at : ℕ) {e : Extent} → found_at s at ≡ Ok e → e.kind ≡ Channel → e.len ≡ 3
three_at s at e = three (found_at_lem s at e)

-- the same block, seen from another start
pub found_shift : (a b : ℕ) (s : List ℕ) → found_at (drop a s) b ≡ found_at s (a + b)
found_shift a b s =
    let e0 : get_or (drop a s) b 0 ≡ get_or s (a + b) 0 = get_or-drop a s b 0 in
    let e1 : get_or (drop a s) (b + 1) 0 ≡ get_or s (a + b + 1) 0 = get_or-drop a s (b + 1) 0 ∙ ap (λ (i : ℕ). get_or s i 0) (omega arith) in
    let e2 : get_or (drop a s) (b + 2) 0 ≡ get_or s (a + b + 2) 0 = get_or-drop a s (b + 2) 0 ∙ ap (λ (i : ℕ). get_or s i 0) (omega arith) in
    let e3 : length (drop a s) - b ≡ length s - (a + b) = rw length-drop (omega arith) in
    cc
