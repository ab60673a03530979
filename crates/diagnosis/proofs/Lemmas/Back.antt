-- What one block writer stores is found, and says what was written.
use Rattle.std.specs.Prelude.{◌≡◌, Bool, true, not, List, ◌++◌, ℕ, ◌+◌, ◌-◌, ◌*◌, ◌/◌, ◌%◌, ◌≤◌, eqb, ltb, leb, Ok}
use Rattle.std.proofs.Common.{sym, ap, ◌∙◌}
use native.Mathlib.Omega.{arith}
use Rattle.std.proofs.Math.ListN.{length, length-append}
use Rattle.std.proofs.Math.Seq.{drop-append_seam}
use borrow.Author.Tests.{le-ltb, ltb-false, ne_eqb, eqb-false, leb-true, not-false}
use Rattle.octets.proofs.Choice.{by_pick, and_left, and_right}
use Rattle.octets.specs.Front.{Verdict, fine}
use Rattle.octets.proofs.Fixed.{fault_fine}
use Rattle.diagnosis.specs.Block.{kind_number, extent, good_code, sized_of, channel_of, found_by, found_at}
use Rattle.diagnosis.specs.Walk.{fields_of}
use Rattle.diagnosis.specs.Writing.{head_of, sized_bytes, sized_verdict, device_bytes, module_bytes, fits, channel_bytes, channel_verdict}
use Rattle.diagnosis.proofs.Lemmas.Found.{found_shift}
use Rattle.diagnosis.specs.declared.block.Kind.{Kind}
use Rattle.diagnosis.specs.declared.block.Kind.TheVariants.{Device, Module}
use Rattle.diagnosis.specs.declared.block.Kind.TheVariants as kind
use Rattle.diagnosis.specs.declared.walk.Channel.{Channel}

-- ---- which fields may be written

pub record Sizes (s : List ℕ) : Type 0 where
  pub low : 1 ≤ length s
  pub high : length s ≤ 62

pub sizes : (s : List ℕ) → sized_verdict s ≡ fine → Sizes s
unfolding sized_verdict
sizes s =
    by_pick (λ v. v ≡ fine → Sizes s) (ltb (length s + 1) 2) (λ _ q. absurd (fault_fine q))
    (λ a. by_pick (λ v. v ≡ fine → Sizes s) (ltb 63 (length s + 1)) (λ _ q. absurd (fault_fine q))
    (λ b _. record { low = omega (arith, ltb-false (length s + 1) 2 a); high = omega (arith, ltb-false 63 (length s + 1) b) }))

pub record Fields (c : Channel) : Type 0 where
  pub head : c.«module» ≤ 63
  pub direction : c.direction ≤ 3
  pub number : c.channel ≤ 63
  pub some : c.direction ≡ 0 → ⊥
  pub kind : c.kind ≤ 7
  pub error : c.error ≤ 31
  pub codes : good_code c.kind c.error ≡ true

pub fields : (c : Channel) → channel_verdict c ≡ fine → Fields c
unfolding channel_verdict
fields c =
    let second : Bool = leb c.channel 63 in
    let third : Bool = leb c.error 31 in
    by_pick P (ltb 63 c.«module») (λ _ q. absurd (fault_fine q))
    (λ a. by_pick P (not (fits c.direction 3 c.channel 63)) (λ _ q. absurd (fault_fine q))
    (λ b. by_pick P (eqb c.direction 0) (λ _ q. absurd (fault_fine q))
    (λ d. by_pick P (not (fits c.kind 7 c.error 31)) (λ _ q. absurd (fault_fine q))
    (λ e. by_pick P (not (good_code c.kind c.error)) (λ _ q. absurd (fault_fine q))
    (λ g _. record {
      head = ltb-false 63 c.«module» a;
      direction = leb-true c.direction 3 (and_left (leb c.direction 3) second (not-false _ b));
      number = leb-true c.channel 63 (and_right (leb c.direction 3) second (not-false _ b));
      some = eqb-false c.direction 0 d;
      kind = leb-true c.kind 7 (and_left (leb c.kind 7) third (not-false _ e));
      error = leb-true c.error 31 (and_right (leb c.kind 7) third (not-false _ e));
      codes = not-false _ g;
    })))))
  where
    P : Verdict → Type 0
    P v = v ≡ fine → Fields c

-- ---- what stands behind other bytes

-- a block behind other bytes is the block that it is by itself
pub found_behind : (a s : List ℕ) → found_at (a ++ s) (length a) ≡ found_at s 0
found_behind a s =
    let z : length a + 0 ≡ length a = omega arith in
    ap (found_at (a ++ s)) (sym z) ∙ sym (found_shift (length a) 0 (a ++ s)) ∙ ap (λ (l : List ℕ). found_at l 0) (drop-append_seam a s)

module _ (s rest : List ℕ) (g : Sizes s) where
  -- a block with its length in its header
  sized : (k : Kind) → sized_of k (head_of k (length s + 1)) (length (sized_bytes k s ++ rest) - 0) ≡ Ok (extent k (length s + 1))
  unfolding sized_of
  sized k =
      let n : head_of k (length s + 1) % 64 ≡ length s + 1 = omega arith in
      let low : 2 ≤ length s + 1 = omega arith in
      let whole : length s + 1 ≤ length (sized_bytes k s ++ rest) - 0 = omega (arith, length-append s rest) in
      simp (n, le-ltb _ _ low, le-ltb _ _ whole)

  pub found_device : found_at (device_bytes s ++ rest) 0 ≡ Ok (extent Device (length s + 1))
  unfolding found_by
  found_device =
      let head : head_of Device (length s + 1) / 64 ≡ kind_number Device = omega arith in
      simp head (sized Device)

  pub found_module : found_at (module_bytes s ++ rest) 0 ≡ Ok (extent Module (length s + 1))
  unfolding found_by
  found_module =
      let head : head_of Module (length s + 1) / 64 ≡ kind_number Module = omega arith in
      simp head (sized Module)

module _ (c : Channel) (f : Fields c) where
  -- a channel block's bytes have its fields
  direction_back : (c.direction * 64 + c.channel) / 64 ≡ c.direction
  direction_back = omega arith

  kind_back : (c.kind * 32 + c.error) / 32 ≡ c.kind
  kind_back = omega arith

  error_back : (c.kind * 32 + c.error) % 32 ≡ c.error
  error_back = omega arith

  pub fields_back : fields_of (head_of kind.Channel c.«module») (c.direction * 64 + c.channel) (c.kind * 32 + c.error) ≡ c
  fields_back =
      let m : head_of kind.Channel c.«module» % 64 ≡ c.«module» = omega arith in
      let n : (c.direction * 64 + c.channel) % 64 ≡ c.channel = omega arith in
      rw (m, direction_back, n, kind_back, error_back)

  pub found_channel : (rest : List ℕ) → found_at (channel_bytes c ++ rest) 0 ≡ Ok (extent kind.Channel 3)
  unfolding found_by channel_of
  found_channel rest =
      let head : head_of kind.Channel c.«module» / 64 ≡ kind_number kind.Channel = omega arith in
      let whole : 3 ≤ length (channel_bytes c ++ rest) - 0 = omega arith in
      simp (head, le-ltb _ _ whole, direction_back, ne_eqb _ _ f.some, kind_back, error_back, f.codes)
