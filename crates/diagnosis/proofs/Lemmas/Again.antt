-- A block that was found, written again from its fields and part, is taken and gives the same bytes.
use Rattle.std.specs.Prelude.{◌≡◌, List, ◌∷◌, ℕ, suc, ◌+◌, ◌-◌, ◌*◌, ◌/◌, ◌%◌, ◌≤◌, ◌<◌, take, drop}
use Rattle.std.proofs.Common.{sym, ap, ap₂, ◌∙◌, div-add-mod', add-one, length-drop, drop-cons, length-take-le}
use native.Mathlib.Omega.{arith}
use Rattle.std.proofs.Math.ListN.{length, get_or}
use borrow.Author.Tests.{le-ltb, le-leb, ne_eqb}
use Rattle.octets.specs.Bytes.{Bytes}
use Rattle.octets.proofs.Elements.{part_elements}
use Rattle.octets.specs.Front.{fine}
use Rattle.octets.specs.Part.{part_of}
use Rattle.diagnosis.specs.Block.{kind_number}
use Rattle.diagnosis.specs.Walk.{fields_of, behind}
use Rattle.diagnosis.specs.Writing.{head_of, sized_bytes, sized_verdict, channel_bytes, channel_verdict}
use Rattle.diagnosis.proofs.Lemmas.Found.{Within, Coded}
use Rattle.diagnosis.specs.declared.block.Kind.{Kind}
use Rattle.diagnosis.specs.declared.block.Kind.TheVariants as kind
use Rattle.diagnosis.specs.declared.walk.Channel.{Channel}

-- a block's bytes reach to the next position
reach : (s : List ℕ) (at len : ℕ) → take len (drop at s) ≡ take (at + len - at) (drop at s)
reach s at len =
    let e : len ≡ at + len - at = omega arith in
    ap (λ (n : ℕ). take n (drop at s)) e

-- ---- a block with its length in its header

module _ (s : List ℕ) (at len : ℕ) (w : Within (length s - at) len) where
  part : part_of s (at + 1) (len - 1) ≡ behind s at len
  unfolding part_of
  part =
      let inside : at + 1 + (len - 1) ≤ length s = omega arith in
      simp (le-leb _ _ inside)

  part_length : length (part_of s (at + 1) (len - 1)) ≡ len - 1
  part_length =
      let room : len - 1 ≤ length (drop (at + 1) s) = rw length-drop (omega arith) in
      ap length part ∙ length-take-le (len - 1) (drop (at + 1) s) room

  pub sized_taken : sized_verdict (part_of s (at + 1) (len - 1)) ≡ fine
  unfolding sized_verdict
  sized_taken =
      let low : 2 ≤ len - 1 + 1 = omega arith in
      let high : len - 1 + 1 ≤ 63 = omega arith in
      rw part_length (simp (le-ltb _ _ low, le-ltb _ _ high))

  pub sized_same : (k : Kind) → head_of k len ≡ get_or s at 0 → sized_bytes k (part_of s (at + 1) (len - 1)) ≡ take (at + len - at) (drop at s)
  sized_same k e =
      let head : head_of k (length (part_of s (at + 1) (len - 1)) + 1) ≡ get_or s at 0 = omega (arith, part_length) in
      let here : at < length s = omega arith in
      let one : len ≡ suc (len - 1) = omega arith in
      let next : at + 1 ≡ suc at = add-one at in
      ap₂ (λ (x : ℕ) (l : List ℕ). x ∷ l) head (part ∙ ap (λ (i : ℕ). take (len - 1) (drop i s)) next)
      ∙ ap (take (suc (len - 1))) (sym (drop-cons s at 0 here))
      ∙ ap (λ (n : ℕ). take n (drop at s)) (sym one)
      ∙ reach s at len

-- ---- a channel block

module _ (s : List ℕ) (b : Bytes s) (at : ℕ) (k : Coded (get_or s (at + 1) 0) (get_or s (at + 2) 0) (length s - at)) where
  abbrev pub fields_at : Channel
  fields_at = fields_of (get_or s at 0) (get_or s (at + 1) 0) (get_or s (at + 2) 0)

  pub channel_taken : channel_verdict fields_at ≡ fine
  unfolding channel_verdict
  channel_taken =
      let first : get_or s at 0 % 64 ≤ 63 = omega arith in
      let direction : get_or s (at + 1) 0 / 64 ≤ 3 = omega (arith, b (at + 1)) in
      let number : get_or s (at + 1) 0 % 64 ≤ 63 = omega arith in
      let type : get_or s (at + 2) 0 / 32 ≤ 7 = omega (arith, b (at + 2)) in
      let error : get_or s (at + 2) 0 % 32 ≤ 31 = omega arith in
      simp
      (le-ltb _ _ first, le-leb _ _ direction, le-leb _ _ number, ne_eqb _ _ k.direction, le-leb _ _ type, le-leb _ _ error, k.codes)

  pub channel_same : get_or s at 0 / 64 ≡ kind_number kind.Channel → channel_bytes fields_at ≡ take (at + 3 - at) (drop at s)
  channel_same e =
      let first : head_of kind.Channel (get_or s at 0 % 64) ≡ get_or s at 0 = omega arith in
      let second : get_or s (at + 1) 0 / 64 * 64 + get_or s (at + 1) 0 % 64 ≡ get_or s (suc at) 0 =
      div-add-mod' (get_or s (at + 1) 0) 64 ∙ ap (λ (i : ℕ). get_or s i 0) (add-one at) in
      let third : get_or s (at + 2) 0 / 32 * 32 + get_or s (at + 2) 0 % 32 ≡ get_or s (suc (suc at)) 0 =
      div-add-mod' (get_or s (at + 2) 0) 32 ∙ ap (λ (i : ℕ). get_or s i 0) (omega arith) in
      let whole : at + 3 ≤ length s = omega (arith, k.whole) in
      rw (first, second, third) (sym (part_elements 3 at s whole) ∙ reach s at 3)
