-- A write changes one slot, and no other.
use Rattle.std.specs.Prelude.{ℕ, ◌+◌, ◌-◌, ◌*◌, ◌≤◌, ◌<◌, ◌≡◌, List, ◌++◌, length, take, drop}
use Rattle.std.proofs.Common.{sym, ap, ◌∙◌, append_assoc, arith, length-append, length-drop, length-set, take-append-drop, length-take-le, drop_at, drop-drop, take-add, get_or-set_same, get_or-set_other, le-leb}
use Rattle.std.proofs.Math.Decide.{dec_lt}
use Rattle.std.proofs.lemmas.List.{take-append-le, drop-append-le}
use Rattle.std.proofs.Math.Seq.{take-append-add}
use Rattle.octets.specs.Front.{over, held_behind}
use Rattle.octets.proofs.Front.{held_length}
use Rattle.protocol.specs.Slots.{Slots, slot_in, written, filled, Sized}

-- q in l behind the first n bytes
module _ (n : ℕ) (q l : List ℕ) (fits : n + length q ≤ length l) where
  abbrev rest : List ℕ
  rest = drop (n + length q) l

  held : held_behind n q l ≡ (take n l ++ q) ++ rest
  unfolding held_behind
  held = simp (le-leb _ _ fits)

  front_long : length (take n l) ≡ n
  front_long = length-take-le n l (omega arith)

  both_long : length (take n l ++ q) ≡ n + length q
  both_long = rw (length-append, front_long)

  -- bytes that end before it
  pub before_held : (p k : ℕ) → p + k ≤ n → take k (drop p (held_behind n q l)) ≡ take k (drop p l)
  before_held p k h =
      ap (λ (m : List ℕ). take k (drop p m)) (held ∙ append_assoc (take n l) q rest)
      ∙ same (q ++ rest)
      ∙ sym (ap (λ (m : List ℕ). take k (drop p m)) (sym (take-append-drop n l)) ∙ same (drop n l))
    where
      same : (y : List ℕ) → take k (drop p (take n l ++ y)) ≡ take k (drop p (take n l))
      same y =
          ap (take k) (drop-append-le p (take n l) y (omega (arith, front_long)))
          ∙ take-append-le k (drop p (take n l)) y (omega (arith, front_long, length-drop p (take n l)))

  -- bytes behind it
  pub behind_held : (p : ℕ) → n + length q ≤ p → drop p (held_behind n q l) ≡ drop p l
  behind_held p h =
      let d : ℕ = p - (n + length q) in
      let e : p ≡ n + length q + d = omega arith in
      rw (e, ← drop-drop d (n + length q) (held_behind n q l), ← drop-drop d (n + length q) l, held)
      (ap (drop d) (drop_at (take n l ++ q) rest (n + length q) both_long))

  -- and q itself, with what follows it up to k
  pub at_held : (k : ℕ) → length q ≤ k → take k (drop n (held_behind n q l)) ≡ over q (take k (drop n l))
  at_held k h =
      let d : ℕ = k - length q in
      let e : k ≡ length q + d = omega arith in
      let m : List ℕ = drop n l in
      let long : length (take (length q) m) ≡ length q = length-take-le (length q) m (omega (arith, length-drop n l)) in
      ap (λ (y : List ℕ). take k (drop n y)) (held ∙ append_assoc (take n l) q rest)
      ∙ ap (take k) (drop_at (take n l) (q ++ rest) n front_long)
      ∙ rw (e, take-append-add q rest d, ← drop-drop (length q) n l, take-add (length q) d m)
      (ap (λ (y : List ℕ). q ++ y) (sym (drop_at (take (length q) m) (take d (drop (length q) m)) (length q) long)))

-- ---- slots

module _ (s : Slots) (z : Sized s) (i : ℕ) (body : List ℕ) (slot : i ≤ 15) (short : length body ≤ 200) where
  fits : 200 * i + length body ≤ length s.bodies
  fits = omega (arith, z.bodies)

  pub written_sized : Sized (written i body s)
  written_sized =
      record { lengths = length-set s.lengths i (length body) ∙ z.lengths; bodies = held_length (200 * i) body s.bodies fits ∙ z.bodies }

  pub slot_written : slot_in (written i body s) i ≡ filled body (slot_in s i)
  slot_written =
      rw (get_or-set_same s.lengths i (length body) 0 (omega (arith, z.lengths)), at_held (200 * i) body s.bodies fits 200 short)

  pub slot_kept : (j : ℕ) → (j ≡ i → ⊥) → slot_in (written i body s) j ≡ slot_in s j
  slot_kept j ne = rw (get_or-set_other s.lengths i j (length body) 0 ne, bytes (dec_lt j i))
    where
      bytes : Dec (j < i) → take 200 (drop (200 * j) (held_behind (200 * i) body s.bodies)) ≡ take 200 (drop (200 * j) s.bodies)
      bytes (yes h) = before_held (200 * i) body s.bodies fits (200 * j) 200 (omega arith)
      bytes (no h) =
          let past : i < j = omega (arith, ne) in
          ap (take 200) (behind_held (200 * i) body s.bodies fits (200 * j) (omega arith))
