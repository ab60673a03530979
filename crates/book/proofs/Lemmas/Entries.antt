-- Templates, and the slots, lengths and bodies that they stand in.
use Rattle.std.specs.Prelude.{◌≡◌, refl, List, [], ◌∷◌, ◌++◌, ℕ, zero, suc, ◌+◌, ◌≤◌, ◌<◌, length, get_or, take, drop}
use Rattle.std.proofs.Common.{ap, ap₂, ◌∙◌, arith, add-one, length-drop, length-append, take-append-drop, length-take-le, drop-drop}
use Rattle.std.proofs.Math.Seq.{take-append_seam, drop-append_seam}
use Rattle.book.specs.Table.{sum_of}
use Rattle.book.specs.Contents.{Entry, templates_by, InOrder, slots_in, lengths_in, bodies_in, stretch_of}
use Rattle.book.proofs.Lemmas.Good.{Good, none, one}

-- ---- the templates of a good table

none_left : (l : List ℕ) → length l ≡ 0 → [] ≡ l
none_left [] e = refl
none_left (x ∷ l) e = absurd (omega arith)

pub by_count : {m : ℕ} {xs ns : List ℕ} (b : List ℕ) → Good m xs ns → length (templates_by xs ns b) ≡ length xs
by_count b none = refl
by_count b (one {n = n} p g) = ap suc (by_count (drop n b) g)

pub by_slots : {m : ℕ} {xs ns : List ℕ} (b : List ℕ) → Good m xs ns → slots_in (templates_by xs ns b) ≡ xs
by_slots b none = refl
by_slots b (one {x = x} {n = n} p g) = ap (λ (l : List ℕ). x ∷ l) (by_slots (drop n b) g)

pub by_lengths : {m : ℕ} {xs ns : List ℕ} (b : List ℕ) → Good m xs ns → sum_of ns ≤ length b → lengths_in (templates_by xs ns b) ≡ ns
by_lengths b none h = refl
by_lengths b (one {n = n} p g) h =
    ap₂ (λ (k : ℕ) (l : List ℕ). k ∷ l) (length-take-le n b (omega arith)) (by_lengths (drop n b) g (omega (arith, length-drop n b)))

pub by_bodies : {m : ℕ} {xs ns : List ℕ} (b : List ℕ) → Good m xs ns → length b ≡ sum_of ns → bodies_in (templates_by xs ns b) ≡ b
by_bodies b none h = none_left b h
by_bodies b (one {n = n} p g) h =
    ap (λ (l : List ℕ). take n b ++ l) (by_bodies (drop n b) g (omega (arith, length-drop n b))) ∙ take-append-drop n b

pub by_order : {m : ℕ} {xs ns : List ℕ} (b : List ℕ) → Good m xs ns → sum_of ns ≤ length b → InOrder m (templates_by xs ns b)
by_order b none h = tt
by_order b (one {x = x} {n = n} p g) h =
    let long : length (take n b) ≡ n = length-take-le n b (omega arith) in
    let rest = by_order (drop n b) g (omega (arith, length-drop n b)) in
    (p.rises, p.slot, omega (arith, p.some), omega (arith, p.most), rw (add-one x) at rest)

-- ---- the slots, lengths and bodies of templates in order

pub in_order : (m : ℕ) (ts : List Entry) → InOrder m ts → Good m (slots_in ts) (lengths_in ts)
in_order m [] o = none
in_order m (t ∷ ts) o =
    let rest : Good (t.slot + 1) (slots_in ts) (lengths_in ts) = rw (add-one t.slot) (in_order (suc t.slot) ts o.4) in
    one (record { rises = o.0; slot = o.1; some = o.2; most = o.3 }) rest

pub in_count : (ts : List Entry) → length (slots_in ts) ≡ length ts
in_count [] = refl
in_count (t ∷ ts) = ap suc (in_count ts)

pub in_sum : (ts : List Entry) → length (bodies_in ts) ≡ sum_of (lengths_in ts)
in_sum [] = refl
in_sum (t ∷ ts) = let e = in_sum ts in omega (arith, e, length-append t.body (bodies_in ts))

pub in_templates : (ts : List Entry) → templates_by (slots_in ts) (lengths_in ts) (bodies_in ts) ≡ ts
in_templates [] = refl
in_templates (t ∷ ts) =
    rw (take-append_seam t.body (bodies_in ts), drop-append_seam t.body (bodies_in ts)) (ap (λ (l : List Entry). t ∷ l) (in_templates ts))

-- ---- one of them

-- a part of a sum
pub sum_front : (l : List ℕ) (i : ℕ) → sum_of (take i l) + get_or l i 0 ≤ sum_of l
sum_front [] zero = omega arith
sum_front [] (suc i) = omega arith
sum_front (x ∷ l) zero = omega arith
sum_front (x ∷ l) (suc i) = omega (arith, sum_front l i)

-- what stands at i: the slot and the stretch of the bodies behind those before it
pub by_index : {m : ℕ} {xs ns : List ℕ} (b : List ℕ) (d : Entry) (i : ℕ) → Good m xs ns → i < length xs
    → get_or (templates_by xs ns b) i d ≡ record { slot = get_or xs i 0; body = stretch_of ns b i }
by_index b d i none h = absurd (omega arith)
by_index b d zero (one p g) h = refl
by_index b d (suc i) (one {n = n} {xs = xs} {ns = ns} p g) h =
    by_index (drop n b) d i g (omega arith)
    ∙ ap (λ (l : List ℕ). record { slot = get_or xs i 0; body = take (get_or ns i 0) l }) (drop-drop (sum_of (take i ns)) n b)
