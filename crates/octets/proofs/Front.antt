-- Storing at the front of a lent slice, and what every writer answers.
use Rattle.std.specs.Prelude.{ℕ, ◌+◌, ◌-◌, ◌≤◌, ◌<◌, ◌≡◌, refl, List, ◌++◌, take, Ok, Err}
use Rattle.std.proofs.Common.{sym, ap, ◌∙◌, append_assoc, append-nil, length-append, length-drop, take-append-drop, length-take-le, drop_at, drop-drop, arith, zero-add}
use Rattle.std.proofs.Math.Path.{subst}
use Rattle.std.proofs.Math.Bool.{true}
use Rattle.std.proofs.Math.ListN.{length, drop}
use Rattle.std.proofs.lemmas.List.Edits.{sets, sets-eq}
use Rattle.std.proofs.Math.Seq.{take-append_seam, drop-append_seam, take-length, drop-length}
use Rattle.std.proofs.Math.Dec.{leb}
use borrow.Rule.Slice.PartMut.{mid_of, put_mid}
use borrow.Author.Tests.{le-leb, lt-leb}
use Rattle.octets.specs.Front.{count_of, front_of, count_behind, held_behind, AtFront, fine, fault, answer_by, held_by}

-- ---- laws
-- what does not fit, and what fits
pub none_stored : (p l : List ℕ) → length l < length p → (0 ≡ count_of p l) × (l ≡ front_of p l)
unfolding count_of front_of
none_stored p l h = (simp (lt-leb _ _ h), simp (lt-leb _ _ h))

pub all_stored : {p l after : List ℕ} {count : ℕ} → length p ≤ length l → AtFront p l after count → (count ≡ count_of p l) × (after ≡ front_of p l)
unfolding count_of front_of
all_stored h f = (simp (le-leb _ _ h) f.counted, simp (le-leb _ _ h) f.bytes)

pub none_behind : (n : ℕ) (q l : List ℕ) → length l < n + length q → (0 ≡ count_behind n q l) × (l ≡ held_behind n q l)
unfolding count_behind held_behind
none_behind n q l h = (simp (lt-leb _ _ h), simp (lt-leb _ _ h))

-- q stored behind the first n bytes leaves l as long as it was
pub held_length : (n : ℕ) (q l : List ℕ) → n + length q ≤ length l → length (held_behind n q l) ≡ length l
unfolding held_behind
held_length n q l h = simp (le-leb _ _ h, length-append, length-take-le n l (omega arith), length-drop) (omega arith)

-- stores one after the other from the front
pub stores : (p l : List ℕ) → length p ≤ length l → AtFront p l (sets l 0 p) (length p)
stores p l h =
    record { counted = refl; bytes = sets-eq p l 0 (omega arith) ∙ ap (λ (n : ℕ). p ++ drop n l) (zero-add (length p)) }

-- copies all of p to the front
pub copied : (p l : List ℕ) {after : List ℕ} {count : ℕ} → count ≡ length p → after ≡ take (length p) p ++ drop (length p) l → AtFront p l after count
copied p l c b = record { counted = c; bytes = b ∙ ap (λ (x : List ℕ). x ++ drop (length p) l) (take-length p) }

-- what fits is stored
pub at_front : {p l after : List ℕ} {count : ℕ} → count ≡ count_of p l → after ≡ front_of p l → length p ≤ length l → AtFront p l after count
unfolding count_of front_of
at_front {p} {l} c b h =
    record { counted = simp (le-leb _ _ h) at c; bytes = simp (le-leb _ _ h) at b }

-- the outcomes of a writer
pub too_small : (t l : List ℕ) → length l < length t → (Err 11 ≡ answer_by fine t (length l)) × (l ≡ held_by fine t l)
unfolding answer_by held_by
too_small t l h = (simp (lt-leb _ _ h), simp (lt-leb _ _ h))

pub stored : {t l after : List ℕ} {count : ℕ} → length t ≤ length l → AtFront t l after count
    → (Ok count ≡ answer_by fine t (length l)) × (after ≡ held_by fine t l)
unfolding answer_by held_by
stored h f = (simp (le-leb _ _ h) (ap Ok f.counted), simp (le-leb _ _ h) f.bytes)

-- a bad field stores nothing
pub refused : (k : ℕ) (t l : List ℕ) → (Err k ≡ answer_by (fault k) t (length l)) × (l ≡ held_by (fault k) t l)
unfolding answer_by held_by
refused k t l = (refl, refl)

-- ---- two stores, q behind p
-- a writer that has no room for both
pub both_too_small : (p q l : List ℕ) → length l < length p + length q → (Err 11 ≡ answer_by fine (p ++ q) (length l)) × (l ≡ held_by fine (p ++ q) l)
both_too_small p q l h = too_small (p ++ q) l (omega (arith, length-append p q))

-- p fits where both fit
pub first_fits : (p q : List ℕ) {room : ℕ} → length (p ++ q) ≤ room → length p ≤ room
first_fits p q h = omega (arith, length-append p q)

-- what is lent of l from n on
lent : (n : ℕ) (l : List ℕ) → mid_of n (length l - n) l ≡ drop n l
lent n l = rw (← length-drop n l) (take-length (drop n l))

-- how much that is
pub lent_length : (n : ℕ) (l : List ℕ) → length (mid_of n (length l - n) l) ≡ length l - n
lent_length n l = ap length (lent n l) ∙ length-drop n l

-- and what l holds when that comes back as m
back : (n : ℕ) (l m : List ℕ) → put_mid n (length l - n) l m ≡ take n l ++ m
back n l m = rw (← length-drop n l, drop-length (drop n l), append-nil)

module _ {p l a : List ℕ} {n : ℕ} (f : AtFront p l a n) where
  -- p stands before n
  pub front : take n a ≡ p
  front = rw (f.counted, f.bytes) (take-append_seam p (drop (length p) l))

  -- from n on the slice is unchanged
  rest : drop n a ≡ drop (length p) l
  rest = rw (f.counted, f.bytes) (drop-append_seam p (drop (length p) l))

  -- q fits behind p where both fit
  pub within : (q : List ℕ) → length (p ++ q) ≤ length l → n + length q ≤ length a
  within q h = rw (f.counted, f.bytes) (simp (length-append, length-drop) (omega (arith, length-append p q)))

  -- so q fits in what is lent from n on
  pub rest_fits : (q : List ℕ) → length (p ++ q) ≤ length l → length q ≤ length (mid_of n (length a - n) a)
  rest_fits q h = omega (arith, lent_length n a, within q h)

  -- q stored right behind p
  pub behind : (q : List ℕ) {after : List ℕ} → after ≡ p ++ q ++ drop (n + length q) a → AtFront (p ++ q) l after (n + length q)
  behind q e =
      record {
        counted = rw f.counted (sym (length-append p q));
        bytes = e ∙ rw (← drop-drop (length q) n a, rest, length-append, drop-drop);
      }

  -- q stored by a function that was lent what is left from n on
  pub both : {q m : List ℕ} {count : ℕ} → AtFront q (mid_of n (length a - n) a) m count
      → AtFront (p ++ q) l (put_mid n (length a - n) a m) (n + count)
  both {q} {m} g = rw g.counted (behind q (back n a m ∙ rw (g.bytes, front, lent n a, drop-drop, append_assoc)))

  -- q stored by `store_behind`
  pub both_stored : (q : List ℕ) {after : List ℕ} {count : ℕ} → count ≡ count_behind n q a → after ≡ held_behind n q a
      → length (p ++ q) ≤ length l → AtFront (p ++ q) l after count
  unfolding count_behind held_behind
  both_stored q {after} c b h =
      let fits : leb (n + length q) (length a) ≡ true = le-leb _ _ (within q h) in
      let e : after ≡ p ++ q ++ drop (n + length q) a = rw (← front) (simp fits at b) in
      subst (AtFront (p ++ q) l after) (sym (simp fits at c)) (behind q e)

  -- and by a writer that answers so
  pub both_written : (q : List ℕ) {after : List ℕ} {count : ℕ} → count ≡ count_behind n q a → after ≡ held_behind n q a
      → length p + length q ≤ length l → (Ok count ≡ answer_by fine (p ++ q) (length l)) × (after ≡ held_by fine (p ++ q) l)
  both_written q c b h =
      let room : length (p ++ q) ≤ length l = omega (arith, length-append p q) in
      stored room (both_stored q c b room)

  -- what is lent from n on is still l's
  pub lent_rest : mid_of n (length a - n) a ≡ drop (length p) l
  lent_rest = lent n a ∙ rest

  -- the k bytes behind p that stand as they were in l, counted with p
  pub kept : (k : ℕ) → length p + k ≤ length l → AtFront (p ++ take k (drop (length p) l)) l a (n + k)
  kept k h =
      let r : List ℕ = drop (length p) l in
      let q : List ℕ = take k r in
      let size : length q ≡ k = length-take-le k r (omega (arith, length-drop (length p) l)) in
      let same : p ++ r ≡ p ++ q ++ drop (n + length q) a = rw (size, ← drop-drop k n a, rest, append_assoc, take-append-drop k r) in
      subst (AtFront (p ++ q) l a) (ap (λ (j : ℕ). n + j) size) (behind q (f.bytes ∙ same))

-- all of q stored behind the first n bytes
pub all_behind : (n : ℕ) (l : List ℕ) {q m : List ℕ} {count : ℕ} → n + length q ≤ length l → AtFront q (mid_of n (length l - n) l) m count
    → (n + count ≡ count_behind n q l) × (put_mid n (length l - n) l m ≡ held_behind n q l)
unfolding count_behind held_behind
all_behind n l {q} {m} h g = (
  simp (le-leb _ _ h) (ap (λ (k : ℕ). n + k) g.counted),
  simp (le-leb _ _ h) (back n l m ∙ rw (g.bytes, lent n l, drop-drop, append_assoc)),
)

-- past q nothing changed
past : (k : ℕ) (q l : List ℕ) → k ≤ length l → drop (k + length q) (take k l ++ q ++ drop (k + length q) l) ≡ drop (k + length q) l
past k q l h =
    let size : length (take k l) ≡ k = length-take-le k l h in
    drop_at (take k l ++ q) (drop (k + length q) l) (k + length q) (rw (length-append, size))

-- p stored over a slice in which q was stored before, all of it within p
pub covered : (k : ℕ) (q l : List ℕ) {p m after : List ℕ} {count : ℕ} → k + length q ≤ length l → k + length q ≤ length p
    → m ≡ held_behind k q l → AtFront p m after count → AtFront p l after count
unfolding held_behind
covered k q l {p} {m} h w e f =
    let i : ℕ = k + length q in
    let j : ℕ = length p - i in
    let split : length p ≡ i + j = omega arith in
    let held : m ≡ take k l ++ q ++ drop i l = simp (le-leb _ _ h) at e in
    let same : drop i m ≡ drop i l = ap (drop i) held ∙ past k q l (omega arith) in
    let rest : drop (length p) m ≡ drop (length p) l = rw (split, ← drop-drop j i m, ← drop-drop j i l, same) in
    record { counted = f.counted; bytes = f.bytes ∙ ap (λ (r : List ℕ). p ++ r) rest }
