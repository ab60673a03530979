-- Data that were written to their place in a telegram, and the telegram that was made around them.
use Prim.Native.Nat.{ℕ, ◌+◌, ◌-◌, ◌≤◌, ◌<◌}
use Rattle.std.specs.Prelude.{◌≡◌, true, leb, Ok, Err}
use Rattle.std.proofs.Math.Path.{refl, ap}
use Rattle.std.proofs.Common.{sym, ◌∙◌, add-zero, take-append-drop, le-leb}
use mathlib.Core.List.{List, [], ◌∷◌, append-nil}
use native.Mathlib.Omega.{arith}
use Rattle.std.proofs.Math.ListN.{length}
use borrow.Rule.Slice.PartMut.{mid_of, put_mid}
use Rattle.std.proofs.lemmas.Bool.{lt-leb}
use Rattle.octets.proofs.Choice.{by_pick}
use Rattle.octets.specs.Front.{Verdict, fine, fault, AtFront, over, answer_by, held_by, held_behind, Written}
use Rattle.octets.proofs.Front.{held_length, lent_length, all_behind, covered, stored, too_small}
use Rattle.fdl.specs.Around.{user_in, good_fields}
use Rattle.fdl.specs.Writing as telegram
use Rattle.fdl.proofs.Lemmas.Around.{Fit, fit, user_held}
use Rattle.fdl.specs.declared.telegram.Format.{Format}
use Rattle.fdl.specs.declared.telegram.Header.{Header}
use Rattle.service.specs.Writing.{no_room}

-- ---- a writer that was lent the slice l from n on

abbrev lent_of : (n : ℕ) (l : List ℕ) → List ℕ
lent_of n l = mid_of n (length l - n) l

abbrev back_in : (n : ℕ) (l m : List ℕ) → List ℕ
back_in n l m = put_mid n (length l - n) l m

-- what was lent comes back as it was
kept : (n : ℕ) (l : List ℕ) → n ≤ length l → back_in n l (lent_of n l) ≡ l
unfolding held_behind
kept n l h =
    let none : AtFront [] (lent_of n l) (lent_of n l) 0 = record { counted = refl; bytes = refl } in
    let fits : n + 0 ≤ length l = omega arith in
    (all_behind n l fits none).1 ∙ simp (le-leb _ _ fits) (rw (append-nil, add-zero) (take-append-drop n l))

-- a slice of no bytes holds none
none_held : (d l : List ℕ) → length l ≡ 0 → held_by fine d l ≡ l
unfolding held_by
none_held [] l e = by_pick (λ (x : List ℕ). x ≡ l) (leb 0 (length l)) (λ _. refl) (λ _. refl)
none_held (x ∷ d) l e = let no : length l < length (x ∷ d) = omega arith in simp (lt-leb _ _ no)

-- ---- answers of the data's writer

refused_stored : {k n : ℕ} → Err k ≡ Ok n → ⊥
refused_stored e = let z : ◌≡◌ {A = ℕ} 0 1 = cc in omega arith

abbrev count_in : Written → ℕ
count_in (Ok n) = n
count_in (Err k) = 0

no_room_fine : (d : List ℕ) (room : ℕ) → no_room (answer_by fine d room) ≡ Err 11
unfolding answer_by
no_room_fine d room = by_pick (λ (w : Written). no_room w ≡ Err 11) (leb (length d) room) (λ _. refl) (λ _. refl)

all_fits : (d l : List ℕ) → length d ≤ length l → (answer_by fine d (length l) ≡ Ok (length d)) × (held_by fine d l ≡ over d l)
unfolding answer_by held_by
all_fits d l h = (simp (le-leb _ _ h), simp (le-leb _ _ h))

-- ---- the outcomes

module _ (f : Format) (h : Header) (d out : List ℕ) (v : Verdict) where
  abbrev whole : List ℕ
  whole = telegram.telegram_of f h d

  abbrev Outcome : Written → (after : List ℕ) → Type 0
  Outcome r after = (r ≡ answer_by v whole (length out)) × (after ≡ held_by v whole out)

-- data that are refused leave everything as it was
module _ (f : Format) (h : Header) (d out : List ℕ) where
  refused_data : (k n : ℕ) {m : List ℕ} → n ≤ length out → m ≡ held_by (fault k) d (lent_of n out) → Outcome f h d out (fault k) (Err k) (back_in n out m)
  unfolding answer_by held_by
  refused_data k n i e = (refl, ap (back_in n out) e ∙ kept n out i)

  -- no room: the writer of the data was lent none either
  pub without_room : (v : Verdict) {r : Written} {m : List ℕ} → good_fields f h (length d) ≡ true → length out < telegram.user_start f h + length d + 2
      → r ≡ answer_by v d (length (lent_of (length out) out)) → m ≡ held_by v d (lent_of (length out) out)
      → Outcome f h d out v (no_room r) (back_in (length out) out m)
  unfolding answer_by
  without_room fine {r} g small a b =
      let total : length (telegram.telegram_of f h d) ≡ telegram.user_start f h + length d + 2 = (fit f h d refl g).total in
      let lost = too_small (telegram.telegram_of f h d) out (omega arith) in
      let none : length (lent_of (length out) out) ≡ 0 = lent_length (length out) out ∙ omega arith in
      let same : back_in (length out) out (lent_of (length out) out) ≡ out = kept (length out) out (omega arith) in (
        ap no_room a ∙ no_room_fine d (length (lent_of (length out) out)) ∙ lost.0,
        ap (back_in (length out) out) (b ∙ none_held d (lent_of (length out) out) none) ∙ same ∙ lost.1,
      )
  without_room (fault k) g small a b = rw a (refused_data k (length out) (omega arith) b)

-- the data's writer was lent the slice from the place of the data on
module _ (f : Format) (h : Header) (d out : List ℕ) (start : ℕ) (place : start ≡ telegram.user_start f h) where
  -- there is room for the data where there is for the telegram
  lent_fits : start + length d + 2 ≤ length out → length d ≤ length (lent_of (start) out)
  lent_fits room = omega (arith, lent_length start out)

  stored_all : start + length d + 2 ≤ length out →
      let l = lent_of (start) out in
      (answer_by fine d (length l) ≡ Ok (length d)) × (held_by fine d l ≡ over d l)
  stored_all room = all_fits d (lent_of (start) out) (lent_fits room)

  -- room, and the data refused
  pub data_refused : (v : Verdict) {k : ℕ} {m : List ℕ} → start + length d + 2 ≤ length out
      → Err k ≡ answer_by v d (length (lent_of (start) out)) → m ≡ held_by v d (lent_of (start) out)
      → Outcome f h d out v (Err k) (back_in (start) out m)
  unfolding answer_by
  data_refused fine room a b = absurd (refused_stored (a ∙ (stored_all room).0))
  data_refused (fault j) room a b = rw a (refused_data f h d out j start (omega arith) b)

  -- room, and the data stored: the telegram is made around them
  pub data_stored : (v : Verdict) {n : ℕ} {m after : List ℕ} {r : Written} → good_fields f h (length d) ≡ true → start + length d + 2 ≤ length out
      → Ok n ≡ answer_by v d (length (lent_of (start) out)) → m ≡ held_by v d (lent_of (start) out)
      → let placed = back_in (start) out m in
      r ≡ answer_by (telegram.verdict_of f h (user_in f h n placed)) (telegram.telegram_of f h (user_in f h n placed)) (length placed)
      → after ≡ held_by (telegram.verdict_of f h (user_in f h n placed)) (telegram.telegram_of f h (user_in f h n placed)) placed
      → Outcome f h d out v r after
  unfolding answer_by
  data_stored fine {n} {m} {after} {r} g room a b c e =
      let whole : List ℕ = telegram.telegram_of f h d in
      let placed : List ℕ = back_in start out m in
      let count : n ≡ length d = ap count_in (a ∙ (stored_all room).0) in
      let data_front : AtFront d (lent_of start out) m (length d) = record { counted = refl; bytes = b ∙ (stored_all room).1 } in
      let fits : start + length d ≤ length out = omega arith in
      let held : placed ≡ held_behind start d out = (all_behind start out fits data_front).1 in
      let user : user_in f h (length d) placed ≡ d = user_held f h start d out place fits held in
      let good : Fit f h d (length d) = fit f h d refl g in
      let long : length placed ≡ length out = ap length held ∙ held_length start d out fits in
      let whole_fits : length whole ≤ length placed = omega (arith, good.total, place) in
      let t = all_fits whole placed whole_fits in
      let answered : r ≡ answer_by fine whole (length placed) = rw (count, user, good.verdict) at c in
      let bytes : after ≡ held_by fine whole placed = rw (count, user, good.verdict) at e in
      let front : AtFront whole placed after (length whole) = record { counted = refl; bytes = bytes ∙ t.1 } in
      let last = stored (omega (arith, good.total, place)) (covered start d out fits (omega (arith, good.total, place)) held front) in
      (answered ∙ t.0 ∙ last.0, last.1)
  data_stored (fault k) g room a b c e = absurd (refused_stored (sym a))

  -- and so by a function that was given room for them
  pub data_placed : {n : ℕ} {m after : List ℕ} {r : Written} → good_fields f h (length d) ≡ true → start + length d + 2 ≤ length out
      → AtFront d (lent_of start out) m n
      → let placed = back_in start out m in
      r ≡ answer_by (telegram.verdict_of f h (user_in f h n placed)) (telegram.telegram_of f h (user_in f h n placed)) (length placed)
      → after ≡ held_by (telegram.verdict_of f h (user_in f h n placed)) (telegram.telegram_of f h (user_in f h n placed)) placed
      → Outcome f h d out fine r after
  data_placed g room front c e = let s = stored (lent_fits room) front in data_stored fine g room s.0 s.1 c e
