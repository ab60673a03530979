-- The parts of a book: of bytes that were written, and of bytes that are read.
use Rattle.std.specs.Prelude.{◌≡◌, refl, List, [], ◌∷◌, ◌++◌, ℕ, zero, suc, ◌+◌, ◌*◌, ◌≤◌, ◌<◌, length, get_or, drop}
use Rattle.std.proofs.Common.{sym, ap, ◌∙◌, arith, length-append, drop_at, drop-cons}
use Rattle.book.specs.Table.{every_second}
use Rattle.book.specs.Reading.{counted, slots_of, lengths_of, bodies_of}
use Rattle.book.specs.Writing.{pairs_of, book_bytes}

-- ---- every second byte

second_long : (k i : ℕ) (s : List ℕ) → length (every_second k i s) ≡ k
second_long zero i s = refl
second_long (suc k) i s = ap suc (second_long k (suc (suc i)) s)

second_behind : (k i y : ℕ) (s : List ℕ) → every_second k (suc i) (y ∷ s) ≡ every_second k i s
second_behind zero i y s = refl
second_behind (suc k) i y s = ap (λ (l : List ℕ). get_or s i 0 ∷ l) (second_behind k (suc (suc i)) y s)

-- ---- what is written

pub pairs_long : (xs ns : List ℕ) → length ns ≡ length xs → length (pairs_of xs ns) ≡ 2 * length xs
pairs_long [] ns h = refl
pairs_long (x ∷ xs) [] h = absurd (omega arith)
pairs_long (x ∷ xs) (n ∷ ns) h = let e = pairs_long xs ns (omega arith) in omega (arith, e)

slots_first : (xs ns b : List ℕ) → length ns ≡ length xs → every_second (length xs) 0 (pairs_of xs ns ++ b) ≡ xs
slots_first [] ns b h = refl
slots_first (x ∷ xs) [] b h = absurd (omega arith)
slots_first (x ∷ xs) (n ∷ ns) b h =
    let r : List ℕ = pairs_of xs ns ++ b in
    ap (λ (l : List ℕ). x ∷ l) (second_behind (length xs) 1 x (n ∷ r) ∙ second_behind (length xs) 0 n r ∙ slots_first xs ns b (omega arith))

lengths_next : (xs ns b : List ℕ) → length ns ≡ length xs → every_second (length xs) 1 (pairs_of xs ns ++ b) ≡ ns
lengths_next [] [] b h = refl
lengths_next [] (n ∷ ns) b h = absurd (omega arith)
lengths_next (x ∷ xs) [] b h = absurd (omega arith)
lengths_next (x ∷ xs) (n ∷ ns) b h =
    let r : List ℕ = pairs_of xs ns ++ b in
    ap (λ (l : List ℕ). n ∷ l) (second_behind (length xs) 2 x (n ∷ r) ∙ second_behind (length xs) 1 n r ∙ lengths_next xs ns b (omega arith))

module _ (xs ns b : List ℕ) (h : length ns ≡ length xs) where
  pub slots_back : slots_of (book_bytes xs ns b) ≡ xs
  slots_back = second_behind (length xs) 0 (length xs) (pairs_of xs ns ++ b) ∙ slots_first xs ns b h

  pub lengths_back : lengths_of (book_bytes xs ns b) ≡ ns
  lengths_back = second_behind (length xs) 1 (length xs) (pairs_of xs ns ++ b) ∙ lengths_next xs ns b h

  pub bodies_back : bodies_of (book_bytes xs ns b) ≡ b
  bodies_back = drop_at (length xs ∷ pairs_of xs ns) b (1 + 2 * length xs) (omega (arith, pairs_long xs ns h))

  pub book_long : length (book_bytes xs ns b) ≡ 1 + 2 * length xs + length b
  book_long = omega (arith, pairs_long xs ns h, length-append (pairs_of xs ns) b)

-- ---- what is read

pub slots_long : (s : List ℕ) → length (slots_of s) ≡ counted s
slots_long s = second_long (counted s) 1 s

pub lengths_long : (s : List ℕ) → length (lengths_of s) ≡ counted s
lengths_long s = second_long (counted s) 2 s

pairs_again : (k i : ℕ) (s : List ℕ) → i + 2 * k ≤ length s → pairs_of (every_second k i s) (every_second k (suc i) s) ++ drop (i + 2 * k) s ≡ drop i s
pairs_again zero i s h = let e : i + 2 * 0 ≡ i = omega arith in rw e
pairs_again (suc k) i s h =
    let e : i + 2 * suc k ≡ suc (suc i) + 2 * k = omega arith in
    let a : i < length s = omega arith in
    let b : suc i < length s = omega arith in
    rw (e, drop-cons s i 0 a, drop-cons s (suc i) 0 b)
    (ap (λ (l : List ℕ). get_or s i 0 ∷ get_or s (suc i) 0 ∷ l) (pairs_again k (suc (suc i)) s (omega arith)))

-- the count, the table and the bodies are all
pub parts_again : (s : List ℕ) → 1 + 2 * counted s ≤ length s → book_bytes (slots_of s) (lengths_of s) (bodies_of s) ≡ s
parts_again s h =
    let a : 0 < length s = omega arith in
    ap (λ (n : ℕ). n ∷ (pairs_of (slots_of s) (lengths_of s) ++ bodies_of s)) (slots_long s)
    ∙ ap (λ (l : List ℕ). counted s ∷ l) (pairs_again (counted s) 1 s h)
    ∙ sym (drop-cons s 0 0 a)
