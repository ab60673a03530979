-- The pairs of a table, as chunks of two bytes behind the count.
use Rattle.std.specs.Prelude.{◌≡◌, refl, List, [], ℕ, zero, suc, ◌+◌, ◌-◌, ◌*◌, ◌/◌, ◌≤◌, ◌<◌, length, get_or, take, drop}
use Rattle.std.proofs.Common.{ap, ◌∙◌, arith, drop-drop, length-drop}
use Rattle.std.proofs.lemmas.List.{get_or-take, get_or-drop}
use Rattle.std.proofs.lemmas.Simd.{get_or-chunk}
use Rattle.std.proofs.Math.Seq.{length-take-le}
use Rattle.std.specs.Simd.{first_chunks}

-- the k-th chunk
chunk_at : (n k : ℕ) (s : List ℕ) → k < n → get_or (first_chunks 2 n s) k [] ≡ take 2 (drop (2 * k) s)
chunk_at zero k s h = absurd (omega arith)
chunk_at (suc n) zero s h = refl
chunk_at (suc n) (suc k) s h =
    let e : 2 + 2 * k ≡ 2 * suc k = omega arith in
    chunk_at n k (drop 2 s) (omega arith) ∙ ap (take 2) (drop-drop (2 * k) 2 s ∙ ap (λ (i : ℕ). drop i s) e)

-- n pairs are the bytes of s behind the count
pub record PairsOf (n : ℕ) (s : List ℕ) (pairs : List (List ℕ)) : Type 0 where
  pub count : length pairs ≡ n
  pub slot : (k : ℕ) → k < n → get_or (get_or pairs k []) 0 0 ≡ get_or s (1 + 2 * k) 0
  pub len : (k : ℕ) → k < n → get_or (get_or pairs k []) 1 0 ≡ get_or s (2 + 2 * k) 0

module _ (n : ℕ) (s : List ℕ) (h : 1 + 2 * n ≤ length s) where
  abbrev table : List ℕ
  table = take (1 + 2 * n - 1) (drop 1 s)

  long : length table ≡ 2 * n
  long = omega (arith, length-take-le (1 + 2 * n - 1) (drop 1 s) (omega (arith, length-drop 1 s)))

  byte_at : (k j : ℕ) → k < n → j < 2 → get_or (get_or (first_chunks 2 (length table / 2) table) k []) j 0 ≡ get_or s (1 + (2 * k + j)) 0
  byte_at k j g i =
      let all : k < length table / 2 = omega (arith, long) in
      ap (λ (l : List ℕ). get_or l j 0) (chunk_at (length table / 2) k table all)
      ∙ get_or-chunk (2 * k) 2 table j 0 i
      ∙ get_or-take (1 + 2 * n - 1) (drop 1 s) (2 * k + j) 0 (omega arith)
      ∙ get_or-drop 1 s (2 * k + j) 0

  pub table_pairs : (pairs : List (List ℕ)) → pairs ≡ first_chunks 2 (length table / 2) table → length pairs ≡ length table / 2 → PairsOf n s pairs
  table_pairs pairs e l =
      record {
        count = omega (arith, long);
        slot = λ k g. let z : 1 + (2 * k + 0) ≡ 1 + 2 * k = omega arith in rw e (byte_at k 0 g (omega arith) ∙ ap (λ (i : ℕ). get_or s i 0) z);
        len = λ k g. let z : 1 + (2 * k + 1) ≡ 2 + 2 * k = omega arith in rw e (byte_at k 1 g (omega arith) ∙ ap (λ (i : ℕ). get_or s i 0) z);
      }
