-- What is read may be written, and gives the same bytes again: what calls and answers share of that.
use Rattle.std.specs.Prelude.{ℕ, ◌+◌, ◌-◌, ◌≤◌, ◌≡◌, Bool, not, List, [], ◌∷◌, ◌++◌, get_or, take, eqb, ltb}
use Rattle.std.proofs.Common.{sym, ap, ap₂, ◌∙◌, arith}
use Rattle.std.proofs.Math.ListN.{length}
use borrow.Author.Tests.{ltb-false, eqb-true, eqb-false}
use Rattle.octets.specs.Choice.{pick}
use Rattle.octets.proofs.Choice.{by_pick}
use Rattle.octets.proofs.Elements.{part_elements}
use Rattle.octets.specs.Part.{part_of}
use Rattle.octets.specs.Front.{Verdict, fine}
use Rattle.octets.specs.Fixed.{judged}
use Rattle.octets.proofs.Fixed.{by_verdict, part_long, part_tiles}
use Rattle.acyclic.specs.Numbers.{idle_number}
use Rattle.acyclic.specs.Forms.{counted_of, counted_as_of, four, by_number, where_allowed}
use Rattle.acyclic.proofs.Lemmas.Forms.{counted_as}

-- of fields c that were read from s with len bytes from start
abbrev pub Again : {C : Type 0} → (fixed : C → ℕ → List ℕ) (verdict : C → ℕ → Verdict) (s : List ℕ) → C → (start len : ℕ) → Type 0
Again fixed verdict s c start len =
    (verdict c (length (part_of s start len)) ≡ fine) × (fixed c (length (part_of s start len)) ++ part_of s start len ≡ s) × (start + len ≡ length s)

-- data that reach to the end are as many as their length says
pub part_count : (s : List ℕ) (start len : ℕ) → start + len ≡ length s → length (part_of s start len) ≡ len
part_count s start len e =
    let m : len ≡ length s - start = omega arith in
    let fits : start ≤ length s = omega arith in
    ap (λ (k : ℕ). length (part_of s start k)) m ∙ omega (arith, part_long start s fits)

-- What is to hold of a reading of s, in one of the two ways.
pub record Way {C A : Type 0} (fixed : C → ℕ → List ℕ) (verdict : C → ℕ → Verdict) (refuse : ℕ → A) (accept : C → (start len : ℕ) → A) (s : List ℕ) : Type 1 where
  pub Holds : A → Type 0
  pub of_refusals : (k : ℕ) → Holds (refuse k)
  pub of_accepted : (c : C) (start len : ℕ) → Again fixed verdict s c start len → Holds (accept c start len)

module _ {C A : Type 0} {fixed : C → ℕ → List ℕ} {verdict : C → ℕ → Verdict} {refuse : ℕ → A} {accept : C → (start len : ℕ) → A} {s : List ℕ}
    (w : Way fixed verdict refuse accept s) where
  -- it is enough that k fixed bytes are those in front of s
  front_again : (k : ℕ) → k ≤ length s → (c : C) (v : Verdict) → (v ≡ fine → (verdict c (length s - k) ≡ fine) × (fixed c (length s - k) ≡ take k s))
      → w.Holds (judged refuse v (accept c k (length s - k)))
  front_again k fits c v h =
      by_verdict w.Holds v w.of_refusals
      (λ good.
      let e : length (part_of s k (length s - k)) ≡ length s - k = part_count s k (length s - k) (omega arith) in
      w.of_accepted c k (length s - k) (ap (verdict c) e ∙ (h good).0, part_tiles k s fits (ap (fixed c) e ∙ (h good).1), omega arith))

  -- a number alone
  pub idle_again : 1 ≤ length s → {n : ℕ} → get_or s 0 0 ≡ n → (c : C) → fixed c (length s - 1) ≡ n ∷ []
      → w.Holds (judged refuse (verdict c (length s - 1)) (accept c 1 (length s - 1)))
  idle_again h e c f =
      front_again 1 h c (verdict c (length s - 1)) (λ good. (good, f ∙ ap (λ (n : ℕ). n ∷ []) (sym e) ∙ sym (part_elements 1 0 s h)))

  module _ (long : 4 ≤ length s) {n : ℕ} (c : C) (other : A) where
    in_front : {l : ℕ} → get_or s 0 0 ≡ n → get_or s 3 0 ≡ l → four n (get_or s 1 0) (get_or s 2 0) l ≡ take 4 s
    in_front e f =
        ap₂ (λ (m l : ℕ). four m (get_or s 1 0) (get_or s 2 0) l) (sym e) (sym f) ∙ sym (part_elements 4 0 s long)

    -- four fixed bytes that are all fields
    pub plain_again : fixed c (length s - 4) ≡ four n (get_or s 1 0) (get_or s 2 0) (get_or s 3 0) → w.Holds other
        → w.Holds (pick (eqb (get_or s 0 0) n) (judged refuse (verdict c (length s - 4)) (accept c 4 (length s - 4))) other)
    plain_again f rest =
        by_pick w.Holds (eqb (get_or s 0 0) n)
        (λ t. front_again 4 long c (verdict c (length s - 4)) (λ good. (good, f ∙ in_front (eqb-true _ _ t) (cc))))
        (λ _. rest)

    -- four fixed bytes, the last of them the count
    pub counted_again : (least : ℕ) → verdict c (length s - 4) ≡ counted_of least (length s - 4)
        → fixed c (length s - 4) ≡ four n (get_or s 1 0) (get_or s 2 0) (length s - 4) → w.Holds other
        → w.Holds (pick (eqb (get_or s 0 0) n) (judged refuse (counted_as_of (get_or s 3 0) least (length s - 4)) (accept c 4 (length s - 4))) other)
    counted_again least v f rest =
        by_pick w.Holds (eqb (get_or s 0 0) n)
        (λ t. front_again 4 long c (counted_as_of (get_or s 3 0) least (length s - 4))
        (λ good.
        let p = counted_as (get_or s 3 0) least (length s - 4) good in
        (v ∙ p.1, f ∙ in_front (eqb-true _ _ t) (sym p.0))))
        (λ _. rest)

  -- what holds of each outcome holds of the reading
  pub by_reading :
      (none : A) (allowed : ℕ → Bool) (idle : ℕ → A) (four_bytes : (n a b l count : ℕ) → A) →
      (length s ≡ 0 → w.Holds none) →
      (1 ≤ length s → get_or s 0 0 ≡ idle_number → w.Holds (idle (length s - 1))) →
      (4 ≤ length s → w.Holds (four_bytes (get_or s 0 0) (get_or s 1 0) (get_or s 2 0) (get_or s 3 0) (length s - 4))) →
      w.Holds (where_allowed refuse none allowed (by_number refuse idle four_bytes s) s)
  unfolding by_number where_allowed
  by_reading none allowed idle four_bytes p q r =
      by_pick w.Holds (eqb (length s) 0) (λ t. p (eqb-true _ _ t))
      (λ t. by_pick w.Holds (not (allowed (get_or s 0 0))) (λ _. w.of_refusals 28)
      (λ _. by_pick w.Holds (eqb (get_or s 0 0) idle_number) (λ e. let z : length s ≡ 0 → ⊥ = eqb-false _ _ t in q (omega arith) (eqb-true _ _ e))
      (λ _. by_pick w.Holds (ltb (length s) 4) (λ _. w.of_refusals 20) (λ l. r (ltb-false _ _ l)))))
