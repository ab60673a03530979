-- What is known of a header and blocks that are not refused, from the judgment and back to it.
use Rattle.std.specs.Prelude.{◌≡◌, refl, true, not, List, ℕ, ◌≤◌, length, ltb, Ok, Err}
use Rattle.std.proofs.Common.{ap, ◌∙◌}
use borrow.Author.Tests.{le-ltb, ltb-false, not-false}
use Rattle.octets.proofs.Choice.{by_pick}
use Rattle.diagnosis.specs.Reading.{good_status1, good_status2, good_status3, good_master, ext_diag_agrees, count_of, agreed, judge, Count}
use Rattle.diagnosis.specs.declared.reading.Header.{Header}

pub record Good (h : Header) (blocks : List ℕ) (n : ℕ) : Type 0 where
  pub short : length blocks ≤ 238
  pub status1 : good_status1 h.status1 ≡ true
  pub status2 : good_status2 h.status2 ≡ true
  pub status3 : good_status3 h.status3 ≡ true
  pub master : good_master h.master ≡ true
  pub count : count_of blocks ≡ Ok n
  pub agrees : ext_diag_agrees h.status1 n ≡ true

pub data Judges (h : Header) (blocks : List ℕ) : Count → Type 0 where
  good : {n : ℕ} → Good h blocks n → Judges h blocks (Ok n)
  refusal : {r : ℕ} → Judges h blocks (Err r)

module _ (h : Header) (blocks : List ℕ) where
  J : Count → Type 0
  J = Judges h blocks

  by_count : ((n : ℕ) → count_of blocks ≡ Ok n → ext_diag_agrees h.status1 n ≡ true → Good h blocks n)
      → (c : Count) → count_of blocks ≡ c → J (agreed h.status1 c)
  unfolding J
  by_count f (Ok n) e = by_pick J (ext_diag_agrees h.status1 n) (λ a. good (f n e a)) (λ _. refusal)
  by_count f (Err r) e = refusal

  pub judges : Judges h blocks (judge h blocks)
  unfolding J judge
  judges =
      by_pick J (ltb 238 (length blocks)) (λ _. refusal)
      (λ l. by_pick J (not (good_status1 h.status1)) (λ _. refusal)
      (λ a. by_pick J (not (good_status2 h.status2)) (λ _. refusal)
      (λ b. by_pick J (not (good_status3 h.status3)) (λ _. refusal)
      (λ c. by_pick J (not (good_master h.master)) (λ _. refusal)
      (λ d.
      by_count
      (λ n e x. record {
        short = ltb-false 238 (length blocks) l;
        status1 = not-false _ a;
        status2 = not-false _ b;
        status3 = not-false _ c;
        master = not-false _ d;
        count = e;
        agrees = x;
      })
      (count_of blocks) refl)))))

  pub judged : {n : ℕ} → Good h blocks n → judge h blocks ≡ Ok n
  unfolding judge
  judged g =
      simp (le-ltb _ _ g.short, g.status1, g.status2, g.status3, g.master)
      (ap (agreed h.status1) g.count ∙ simp g.agrees)
