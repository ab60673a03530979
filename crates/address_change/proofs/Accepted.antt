-- Which bytes are an address change (document 01, "Services by access point"), in plain arithmetic.
use Rattle.std.specs.Prelude.{ℕ, ◌≡◌, refl, not, List, [], ◌∷◌, ◌↔◌, length, get_or, eqb, ltb}
use Rattle.std.proofs.Math.Bool.{true}
use borrow.Author.Tests.{eqb-true, ltb-false, le-ltb, not-false}
use Rattle.octets.proofs.Choice.{never}
use Rattle.octets.specs.Front.{fine}
use Rattle.octets.proofs.Fixed.{by_verdict, passed}
use Rattle.address_change.specs.Address.{verdict_of, fields_in, read_of}
use Rattle.address_change.specs.Accepted.{accepted, AddressBytes}

module _ (s : List ℕ) where
  judged_fine : verdict_of (fields_in s) (length s) ≡ fine → AddressBytes s
  unfolding verdict_of
  judged_fine v =
      let p = passed 20 (not (eqb (length s) 4)) _ v in
      let q = passed 21 (ltb 125 (get_or s 0 0)) _ p.1 in
      let r = passed 21 (ltb 1 (get_or s 3 0)) _ q.1 in
      record {
        four = eqb-true _ _ (not-false _ p.0);
        address = ltb-false _ _ q.0;
        last = ltb-false _ _ r.0;
      }

  fine_judged : AddressBytes s → verdict_of (fields_in s) (length s) ≡ fine
  unfolding verdict_of
  fine_judged c = simp (c.four, le-ltb _ _ c.address, le-ltb _ _ c.last)

  -- Accepted exactly when it is four bytes, an address 0..125 first and 0 or 1 last.
  pub address_accepted : accepted (read_of s) ≡ true ↔ AddressBytes s
  unfolding read_of
  address_accepted = (
    by_verdict (λ r. accepted r ≡ true → AddressBytes s) (verdict_of (fields_in s) (length s)) (λ k a. absurd (never a)) (λ good _. judged_fine good),
    λ c. simp (fine_judged c),
  )

-- Address 125, locked, and address 0, not locked, are changes.
pub changes_computed : (accepted (read_of (125 ∷ 8 ∷ 12 ∷ 1 ∷ [])) ≡ true) × (accepted (read_of (0 ∷ 0 ∷ 0 ∷ 0 ∷ [])) ≡ true)
unfolding read_of verdict_of
changes_computed = (refl, refl)
