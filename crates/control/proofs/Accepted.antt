-- Which bytes are a global command (document 01, "Services by access point"), in plain arithmetic.
use Prim.Native.Nat.{ℕ, ◌%◌, ◌/◌}
use Rattle.std.specs.Prelude.{◌≡◌, refl, not, List, [], ◌∷◌, ◌↔◌, length, eqb}
use Rattle.std.proofs.Math.Bool.{true}
use native.Mathlib.Omega.{arith}
use Rattle.std.proofs.Math.ListN.{get_or}
use borrow.Author.Tests.{eqb-true, not-false}
use Rattle.octets.proofs.Choice.{never, and_left, and_right}
use Rattle.octets.specs.Front.{fine}
use Rattle.octets.proofs.Fixed.{by_verdict, passed}
use Rattle.control.specs.Command.{good_command, verdict_of, fields_in, read_of}
use Rattle.control.specs.Accepted.{accepted, CommandBytes}

module _ (s : List ℕ) where
  judged_fine : verdict_of (fields_in s) (length s) ≡ fine → CommandBytes s
  unfolding verdict_of
  judged_fine v =
      let b : ℕ = get_or s 0 0 in
      let p = passed 20 (not (eqb (length s) 2)) _ v in
      let g : good_command b ≡ true = not-false _ (passed 21 (not (good_command b)) _ p.1).0 in
      record {
        two = eqb-true _ _ (not-false _ p.0);
        even = eqb-true _ _ (and_left (eqb (b % 2) 0) (eqb (b / 64) 0) g);
        low = omega (arith, eqb-true (b / 64) 0 (and_right (eqb (b % 2) 0) (eqb (b / 64) 0) g));
      }

  fine_judged : CommandBytes s → verdict_of (fields_in s) (length s) ≡ fine
  unfolding verdict_of
  fine_judged c =
      let high : get_or s 0 0 / 64 ≡ 0 = omega arith in
      simp (c.two, c.even, high)

  -- Accepted exactly when it is two bytes, of which the first has its fixed bits.
  pub command_accepted : accepted (read_of s) ≡ true ↔ CommandBytes s
  unfolding read_of
  command_accepted = (
    by_verdict (λ r. accepted r ≡ true → CommandBytes s) (verdict_of (fields_in s) (length s)) (λ k a. absurd (never a)) (λ good _. judged_fine good),
    λ c. simp (fine_judged c),
  )

-- Sync to all groups is a command; so is no bit at all.
pub commands_computed : (accepted (read_of (32 ∷ 255 ∷ [])) ≡ true) × (accepted (read_of (0 ∷ 0 ∷ [])) ≡ true)
unfolding read_of verdict_of
commands_computed = (refl, refl)
