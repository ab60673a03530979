-- Which bytes are parameters (document 01, "Parameters"), in plain arithmetic. Document 01 counts bytes from 1.
use Prim.Native.Nat.{ℕ, ◌/◌, ◌%◌, ◌≤◌}
use Rattle.std.specs.Prelude.{◌≡◌, refl, ◌↔◌, not, List, [], ◌∷◌, length, eqb, ltb, leb}
use Rattle.std.proofs.Math.Bool.{true}
use Rattle.std.proofs.Common.{arith}
use Rattle.std.proofs.Math.ListN.{get_or}
use borrow.Author.Tests.{eqb-true, ltb-false, le-ltb, leb-true, le-leb, not-false}
use Rattle.octets.proofs.Choice.{never, by_pick, and_left, and_right}
use Rattle.octets.specs.Number.{bytes_of}
use Rattle.octets.specs.Front.{fine}
use Rattle.octets.proofs.Fixed.{by_verdict, passed}
use Rattle.octets.specs.declared.Mode.{Mode}
use Rattle.octets.specs.declared.Mode.TheVariants as mode
use Rattle.parameters.specs.Fields.{fixed_length, good_flags, good_status1, good_status2, good_status3, extension_verdict, verdict_of}
use Rattle.parameters.specs.Reading.{extension_in, fields_in, read_of, Reading}
use Rattle.parameters.specs.declared.fields.Extension.{Extension}
use Rattle.parameters.specs.Accepted.{accepted, BasicBytes, StatusBytes, ParameterBytes}

-- ---- from the verdict, and back to it
module _ (s : List ℕ) where
  status_fine : 10 ≤ length s → extension_verdict (extension_in s mode.Dpv1) ≡ fine → StatusBytes s
  unfolding extension_verdict
  status_fine h v =
      let a : ℕ = get_or s 7 0 in
      let p = passed 21 (not (good_status1 a)) _ v in
      let q = passed 21 (not (good_status2 (get_or s 8 0))) _ p.1 in
      let r = passed 21 (not (good_status3 (get_or s 9 0))) _ q.1 in
      let g : good_status1 a ≡ true = not-false _ p.0 in
      record {
        long = h;
        status1_low = eqb-true _ _ (and_left (eqb (a % 4) 0) (eqb (a / 8 % 4) 0) g);
        status1_high = eqb-true _ _ (and_right (eqb (a % 4) 0) (eqb (a / 8 % 4) 0) g);
        status2 = eqb-true _ _ (not-false _ q.0);
        status3 = eqb-true _ _ (not-false _ r.0);
      }

  fine_status : StatusBytes s → extension_verdict (extension_in s mode.Dpv1) ≡ fine
  unfolding extension_verdict
  fine_status g = simp (g.status1_low, g.status1_high, g.status2, g.status3)

  basic_fine : (e : Extension) → 7 ≤ length s → verdict_of (fields_in s e) (length s) ≡ fine → BasicBytes s × (extension_verdict e ≡ fine)
  unfolding verdict_of
  basic_fine e h v =
      let p = passed 20 (ltb 244 (length s)) _ v in
      let q = passed 21 (not (good_flags (get_or s 0 0))) _ p.1 in
      let r = passed 21 (not (leb 11 (get_or s 3 0))) _ q.1 in (
        record {
          long = h;
          short = ltb-false _ _ p.0;
          flags = eqb-true _ _ (not-false _ q.0);
          response = leb-true _ _ (not-false _ r.0);
        },
        r.1,
      )

  fine_basic : (e : Extension) → BasicBytes s → extension_verdict e ≡ fine → verdict_of (fields_in s e) (length s) ≡ fine
  unfolding verdict_of
  fine_basic e b v = simp (le-ltb _ _ b.short, b.flags, le-leb _ _ b.response) v

  judged_fine : (m : Mode) → fixed_length m ≤ length s → verdict_of (fields_in s (extension_in s m)) (length s) ≡ fine → ParameterBytes s m
  judged_fine mode.Dpv0 h v = (basic_fine (extension_in s mode.Dpv0) h v).0
  judged_fine mode.Dpv1 h v =
      let b = basic_fine (extension_in s mode.Dpv1) (omega arith) v in
      (b.0, status_fine h b.1)

  fine_judged : (m : Mode) → ParameterBytes s m → (fixed_length m ≤ length s) × (verdict_of (fields_in s (extension_in s m)) (length s) ≡ fine)
  unfolding extension_verdict
  fine_judged mode.Dpv0 g = (g.long, fine_basic (extension_in s mode.Dpv0) g refl)
  fine_judged mode.Dpv1 g = (g.1.long, fine_basic (extension_in s mode.Dpv1) g.0 (fine_status g.1))

  module _ (m : Mode) where
    abbrev If : Reading → Type 0
    If r = accepted r ≡ true → ParameterBytes s m

    -- Accepted in a version exactly when the length is in range and each bit and byte is as that version asks.
    pub parameters_accepted : accepted (read_of s m) ≡ true ↔ ParameterBytes s m
    unfolding read_of
    parameters_accepted = (
      by_pick If (ltb (length s) (fixed_length m)) (λ _ a. absurd (never a))
          (λ long.
          by_verdict If (verdict_of (fields_in s (extension_in s m)) (length s)) (λ k a. absurd (never a))
          (λ good _. judged_fine m (ltb-false (length s) (fixed_length m) long) good)),
      λ g. let f = fine_judged m g in simp (le-ltb _ _ f.0, f.1),
    )

-- The shortest parameters of each version, and the longest.
pub parameters_computed :
    (accepted (read_of (0 ∷ 1 ∷ 1 ∷ 11 ∷ 8 ∷ 12 ∷ 0 ∷ []) mode.Dpv0) ≡ true)
    × (accepted (read_of (248 ∷ 1 ∷ 1 ∷ 255 ∷ 8 ∷ 12 ∷ 0 ∷ 228 ∷ 253 ∷ 159 ∷ []) mode.Dpv1) ≡ true)
    × (accepted (read_of (0 ∷ 1 ∷ 1 ∷ 11 ∷ bytes_of 240 0) mode.Dpv1) ≡ true)
unfolding read_of verdict_of extension_verdict
parameters_computed = (refl, refl, refl)
