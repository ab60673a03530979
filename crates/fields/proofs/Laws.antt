-- A telegram's kind and its number name each other, and what an answer of 0 says of a writer.
use Rattle.std.specs.Prelude.{ℕ, ◌≡◌, refl, Bool, true, false, List, length, drop, eqb, leb, Ok, Err, Some}
use Rattle.std.proofs.Common.{arith, eqb-true}
use Rattle.std.proofs.Math.Seq.{take-append_seam}
use Rattle.std.proofs.lemmas.Bool.{eqb-false}
use Rattle.octets.specs.Choice.{pick}
use Rattle.octets.proofs.Choice.{by_pick}
use Rattle.octets.specs.Front.{Verdict, fine, fault, over, answer_by, held_by}
use Rattle.fdl.specs.declared.telegram.Format.{Format}
use Rattle.fdl.specs.declared.telegram.Format.TheVariants.{Sd1, Sd2, Sd3}
use Rattle.fields.specs.Kinds.{format_number, kind_of, Numbered, Kind}
use Rattle.fields.specs.Outcome.{status_of, Tells, stored_by}
use Rattle.fields.specs.declared.kinds.Kind.TheVariants as kind

-- ---- kinds

-- A format's number names that format.
pub format_named : (f : Format) → kind_of (format_number f) ≡ Some (kind.Telegram f)
format_named Sd1 = refl
format_named Sd2 = refl
format_named Sd3 = refl

-- A number that names a kind is the number of that kind; one that names none is above all of them.
pub kind_numbered : (n : ℕ) → Numbered n (kind_of n)
kind_numbered n =
    let P : Kind → Type 0 = Numbered n in
    by_pick P (eqb n 0) (eqb-true n 0)
    (λ a. by_pick P (eqb n 1) (eqb-true n 1)
    (λ b. by_pick P (eqb n 2) (eqb-true n 2)
    (λ c. by_pick P (eqb n 3) (eqb-true n 3)
    (λ d. by_pick P (eqb n 4) (eqb-true n 4)
    (λ e.
    let a' : n ≡ 0 → ⊥ = eqb-false n 0 a in
    let b' : n ≡ 1 → ⊥ = eqb-false n 1 b in
    let c' : n ≡ 2 → ⊥ = eqb-false n 2 c in
    let d' : n ≡ 3 → ⊥ = eqb-false n 3 d in
    let e' : n ≡ 4 → ⊥ = eqb-false n 4 e in
    omega arith)))))

-- ---- writers

-- A writer that answers 0 has taken its fields, and its caller finds its bytes.
pub zero_stored : (v : Verdict) (t out : List ℕ) (count : ℕ) → Tells v → status_of (answer_by v t (length out)) ≡ 0
    → (v ≡ fine) × (stored_by (answer_by v t (length out)) count (held_by v t out) ≡ t)
unfolding answer_by held_by
zero_stored (fault k) t out count n e = absurd (n e)
zero_stored fine t out count n e = (refl, room (leb (length t) (length out)) e)
  where
    room : (b : Bool) → status_of (pick b (Ok (length t)) (Err 11)) ≡ 0
        → stored_by (pick b (Ok (length t)) (Err 11)) count (pick b (over t out) out) ≡ t
    room true z = take-append_seam t (drop (length t) out)
    room false z = absurd (omega arith)
