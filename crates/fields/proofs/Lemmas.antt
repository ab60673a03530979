-- A writer whose bytes fit.
use Rattle.std.specs.Prelude.{ℕ, ◌≤◌, ◌≡◌, List, length, Ok}
use Rattle.std.proofs.Common.{le-leb}
use Rattle.octets.specs.Front.{Verdict, fine, over, answer_by, held_by}

-- it stores them where it takes its fields
pub fine_stored : {v : Verdict} {t s : List ℕ} → v ≡ fine → t ≡ s → (out : List ℕ) → length s ≤ length out
    → (answer_by v t (length out) ≡ Ok (length s)) × (held_by v t out ≡ over s out)
unfolding answer_by held_by
fine_stored e f out h = rw (e, f) (simp (le-leb _ _ h), simp (le-leb _ _ h))
