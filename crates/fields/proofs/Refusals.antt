-- What every writer of the C interface answers says whether the fields are accepted.
use Rattle.std.specs.Prelude.{ℕ, ◌≡◌, refl, Bool, true, false, List, leb, length, Ok, Err}
use Rattle.std.proofs.Common.{sym, ◌∙◌, eq-eqb}
use Rattle.octets.specs.Choice.{pick, ◌and◌}
use Rattle.octets.proofs.Choice.{never}
use Rattle.octets.specs.Front.{Verdict, fine, fault, answer_by}
use Rattle.octets.specs.Refusals.{listed, numbered, is_fine, Status}
use Rattle.octets.proofs.Refusals.{listed_not_zero, zero_accepted, listed_refused}
use Rattle.fields.specs.Outcome.{status_of, Tells}

-- fields that may be written, with room for their bytes
abbrev pub is_written : Verdict → (t : List ℕ) (room : ℕ) → Bool
is_written v t room = is_fine v and leb (length t) room

room_status : (fits : Bool) (n : ℕ) → Status fits (status_of (pick fits (Ok n) (Err 11)))
unfolding listed
room_status true n = zero_accepted
room_status false n = listed_refused refl

pub written_status : (v : Verdict) (t : List ℕ) (room : ℕ) → numbered v ≡ true → Status (is_written v t room) (status_of (answer_by v t room))
unfolding answer_by
written_status fine t room h = room_status (leb (length t) room) (length t)
written_status (fault k) t room h = listed_refused h

-- A verdict whose number is one of the table's tells its fault by a number that is not 0.
pub tells : (v : Verdict) → numbered v ≡ true → Tells v
tells fine h = tt
tells (fault k) h = λ z. never (sym (listed_not_zero k h) ∙ eq-eqb k 0 z)
