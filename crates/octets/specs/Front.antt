-- Storing at the front of a lent slice, and what every writer answers.
use Rattle.std.specs.Prelude.{ℕ, ◌+◌, ◌≡◌, List, ◌++◌, take, Result, Ok, Err}
use Rattle.std.proofs.Math.ListN.{length, drop}
use Rattle.std.proofs.Math.Dec.{leb}
use Rattle.octets.specs.Choice.{pick}

-- l with its front replaced by p; the rest stays
abbrev pub over : (p l : List ℕ) → List ℕ
over p l = p ++ drop (length p) l

-- Storing p at the front of l, all of it or nothing: how many bytes are stored, and what l holds then.
unfoldable pub count_of : (p l : List ℕ) → ℕ
count_of p l = pick (leb (length p) (length l)) (length p) 0

unfoldable pub front_of : (p l : List ℕ) → List ℕ
front_of p l = pick (leb (length p) (length l)) (over p l) l

-- Storing q behind the first n bytes of l, all of it or nothing: how many bytes then stand in front, and what l holds then.
unfoldable pub count_behind : (n : ℕ) (q l : List ℕ) → ℕ
count_behind n q l = pick (leb (n + length q) (length l)) (n + length q) 0

unfoldable pub held_behind : (n : ℕ) (q l : List ℕ) → List ℕ
held_behind n q l = pick (leb (n + length q) (length l)) (take n l ++ q ++ drop (n + length q) l) l

-- what a storing function did that was given room: p stands in front, and its length was answered
pub record AtFront (p before after : List ℕ) (count : ℕ) : Type 0 where
  pub counted : count ≡ length p
  pub bytes : after ≡ over p before

-- May the fields that a writer was given be written? If not, the number says why.
pub data Verdict : Type 0 where
  fine : Verdict
  fault : (number : ℕ) → Verdict

-- what a writer answers: how many bytes it stored, or the number of its refusal
abbrev pub Written : Type 0
Written = Result ℕ ℕ

-- A writer of the bytes t: its answer at a lent slice of so many bytes, and what that slice holds then. The number of a
-- bad field comes first, 11 for too small a slice last, and a refusal stores nothing.
unfoldable pub answer_by : Verdict → (t : List ℕ) (room : ℕ) → Written
answer_by fine t room = pick (leb (length t) room) (Ok (length t)) (Err 11)
answer_by (fault k) t room = Err k

unfoldable pub held_by : Verdict → (t out : List ℕ) → List ℕ
held_by fine t out = pick (leb (length t) (length out)) (over t out) out
held_by (fault k) t out = out
