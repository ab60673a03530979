-- Template books through the C interface, as numbers. A template is three: its slot, and the start and length of its body.
use Rattle.std.specs.Prelude.{ℕ, List, [], ◌∷◌, Ok, Err}
use Rattle.octets.specs.Front.{answer_by, held_by, Written}
use Rattle.book.specs.Writing.{book_bytes, verdict_of}
use Rattle.book.specs.Reading.{Reading}
use Rattle.book.specs.Template.{Template}

-- ---- reading

abbrev pub refusal_of : Reading → ℕ
refusal_of (Ok n) = 0
refusal_of (Err r) = r

-- what the lent number of templates holds then
abbrev pub templates_after : Reading → (before : ℕ) → ℕ
templates_after (Ok n) before = n
templates_after (Err r) before = before

-- ---- one template

abbrev pub template_refusal : Template → ℕ
template_refusal (Ok found) = 0
template_refusal (Err r) = r

-- what the lent fields hold then
abbrev pub fields_after : Template → (before : List ℕ) → List ℕ
fields_after (Ok found) before = found.slot ∷ found.start ∷ found.len ∷ []
fields_after (Err r) before = before

-- ---- writing

-- what is answered at a lent slice of so many bytes, and what that slice holds then
abbrev pub answer_of : (slots lengths bodies : List ℕ) (room : ℕ) → Written
answer_of slots lengths bodies room = answer_by (verdict_of slots lengths bodies) (book_bytes slots lengths bodies) room

abbrev pub held_of : (slots lengths bodies out : List ℕ) → List ℕ
held_of slots lengths bodies out = held_by (verdict_of slots lengths bodies) (book_bytes slots lengths bodies) out
