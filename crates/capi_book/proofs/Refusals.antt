-- 0 means accepted: what the functions of this crate answer is 0 exactly then, and a refusal number of document 01 else.
use Rattle.std.specs.Prelude.{ℕ, ◌≡◌, true, List, Ok, Err}
use Rattle.octets.specs.Refusals.{numbered, is_fine, Status}
use Rattle.octets.proofs.Refusals.{zero_accepted, listed_refused}
use Rattle.book.specs.Reading.{read_of, Reading}
use Rattle.book.specs.Refusals.{verdict_in, template_verdict}
use Rattle.book.proofs.Refusals.{reading_numbered, template_numbered, verdict_numbered}
use Rattle.book.specs.Template.{template_of, Template}
use Rattle.book.specs.Writing.{book_bytes, verdict_of}
use Rattle.fields.specs.Outcome.{status_of}
use Rattle.fields.proofs.Refusals.{is_written, written_status}
use Rattle.capi_book.specs.Book.{refusal_of, template_refusal, answer_of}

-- ---- rabtunex_read_book

reading_by : (r : Reading) → numbered (verdict_in r) ≡ true → Status (is_fine (verdict_in r)) (refusal_of r)
reading_by (Ok n) h = zero_accepted
reading_by (Err r) h = listed_refused h

pub read_book_status : (s : List ℕ) → Status (is_fine (verdict_in (read_of s))) (refusal_of (read_of s))
read_book_status s = reading_by (read_of s) (reading_numbered s)

-- ---- rabtunex_book_template

template_by_lem : (t : Template) → numbered (template_verdict t) ≡ true → Status (is_fine (template_verdict t)) (template_refusal t)
template_by_lem (Ok found) h = zero_accepted
template_by_lem (Err r) h = listed_refused h

pub book_template_status : (s : List ℕ) (k : ℕ) → Status (is_fine (template_verdict (template_of s k))) (template_refusal (template_of s k))
book_template_status s k = template_by_lem (template_of s k) (template_numbered s k)

-- ---- rabtunex_write_book

pub write_book_status : (slots lengths bodies : List ℕ) (room : ℕ)
    → Status (is_written (verdict_of slots lengths bodies) (book_bytes slots lengths bodies) room) (status_of (answer_of slots lengths bodies room))
write_book_status slots lengths bodies room =
    written_status (verdict_of slots lengths bodies) (book_bytes slots lengths bodies) room (verdict_numbered slots lengths bodies)
