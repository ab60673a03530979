-- 0 means accepted: what the functions of this crate answer is 0 exactly then, and a refusal number of document 01 else.
use Rattle.std.specs.Prelude.{ℕ, ◌≡◌, refl, true, List, get_or, Ok, Err, Some, None}
use Rattle.octets.proofs.Choice.{through, alike}
use Rattle.octets.specs.Refusals.{listed, numbered, is_fine, Status}
use Rattle.octets.proofs.Refusals.{zero_accepted, listed_refused}
use Rattle.function_code.specs.Code.{class_of}
use Rattle.fdl.specs.Reading.{read_of, Reading}
use Rattle.fdl.proofs.Refusals.{verdict_in, reading_numbered, verdict_numbered, token_verdict_numbered}
use Rattle.fdl.specs.declared.reading.Reading.TheVariants.{Confirmation, Token, Telegram}
use Rattle.fields.specs.Kinds.{kind_of, Kind}
use Rattle.fields.specs.Outcome.{status_of}
use Rattle.fields.proofs.Refusals.{is_written, written_status}
use Rattle.fields.specs.declared.kinds.Kind.TheVariants as kind
use Rattle.capi_telegram.specs.Telegram.{refusal_of, header_of, verdict_at, bytes_at, answer_of}

-- ---- rabtunex_read_telegram

status_by : (r : Reading) → numbered (verdict_in r) ≡ true → Status (is_fine (verdict_in r)) (refusal_of r)
status_by (Ok Confirmation) h = zero_accepted
status_by (Ok (Token da sa)) h = zero_accepted
status_by (Ok (Telegram f x start len)) h = zero_accepted
status_by (Err r) h = listed_refused h

pub read_telegram_status : (s : List ℕ) → Status (is_fine (verdict_in (read_of s))) (refusal_of (read_of s))
read_telegram_status s = status_by (read_of s) (reading_numbered class_of s)

-- ---- rabtunex_write_telegram

pub verdict_at_lem : (k : Kind) (fields user : List ℕ) → numbered (verdict_at k fields user) ≡ true
unfolding listed
verdict_at_lem (Some kind.Confirmation) fields user = simp (through numbered, alike)
verdict_at_lem (Some kind.Token) fields user = simp (through numbered, alike, token_verdict_numbered)
verdict_at_lem (Some (kind.Telegram f)) fields user = verdict_numbered class_of f (header_of fields) user
verdict_at_lem None fields user = refl

module _ (fields user : List ℕ) (room : ℕ) where
  abbrev named : Kind
  named = kind_of (get_or fields 0 0)

  pub write_telegram_status : Status (is_written (verdict_at named fields user) (bytes_at named fields user) room) (status_of (answer_of fields user room))
  write_telegram_status = written_status (verdict_at named fields user) (bytes_at named fields user) room (verdict_at_lem named fields user)
