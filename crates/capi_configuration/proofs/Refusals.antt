-- 0 means accepted: what the function of this crate answers is 0 exactly then, and a refusal number of document 01 else.
use Rattle.std.specs.Prelude.{ℕ, ◌≡◌, true, List, length, Ok, Err}
use Rattle.octets.specs.Refusals.{numbered, is_fine, Status}
use Rattle.octets.proofs.Refusals.{zero_accepted, listed_refused}
use Rattle.configuration.proofs.Refusals.{offsets_numbered}
use Rattle.configuration.specs.Writing.{verdict_in}
use Rattle.configuration.specs.Reading.{Reading}
use Rattle.capi_configuration.specs.Configuration.{offsets_of, refusal_of}

-- ---- rabtunex_configuration_offsets

status_by : (r : Reading) → numbered (verdict_in r) ≡ true → Status (is_fine (verdict_in r)) (refusal_of r)
status_by (Ok found) h = zero_accepted
status_by (Err r) h = listed_refused h

pub configuration_offsets_status : (s inputs outputs : List ℕ)
    → Status (is_fine (verdict_in (offsets_of s inputs outputs))) (refusal_of (offsets_of s inputs outputs))
configuration_offsets_status s inputs outputs =
    status_by (offsets_of s inputs outputs) (offsets_numbered s (length inputs) (length outputs))
