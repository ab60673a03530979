-- 0 means accepted: what the functions of this crate answer is 0 exactly then, and a refusal number of document 01 else.
use Rattle.std.specs.Prelude.{ℕ, ◌+◌, ◌≡◌, refl, Bool, true, List, length, get_or, Ok, Err, Some, None}
use Rattle.octets.specs.Choice.{pick}
use Rattle.octets.proofs.Choice.{through, alike}
use Rattle.octets.specs.Refusals.{listed, numbered, is_fine, Status}
use Rattle.octets.proofs.Refusals.{zero_accepted, listed_refused}
use Rattle.fdl.specs.declared.telegram.Format.{Format}
use Rattle.access.specs.Route.{service_route}
use Rattle.access.specs.declared.route.Route.{Route}
use Rattle.access.specs.declared.route.Route.TheVariants as route
use Rattle.access.specs.declared.table.Service.{Service}
use Rattle.access.specs.declared.table.Service.TheVariants as service
use Rattle.content.specs.Fields.{service_of, fixed_length}
use Rattle.service.proofs.Refusals.{verdict_in, reading_numbered, verdict_numbered}
use Rattle.service.specs.Reading.{Reading}
use Rattle.fields.specs.Outcome.{status_of}
use Rattle.fields.proofs.Refusals.{is_written, written_status}
use Rattle.fields.specs.Kinds.{Kind}
use Rattle.fields.specs.declared.kinds.Kind.TheVariants as kind
use Rattle.service_fields.specs.declared.Named.{Named}
use Rattle.service_fields.specs.declared.Named.TheVariants as named
use Rattle.capi_service.specs.Service.{read_in, refusal_of, reserved_by, lacking_number, named_verdict, kind_verdict, bytes_in, answer_of}
use Rattle.capi_service.specs.Service as fields-of

-- ---- rabtunex_read_service

status_by : (r : Reading) → numbered (verdict_in r) ≡ true → Status (is_fine (verdict_in r)) (refusal_of r)
status_by (Ok found) e = zero_accepted
status_by (Err r) e = listed_refused e

read_numbered : (s : List ℕ) (version : ℕ) → numbered (verdict_in (read_in s version)) ≡ true
unfolding listed
read_numbered s version = simp (through verdict_in, through numbered, alike, reading_numbered)

pub read_service_status : (s : List ℕ) (version : ℕ) → Status (is_fine (verdict_in (read_in s version))) (refusal_of (read_in s version))
read_service_status s version = status_by (read_in s version) (read_numbered s version)

-- ---- rabtunex_write_service

reserved_by_lem : (r : Route) → listed (reserved_by r) ≡ true
unfolding listed
reserved_by_lem route.Nowhere = refl
reserved_by_lem (route.Call s) = refl
reserved_by_lem (route.Answer a) = refl

lacking_listed : (f : Format) (s : Service) (fields : List ℕ) (len number : ℕ) → listed number ≡ true → listed (lacking_number f s fields len number) ≡ true
unfolding lacking_number listed
lacking_listed f s fields len number e = simp (through listed, e, alike)

named_numbered : (n : Named) (right : Bool) (f : Format) (fields part : List ℕ) → numbered (named_verdict n right f fields part) ≡ true
unfolding listed
named_numbered (named.Content c) right f fields part =
    simp (through numbered, verdict_numbered, lacking_listed f (service_of c) fields (fixed_length c + length part) 10 refl, alike)
named_numbered named.Reserved right f fields part =
    let r : Route = service_route service.Dpv1 (get_or fields 5 0) in
    lacking_listed f service.Dpv1 fields (4 + length part) (pick right (reserved_by r) 10) (simp (through listed, reserved_by_lem r, alike))
named_numbered named.Unlisted right f fields part = lacking_listed f service.Dpv1 fields (length part) 10 refl
named_numbered named.Nothing right f fields part = refl

kind_numbered : (k : Kind) (n : Named) (fields part : List ℕ) → numbered (kind_verdict k n fields part) ≡ true
unfolding listed
kind_numbered (Some kind.Confirmation) n fields part = refl
kind_numbered (Some kind.Token) n fields part = refl
kind_numbered (Some (kind.Telegram f)) n fields part = simp named_numbered
kind_numbered None n fields part = refl

pub fields_numbered : (fields : List ℕ) (version : ℕ) (part : List ℕ) → numbered (fields-of.verdict_in fields version part) ≡ true
unfolding listed
fields_numbered fields version part = simp (through numbered, alike, kind_numbered)

pub write_service_status : (fields : List ℕ) (version : ℕ) (part : List ℕ) (room : ℕ)
    → Status (is_written (fields-of.verdict_in fields version part) (bytes_in fields version part) room) (status_of (answer_of fields version part room))
write_service_status fields version part room =
    written_status (fields-of.verdict_in fields version part) (bytes_in fields version part) room (fields_numbered fields version part)
