-- Service telegrams through the C interface. Their fields are eighteen bytes: the service, the way, kind, DA, SA, FC, start and
-- length of the part, and then ten of the service's own: the fixed bytes of its data in their order, and 0 behind them.
use Rattle.std.specs.Prelude.{ℕ, ◌+◌, Bool, List, [], length, get_or, ltb, Ok, Err, Some, None}
use Rattle.octets.specs.Choice.{pick}
use Rattle.octets.specs.Part.{part_of}
use Rattle.octets.specs.Front.{Verdict, fault, answer_by, held_by, Written}
use Rattle.fdl.specs.Around.{good_fields}
use Rattle.fdl.specs.declared.telegram.Format.{Format}
use Rattle.fdl.specs.declared.telegram.Header.{Header}
use Rattle.access.specs.Route.{header_of, service_route}
use Rattle.access.specs.declared.route.Route.{Route}
use Rattle.access.specs.declared.route.Route.TheVariants as route
use Rattle.access.specs.declared.table.Service.{Service}
use Rattle.access.specs.declared.table.Service.TheVariants as service
use Rattle.content.specs.Fields.{service_of, fixed_length}
use Rattle.content.specs.declared.fields.Content.{Content}
use Rattle.service.specs.Reading.{refused, read_of, Reading}
use Rattle.service.specs.Writing.{verdict_of, telegram_for}
use Rattle.service.specs.declared.reading.Way.{Way}
use Rattle.service.specs.declared.reading.Way.TheVariants as way
use Rattle.fields.specs.Kinds.{format_number, kind_of, Kind}
use Rattle.service_fields.specs.Service.{fields_with, right_way, mode_of, content_in}
use Rattle.service_fields.specs.declared.Named.{Named}
use Rattle.service_fields.specs.declared.Named.TheVariants as named
use Rattle.fields.specs.declared.kinds.Kind.TheVariants as kind

-- ---- the numbers of the fields

abbrev pub way_number : Way → ℕ
way_number way.Call = 0
way_number way.Answer = 1

-- ---- reading

abbrev pub fields_of : Format → Header → Way → Content → (start len : ℕ) → List ℕ
fields_of f h w c start len = fields_with (way_number w) (format_number f) h.da h.sa h.fc start len c

-- an unknown version comes before all else
abbrev pub read_in : List ℕ → (version : ℕ) → Reading
read_in s version = pick (ltb 1 version) (refused 12) (read_of s (mode_of version))

abbrev pub refusal_of : Reading → ℕ
refusal_of (Ok found) = 0
refusal_of (Err r) = r

-- what the lent fields hold then
abbrev pub fields_after : Reading → (before : List ℕ) → List ℕ
fields_after (Ok found) before = fields_of found.format found.header found.way found.content found.start found.len
fields_after (Err r) before = before

-- ---- writing: the telegram

-- No such service, or not that way: the telegram's fields come first, with so much data; then the number.
unfoldable pub lacking_number : Format → Service → (fields : List ℕ) (len number : ℕ) → ℕ
lacking_number f s fields len number = pick (good_fields f (header_of s (get_or fields 3 0) (get_or fields 4 0) (get_or fields 5 0)) len) number 12

-- a DPV1 number that the way does not have gives 28, where the function code carries DPV1
abbrev pub reserved_by : Route → ℕ
reserved_by route.Nowhere = 10
reserved_by (route.Call s) = 28
reserved_by (route.Answer a) = 28

-- A way that is not the function code's gives 10, in the place of 10. A DPV1 number that the way does not have counts as four fixed
-- bytes. A slave's access point that the list lacks gives 10 too, and counts as two access points and the part.
abbrev pub named_verdict : Named → (right : Bool) → Format → (fields part : List ℕ) → Verdict
named_verdict (named.Content c) right f fields part =
    pick right (verdict_of f (get_or fields 3 0) (get_or fields 4 0) (get_or fields 5 0) c part)
    (fault (lacking_number f (service_of c) fields (fixed_length c + length part) 10))
named_verdict named.Reserved right f fields part =
    fault (lacking_number f service.Dpv1 fields (4 + length part) (pick right (reserved_by (service_route service.Dpv1 (get_or fields 5 0))) 10))
named_verdict named.Unlisted right f fields part = fault (lacking_number f service.Dpv1 fields (length part) 10)
named_verdict named.Nothing right f fields part = fault 12

abbrev pub named_bytes : Named → Format → (fields part : List ℕ) → List ℕ
named_bytes (named.Content c) f fields part = telegram_for f (get_or fields 3 0) (get_or fields 4 0) (get_or fields 5 0) c part
named_bytes named.Reserved f fields part = []
named_bytes named.Unlisted f fields part = []
named_bytes named.Nothing f fields part = []

-- a service stands in no short confirmation and in no token
abbrev pub kind_verdict : Kind → Named → (fields part : List ℕ) → Verdict
kind_verdict (Some kind.Confirmation) n fields part = fault 12
kind_verdict (Some kind.Token) n fields part = fault 12
kind_verdict (Some (kind.Telegram f)) n fields part = named_verdict n (right_way fields) f fields part
kind_verdict None n fields part = fault 12

abbrev pub kind_bytes : Kind → Named → (fields part : List ℕ) → List ℕ
kind_bytes (Some kind.Confirmation) n fields part = []
kind_bytes (Some kind.Token) n fields part = []
kind_bytes (Some (kind.Telegram f)) n fields part = named_bytes n f fields part
kind_bytes None n fields part = []

-- an unknown version or way comes before all else
abbrev pub verdict_in : (fields : List ℕ) (version : ℕ) (part : List ℕ) → Verdict
verdict_in fields version part =
    pick (ltb 1 version) (fault 12)
    (pick (ltb 1 (get_or fields 1 0)) (fault 12) (kind_verdict (kind_of (get_or fields 2 0)) (content_in fields version) fields part))

abbrev pub bytes_in : (fields : List ℕ) (version : ℕ) (part : List ℕ) → List ℕ
bytes_in fields version part = kind_bytes (kind_of (get_or fields 2 0)) (content_in fields version) fields part

-- what is answered then at a lent slice of so many bytes, and what that slice holds
abbrev pub answer_of : (fields : List ℕ) (version : ℕ) (part : List ℕ) (room : ℕ) → Written
answer_of fields version part room = answer_by (verdict_in fields version part) (bytes_in fields version part) room

abbrev pub held_of : (fields : List ℕ) (version : ℕ) (part out : List ℕ) → List ℕ
held_of fields version part out = held_by (verdict_in fields version part) (bytes_in fields version part) out

-- ---- the part that fields name in the bytes s

abbrev pub part_in : (s fields : List ℕ) → List ℕ
part_in s fields = part_of s (get_or fields 6 0) (get_or fields 7 0)
