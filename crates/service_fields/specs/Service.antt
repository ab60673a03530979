-- Services by their own fields: the service's number, which is its access point at the slave, and ten places that hold the fixed bytes of
-- its data in their order, and 0 behind them. Fields that are to be written are eighteen: FC is the sixth, and the service's own are
-- the last ten.
use Rattle.std.specs.Prelude.{ℕ, ◌≡◌, Bool, true, false, List, [], ◌∷◌, get_or, eqb, ltb, Some, None}
use Rattle.octets.specs.Choice.{pick}
use Rattle.octets.specs.Number.{number_of}
use Rattle.octets.specs.Places.{places_of}
use Rattle.octets.specs.declared.Mode.{Mode}
use Rattle.octets.specs.declared.Mode.TheVariants as mode
use Rattle.function_code.specs.Code.{class_of}
use Rattle.function_code.specs.declared.code.Class.{Class}
use Rattle.function_code.specs.declared.code.Class.TheVariants as class
use Rattle.address_change.specs.Address as address
use Rattle.address_change.specs.declared.AddressChange.{AddressChange}
use Rattle.control.specs.Command as command
use Rattle.control.specs.declared.command.GlobalCommand.{GlobalCommand}
use Rattle.diagnosis.specs.Writing as diagnosis
use Rattle.diagnosis.specs.declared.reading.Header as diagnosis-type
use Rattle.parameters.specs.Writing as parameters
use Rattle.parameters.specs.declared.fields.Extension.{Extension}
use Rattle.parameters.specs.declared.fields.Extension.TheVariants as extension
use Rattle.parameters.specs.declared.fields.Parameters.{Parameters}
use Rattle.access.specs.Table.{service_number}
use Rattle.access.specs.declared.table.Service.TheVariants as service
use Rattle.content.specs.Fields.{service_of}
use Rattle.content.specs.declared.fields.Content.{Content}
use Rattle.content.specs.declared.fields.Content.TheVariants as content
use Rattle.acyclic_fields.specs.Four.{call_four, answer_four, call_named, answer_named, call_places, answer_places, Case}
use Rattle.acyclic_fields.specs.declared.four.Case.TheVariants as case
use Rattle.service_fields.specs.declared.Own.{Own}
use Rattle.service_fields.specs.declared.Named.{Named}
use Rattle.service_fields.specs.declared.Named.TheVariants as named

-- ---- the service's own fields

-- the fixed bytes; of DPV1 the four fields that its calls and answers have by themselves
abbrev pub content_bytes : Content → List ℕ
content_bytes content.DataExchange = []
content_bytes (content.Dpv1Call c) = call_four c
content_bytes (content.Dpv1Answer x) = answer_four x
content_bytes content.ExtUserPrm = []
content_bytes (content.SetSlaveAdr f) = address.fixed_bytes f
content_bytes content.RdInp = []
content_bytes content.RdOutp = []
content_bytes (content.GlobalControl f) = command.fixed_bytes f
content_bytes content.GetCfg = []
content_bytes content.SlaveDiagCall = []
content_bytes (content.SlaveDiag h) = diagnosis.header_bytes h
content_bytes (content.SetPrm f) = parameters.front_bytes f
content_bytes content.ChkCfg = []

-- the number of a content's service, and its own fields
abbrev pub content_number : Content → ℕ
content_number c = service_number (service_of c)

abbrev pub own_fields : Content → List ℕ
own_fields c = content_number c ∷ places_of 10 (content_bytes c)

-- all eighteen
abbrev pub fields_with : (way kind da sa fc start len : ℕ) → Content → List ℕ
fields_with way kind da sa fc start len c = content_number c ∷ way ∷ kind ∷ da ∷ sa ∷ fc ∷ start ∷ len ∷ places_of 10 (content_bytes c)

abbrev pub own_bytes : Own → List ℕ
own_bytes o = o.0 ∷ o.1 ∷ o.2 ∷ o.3 ∷ o.4 ∷ o.5 ∷ o.6 ∷ o.7 ∷ o.8 ∷ o.9 ∷ o.10 ∷ []

-- ---- how many of the ten a content has, from the first on

-- its fixed bytes; of DPV1 those of the four that the case has
abbrev pub content_places : Content → ℕ
content_places content.DataExchange = 0
content_places (content.Dpv1Call c) = call_places c
content_places (content.Dpv1Answer x) = answer_places x
content_places content.ExtUserPrm = 0
content_places (content.SetSlaveAdr f) = 4
content_places content.RdInp = 0
content_places content.RdOutp = 0
content_places (content.GlobalControl f) = 2
content_places content.GetCfg = 0
content_places content.SlaveDiagCall = 0
content_places (content.SlaveDiag h) = 6
content_places (content.SetPrm f) = parameters.user_start f
content_places content.ChkCfg = 0

abbrev pub places_in : Named → ℕ
places_in (named.Content c) = content_places c
places_in named.Reserved = 0
places_in named.Unlisted = 0
places_in named.Nothing = 0

-- ---- writing: the content that the fields name

-- the way is the function code's
abbrev pub is_answer : Class → Bool
is_answer class.Opening = false
is_answer class.Counted = false
is_answer class.Uncounted = false
is_answer class.Bare = true
is_answer class.Data = true
is_answer class.Reserved = false

-- a content that goes one way alone goes the function code's
abbrev pub WayFits : Content → (fc : ℕ) → Type 0
WayFits content.DataExchange fc = Unit
WayFits (content.Dpv1Call c) fc = is_answer (class_of fc) ≡ false
WayFits (content.Dpv1Answer x) fc = is_answer (class_of fc) ≡ true
WayFits content.ExtUserPrm fc = Unit
WayFits (content.SetSlaveAdr f) fc = Unit
WayFits content.RdInp fc = Unit
WayFits content.RdOutp fc = Unit
WayFits (content.GlobalControl f) fc = Unit
WayFits content.GetCfg fc = Unit
WayFits content.SlaveDiagCall fc = is_answer (class_of fc) ≡ false
WayFits (content.SlaveDiag h) fc = is_answer (class_of fc) ≡ true
WayFits (content.SetPrm f) fc = Unit
WayFits content.ChkCfg fc = Unit

-- is the way that the fields give, their second, the function code's
unfoldable pub right_way : (fields : List ℕ) → Bool
right_way fields = pick (is_answer (class_of (get_or fields 5 0))) (eqb (get_or fields 1 0) 1) (eqb (get_or fields 1 0) 0)

abbrev pub named_by : Case → Named
named_by (Some (case.Call c)) = named.Content (content.Dpv1Call c)
named_by (Some (case.Answer x)) = named.Content (content.Dpv1Answer x)
named_by None = named.Reserved

unfoldable pub dpv1_in : (fields : List ℕ) → Named
dpv1_in fields =
    pick (is_answer (class_of (get_or fields 5 0)))
    (named_by (answer_named (get_or fields 8 0) (get_or fields 9 0) (get_or fields 10 0) (get_or fields 11 0)))
    (named_by (call_named (get_or fields 8 0) (get_or fields 9 0) (get_or fields 10 0) (get_or fields 11 0)))

abbrev pub address_in : (fields : List ℕ) → AddressChange
address_in fields =
    record {
      address = get_or fields 8 0;
      ident = number_of (get_or fields 9 0 ∷ get_or fields 10 0 ∷ []);
      locked = get_or fields 11 0;
    }

abbrev pub command_in : (fields : List ℕ) → GlobalCommand
command_in fields = record { command = get_or fields 8 0; groups = get_or fields 9 0 }

abbrev pub header_in : (fields : List ℕ) → diagnosis-type.Header
header_in fields =
    record {
      status1 = get_or fields 8 0;
      status2 = get_or fields 9 0;
      status3 = get_or fields 10 0;
      master = get_or fields 11 0;
      ident = number_of (get_or fields 12 0 ∷ get_or fields 13 0 ∷ []);
    }

-- a call of Slave_Diag has no fields
unfoldable pub diagnosis_in : (fields : List ℕ) → Content
diagnosis_in fields = pick (is_answer (class_of (get_or fields 5 0))) (content.SlaveDiag (header_in fields)) content.SlaveDiagCall

-- the version of a number that is 0 or 1
abbrev pub mode_of : (version : ℕ) → Mode
mode_of version = pick (eqb version 0) mode.Dpv0 mode.Dpv1

abbrev pub extension_in : (version a b c : ℕ) → Extension
extension_in version a b c = pick (eqb version 0) extension.Dpv0 (extension.Dpv1 a b c)

unfoldable pub parameters_in : (fields : List ℕ) (version : ℕ) → Parameters
parameters_in fields version =
    record {
      flags = get_or fields 8 0;
      factor1 = get_or fields 9 0;
      factor2 = get_or fields 10 0;
      response = record { 0 = get_or fields 11 0 };
      ident = number_of (get_or fields 12 0 ∷ get_or fields 13 0 ∷ []);
      groups = get_or fields 14 0;
      extension = extension_in version (get_or fields 15 0) (get_or fields 16 0) (get_or fields 17 0);
    }

-- a number that is no service's: access points are 0 to 63
abbrev pub unlisted_by : (service : ℕ) → Named
unlisted_by n = pick (ltb 63 n) named.Nothing named.Unlisted

unfoldable pub content_by : (service : ℕ) (fields : List ℕ) (version : ℕ) → Named
content_by n fields version =
    pick (eqb n (service_number service.DataExchange)) (named.Content content.DataExchange)
    (pick (eqb n (service_number service.Dpv1)) (dpv1_in fields)
    (pick (eqb n (service_number service.ExtUserPrm)) (named.Content content.ExtUserPrm)
    (pick (eqb n (service_number service.SetSlaveAdr)) (named.Content (content.SetSlaveAdr (address_in fields)))
    (pick (eqb n (service_number service.RdInp)) (named.Content content.RdInp)
    (pick (eqb n (service_number service.RdOutp)) (named.Content content.RdOutp)
    (pick (eqb n (service_number service.GlobalControl)) (named.Content (content.GlobalControl (command_in fields)))
    (pick (eqb n (service_number service.GetCfg)) (named.Content content.GetCfg)
    (pick (eqb n (service_number service.SlaveDiag)) (named.Content (diagnosis_in fields))
    (pick (eqb n (service_number service.SetPrm)) (named.Content (content.SetPrm (parameters_in fields version)))
    (pick (eqb n (service_number service.ChkCfg)) (named.Content content.ChkCfg) (unlisted_by n)))))))))))

abbrev pub content_in : (fields : List ℕ) (version : ℕ) → Named
content_in fields version = content_by (get_or fields 0 0) fields version
