-- What user data are, by their service and their way (document 01, "Services by access point"): each service's own format, and
-- the part that its fields leave.
use Rattle.std.specs.Prelude.{ℕ, ◌+◌, ◌-◌, List, length, ltb, Ok, Err, Result}
use Rattle.octets.specs.Choice.{pick}
use Rattle.octets.specs.declared.Mode.{Mode}
use Rattle.acyclic.specs.Answers.{read_answer_of, AnswerReading}
use Rattle.acyclic.specs.Calls.{read_call_of, CallReading}
use Rattle.address_change.specs.Address as address
use Rattle.address_change.specs.Address.{AddressReading}
use Rattle.configuration.specs.Reading as configuration
use Rattle.control.specs.Command as command
use Rattle.control.specs.Command.{CommandReading}
use Rattle.diagnosis.specs.Reading as diagnosis
use Rattle.parameters.specs.Reading as parameters
use Rattle.access.specs.declared.table.Service.{Service}
use Rattle.access.specs.declared.table.Service.TheVariants as service
use Rattle.access.specs.declared.route.Answering.{Answering}
use Rattle.access.specs.declared.route.Answering.TheVariants as answering
use Rattle.content.specs.declared.fields.Content.{Content}
use Rattle.content.specs.declared.fields.Content.TheVariants as content
use Rattle.octets.specs.declared.Read.{Read}

-- what reading answers: the fields and where the part behind them stands, or a refusal's number
abbrev pub UserData : Type 0
UserData = Result (Read Content) ℕ

abbrev pub refused : ℕ → UserData
refused k = Err k

-- where the part ends
abbrev pub end_of : UserData → ℕ
end_of (Ok found) = found.start + found.len
end_of (Err r) = 0

-- ---- each format

-- plain bytes and process data: at most 244
unfoldable pub plain_of : Content → (len : ℕ) → UserData
plain_of c len = pick (ltb 244 len) (refused 20) (Ok (record { fields = c; start = 0; len = len }))

-- calls to 56, 57, 59 and 60 are empty
unfoldable pub empty_of : Content → (len : ℕ) → UserData
empty_of c len = pick (ltb 0 len) (refused 20) (Ok (record { fields = c; start = 0; len = len }))

abbrev pub address_in : AddressReading → UserData
address_in (Ok found) = Ok (record { fields = content.SetSlaveAdr found.fields; start = found.start; len = found.len })
address_in (Err r) = Err r

abbrev pub address_of : List ℕ → UserData
address_of u = address_in (address.read_of u)

abbrev pub command_in : CommandReading → UserData
command_in (Ok found) = Ok (record { fields = content.GlobalControl found.fields; start = found.start; len = found.len })
command_in (Err r) = Err r

abbrev pub command_of : List ℕ → UserData
command_of u = command_in (command.read_of u)

-- the blocks stand behind the six bytes of the header
abbrev pub diagnosis_in : diagnosis.Reading → (len : ℕ) → UserData
diagnosis_in (Ok found) len = Ok (record { fields = content.SlaveDiag found.header; start = 6; len = len - 6 })
diagnosis_in (Err r) len = Err r

abbrev pub diagnosis_of : List ℕ → UserData
diagnosis_of u = diagnosis_in (diagnosis.read_of u) (length u)

abbrev pub parameters_in : parameters.Reading → UserData
parameters_in (Ok found) = Ok (record { fields = content.SetPrm found.fields; start = found.start; len = found.len })
parameters_in (Err r) = Err r

abbrev pub parameters_of : List ℕ → Mode → UserData
parameters_of u m = parameters_in (parameters.read_of u m)

-- a configuration is all of its bytes
abbrev pub configuration_in : Content → configuration.Reading → (len : ℕ) → UserData
configuration_in c (Ok found) len = Ok (record { fields = c; start = 0; len = len })
configuration_in c (Err r) len = Err r

abbrev pub configuration_of : Content → List ℕ → UserData
configuration_of c u = configuration_in c (configuration.read_of u) (length u)

abbrev pub dpv1_call_in : CallReading → UserData
dpv1_call_in (Ok found) = Ok (record { fields = content.Dpv1Call found.fields; start = found.start; len = found.len })
dpv1_call_in (Err r) = Err r

abbrev pub dpv1_call_of : List ℕ → UserData
dpv1_call_of u = dpv1_call_in (read_call_of u)

abbrev pub dpv1_answer_in : AnswerReading → UserData
dpv1_answer_in (Ok found) = Ok (record { fields = content.Dpv1Answer found.fields; start = found.start; len = found.len })
dpv1_answer_in (Err r) = Err r

abbrev pub dpv1_answer_of : List ℕ → UserData
dpv1_answer_of u = dpv1_answer_in (read_answer_of u)

-- ---- each service

unfoldable pub call_of : Service → (user : List ℕ) → Mode → UserData
call_of service.DataExchange u m = plain_of content.DataExchange (length u)
call_of service.Dpv1 u m = dpv1_call_of u
call_of service.ExtUserPrm u m = plain_of content.ExtUserPrm (length u)
call_of service.SetSlaveAdr u m = address_of u
call_of service.RdInp u m = empty_of content.RdInp (length u)
call_of service.RdOutp u m = empty_of content.RdOutp (length u)
call_of service.GlobalControl u m = command_of u
call_of service.GetCfg u m = empty_of content.GetCfg (length u)
call_of service.SlaveDiag u m = empty_of content.SlaveDiagCall (length u)
call_of service.SetPrm u m = parameters_of u m
call_of service.ChkCfg u m = configuration_of content.ChkCfg u

unfoldable pub answer_of : Answering → (user : List ℕ) → UserData
answer_of answering.DataExchange u = plain_of content.DataExchange (length u)
answer_of answering.Dpv1 u = dpv1_answer_of u
answer_of answering.RdInp u = plain_of content.RdInp (length u)
answer_of answering.RdOutp u = plain_of content.RdOutp (length u)
answer_of answering.GetCfg u = configuration_of content.GetCfg u
answer_of answering.SlaveDiag u = diagnosis_of u
