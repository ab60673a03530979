-- Every refusal of user data, read or to be written, has a number of document 01's table, whatever service they are of.
use Rattle.std.specs.Prelude.{◌≡◌, refl, true, List, ℕ, length, Ok, Err}
use Rattle.octets.proofs.Choice.{through, alike}
use Rattle.octets.specs.Front.{Verdict, fine, fault}
use Rattle.octets.specs.Refusals.{listed, numbered}
use Rattle.octets.specs.declared.Mode.{Mode}
use Rattle.acyclic.proofs.Refusals as acyclic
use Rattle.acyclic.specs.Refusals as acyclic_words
use Rattle.acyclic.specs.Answers.{read_answer_of, AnswerReading}
use Rattle.acyclic.specs.Calls.{read_call_of, CallReading}
use Rattle.address_change.proofs.Refusals as address
use Rattle.address_change.specs.Address as address-format
use Rattle.address_change.specs.Address.{AddressReading}
use Rattle.configuration.proofs.Refusals as configuration
use Rattle.configuration.specs.Reading as configuration-format
use Rattle.configuration.specs.Writing.{verdict_in}
use Rattle.control.proofs.Refusals as command
use Rattle.control.specs.Command as command-format
use Rattle.control.specs.Command.{CommandReading}
use Rattle.diagnosis.specs.Writing.{verdict_by}
use Rattle.diagnosis.proofs.Refusals as diagnosis
use Rattle.diagnosis.specs.Reading as diagnosis-format
use Rattle.parameters.proofs.Refusals as parameters
use Rattle.parameters.specs.Reading as parameters-format
use Rattle.access.specs.declared.table.Service.{Service}
use Rattle.access.specs.declared.table.Service.TheVariants as service
use Rattle.access.specs.declared.route.Answering.{Answering}
use Rattle.access.specs.declared.route.Answering.TheVariants as answering
use Rattle.content.specs.Reading.{plain_of, empty_of, address_in, command_in, diagnosis_in, parameters_in, configuration_in, dpv1_call_in, dpv1_answer_in, call_of, answer_of, UserData}
use Rattle.content.specs.Writing.{at_most, call_verdict, answer_verdict}
use Rattle.content.specs.declared.fields.Content.{Content}
use Rattle.content.specs.declared.fields.Content.TheVariants as content

-- the verdict that user data came to
abbrev pub data_verdict : UserData → Verdict
data_verdict (Ok found) = fine
data_verdict (Err r) = fault r

-- ---- reading: each format

plain : (c : Content) (len : ℕ) → numbered (data_verdict (plain_of c len)) ≡ true
unfolding plain_of listed
plain c len = simp (through data_verdict, through numbered, alike)

empty : (c : Content) (len : ℕ) → numbered (data_verdict (empty_of c len)) ≡ true
unfolding empty_of listed
empty c len = simp (through data_verdict, through numbered, alike)

address_in_lem : (r : AddressReading) → numbered (address.verdict_in r) ≡ true → numbered (data_verdict (address_in r)) ≡ true
address_in_lem (Ok found) h = refl
address_in_lem (Err r) h = h

command_in_lem : (r : CommandReading) → numbered (command.verdict_in r) ≡ true → numbered (data_verdict (command_in r)) ≡ true
command_in_lem (Ok found) h = refl
command_in_lem (Err r) h = h

diagnosis_in_lem : (r : diagnosis-format.Reading) (len : ℕ) → numbered (verdict_by r) ≡ true → numbered (data_verdict (diagnosis_in r len)) ≡ true
diagnosis_in_lem (Ok found) len e = refl
diagnosis_in_lem (Err r) len e = e

parameters_in_lem : (r : parameters-format.Reading) → numbered (parameters.verdict_in r) ≡ true → numbered (data_verdict (parameters_in r)) ≡ true
parameters_in_lem (Ok found) h = refl
parameters_in_lem (Err r) h = h

configuration_in_lem : (c : Content) (r : configuration-format.Reading) (len : ℕ) → numbered (verdict_in r) ≡ true
    → numbered (data_verdict (configuration_in c r len)) ≡ true
configuration_in_lem c (Ok found) len h = refl
configuration_in_lem c (Err r) len h = h

call_in_lem : (r : CallReading) → numbered (acyclic_words.call_verdict r) ≡ true → numbered (data_verdict (dpv1_call_in r)) ≡ true
call_in_lem (Ok found) h = refl
call_in_lem (Err r) h = h

answer_in_lem : (r : AnswerReading) → numbered (acyclic_words.answer_verdict r) ≡ true → numbered (data_verdict (dpv1_answer_in r)) ≡ true
answer_in_lem (Ok found) h = refl
answer_in_lem (Err r) h = h

-- ---- reading: each service

pub call_numbered : (x : Service) (u : List ℕ) (m : Mode) → numbered (data_verdict (call_of x u m)) ≡ true
unfolding call_of
call_numbered service.DataExchange u m = plain content.DataExchange (length u)
call_numbered service.Dpv1 u m = call_in_lem (read_call_of u) (acyclic.call_numbered u)
call_numbered service.ExtUserPrm u m = plain content.ExtUserPrm (length u)
call_numbered service.SetSlaveAdr u m = address_in_lem (address-format.read_of u) (address.reading_numbered u)
call_numbered service.RdInp u m = empty content.RdInp (length u)
call_numbered service.RdOutp u m = empty content.RdOutp (length u)
call_numbered service.GlobalControl u m = command_in_lem (command-format.read_of u) (command.reading_numbered u)
call_numbered service.GetCfg u m = empty content.GetCfg (length u)
call_numbered service.SlaveDiag u m = empty content.SlaveDiagCall (length u)
call_numbered service.SetPrm u m = parameters_in_lem (parameters-format.read_of u m) (parameters.reading_numbered u m)
call_numbered service.ChkCfg u m = configuration_in_lem content.ChkCfg (configuration-format.read_of u) (length u) (configuration.reading_numbered u)

pub answer_numbered : (a : Answering) (u : List ℕ) → numbered (data_verdict (answer_of a u)) ≡ true
unfolding answer_of
answer_numbered answering.DataExchange u = plain content.DataExchange (length u)
answer_numbered answering.Dpv1 u = answer_in_lem (read_answer_of u) (acyclic.answer_numbered u)
answer_numbered answering.RdInp u = plain content.RdInp (length u)
answer_numbered answering.RdOutp u = plain content.RdOutp (length u)
answer_numbered answering.GetCfg u = configuration_in_lem content.GetCfg (configuration-format.read_of u) (length u) (configuration.reading_numbered u)
answer_numbered answering.SlaveDiag u = diagnosis_in_lem (diagnosis-format.read_of u) (length u) (diagnosis.reading_numbered u)

-- ---- writing

at_most_lem : (most : ℕ) (part : List ℕ) → numbered (at_most most part) ≡ true
unfolding at_most listed
at_most_lem most part = simp (through numbered, alike)

pub call_verdict_numbered : (c : Content) (part : List ℕ) → numbered (call_verdict c part) ≡ true
unfolding call_verdict listed
call_verdict_numbered content.DataExchange part = at_most_lem 244 part
call_verdict_numbered (content.Dpv1Call c) part = acyclic.call_verdict_numbered c (length part)
call_verdict_numbered (content.Dpv1Answer x) part = refl
call_verdict_numbered content.ExtUserPrm part = at_most_lem 244 part
call_verdict_numbered (content.SetSlaveAdr f) part = address.verdict_numbered f _
call_verdict_numbered content.RdInp part = at_most_lem 0 part
call_verdict_numbered content.RdOutp part = at_most_lem 0 part
call_verdict_numbered (content.GlobalControl f) part = command.verdict_numbered f _
call_verdict_numbered content.GetCfg part = at_most_lem 0 part
call_verdict_numbered content.SlaveDiagCall part = at_most_lem 0 part
call_verdict_numbered (content.SlaveDiag h) part = refl
call_verdict_numbered (content.SetPrm f) part = parameters.verdict_numbered f _
call_verdict_numbered content.ChkCfg part = configuration.reading_numbered part

pub answer_verdict_numbered : (c : Content) (part : List ℕ) → numbered (answer_verdict c part) ≡ true
unfolding answer_verdict listed
answer_verdict_numbered content.DataExchange part = at_most_lem 244 part
answer_verdict_numbered (content.Dpv1Call c) part = refl
answer_verdict_numbered (content.Dpv1Answer x) part = acyclic.answer_verdict_numbered x (length part)
answer_verdict_numbered content.ExtUserPrm part = refl
answer_verdict_numbered (content.SetSlaveAdr f) part = refl
answer_verdict_numbered content.RdInp part = at_most_lem 244 part
answer_verdict_numbered content.RdOutp part = at_most_lem 244 part
answer_verdict_numbered (content.GlobalControl f) part = refl
answer_verdict_numbered content.GetCfg part = configuration.reading_numbered part
answer_verdict_numbered content.SlaveDiagCall part = refl
answer_verdict_numbered (content.SlaveDiag h) part = diagnosis.verdict_numbered h part
answer_verdict_numbered (content.SetPrm f) part = refl
answer_verdict_numbered content.ChkCfg part = refl
