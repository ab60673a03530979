-- Which user data are accepted, by their service and their way: each service's own bytes, in plain arithmetic.
use Rattle.std.specs.Prelude.{ℕ, ◌≤◌, ◌≡◌, refl, Bool, true, false, List, [], ◌↔◌, length, ltb, Ok, Err}
use Rattle.std.proofs.Common.{sym, ◌∙◌, arith, ltb-false, le-ltb}
use Rattle.octets.proofs.Choice.{by_pick, never}
use Rattle.octets.specs.Number.{bytes_of}
use Rattle.octets.specs.declared.Mode.{Mode}
use Rattle.octets.specs.declared.Mode.TheVariants as mode
use Rattle.acyclic.specs.Answers.{read_answer_of, AnswerReading}
use Rattle.acyclic.specs.Calls.{read_call_of, CallReading}
use Rattle.acyclic.specs.Bytes.{CallBytes, call_accepted, AnswerBytes, answer_accepted}
use Rattle.acyclic.proofs.Accepted.{call_accepted_lem, answer_accepted_lem}
use Rattle.address_change.specs.Address as address
use Rattle.address_change.proofs.Accepted as address_accepted
use Rattle.address_change.specs.Accepted as address_accepted_words
use Rattle.address_change.specs.Address.{AddressReading}
use Rattle.configuration.specs.Reading as configuration
use Rattle.configuration.specs.Contents as configuration-contents
use Rattle.configuration.specs.Bytes.{IsConfiguration}
use Rattle.configuration.proofs.Accepted.{configuration_accepted}
use Rattle.control.specs.Command as command
use Rattle.control.proofs.Accepted as command_accepted
use Rattle.control.specs.Accepted as command_accepted_words
use Rattle.control.specs.Command.{CommandReading}
use Rattle.diagnosis.specs.Reading as diagnosis
use Rattle.diagnosis.specs.Contents as diagnosis-contents
use Rattle.diagnosis.specs.Bytes.{IsDiagnosis}
use Rattle.diagnosis.proofs.Accepted.{diagnosis_accepted}
use Rattle.parameters.specs.Reading as parameters
use Rattle.parameters.proofs.Accepted as parameters_accepted
use Rattle.parameters.specs.Accepted as parameters_accepted_words
use Rattle.access.specs.declared.table.Service.{Service}
use Rattle.access.specs.declared.table.Service.TheVariants as service
use Rattle.access.specs.declared.route.Answering.{Answering}
use Rattle.access.specs.declared.route.Answering.TheVariants as answering
use Rattle.content.specs.Reading.{plain_of, empty_of, address_in, command_in, diagnosis_in, parameters_in, configuration_in, dpv1_call_in, dpv1_answer_in, call_of, answer_of, UserData}
use Rattle.content.specs.declared.fields.Content.{Content}

abbrev pub accepted : UserData → Bool
accepted (Ok found) = true
accepted (Err r) = false

-- ---- the bytes

-- Ext_User_Prm and process data are plain bytes, at most 244; calls to 56, 57, 59 and 60 are empty
abbrev pub CallData : Service → (user : List ℕ) → Mode → Type 0
CallData service.DataExchange u m = length u ≤ 244
CallData service.Dpv1 u m = CallBytes u
CallData service.ExtUserPrm u m = length u ≤ 244
CallData service.SetSlaveAdr u m = address_accepted_words.AddressBytes u
CallData service.RdInp u m = length u ≡ 0
CallData service.RdOutp u m = length u ≡ 0
CallData service.GlobalControl u m = command_accepted_words.CommandBytes u
CallData service.GetCfg u m = length u ≡ 0
CallData service.SlaveDiag u m = length u ≡ 0
CallData service.SetPrm u m = parameters_accepted_words.ParameterBytes u m
CallData service.ChkCfg u m = IsConfiguration u

abbrev pub AnswerData : Answering → (user : List ℕ) → Type 0
AnswerData answering.DataExchange u = length u ≤ 244
AnswerData answering.Dpv1 u = AnswerBytes u
AnswerData answering.RdInp u = length u ≤ 244
AnswerData answering.RdOutp u = length u ≤ 244
AnswerData answering.GetCfg u = IsConfiguration u
AnswerData answering.SlaveDiag u = IsDiagnosis u

-- ---- each format

-- the same test, the same condition
with_test : {P : Type 0} {a b : Bool} → a ≡ b → (b ≡ true ↔ P) → (a ≡ true ↔ P)
with_test e p = (λ x. p.0 (sym e ∙ x), λ x. e ∙ p.1 x)

plain : (c : Content) (n : ℕ) → accepted (plain_of c n) ≡ true ↔ n ≤ 244
unfolding plain_of
plain c n = (
  by_pick (λ r. accepted r ≡ true → n ≤ 244) (ltb 244 n) (λ _ a. absurd (never a)) (λ l _. ltb-false 244 n l),
  λ h. simp (le-ltb _ _ h),
)

empty : (c : Content) (n : ℕ) → accepted (empty_of c n) ≡ true ↔ n ≡ 0
unfolding empty_of
empty c n = (
  by_pick (λ r. accepted r ≡ true → n ≡ 0) (ltb 0 n) (λ _ a. absurd (never a)) (λ l _. omega (arith, ltb-false 0 n l)),
  λ e. simp e,
)

of_address : (r : AddressReading) → accepted (address_in r) ≡ address_accepted_words.accepted r
of_address (Ok found) = refl
of_address (Err r) = refl

of_command : (r : CommandReading) → accepted (command_in r) ≡ command_accepted_words.accepted r
of_command (Ok found) = refl
of_command (Err r) = refl

of_diagnosis : (r : diagnosis.Reading) (len : ℕ) → accepted (diagnosis_in r len) ≡ diagnosis-contents.accepted r
of_diagnosis (Ok found) len = refl
of_diagnosis (Err r) len = refl

of_parameters : (r : parameters.Reading) → accepted (parameters_in r) ≡ parameters_accepted_words.accepted r
of_parameters (Ok found) = refl
of_parameters (Err r) = refl

of_configuration : (c : Content) (r : configuration.Reading) (len : ℕ) → accepted (configuration_in c r len) ≡ configuration-contents.accepted r
of_configuration c (Ok found) len = refl
of_configuration c (Err r) len = refl

of_call : (r : CallReading) → accepted (dpv1_call_in r) ≡ call_accepted r
of_call (Ok found) = refl
of_call (Err r) = refl

of_answer : (r : AnswerReading) → accepted (dpv1_answer_in r) ≡ answer_accepted r
of_answer (Ok found) = refl
of_answer (Err r) = refl

-- ---- each service

module _ (u : List ℕ) where
  -- A call's user data are accepted exactly when they are the bytes of its service, in the version that the caller speaks.
  pub call_data_accepted : (s : Service) (m : Mode) → accepted (call_of s u m) ≡ true ↔ CallData s u m
  unfolding call_of
  call_data_accepted service.DataExchange m = plain _ (length u)
  call_data_accepted service.Dpv1 m = with_test (of_call (read_call_of u)) (call_accepted_lem u)
  call_data_accepted service.ExtUserPrm m = plain _ (length u)
  call_data_accepted service.SetSlaveAdr m = with_test (of_address (address.read_of u)) (address_accepted.address_accepted u)
  call_data_accepted service.RdInp m = empty _ (length u)
  call_data_accepted service.RdOutp m = empty _ (length u)
  call_data_accepted service.GlobalControl m = with_test (of_command (command.read_of u)) (command_accepted.command_accepted u)
  call_data_accepted service.GetCfg m = empty _ (length u)
  call_data_accepted service.SlaveDiag m = empty _ (length u)
  call_data_accepted service.SetPrm m = with_test (of_parameters (parameters.read_of u m)) (parameters_accepted.parameters_accepted u m)
  call_data_accepted service.ChkCfg m = with_test (of_configuration _ (configuration.read_of u) (length u)) (configuration_accepted u)

  -- The same of an answer's.
  pub answer_data_accepted : (a : Answering) → accepted (answer_of a u) ≡ true ↔ AnswerData a u
  unfolding answer_of
  answer_data_accepted answering.DataExchange = plain _ (length u)
  answer_data_accepted answering.Dpv1 = with_test (of_answer (read_answer_of u)) (answer_accepted_lem u)
  answer_data_accepted answering.RdInp = plain _ (length u)
  answer_data_accepted answering.RdOutp = plain _ (length u)
  answer_data_accepted answering.GetCfg = with_test (of_configuration _ (configuration.read_of u) (length u)) (configuration_accepted u)
  answer_data_accepted answering.SlaveDiag = with_test (of_diagnosis (diagnosis.read_of u) (length u)) (diagnosis_accepted u)

-- 244 bytes of Ext_User_Prm, an empty call of Slave_Diag, and no process data.
pub data_computed :
    (accepted (call_of service.ExtUserPrm (bytes_of 244 0) mode.Dpv0) ≡ true)
    × (accepted (call_of service.SlaveDiag [] mode.Dpv1) ≡ true)
    × (accepted (answer_of answering.DataExchange []) ≡ true)
unfolding call_of answer_of plain_of empty_of
data_computed = (refl, refl, refl)
