-- The part that a service's fields leave lies inside the user data.
use Rattle.std.specs.Prelude.{ℕ, ◌+◌, ◌-◌, ◌≤◌, ◌≡◌, refl, not, List, length, get_or, eqb, ltb, Ok, Err}
use Rattle.std.proofs.Common.{arith, ltb-false, eqb-true}
use Rattle.std.proofs.lemmas.Bool.{not-false}
use Rattle.octets.specs.Choice.{pick}
use Rattle.octets.proofs.Choice.{by_pick}
use Rattle.octets.specs.Front.{fine, fault}
use Rattle.octets.proofs.Fixed.{by_verdict, passed}
use Rattle.octets.specs.declared.Mode.{Mode}
use Rattle.acyclic.specs.Answers.{read_answer_of, AnswerReading}
use Rattle.acyclic.specs.Calls.{read_call_of, CallReading}
use Rattle.acyclic.proofs.Laws.{call_data_inside, answer_data_inside}
use Rattle.address_change.specs.Address.{verdict_of as addressVerdict, fields_in as addressFields, read_of as readAddress, AddressReading}
use Rattle.configuration.specs.Reading.{read_of as readConfiguration}
use Rattle.configuration.specs.Reading as configuration-type
use Rattle.control.specs.Command.{good_command, verdict_of as commandVerdict, fields_in as commandFields, read_of as readCommand, CommandReading}
use Rattle.diagnosis.specs.Reading.{read_of as readDiagnosis}
use Rattle.diagnosis.proofs.Laws.{read_is_tiled}
use Rattle.diagnosis.specs.Reading as diagnosis-type
use Rattle.parameters.specs.Fields.{fixed_length, verdict_of as parametersVerdict}
use Rattle.parameters.specs.Reading.{extension_in, fields_in as parametersFields, read_of as readParameters}
use Rattle.parameters.specs.Reading as parameters-type
use Rattle.content.specs.Reading.{refused, end_of, plain_of, empty_of, address_in, command_in, diagnosis_in, parameters_in, configuration_in, dpv1_call_in, dpv1_answer_in, call_of, answer_of, UserData}
use Rattle.access.specs.declared.table.Service.{Service}
use Rattle.access.specs.declared.table.Service.TheVariants as service
use Rattle.access.specs.declared.route.Answering.{Answering}
use Rattle.access.specs.declared.route.Answering.TheVariants as answering
use Rattle.content.specs.declared.fields.Content.{Content}

none : (n : ℕ) → 0 ≤ n
none n = omega arith

all : (n : ℕ) → 0 + n ≤ n
all n = omega arith

behind : (k n : ℕ) → k ≤ n → k + (n - k) ≤ n
behind k n h = omega arith

-- ---- each format

-- plain bytes, and none
at_most_inside : (limit : ℕ) (c : Content) (n : ℕ) → end_of (pick (ltb limit n) (refused 20) (Ok (record { fields = c; start = 0; len = n }))) ≤ n
at_most_inside limit c n = by_pick (λ (d : UserData). end_of d ≤ n) (ltb limit n) (λ _. none n) (λ _. all n)

address_inside : (u : List ℕ) → end_of (address_in (readAddress u)) ≤ length u
unfolding readAddress addressVerdict
address_inside u =
    by_verdict (λ (r : AddressReading). end_of (address_in r) ≤ length u) (addressVerdict (addressFields u) (length u)) (λ _. none (length u))
    (λ good.
    let four : length u ≡ 4 = eqb-true _ _ (not-false _ (passed 20 (not (eqb (length u) 4)) (pick (ltb 125 (get_or u 0 0)) (fault 21) (pick (ltb 1 (get_or u 3 0)) (fault 21) fine)) good).0) in
    behind 4 (length u) (omega (arith, four)))

command_inside : (u : List ℕ) → end_of (command_in (readCommand u)) ≤ length u
unfolding readCommand commandVerdict
command_inside u =
    by_verdict (λ (r : CommandReading). end_of (command_in r) ≤ length u) (commandVerdict (commandFields u) (length u)) (λ _. none (length u))
    (λ good.
    let two : length u ≡ 2 = eqb-true _ _ (not-false _ (passed 20 (not (eqb (length u) 2)) (pick (not (good_command (get_or u 0 0))) (fault 21) fine) good).0) in
    behind 2 (length u) (omega (arith, two)))

parameters_inside : (u : List ℕ) (m : Mode) → end_of (parameters_in (readParameters u m)) ≤ length u
unfolding readParameters
parameters_inside u m =
    by_pick (λ (r : parameters-type.Reading). end_of (parameters_in r) ≤ length u) (ltb (length u) (fixed_length m)) (λ _. none (length u))
    (λ l. by_verdict (λ (r : parameters-type.Reading). end_of (parameters_in r) ≤ length u) (parametersVerdict (parametersFields u (extension_in u m)) (length u))
    (λ _. none (length u)) (λ _. behind (fixed_length m) (length u) (ltb-false _ _ l)))

diagnosis_inside : (u : List ℕ) (r : diagnosis-type.Reading) → readDiagnosis u ≡ r → end_of (diagnosis_in r (length u)) ≤ length u
diagnosis_inside u (Ok found) e = behind 6 (length u) (read_is_tiled u e).long
diagnosis_inside u (Err r) e = none (length u)

configuration_inside : (c : Content) (n : ℕ) (r : configuration-type.Reading) → end_of (configuration_in c r n) ≤ n
configuration_inside c n (Ok found) = all n
configuration_inside c n (Err r) = none n

dpv1_call_inside : (u : List ℕ) (r : CallReading) → read_call_of u ≡ r → end_of (dpv1_call_in r) ≤ length u
dpv1_call_inside u (Ok found) e =
    let h : found.start + found.len ≡ length u = call_data_inside u e in
    let i : found.start + found.len ≤ length u = omega (arith, h) in
    i
dpv1_call_inside u (Err r) e = none (length u)

dpv1_answer_inside : (u : List ℕ) (r : AnswerReading) → read_answer_of u ≡ r → end_of (dpv1_answer_in r) ≤ length u
dpv1_answer_inside u (Ok found) e =
    let h : found.start + found.len ≡ length u = answer_data_inside u e in
    let i : found.start + found.len ≤ length u = omega (arith, h) in
    i
dpv1_answer_inside u (Err r) e = none (length u)

-- ---- each service

pub call_inside : (s : Service) (u : List ℕ) (m : Mode) → end_of (call_of s u m) ≤ length u
unfolding call_of plain_of empty_of
call_inside service.DataExchange u m = at_most_inside _ _ (length u)
call_inside service.Dpv1 u m = dpv1_call_inside u (read_call_of u) refl
call_inside service.ExtUserPrm u m = at_most_inside _ _ (length u)
call_inside service.SetSlaveAdr u m = address_inside u
call_inside service.RdInp u m = at_most_inside _ _ (length u)
call_inside service.RdOutp u m = at_most_inside _ _ (length u)
call_inside service.GlobalControl u m = command_inside u
call_inside service.GetCfg u m = at_most_inside _ _ (length u)
call_inside service.SlaveDiag u m = at_most_inside _ _ (length u)
call_inside service.SetPrm u m = parameters_inside u m
call_inside service.ChkCfg u m = configuration_inside _ (length u) (readConfiguration u)

pub answer_inside : (a : Answering) (u : List ℕ) → end_of (answer_of a u) ≤ length u
unfolding answer_of plain_of
answer_inside answering.DataExchange u = at_most_inside _ _ (length u)
answer_inside answering.Dpv1 u = dpv1_answer_inside u (read_answer_of u) refl
answer_inside answering.RdInp u = at_most_inside _ _ (length u)
answer_inside answering.RdOutp u = at_most_inside _ _ (length u)
answer_inside answering.GetCfg u = configuration_inside _ (length u) (readConfiguration u)
answer_inside answering.SlaveDiag u = diagnosis_inside u (readDiagnosis u) refl
