-- `service_fields::own_of` meets its contract, content by content.
use mathlib.Core.Path.{◌≡◌, sym, ap, ◌∙◌}
use mathlib.Core.List.{List, ◌∷◌}
use Prim.Native.Nat.{ℕ}
use Rattle.octets.specs.Places.{places_of}
use Rattle.service_fields.specs.Service.{own_fields}
use Rattle.service_fields.proofs.own_of.Goals as goal

-- four fields of a call or an answer
dpv1 : {o p q : List ℕ} → o ≡ 51 ∷ places_of 10 p → p ≡ q → o ≡ 51 ∷ places_of 10 q
dpv1 e f = e ∙ ap (λ (l : List ℕ). 51 ∷ places_of 10 l) f

pub returns-in-DataExchange : goal.returns-in-DataExchange
returns-in-DataExchange c = c.led.ensures ∙ sym (ap own_fields c.in-DataExchange.is)

pub returns-in-Dpv1Call : goal.returns-in-Dpv1Call
returns-in-Dpv1Call c =
    dpv1 c.led-in-Dpv1Call.ensures c.call_four.ensures ∙ sym (ap own_fields c.in-Dpv1Call.is)

pub returns-in-Dpv1Answer : goal.returns-in-Dpv1Answer
returns-in-Dpv1Answer c =
    dpv1 c.led-in-Dpv1Answer.ensures c.answer_four.ensures ∙ sym (ap own_fields c.in-Dpv1Answer.is)

pub returns-in-ExtUserPrm : goal.returns-in-ExtUserPrm
returns-in-ExtUserPrm c = c.led-in-ExtUserPrm.ensures ∙ sym (ap own_fields c.in-ExtUserPrm.is)

pub returns-in-SetSlaveAdr : goal.returns-in-SetSlaveAdr
returns-in-SetSlaveAdr c = c.led-in-SetSlaveAdr.ensures ∙ sym (ap own_fields c.in-SetSlaveAdr.is)

pub returns-in-RdInp : goal.returns-in-RdInp
returns-in-RdInp c = c.led-in-RdInp.ensures ∙ sym (ap own_fields c.in-RdInp.is)

pub returns-in-RdOutp : goal.returns-in-RdOutp
returns-in-RdOutp c = c.led-in-RdOutp.ensures ∙ sym (ap own_fields c.in-RdOutp.is)

pub returns-in-GlobalControl : goal.returns-in-GlobalControl
returns-in-GlobalControl c = c.led-in-GlobalControl.ensures ∙ sym (ap own_fields c.in-GlobalControl.is)

pub returns-in-GetCfg : goal.returns-in-GetCfg
returns-in-GetCfg c = c.led-in-GetCfg.ensures ∙ sym (ap own_fields c.in-GetCfg.is)

pub returns-in-SlaveDiagCall : goal.returns-in-SlaveDiagCall
returns-in-SlaveDiagCall c = c.led-in-SlaveDiagCall.ensures ∙ sym (ap own_fields c.in-SlaveDiagCall.is)

pub returns-in-SlaveDiag : goal.returns-in-SlaveDiag
returns-in-SlaveDiag c = c.diagnosis_own.ensures ∙ sym (ap own_fields c.in-SlaveDiag.is)

pub returns-in-SetPrm : goal.returns-in-SetPrm
returns-in-SetPrm c = c.parameters_own.ensures ∙ sym (ap own_fields c.in-SetPrm.is)

pub returns-in-ChkCfg : goal.returns-in-ChkCfg
returns-in-ChkCfg c = c.led-in-ChkCfg.ensures ∙ sym (ap own_fields c.in-ChkCfg.is)
