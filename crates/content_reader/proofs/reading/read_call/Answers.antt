-- `content_reader::reading::read_call` meets its contract: each service has its reader.
use Rattle.content.specs.Reading.{call_of}
use Rattle.content_reader.proofs.reading.read_call.Goals as goal

pub returns-in-DataExchange : goal.returns-in-DataExchange
unfolding call_of
returns-in-DataExchange c = simp c.in-DataExchange.is c.read_plain.ensures

pub returns-in-Dpv1 : goal.returns-in-Dpv1
unfolding call_of
returns-in-Dpv1 c = simp c.in-Dpv1.is c.read_dpv1_call.ensures

pub returns-in-ExtUserPrm : goal.returns-in-ExtUserPrm
unfolding call_of
returns-in-ExtUserPrm c = simp c.in-ExtUserPrm.is c.read_plain-in-ExtUserPrm.ensures

pub returns-in-SetSlaveAdr : goal.returns-in-SetSlaveAdr
unfolding call_of
returns-in-SetSlaveAdr c = simp c.in-SetSlaveAdr.is c.read_address.ensures

pub returns-in-RdInp : goal.returns-in-RdInp
unfolding call_of
returns-in-RdInp c = simp c.in-RdInp.is c.read_empty.ensures

pub returns-in-RdOutp : goal.returns-in-RdOutp
unfolding call_of
returns-in-RdOutp c = simp c.in-RdOutp.is c.read_empty-in-RdOutp.ensures

pub returns-in-GlobalControl : goal.returns-in-GlobalControl
unfolding call_of
returns-in-GlobalControl c = simp c.in-GlobalControl.is c.read_command.ensures

pub returns-in-GetCfg : goal.returns-in-GetCfg
unfolding call_of
returns-in-GetCfg c = simp c.in-GetCfg.is c.read_empty-in-GetCfg.ensures

pub returns-in-SlaveDiag : goal.returns-in-SlaveDiag
unfolding call_of
returns-in-SlaveDiag c = simp c.in-SlaveDiag.is c.read_empty-in-SlaveDiag.ensures

pub returns-in-SetPrm : goal.returns-in-SetPrm
unfolding call_of
returns-in-SetPrm c = simp c.in-SetPrm.is c.read_parameters.ensures

pub returns-in-ChkCfg : goal.returns-in-ChkCfg
unfolding call_of
returns-in-ChkCfg c = simp c.in-ChkCfg.is c.read_configuration.ensures
