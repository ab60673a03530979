-- `content_reader::reading::read_answer` meets its contract: each service has its reader.
use Rattle.content.specs.Reading.{answer_of}
use Rattle.content_reader.proofs.reading.read_answer.Goals as goal

pub returns-in-DataExchange : goal.returns-in-DataExchange
unfolding answer_of
returns-in-DataExchange c = simp c.in-DataExchange.is c.read_plain.ensures

pub returns-in-Dpv1 : goal.returns-in-Dpv1
unfolding answer_of
returns-in-Dpv1 c = simp c.in-Dpv1.is c.read_dpv1_answer.ensures

pub returns-in-RdInp : goal.returns-in-RdInp
unfolding answer_of
returns-in-RdInp c = simp c.in-RdInp.is c.read_plain-in-RdInp.ensures

pub returns-in-RdOutp : goal.returns-in-RdOutp
unfolding answer_of
returns-in-RdOutp c = simp c.in-RdOutp.is c.read_plain-in-RdOutp.ensures

pub returns-in-GetCfg : goal.returns-in-GetCfg
unfolding answer_of
returns-in-GetCfg c = simp c.in-GetCfg.is c.read_configuration.ensures

pub returns-in-SlaveDiag : goal.returns-in-SlaveDiag
unfolding answer_of
returns-in-SlaveDiag c = simp c.in-SlaveDiag.is c.read_diagnosis.ensures
