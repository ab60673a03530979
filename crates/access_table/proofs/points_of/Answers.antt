-- `access_table::points_of` meets its contract: each service has its row.
use Rattle.access.specs.Table.{services, row_at}
use Rattle.access_table.proofs.points_of.Goals as goal

pub returns-in-DataExchange : goal.returns-in-DataExchange
returns-in-DataExchange c = simp c.in-DataExchange.is

pub returns-in-Dpv1 : goal.returns-in-Dpv1
unfolding row_at services
returns-in-Dpv1 c = simp c.in-Dpv1.is c.points_at.ensures

pub returns-in-ExtUserPrm : goal.returns-in-ExtUserPrm
unfolding row_at services
returns-in-ExtUserPrm c = simp c.in-ExtUserPrm.is c.points_at-in-ExtUserPrm.ensures

pub returns-in-SetSlaveAdr : goal.returns-in-SetSlaveAdr
unfolding row_at services
returns-in-SetSlaveAdr c = simp c.in-SetSlaveAdr.is c.points_at-in-SetSlaveAdr.ensures

pub returns-in-RdInp : goal.returns-in-RdInp
unfolding row_at services
returns-in-RdInp c = simp c.in-RdInp.is c.points_at-in-RdInp.ensures

pub returns-in-RdOutp : goal.returns-in-RdOutp
unfolding row_at services
returns-in-RdOutp c = simp c.in-RdOutp.is c.points_at-in-RdOutp.ensures

pub returns-in-GlobalControl : goal.returns-in-GlobalControl
unfolding row_at services
returns-in-GlobalControl c = simp c.in-GlobalControl.is c.points_at-in-GlobalControl.ensures

pub returns-in-GetCfg : goal.returns-in-GetCfg
unfolding row_at services
returns-in-GetCfg c = simp c.in-GetCfg.is c.points_at-in-GetCfg.ensures

pub returns-in-SlaveDiag : goal.returns-in-SlaveDiag
unfolding row_at services
returns-in-SlaveDiag c = simp c.in-SlaveDiag.is c.points_at-in-SlaveDiag.ensures

pub returns-in-SetPrm : goal.returns-in-SetPrm
unfolding row_at services
returns-in-SetPrm c = simp c.in-SetPrm.is c.points_at-in-SetPrm.ensures

pub returns-in-ChkCfg : goal.returns-in-ChkCfg
unfolding row_at services
returns-in-ChkCfg c = simp c.in-ChkCfg.is c.points_at-in-ChkCfg.ensures
