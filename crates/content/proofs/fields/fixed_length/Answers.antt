-- `content::fields::fixed_length` meets its contract: each content has its length.
use Rattle.content.proofs.fields.fixed_length.Goals as goal

pub returns-in-SetPrm : goal.returns-in-SetPrm
returns-in-SetPrm c = simp c.in-SetPrm.is c.parameters_length.ensures
