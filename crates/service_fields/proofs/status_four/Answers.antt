-- `service_fields::status_four` meets its contract, version by version.
use Rattle.service_fields.proofs.status_four.Goals as goal

pub returns-in-Dpv0 : goal.returns-in-Dpv0
returns-in-Dpv0 c = simp c.in-Dpv0.is

pub returns-in-Dpv1 : goal.returns-in-Dpv1
returns-in-Dpv1 c = simp c.in-Dpv1.is
