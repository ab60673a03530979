-- `fdl_writer::sap_sum` meets its contract. The definition has the same two cases.
use native.Mathlib.Omega.{arith}
use Rattle.fdl_writer.proofs.sap_sum.Goals as goal

pub returns-in-Some : goal.returns-in-Some
returns-in-Some c = rw c.in-Some.is (omega arith)
