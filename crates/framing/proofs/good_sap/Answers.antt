-- `framing::good_sap` meets its contract. The definition has the same two cases.
use mathlib.Core.Path.{sym, ap}
use Rattle.fdl.specs.Writing.{good_sap}
use Rattle.framing.proofs.good_sap.Goals as goal

pub returns-in-Some : goal.returns-in-Some
returns-in-Some c = sym (ap good_sap c.in-Some.is)
