-- `framing::saps_length` meets its contract. Each access point takes at most one byte.
use native.Mathlib.Omega.{arith}
use borrow.Author.Rules.{rules}
use Rattle.fdl.proofs.Lemmas.Fields.{sap_small}
use Rattle.framing.proofs.saps_length.Goals as goal

pub overflow_add-result : goal.overflow_add-result
overflow_add-result c =
    let h = c.args.header in
    omega (arith, sap_small h.dsap, sap_small h.ssap)

pub returns : goal.returns
returns c = search rules
