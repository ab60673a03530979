-- `framing::user_start` meets its contract. The start, three bytes and the access points are few.
use native.Mathlib.Omega.{arith}
use borrow.Author.Rules.{rules}
use Rattle.fdl.proofs.Lemmas.Fields.{sap_small, start_small}
use Rattle.framing.proofs.user_start.Goals as goal

pub overflow_add-result : goal.overflow_add-result
overflow_add-result c = omega (arith, start_small c.args.format)

pub overflow_add-result-2 : goal.overflow_add-result-2
overflow_add-result-2 c =
    let a = c.args in
    omega (arith, start_small a.format, sap_small a.header.dsap, sap_small a.header.ssap)

pub returns : goal.returns
returns c = search rules
