-- `fdl_reader::source` meets its contract: SA's access point takes no more than what is left.
use mathlib.Core.Path.{sym}
use native.Mathlib.Omega.{arith}
use Rattle.fdl.proofs.Lemmas.Extends.{is_found, within}
use Rattle.fdl_reader.proofs.source.Goals as goal

pub overflow_sub-result : goal.overflow_sub-result
overflow_sub-result c =
    omega (arith, c.sap_length-n.ensures, within _ _ _ _ (is_found _ _ _ _ (sym c.in_ok-ssap.ensures)))
