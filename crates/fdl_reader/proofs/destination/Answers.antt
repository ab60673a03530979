-- `fdl_reader::destination` meets its contract: DA's access point takes no more than what is left.
use mathlib.Core.Path.{sym}
use Prim.Native.Nat.{◌≤◌}
use native.Mathlib.Omega.{arith}
use Rattle.fdl.proofs.Lemmas.Extends.{is_found, within}
use Rattle.fdl_reader.proofs.destination.Goals as goal

pub overflow_sub-pdu : goal.overflow_sub-pdu
overflow_sub-pdu c =
    omega (arith, c.sap_length-n.ensures, within _ _ _ _ (is_found _ _ _ _ (sym c.in_ok-dsap.ensures)))

pub source-requires : goal.source-requires
source-requires c =
    let fits : c.sap_length-n.result ≤ c.args.pdu =
    omega (arith, c.sap_length-n.ensures, within _ _ _ _ (is_found _ _ _ _ (sym c.in_ok-dsap.ensures))) in
    omega (arith, fits, c.requires)
