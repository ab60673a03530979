-- `printer_input::asking::asked_in` meets its contract: SRD alone, and what the telegram that was read carries.
use mathlib.Core.Path.{sym, ap, ◌∙◌}
use mathlib.Core.Bool.{Bool}
use mathlib.Core.List.{List}
use native.Mathlib.Omega.{arith}
use lib.ListN.{length}
use Rattle.octets.specs.Choice.{pick}
use Rattle.octets.proofs.PartLaws.{part_short}
use Rattle.octets.specs.declared.Mode.TheVariants as mode
use Prim.Native.Nat.{ℕ}
use Rattle.fdl.specs.Reading.{Reading}
use Rattle.access.specs.Route.{route_of}
use Rattle.service.specs.Reading.{routed_by, service_in, read_of}
use Rattle.protocol.specs.Printer.{unknown, ask_by, ask_in}
use Rattle.printer_input.proofs.asking.asked_in.Goals as goal

pub returns-then-not-is_srd : goal.returns-then-not-is_srd
unfolding ask_in
returns-then-not-is_srd c f told = simp (sym c.is_srd.ensures ∙ c.if-not-is_srd.true)

pub routed-requires : goal.routed-requires
routed-requires c =
    let a = c.args in
    let e = ap length c.part-user.ensures in
    (c.requires.0, c.requires.1, omega (arith, e, part_short a.telegram.now a.start a.len, c.requires.2))

pub returns : goal.returns
unfolding ask_in read_of
returns c f told =
    let a = c.args in
    let s = a.telegram.now in
    let srd = sym c.is_srd.ensures ∙ c.if-not-is_srd.false in
    c.routed.ensures s f ∙ ap (λ (u : List ℕ). ask_by s (routed_by (route_of a.header) f a.header a.start u mode.Dpv1)) c.part-user.ensures
    ∙ ap (λ (t : Reading). ask_by s (service_in s mode.Dpv1 t)) told
    ∙ sym (ap (λ (t : Bool). pick t (ask_by s (read_of s mode.Dpv1)) unknown) srd)
