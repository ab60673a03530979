-- `control::command::write_global_command` meets its contract. The tests are the verdict, and 2 and the rest's length are all bytes.
use mathlib.Core.Path.{◌≡◌, sym, ap, ◌∙◌}
use mathlib.Core.Bool.{not}
use native.Mathlib.Omega.{arith}
use borrow.Author.Tests.{eq-eqb}
use Rattle.octets.specs.Front.{fine}
use Rattle.octets.proofs.Front.{both_written}
use Rattle.control.specs.Command.{verdict_of, verdict_for}
use Rattle.control.proofs.command.write_global_command.Goals as goal

pub returns : goal.returns
unfolding verdict_of
returns c =
    let passed : let a = c.args in verdict_for a.fields a.rest.now ≡ fine = simp (eq-eqb _ _ c.if-size-ne2.false, ap not (sym c.good_command.ensures ∙ c.if-not-good_command.false)) in
    let s = c.store_behind.ensures in
    let both = both_written c.put-n.ensures c.args.rest.now s.count s.bytes (omega arith) in
    record { answer = rw passed both.0; bytes = rw passed both.1 }
