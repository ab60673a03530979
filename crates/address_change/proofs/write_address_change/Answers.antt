-- `address_change::write_address_change` meets its contract. The tests are the verdict, and 4 and the rest's length are all bytes.
use mathlib.Core.Path.{◌≡◌}
use native.Mathlib.Omega.{arith}
use borrow.Author.Tests.{le-ltb, eq-eqb}
use Rattle.octets.specs.Front.{fine}
use Rattle.octets.proofs.Front.{both_written}
use Rattle.address_change.specs.Address.{verdict_of, verdict_for}
use Rattle.address_change.proofs.write_address_change.Goals as goal

pub returns : goal.returns
unfolding verdict_of
returns c =
    let passed : let a = c.args in verdict_for a.fields a.rest.now ≡ fine = simp (eq-eqb _ _ c.if-size-ne4.false, le-ltb _ _ c.if-fields-gt125.false, le-ltb _ _ c.if-fields-gt1.false) in
    let s = c.store_behind.ensures in
    let both = both_written c.put-n.ensures c.args.rest.now s.count s.bytes (omega arith) in
    record { answer = rw passed both.0; bytes = rw passed both.1 }
