-- `controller::requests::put_data` meets its contract. Four bytes are stored in turn, and the body behind them.
use mathlib.Core.List.{List, [], ◌∷◌}
use Prim.Native.Nat.{ℕ}
use native.Mathlib.Omega.{arith}
use lib.ListN.{length, length-append}
use Rattle.octets.proofs.Front.{stores, both_stored}
use Rattle.content.specs.Writing.{bytes_for}
use Rattle.controller.proofs.requests.put_data.Goals as goal

pub returns : goal.returns
unfolding bytes_for
returns c =
    let head_at : List ℕ = 0x5F ∷ 1 ∷ c.args.index ∷ length c.args.body.now ∷ [] in
    let l = c.args.out.now in
    both_stored (stores head_at l (omega (arith, c.requires.1))) c.args.body.now c.store_behind.ensures.count c.store_behind.ensures.bytes
    (omega (arith, length-append head_at c.args.body.now, c.requires.1))
