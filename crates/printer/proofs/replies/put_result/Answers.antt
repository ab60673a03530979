-- `printer::replies::put_result` meets its contract. Each arm stores its four bytes in turn.
use mathlib.Core.List.{[], ◌∷◌}
use Rattle.octets.proofs.Front.{stores}
use Rattle.content.specs.Writing.{bytes_for}
use Rattle.printer.proofs.replies.put_result.Goals as goal

pub returns-in-Positive : goal.returns-in-Positive
unfolding bytes_for
returns-in-Positive c =
    let o = c.in-Positive in
    rw o.is (stores (0x5F ∷ o.slot ∷ o.index ∷ o.length ∷ []) c.args.out.now c.requires)

pub returns-in-Negative : goal.returns-in-Negative
unfolding bytes_for
returns-in-Negative c =
    let o = c.in-Negative in
    rw o.is (stores (0xDF ∷ 128 ∷ o.code1 ∷ o.code2 ∷ []) c.args.out.now c.requires)
