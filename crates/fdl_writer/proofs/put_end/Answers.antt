-- `fdl_writer::put_end` meets its contract. Two bytes are stored in turn behind the first n.
use mathlib.Core.Path.{ap, ◌∙◌}
use mathlib.Core.List.{[], ◌∷◌}
use Prim.Native.Nat.{ℕ}
use native.Mathlib.Numerals.{add-one}
use native.Mathlib.Omega.{arith}
use lib.ListN.{set, length-set}
use lib.Seq.{sets-eq}
use Rattle.fdl_writer.proofs.put_end.Goals as goal

pub bounds-out-n-2 : goal.bounds-out-n-2
bounds-out-n-2 c = simp length-set (omega arith)

pub returns : goal.returns
returns c =
    let n = c.args.n in
    let l = c.args.out.now in
    ap (λ (k : ℕ). set (set l n c.args.fcs) k 0x16) (add-one n)
    ∙ sets-eq (c.args.fcs ∷ 0x16 ∷ []) l n c.requires.1
