-- `service_reader::read` meets its contract: by what the telegram is; the part that is handed back ends where a number can say.
use Prim.Native.Nat.{ℕ, ◌+◌, ◌≤◌}
use mathlib.Core.Path.{sym, ap, ◌∙◌}
use mathlib.Core.List.{List}
use native.Mathlib.Omega.{arith}
use lib.Dec.{leb}
use lib.ListN.{length}
use borrow.Author.Tests.{leb-true}
use Rattle.std.specs.Prelude.{Ok}
use Rattle.octets.proofs.Choice.{by_pick}
use Rattle.octets.proofs.Refusals.{handed_on}
use Rattle.octets.specs.Part.{part_of}
use Rattle.octets.proofs.PartLaws.{part_short}
use Rattle.fdl.specs.Reading as telegram
use Rattle.fdl.proofs.Lemmas.Classed.{said}
use Rattle.access.specs.Route.{route_of}
use Rattle.service.specs.Reading.{routed_by, service_in, read_of}
use Rattle.service_reader.proofs.read.Goals as goal

-- a part lies inside, or is empty
ends : (s : List ℕ) (start len most : ℕ) → start ≤ most → length s ≤ most → start + length (part_of s start len) ≤ most
unfolding part_of
ends s start len most a b =
    by_pick (λ (l : List ℕ). length l ≤ len → start + length l ≤ most) (leb (start + len) (length s)) (λ t i. omega (arith, leb-true (start + len) (length s) t))
    (λ _ _. omega arith) (part_short s start len)

pub routed-requires : goal.routed-requires
routed-requires c =
    let s = c.args.bytes.now in
    let t = c.in-Telegram in
    let e = ap length c.part-user.ensures in
    ((said (telegram.read_of s) (sym (ap Ok (sym t.is) ∙ c.in_ok-telegram.ensures))).1, omega (arith, e, ends s t.start t.len 18446744073709551615 (omega arith) (omega arith)))

pub returns-in-Confirmation : goal.returns-in-Confirmation
unfolding read_of
returns-in-Confirmation c = simp (said (telegram.read_of c.args.bytes.now) (sym (ap Ok (sym c.in-Confirmation.is) ∙ c.in_ok-telegram.ensures)))

pub returns-in-Token : goal.returns-in-Token
unfolding read_of
returns-in-Token c = simp (said (telegram.read_of c.args.bytes.now) (sym (ap Ok (sym c.in-Token.is) ∙ c.in_ok-telegram.ensures)))

pub returns-in-Telegram : goal.returns-in-Telegram
unfolding read_of
returns-in-Telegram c =
    let a = c.args in
    let t = c.in-Telegram in
    c.routed.ensures ∙ ap (λ (u : List ℕ). routed_by (route_of t.header) t.format t.header t.start u a.mode) c.part-user.ensures
    ∙ sym (ap (service_in a.bytes.now a.mode) (said (telegram.read_of a.bytes.now) (sym (ap Ok (sym t.is) ∙ c.in_ok-telegram.ensures))).0)

pub returns-in_err-telegram : goal.returns-in_err-telegram
unfolding read_of
returns-in_err-telegram c =
    handed_on _ _ c.from_residual.ensures ∙ simp (said (telegram.read_of c.args.bytes.now) (sym c.in_err-telegram.ensures))
