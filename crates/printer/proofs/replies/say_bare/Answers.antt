-- `printer::replies::say_bare` meets its contract.
use Rattle.std.specs.Prelude.{None}
use mathlib.Core.Path.{◌≡◌}
use mathlib.Core.List.{List, []}
use Prim.Native.Nat.{ℕ}
use Rattle.octets.specs.Front.{fine}
use Rattle.fdl.proofs.Around.{user_none}
use Rattle.fdl.specs.Writing.{telegram_of, verdict_of}
use Rattle.fdl.specs.declared.telegram.Format.TheVariants.{Sd1}
use Rattle.fdl.specs.declared.telegram.Header.{Header}
use Rattle.access.specs.Route.{header_with}
use Rattle.protocol.proofs.MachineLaws.Replies.{bare_fine}
use Rattle.printer_rules.specs.Meaning.{function_of}
use Rattle.printer.proofs.Sent.{small, sent, short, bare_class}
use Rattle.printer.proofs.replies.say_bare.Goals as goal

pub stored-requires : goal.stored-requires
stored-requires c =
    let header_at : Header = header_with c.args.to c.args.address c.function_of.result None None in
    let bytes_at : List ℕ = telegram_of Sd1 header_at [] in
    let fine_at : verdict_of Sd1 header_at [] ≡ fine = let c = c in
    rw c.function_of.ensures (bare_fine c.args.to c.args.address c.requires.other c.requires.own (function_of c.args.status) (bare_class c.args.status)) in
    small bytes_at c.args.out.now fine_at (short Sd1 header_at [] fine_at) c.requires.room (rw (user_none Sd1 header_at c.args.out.now) at c.write_around.ensures.answer)

pub returns : goal.returns
returns c =
    let header_at : Header = header_with c.args.to c.args.address c.function_of.result None None in
    let bytes_at : List ℕ = telegram_of Sd1 header_at [] in
    let fine_at : verdict_of Sd1 header_at [] ≡ fine = let c = c in
    rw c.function_of.ensures (bare_fine c.args.to c.args.address c.requires.other c.requires.own (function_of c.args.status) (bare_class c.args.status)) in
    let n = user_none Sd1 header_at c.args.out.now in
    rw c.function_of.ensures at
    (sent bytes_at c.args.out.now fine_at (short Sd1 header_at [] fine_at) c.requires.room (rw n at c.write_around.ensures.answer) (rw n at c.write_around.ensures.bytes) c.stored.ensures)
