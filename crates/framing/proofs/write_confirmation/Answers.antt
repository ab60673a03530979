-- `framing::write_confirmation` meets its contract. The slice is too small, or the one byte is stored.
use Rattle.octets.proofs.Front.{stores, too_small, stored}
use Rattle.fdl.specs.Writing.{confirmation_bytes}
use Rattle.framing.proofs.write_confirmation.Goals as goal

pub returns-then-out-lt1 : goal.returns-then-out-lt1
returns-then-out-lt1 c =
    let told = too_small confirmation_bytes c.args.out.now c.if-out-lt1.true in
    record { answer = told.0; bytes = told.1 }

pub returns : goal.returns
returns c =
    let told = stored c.if-out-lt1.false (stores confirmation_bytes c.args.out.now c.if-out-lt1.false) in
    record { answer = told.0; bytes = told.1 }
