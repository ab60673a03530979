-- `content_writer::writing::write_at_most` meets its contract: the test is the verdict, and the bytes are stored as they are.
use mathlib.Core.Path.{◌≡◌}
use borrow.Author.Tests.{lt-ltb, le-ltb}
use Rattle.octets.specs.Front.{fine}
use Rattle.octets.proofs.Front.{at_front, refused, too_small, stored}
use Rattle.content.specs.Writing.{at_most}
use Rattle.content_writer.proofs.writing.write_at_most.Goals as goal

pub returns-then-most-part : goal.returns-then-most-part
unfolding at_most
returns-then-most-part c =
    let a = c.args in
    let told = (refused 20 a.part.now a.out.now) in
    record { answer = simp (lt-ltb _ _ c.if-most-part.true) told.0; bytes = simp (lt-ltb _ _ c.if-most-part.true) told.1 }

pub returns-then-out-part : goal.returns-then-out-part
unfolding at_most
returns-then-out-part c =
    let verdict : let a = c.args in at_most a.most a.part.now ≡ fine = simp (le-ltb _ _ c.if-most-part.false) in
    let a = c.args in
    let told = (too_small a.part.now a.out.now c.if-out-part.true) in
    record { answer = rw verdict told.0; bytes = rw verdict told.1 }

pub returns : goal.returns
unfolding at_most
returns c =
    let verdict : let a = c.args in at_most a.most a.part.now ≡ fine = simp (le-ltb _ _ c.if-most-part.false) in
    let told = (stored c.if-out-part.false (at_front c.store.ensures.count c.store.ensures.bytes c.if-out-part.false)) in
    record { answer = rw verdict told.0; bytes = rw verdict told.1 }
