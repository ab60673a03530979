-- `service_writer::lent_from` meets its contract: the test is the choice's.
use borrow.Author.Tests.{lt-ltb, le-ltb}
use Rattle.service_writer.proofs.lent_from.Goals as goal

pub returns-then-room-whole : goal.returns-then-room-whole
returns-then-room-whole c = simp (lt-ltb _ _ c.if-room-whole.true)

pub returns : goal.returns
returns c = simp (le-ltb _ _ c.if-room-whole.false)
