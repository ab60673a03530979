-- `content_reader::reading::read_empty` meets its contract: by the length alone.
use Rattle.content.specs.Reading.{empty_of}
use borrow.Author.Tests.{lt-ltb, le-ltb}
use Rattle.content_reader.proofs.reading.read_empty.Goals as goal

pub returns-then-len-gt0 : goal.returns-then-len-gt0
unfolding empty_of
returns-then-len-gt0 c = simp (lt-ltb _ _ c.if-len-gt0.true)

pub returns : goal.returns
unfolding empty_of
returns c = simp (le-ltb _ _ c.if-len-gt0.false)
