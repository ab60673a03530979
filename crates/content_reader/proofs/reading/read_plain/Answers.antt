-- `content_reader::reading::read_plain` meets its contract: by the length alone.
use Rattle.content.specs.Reading.{plain_of}
use borrow.Author.Tests.{lt-ltb, le-ltb}
use Rattle.content_reader.proofs.reading.read_plain.Goals as goal

pub returns-then-len-gt244 : goal.returns-then-len-gt244
unfolding plain_of
returns-then-len-gt244 c = simp (lt-ltb _ _ c.if-len-gt244.true)

pub returns : goal.returns
unfolding plain_of
returns c = simp (le-ltb _ _ c.if-len-gt244.false)
