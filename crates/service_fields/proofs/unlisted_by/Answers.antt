-- `service_fields::unlisted_by` meets its contract. The definition has the same test.
use borrow.Author.Tests.{lt-ltb, le-ltb}
use Rattle.service_fields.proofs.unlisted_by.Goals as goal

pub returns-then-service-gt63 : goal.returns-then-service-gt63
returns-then-service-gt63 c = simp (lt-ltb _ _ c.if-service-gt63.true)

pub returns : goal.returns
returns c = simp (le-ltb _ _ c.if-service-gt63.false)
