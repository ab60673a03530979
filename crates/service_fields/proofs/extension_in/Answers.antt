-- `service_fields::extension_in` meets its contract. The definition has the same test.
use borrow.Author.Tests.{eq-eqb, ne_eqb}
use Rattle.service_fields.proofs.extension_in.Goals as goal

pub returns-then-version-eq0 : goal.returns-then-version-eq0
returns-then-version-eq0 c = simp (eq-eqb _ _ c.if-version-eq0.true)

pub returns : goal.returns
returns c = simp (ne_eqb _ _ c.if-version-eq0.false)
