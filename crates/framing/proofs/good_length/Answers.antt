-- `framing::good_length` meets its contract. The definition has the same three cases.
use borrow.Author.Tests.{eq-eqb, ne_eqb}
use Rattle.framing.proofs.good_length.Goals as goal

pub returns-in-Sd1 : goal.returns-in-Sd1
returns-in-Sd1 c = rw c.in-Sd1.is

pub returns-then-pdu-eq0 : goal.returns-then-pdu-eq0
returns-then-pdu-eq0 c = rw c.in-Sd2.is (simp (eq-eqb _ _ c.if-pdu-eq0.true))

pub returns-else-pdu-eq0 : goal.returns-else-pdu-eq0
returns-else-pdu-eq0 c = rw c.in-Sd2.is (simp (ne_eqb _ _ c.if-pdu-eq0.false))

pub returns-in-Sd3 : goal.returns-in-Sd3
returns-in-Sd3 c = rw c.in-Sd3.is
