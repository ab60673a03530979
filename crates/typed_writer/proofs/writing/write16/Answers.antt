-- `typed_writer::writing::write16` meets its contract. Two stores, where both fit: the two bytes behind the code.
use native.Mathlib.Omega.{arith}
use Rattle.typed_writer.proofs.Coded.{most, behind_code}
use Rattle.typed_writer.proofs.writing.write16.Goals as goal

pub overflow_add-result : goal.overflow_add-result
overflow_add-result c = omega (arith, most _ _ c.store16.ensures.count)

pub returns : goal.returns
returns c =
    let s = c.store16.ensures in
    let told = behind_code _ _ _ s.count s.bytes c.if-out-lt3.false in
    record { answer = told.0; bytes = told.1 }
