-- `typed_writer::writing::write32` meets its contract. Two stores, where both fit: the four bytes behind the code.
use native.Mathlib.Omega.{arith}
use Rattle.typed_writer.proofs.Coded.{most, behind_code}
use Rattle.typed_writer.proofs.writing.write32.Goals as goal

pub overflow_add-result : goal.overflow_add-result
overflow_add-result c = omega (arith, most _ _ c.store32.ensures.count)

pub returns : goal.returns
returns c =
    let s = c.store32.ensures in
    let told = behind_code _ _ _ s.count s.bytes c.if-out-lt5.false in
    record { answer = told.0; bytes = told.1 }
