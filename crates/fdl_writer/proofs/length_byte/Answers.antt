-- `fdl_writer::length_byte` meets its contract. DA, SA, FC and the access points are the head.
use native.Mathlib.Omega.{arith}
use Rattle.fdl.proofs.Lemmas.Around.{head_length}
use Rattle.fdl_writer.proofs.length_byte.Goals as goal

pub overflow_add-result : goal.overflow_add-result
overflow_add-result c = omega (arith, head_length c.args.header)

pub overflow_add-result-2 : goal.overflow_add-result-2
overflow_add-result-2 c = omega (arith, head_length c.args.header)

pub overflow_add-result-3 : goal.overflow_add-result-3
overflow_add-result-3 c = omega (arith, head_length c.args.header)

pub overflow_cast-result : goal.overflow_cast-result
overflow_cast-result c = omega (arith, head_length c.args.header)

pub returns : goal.returns
returns c = omega (arith, head_length c.args.header)
