-- `diagnosis_writer::writing::put_header` meets its contract. Four stores, and the ident number behind them.
use mathlib.Core.List.{List}
use Prim.Native.Nat.{ℕ}
use native.Mathlib.Omega.{arith}
use lib.ListN.{take, length-set}
use lib.Seq.{sets}
use Rattle.octets.specs.Number.{bytes_of}
use Rattle.octets.specs.Front.{AtFront}
use Rattle.octets.proofs.Front.{at_front, stores, rest_fits, both}
use Rattle.diagnosis.specs.Writing.{header_bytes}
use Rattle.diagnosis.specs.declared.reading.Header.{Header}
use Rattle.diagnosis_writer.proofs.writing.put_header.Goals as goal

-- what stands before the ident number
abbrev front : Header → List ℕ
front h = take 4 (header_bytes h)

pub bounds-out-1 : goal.bounds-out-1
bounds-out-1 c = simp length-set (omega arith)

pub bounds-out-2 : goal.bounds-out-2
bounds-out-2 c = simp length-set (omega arith)

pub bounds-out-3 : goal.bounds-out-3
bounds-out-3 c = simp length-set (omega arith)

pub slice_bounds-store16-count : goal.slice_bounds-store16-count
slice_bounds-store16-count c = simp length-set (omega arith)

pub slice_bounds-store16-start : goal.slice_bounds-store16-start
slice_bounds-store16-start c = slice_bounds-store16-count c

pub returns : goal.returns
returns c =
    let stored : AtFront (front c.args.header) c.args.out.now (sets c.args.out.now 0 (front c.args.header)) 4 = stores (front c.args.header) c.args.out.now (omega arith) in
    let s = c.store16.ensures in
    both stored (at_front s.count s.bytes (rest_fits stored (bytes_of 2 c.args.header.ident) c.requires))

pub overflow_add-result : goal.overflow_add-result
overflow_add-result c = omega (arith, (returns c).counted)
