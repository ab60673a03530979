-- `content_reader::reading::read_diagnosis` meets its contract: as the reading of the format says; a diagnosis has six bytes.
use Rattle.diagnosis.proofs.Laws.{read_is_tiled}
use mathlib.Core.Path.{sym}
use native.Mathlib.Omega.{arith}
use Rattle.content_reader.proofs.reading.read_diagnosis.Goals as goal

pub overflow_sub-result : goal.overflow_sub-result
overflow_sub-result c =
    omega (arith, (read_is_tiled c.args.user.now (sym c.in_ok-diagnosis.ensures)).long)
