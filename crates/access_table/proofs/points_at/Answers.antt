-- `access_table::points_at` meets its contract: it is the row at i.
use mathlib.Core.Path.{refl}
use Rattle.access.specs.Table.{row_at, services}
use Rattle.access_table.proofs.points_at.Goals as goal

pub returns : goal.returns
unfolding row_at services
returns c = refl
