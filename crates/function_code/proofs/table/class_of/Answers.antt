-- `function_code::table::class_of` meets its contract: every entry of the table is right, which is computed.
use mathlib.Core.Path.{refl}
use Rattle.function_code.specs.Code.{class_of}
use Rattle.function_code.proofs.Classes.{class_at}
use borrow.Author.Rules.{rules}
use Rattle.function_code.proofs.table.class_of.Goals as goal

pub returns : goal.returns
unfolding class_of
returns c = class_at c.entry.ensures (search rules) refl refl
