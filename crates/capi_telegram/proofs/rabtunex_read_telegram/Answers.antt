-- `capi_telegram::rabtunex_read_telegram` meets its contract: each kind of reading stores its fields, and none is larger than a byte.
use mathlib.Core.Path.{sym, ap, ◌∙◌}
use Rattle.std.specs.Prelude.{Ok}
use native.Mathlib.Omega.{arith}
use Rattle.function_code.specs.Code.{class_of}
use Rattle.fdl.proofs.Laws.{data_inside}
use Rattle.capi_telegram.proofs.rabtunex_read_telegram.Goals as goal

pub overflow_cast-start : goal.overflow_cast-start
overflow_cast-start c =
    let i = data_inside class_of c.args.bytes.now (sym c.in-Ok-Telegram.ensures ∙ ap Ok c.in-Ok-Telegram.field-0-is) in
    omega (arith, i.ends, i.most)

pub overflow_cast-len : goal.overflow_cast-len
overflow_cast-len c =
    let i = data_inside class_of c.args.bytes.now (sym c.in-Ok-Telegram.ensures ∙ ap Ok c.in-Ok-Telegram.field-0-is) in
    omega (arith, i.ends, i.most)
