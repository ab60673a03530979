-- The verdicts that the answers about a book say.
use Rattle.std.specs.Prelude.{Ok, Err}
use Rattle.octets.specs.Front.{Verdict, fine, fault}
use Rattle.book.specs.Table.{Table}
use Rattle.book.specs.Reading.{Reading}
use Rattle.book.specs.Template.{Template}

-- the verdict that a reading came to, a template and the table
abbrev pub verdict_in : Reading → Verdict
verdict_in (Ok n) = fine
verdict_in (Err r) = fault r

abbrev pub template_verdict : Template → Verdict
template_verdict (Ok found) = fine
template_verdict (Err r) = fault r

abbrev pub table_verdict : Table → Verdict
table_verdict (Ok t) = fine
table_verdict (Err r) = fault r
