-- The four fixed bytes that `put` stores.
use Rattle.std.specs.Prelude.{ℕ, List}
use Rattle.acyclic.specs.Forms.{four}
use Rattle.acyclic_writer.specs.declared.forms.Front.{Front}

abbrev pub front_bytes : Front → List ℕ
front_bytes f = four f.0 f.1 f.2 f.3
