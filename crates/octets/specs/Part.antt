-- Handing back a part of a lent slice.
use Rattle.std.specs.Prelude.{ℕ, ◌+◌, List, [], length, take, drop, leb}
use Rattle.octets.specs.Choice.{pick}

-- len bytes from start, or none where they do not lie inside
unfoldable pub part_of : List ℕ → (start len : ℕ) → List ℕ
part_of s start len = pick (leb (start + len) (length s)) (take len (drop start s)) []
