-- What a writer's answer tells.
use Rattle.std.specs.Prelude.{ℕ, Ok, Err}
use Rattle.octets.specs.Front.{Written}

-- how many bytes a writer stored
abbrev pub stored_in : Written → ℕ
stored_in (Ok n) = n
stored_in (Err k) = 0
