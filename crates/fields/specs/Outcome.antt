-- What every writer of the C interface answers: its answer as a number, and what the lent count holds then.
use Rattle.std.specs.Prelude.{ℕ, ◌≡◌, List, take, Ok, Err}
use Rattle.octets.specs.Front.{Verdict, fine, fault, Written}

abbrev pub status_of : Written → ℕ
status_of (Ok n) = 0
status_of (Err k) = k

abbrev pub count_after : Written → (before : ℕ) → ℕ
count_after (Ok n) before = n
count_after (Err k) before = before

-- a verdict that tells its fault by a number, which 0 is not
abbrev pub Tells : Verdict → Type 0
Tells fine = Unit
Tells (fault k) = k ≡ 0 → ⊥

-- the bytes that a writer's caller finds: as many in front as the count says
abbrev pub stored_by : Written → (count : ℕ) (held : List ℕ) → List ℕ
stored_by w count held = take (count_after w count) held
