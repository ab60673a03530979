-- Fields of a fixed number of places.
use Rattle.std.specs.Prelude.{ℕ, List, ◌++◌, take, replicate}

-- so many places: bytes, and 0 behind them
abbrev pub places_of : (count : ℕ) → List ℕ → List ℕ
places_of count s = take count (s ++ replicate count 0)
