-- What calls and answers share (document 01, "DPV1"): the forms that the bytes behind a function number have, the fixed bytes,
-- and the order in which they are read. A form is a verdict on the fixed bytes and on the count of the bytes behind them,
-- which reader and writer share.
use Rattle.std.specs.Prelude.{ℕ, ◌-◌, Bool, not, List, [], ◌∷◌, length, get_or, eqb, ltb}
use Rattle.octets.specs.Choice.{pick}
use Rattle.octets.specs.Front.{Verdict, fine, fault}
use Rattle.acyclic.specs.Numbers.{idle_number}
use Rattle.acyclic.specs.Errors.{good_decode, good_code1}

-- fixed bytes that are free, and no byte behind them
unfoldable pub alone_of : (count : ℕ) → Verdict
alone_of count = pick (ltb 0 count) (fault 20) fine

-- the last fixed byte is a length, 0..240, and no byte behind them
unfoldable pub ranged_of : (len count : ℕ) → Verdict
ranged_of len count = pick (ltb 0 count) (fault 20) (pick (ltb 240 len) (fault 21) fine)

-- data behind them, least..240
unfoldable pub counted_of : (least count : ℕ) → Verdict
counted_of least count = pick (ltb count least) (fault 20) (pick (ltb 240 count) (fault 20) fine)

-- the same, and the last fixed byte is the count
unfoldable pub counted_as_of : (len least count : ℕ) → Verdict
counted_as_of len least count = pick (not (eqb count len)) (fault 20) (counted_of least count)

-- decode, code 1 and code 2, and no byte behind them
unfoldable pub negative_of : (decode code1 count : ℕ) → Verdict
negative_of decode code1 count =
    pick (ltb 0 count) (fault 20)
    (pick (not (good_decode decode)) (fault 21)
    (pick (not (good_code1 decode code1)) (fault 28) fine))

-- ---- the fixed bytes

abbrev pub four : (number second third fourth : ℕ) → List ℕ
four number second third fourth = number ∷ second ∷ third ∷ fourth ∷ []

-- ---- reading

-- how bytes s are read by their number: idle has no fixed byte but that; all others have four, and less gives 20. The count is of
-- the bytes behind the fixed ones.
unfoldable pub by_number : {A : Type 0} → (refuse : ℕ → A) (idle : (count : ℕ) → A) (four_bytes : (n a b l count : ℕ) → A) → List ℕ → A
by_number refuse idle four_bytes s =
    pick (eqb (get_or s 0 0) idle_number) (idle (length s - 1))
    (pick (ltb (length s) 4) (refuse 20) (four_bytes (get_or s 0 0) (get_or s 1 0) (get_or s 2 0) (get_or s 3 0) (length s - 4)))

-- the first byte's 28 comes before that, by which numbers are allowed
unfoldable pub where_allowed : {A : Type 0} → (refuse : ℕ → A) (none : A) (allowed : ℕ → Bool) (read : A) → List ℕ → A
where_allowed refuse none allowed read s = pick (eqb (length s) 0) none (pick (not (allowed (get_or s 0 0))) (refuse 28) read)
