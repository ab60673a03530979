-- The endings of a download: as tests, and the number and the values of each. A template is counted from 1.
use Rattle.std.specs.Prelude.{ℕ, Bool, true, false, List, [], ◌∷◌, eqb}
use Rattle.octets.specs.Choice.{◌and◌}
use Rattle.protocol.specs.declared.controller.Ending.{Ending}
use Rattle.protocol.specs.declared.controller.Ending.TheVariants as ending

abbrev pub is_done : Ending → Bool
is_done ending.Done = true
is_done ending.NoOpening = false
is_done (ending.NoAnswer n) = false
is_done (ending.NotReady n) = false
is_done (ending.Refused n code1 code2) = false
is_done (ending.Strange n) = false

abbrev pub is_no_opening : Ending → Bool
is_no_opening ending.Done = false
is_no_opening ending.NoOpening = true
is_no_opening (ending.NoAnswer n) = false
is_no_opening (ending.NotReady n) = false
is_no_opening (ending.Refused n code1 code2) = false
is_no_opening (ending.Strange n) = false

abbrev pub is_no_answer : (k : ℕ) → Ending → Bool
is_no_answer k ending.Done = false
is_no_answer k ending.NoOpening = false
is_no_answer k (ending.NoAnswer n) = eqb n k
is_no_answer k (ending.NotReady n) = false
is_no_answer k (ending.Refused n code1 code2) = false
is_no_answer k (ending.Strange n) = false

abbrev pub is_not_ready : (k : ℕ) → Ending → Bool
is_not_ready k ending.Done = false
is_not_ready k ending.NoOpening = false
is_not_ready k (ending.NoAnswer n) = false
is_not_ready k (ending.NotReady n) = eqb n k
is_not_ready k (ending.Refused n code1 code2) = false
is_not_ready k (ending.Strange n) = false

abbrev pub is_refused : (k code1 code2 : ℕ) → Ending → Bool
is_refused k c d ending.Done = false
is_refused k c d ending.NoOpening = false
is_refused k c d (ending.NoAnswer n) = false
is_refused k c d (ending.NotReady n) = false
is_refused k c d (ending.Refused n code1 code2) = eqb n k and eqb c code1 and eqb d code2
is_refused k c d (ending.Strange n) = false

abbrev pub is_strange : Ending → Bool
is_strange ending.Done = false
is_strange ending.NoOpening = false
is_strange (ending.NoAnswer n) = false
is_strange (ending.NotReady n) = false
is_strange (ending.Refused n code1 code2) = false
is_strange (ending.Strange n) = true

-- the template at which it stopped, none for done and for no opening
abbrev pub stops_at : (k : ℕ) → Ending → Bool
stops_at k ending.Done = false
stops_at k ending.NoOpening = false
stops_at k (ending.NoAnswer n) = eqb n k
stops_at k (ending.NotReady n) = eqb n k
stops_at k (ending.Refused n code1 code2) = eqb n k
stops_at k (ending.Strange n) = eqb n k

-- ---- the number and the values of each ending

-- its number, in document 01's order; 0 is left for a download that has not ended
abbrev pub ending_number : Ending → ℕ
ending_number ending.Done = 1
ending_number ending.NoOpening = 2
ending_number (ending.NoAnswer n) = 3
ending_number (ending.NotReady n) = 4
ending_number (ending.Refused n code1 code2) = 5
ending_number (ending.Strange n) = 6

-- the template, and both codes of a refusal
abbrev pub ending_values : Ending → List ℕ
ending_values ending.Done = []
ending_values ending.NoOpening = []
ending_values (ending.NoAnswer n) = n ∷ []
ending_values (ending.NotReady n) = n ∷ []
ending_values (ending.Refused n code1 code2) = n ∷ code1 ∷ code2 ∷ []
ending_values (ending.Strange n) = n ∷ []
