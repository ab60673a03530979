-- How a download stands, as four bytes: the ending's number, then its values (the template, and both codes), and 0 in the places
-- that it does not have.
use Rattle.std.specs.Prelude.{ℕ, List, [], ◌∷◌}
use Rattle.octets.specs.Places.{places_of}
use Rattle.protocol.specs.Endings.{ending_number, ending_values}
use Rattle.protocol.specs.declared.controller.Ending.{Ending}

abbrev pub ending_bytes : Ending → List ℕ
ending_bytes e = ending_number e ∷ places_of 3 (ending_values e)

-- it has not ended
abbrev pub going_on : List ℕ
going_on = 0 ∷ places_of 3 []
