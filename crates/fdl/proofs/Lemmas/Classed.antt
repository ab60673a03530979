-- What a reading with a telegram's class says: the reading, and the class of its function code.
use Rattle.std.specs.Prelude.{◌≡◌, refl, Ok, Err}
use Rattle.std.proofs.Common.{subst}
use Rattle.function_code.specs.Code.{class_of}
use Rattle.fdl.specs.Reading.{classed_by, Classed, Reading}
use Rattle.fdl.specs.declared.reading.Classed.TheVariants as classed
use Rattle.fdl.specs.declared.reading.Reading.TheVariants.{Confirmation, Token, Telegram}

abbrev pub Says : Reading → Classed → Type 0
Says r (Ok classed.Confirmation) = r ≡ Ok Confirmation
Says r (Ok (classed.Token da sa)) = r ≡ Ok (Token da sa)
Says r (Ok (classed.Telegram f h start len k)) = (r ≡ Ok (Telegram f h start len)) × (k ≡ class_of h.fc)
Says r (Err x) = r ≡ Err x

says : (r : Reading) → Says r (classed_by class_of r)
says (Ok Confirmation) = refl
says (Ok (Token da sa)) = refl
says (Ok (Telegram f h start len)) = (refl, refl)
says (Err x) = refl

-- by the case that it is
pub said : (r : Reading) {x : Classed} → classed_by class_of r ≡ x → Says r x
said r e = subst (Says r) e (says r)
