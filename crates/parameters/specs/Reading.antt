-- Reading parameters (document 01, "Parameters"): 20 for the length, then the verdict on the fields, byte by byte.
use Rattle.std.specs.Prelude.{ℕ, ◌-◌, List, [], ◌∷◌, length, get_or, ltb, Ok, Err, Result}
use Rattle.octets.specs.Choice.{pick}
use Rattle.octets.specs.Number.{number_of}
use Rattle.octets.specs.Fixed.{judged}
use Rattle.octets.specs.declared.Mode.{Mode}
use Rattle.octets.specs.declared.Mode.TheVariants as mode
use Rattle.parameters.specs.Fields.{fixed_length, extension_verdict, verdict_of}
use Rattle.parameters.specs.declared.fields.Extension.{Extension}
use Rattle.parameters.specs.declared.fields.Extension.TheVariants.{Dpv0, Dpv1}
use Rattle.parameters.specs.declared.fields.Parameters.{Parameters}
use Rattle.octets.specs.declared.Read.{Read}

-- what reading answers: the fields and where the user bytes stand, or a refusal's number
abbrev pub Reading : Type 0
Reading = Result (Read Parameters) ℕ

abbrev pub refused : ℕ → Reading
refused k = Err k

-- ---- the fields

abbrev pub extension_in : List ℕ → Mode → Extension
extension_in s mode.Dpv0 = Dpv0
extension_in s mode.Dpv1 = Dpv1 (get_or s 7 0) (get_or s 8 0) (get_or s 9 0)

abbrev pub fields_in : List ℕ → Extension → Parameters
fields_in s e =
    record {
      flags = get_or s 0 0;
      factor1 = get_or s 1 0;
      factor2 = get_or s 2 0;
      response = record { 0 = get_or s 3 0 };
      ident = number_of (get_or s 4 0 ∷ get_or s 5 0 ∷ []);
      groups = get_or s 6 0;
      extension = e;
    }

-- the answer for them, with the user bytes from start
abbrev pub answer_in : List ℕ → Extension → (start : ℕ) → Reading
answer_in s e start = Ok (record { fields = fields_in s e; start = start; len = length s - start })

-- ---- the rules

-- the extension comes last
unfoldable pub extension_of : List ℕ → Mode → Reading
extension_of s m = judged refused (extension_verdict (extension_in s m)) (answer_in s (extension_in s m) (fixed_length m))

unfoldable pub read_of : List ℕ → Mode → Reading
read_of s m =
    pick (ltb (length s) (fixed_length m)) (refused 20)
    (judged refused (verdict_of (fields_in s (extension_in s m)) (length s)) (answer_in s (extension_in s m) (fixed_length m)))
