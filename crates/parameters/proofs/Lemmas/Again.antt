-- What is read may be written, and gives the same bytes again.
use Rattle.std.specs.Prelude.{ℕ, ◌+◌, ◌-◌, ◌≤◌, ◌≡◌, refl, List, [], ◌∷◌, ◌++◌, length, get_or, take, ltb, Ok, Err}
use Rattle.std.proofs.Common.{sym, ap, ◌∙◌, ltb-false}
use Rattle.octets.proofs.Choice.{by_pick}
use Rattle.octets.specs.Bytes.{Bytes}
use Rattle.octets.specs.Elements.{elements}
use Rattle.octets.proofs.Elements.{part_elements}
use Rattle.octets.specs.Part.{part_of}
use Rattle.octets.specs.Front.{fine}
use Rattle.octets.proofs.Fixed.{by_verdict, number_again, part_long, part_tiles}
use Rattle.octets.specs.declared.Mode.{Mode}
use Rattle.octets.specs.declared.Mode.TheVariants as mode
use Rattle.parameters.specs.Fields.{mode_of, fixed_length, verdict_of}
use Rattle.parameters.specs.Reading.{extension_in, fields_in, read_of, Reading}
use Rattle.parameters.specs.Writing.{fixed_bytes, front_bytes, Again}
use Rattle.parameters.specs.declared.fields.Extension.{Extension}
use Rattle.parameters.specs.declared.fields.Parameters.{Parameters}

mode_again : (s : List ℕ) (m : Mode) → mode_of (extension_in s m) ≡ m
mode_again s mode.Dpv0 = refl
mode_again s mode.Dpv1 = refl

module _ (s : List ℕ) (bytes : Bytes s) where
  fixed_again : (e : Extension) → fixed_bytes (fields_in s e) ≡ elements 7 0 s
  fixed_again e =
      ap (λ (w : List ℕ). get_or s 0 0 ∷ get_or s 1 0 ∷ get_or s 2 0 ∷ get_or s 3 0 ∷ (w ++ (get_or s 6 0 ∷ []))) (number_again 2 4 s bytes)

  front_again : (m : Mode) → fixed_length m ≤ length s → front_bytes (fields_in s (extension_in s m)) ≡ take (fixed_length m) s
  front_again mode.Dpv0 h = ap (λ (l : List ℕ). l ++ []) (fixed_again (extension_in s mode.Dpv0)) ∙ sym (part_elements 7 0 s h)
  front_again mode.Dpv1 h =
      ap (λ (l : List ℕ). l ++ elements 3 7 s) (fixed_again (extension_in s mode.Dpv1)) ∙ sym (part_elements 10 0 s h)

  module _ (m : Mode) where
    abbrev pub AgainIn : Reading → Type 0
    AgainIn (Ok found) = Again s m found.fields (part_of s found.start found.len)
    AgainIn (Err r) = Unit

    abbrev fields : Parameters
    fields = fields_in s (extension_in s m)

    abbrev user : List ℕ
    user = part_of s (fixed_length m) (length s - fixed_length m)

    fields_again : fixed_length m ≤ length s → verdict_of fields (length s) ≡ fine → Again s m fields user
    fields_again long good =
        record {
          mode = mode_again s m;
          taken =
              ap (λ (k : Mode). verdict_of fields (fixed_length k + length user)) (mode_again s m)
              ∙ ap (verdict_of fields) (part_long (fixed_length m) s long)
              ∙ good;
          same = part_tiles (fixed_length m) s long (front_again m long);
        }

    pub again : AgainIn (read_of s m)
    unfolding read_of
    again =
        by_pick AgainIn (ltb (length s) (fixed_length m)) (λ _. tt)
        (λ long. by_verdict AgainIn (verdict_of fields (length s)) (λ _. tt) (λ good. fields_again (ltb-false (length s) (fixed_length m) long) good))
