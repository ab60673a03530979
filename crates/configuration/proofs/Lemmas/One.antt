-- One module among other bytes: written and read back, read and written again.
use Rattle.std.specs.Prelude.{◌≡◌, refl, ℕ, ◌+◌, ◌≤◌, ◌<◌, take, drop, leb, Ok, Err}
use Rattle.std.proofs.Math.Path.{sym, ap}
use Rattle.std.proofs.Common.{◌∙◌, subst, arith, length-append, length-drop, take-append-drop, get_or-drop, drop-drop, drop_at}
use mathlib.Core.List.{List, [], ◌∷◌, ◌++◌, append_assoc}
use Rattle.std.proofs.Math.ListN.{length}
use Rattle.std.proofs.Math.Seq.{drop-append_seam, take-append_seam}
use borrow.Author.Tests.{le-ltb, ne_eqb, le-leb}
use Rattle.octets.proofs.Choice.{by_pick}
use Rattle.octets.specs.Bytes.{Bytes}
use Rattle.octets.specs.Part.{part_of}
use Rattle.octets.specs.Front.{fine}
use Rattle.configuration.specs.Walk.{Found, one, unfit, module_in, position, step_of, next_of, Step}
use Rattle.configuration.specs.Writing.{presence, side_bytes, special_byte, special_bytes, verdict_by, bytes_by, vendor_by, vendor_start, module_verdict, module_bytes}
use Rattle.configuration.specs.Contents.{Reads, Again}
use Rattle.configuration.proofs.Lemmas.Sides.{side_bytes_length, special_length_lem}
use Rattle.configuration.proofs.Lemmas.Back.{no_vendor, module_read}
use Rattle.configuration.proofs.Lemmas.Again.{module_again}
use Rattle.configuration.proofs.Lemmas.Steps.{SizedIf, by_next, part_drop}
use Rattle.configuration.specs.declared.fields.Side.{Side}
use Rattle.configuration.specs.declared.fields.Identifier.{Identifier}
use Rattle.configuration.specs.declared.fields.Identifier.TheVariants.{General, Special}
use Rattle.configuration.specs.declared.fields.Module.{Module}
use Rattle.configuration.specs.declared.walk.Position.{Position}
use Rattle.configuration.specs.declared.walk.Step.TheVariants as step

-- ---- the vendor bytes of what is written

none_left : (l : List ℕ) → 0 ≡ length l → [] ≡ l
none_left [] e = refl
none_left (x ∷ l) e = absurd (omega arith)

-- they are the last bytes
vendor_last : (k : Identifier) (i o : Side) (vendor : List ℕ) → verdict_by k i o vendor ≡ fine
    → vendor_by k i o + length vendor ≡ length (bytes_by k i o vendor)
vendor_last General i o vendor e = omega (arith, no_vendor i o vendor e)
vendor_last Special i o vendor e = sym (special_length_lem i o vendor)

starts : (k : Identifier) (i o : Side) → 1 ≤ vendor_by k i o
starts General i o = omega arith
starts Special i o = omega arith

abbrev front_bytes : (i o : Side) (vendor : List ℕ) → List ℕ
front_bytes i o vendor = special_byte i o vendor ∷ (side_bytes o ++ side_bytes i)

front_length : (i o : Side) (vendor : List ℕ) → length (front_bytes i o vendor) ≡ 1 + presence o + presence i
front_length i o vendor = simp length-append (omega (arith, side_bytes_length i, side_bytes_length o))

split : (i o : Side) (vendor rest : List ℕ) → special_bytes i o vendor ++ rest ≡ front_bytes i o vendor ++ (vendor ++ rest)
unfolding special_bytes
split i o vendor rest = simp append_assoc

special_part : (i o : Side) (vendor rest : List ℕ) → part_of (special_bytes i o vendor ++ rest) (1 + presence o + presence i) (length vendor) ≡ vendor
unfolding part_of
special_part i o vendor rest =
    let fits : 1 + presence o + presence i + length vendor ≤ length (special_bytes i o vendor ++ rest) =
    omega (arith, special_length_lem i o vendor, length-append (special_bytes i o vendor) rest)
    in
    simp (le-leb _ _ fits)
    (ap (λ (l : List ℕ). take (length vendor) (drop (1 + presence o + presence i) l)) (split i o vendor rest)
    ∙ ap (take (length vendor)) (drop_at (front_bytes i o vendor) (vendor ++ rest) (1 + presence o + presence i) (front_length i o vendor))
    ∙ take-append_seam vendor rest)

part_none : (s : List ℕ) (start : ℕ) → part_of s start 0 ≡ []
unfolding part_of
part_none s start = by_pick (λ (l : List ℕ). l ≡ []) (leb (start + 0) (length s)) (λ _. refl) (λ _. refl)

vendor_part : (k : Identifier) (i o : Side) (vendor rest : List ℕ) → verdict_by k i o vendor ≡ fine
    → part_of (bytes_by k i o vendor ++ rest) (vendor_by k i o) (length vendor) ≡ vendor
vendor_part General i o vendor rest e =
    let none = no_vendor i o vendor e in
    ap (part_of (bytes_by General i o vendor ++ rest) 1) (sym none) ∙ part_none (bytes_by General i o vendor ++ rest) 1 ∙ none_left vendor none
vendor_part Special i o vendor rest e = special_part i o vendor rest

-- ---- what is written reads back

module _ (m : Module) (vendor front behind : List ℕ) (e : module_verdict m vendor ≡ fine) where
  abbrev t : List ℕ
  t = module_bytes m vendor

  abbrev s : List ℕ
  s = front ++ (t ++ behind)

  abbrev at : ℕ
  at = length front

  rest_is : drop at s ≡ t ++ behind
  rest_is = drop-append_seam front (t ++ behind)

  ends : at + vendor_start m + length vendor ≡ at + length t
  ends = omega (arith, vendor_last m.identifier m.input m.output vendor e)

  long : at + length t ≤ length s
  long = omega (arith, length-append front (t ++ behind), length-append t behind)

  pub back : Reads (front ++ (module_bytes m vendor ++ behind)) (length front) m vendor
  unfolding next_of
  back =
      let some = starts m.identifier m.input m.output in
      let before : at ≤ length s = omega (arith, long) in
      let ne : at ≡ length s → ⊥ = λ q. omega (arith, long, ends) in
      record {
        fields =
            simp (le-ltb _ _ before, ne_eqb _ _ ne, rest_is, module_read m.identifier m.input m.output vendor behind e)
            (ap (λ (k : ℕ). Ok (step.Module m (at + vendor_start m) (length vendor) (position k))) ends);
        part =
            sym (part_drop s at (vendor_start m) (length vendor) (omega (arith, long, ends)))
            ∙ ap (λ (l : List ℕ). part_of l (vendor_start m) (length vendor)) rest_is
            ∙ vendor_part m.identifier m.input m.output vendor behind e;
      }

-- ---- what is read is written again

abbrev AgainIf : (s : List ℕ) (at : ℕ) → Step → Type 0
AgainIf s i (Ok (step.Module m start len next)) = Again s i m start len next.at
AgainIf s i (Ok step.End) = Unit
AgainIf s i (Err r) = Unit

module _ (s : List ℕ) (bytes : Bytes s) (at : ℕ) where
  rest_bytes : Bytes (drop at s)
  rest_bytes i = rw (get_or-drop at s i 0) (bytes (at + i))

  by_found : at < length s → (f : Found) → SizedIf (length (drop at s)) f → module_in (drop at s) ≡ f → AgainIf s at (step_of at f)
  by_found h (unfit r) z e = tt
  by_found h (one m start len) z e =
      let left = length-drop at s in
      let a = module_again (drop at s) (omega arith) rest_bytes e in
      let p = part_drop s at start len (omega (arith, z.fits)) in
      let next : at + (start + len) ≡ at + start + len = omega arith in
      record {
        taken = ap (module_verdict m) (sym p) ∙ a.taken;
        same =
            sym (take-append-drop (start + len) (drop at s))
            ∙ ap (λ (l : List ℕ). l ++ drop (start + len) (drop at s)) (sym a.same)
            ∙ ap (λ (l : List ℕ). module_bytes m (part_of (drop at s) start len) ++ l) (drop-drop (start + len) at s ∙ ap (λ (k : ℕ). drop k s) next)
            ∙ ap (λ (v : List ℕ). module_bytes m v ++ drop (at + start + len) s) p;
      }

  again_if : AgainIf s at (next_of s at)
  again_if = by_next (AgainIf s at) s at (λ _. tt) (λ _. tt) by_found

  pub again : {m : Module} {start len : ℕ} {next : Position} → next_of s at ≡ Ok (step.Module m start len next) → Again s at m start len next.at
  again e = subst (AgainIf s at) e again_if
