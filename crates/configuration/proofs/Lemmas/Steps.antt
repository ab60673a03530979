-- A walk goes from step to step: what `next_of` gives at a place is how the walk from there goes on.
use Rattle.std.specs.Prelude.{◌≡◌, refl, List, [], ◌∷◌, ℕ, zero, suc, ◌+◌, ◌-◌, ◌/◌, ◌%◌, ◌≤◌, ◌<◌, length, get_or, drop, eqb, ltb, Ok, Err}
use Rattle.std.proofs.Common.{ap, ◌∙◌, subst, arith, length-drop, drop-cons, drop-drop, ltb-true, ltb-false, eqb-true, le-leb}
use Rattle.std.proofs.Math.Seq.{drop-length}
use Rattle.std.proofs.lemmas.Bool.{eqb-false}
use Rattle.octets.proofs.Choice.{by_pick}
use Rattle.octets.specs.Part.{part_of}
use Rattle.configuration.specs.Fields.{identifier_of, input_bit, output_bit, most_units, words_bit, side_if, general_of, special_of, length_of}
use Rattle.configuration.specs.Walk.{Found, one, unfit, front_of, barred, special_in, module_by, module_in, step_of, next_of, end, bad, more, after, walk_of, Step}
use Rattle.configuration.specs.Reading.{input_of, output_of}
use Rattle.configuration.specs.Contents.{Stands, Says}
use Rattle.configuration.specs.declared.fields.Identifier.{Identifier}
use Rattle.configuration.specs.declared.fields.Identifier.TheVariants.{General, Special}
use Rattle.configuration.specs.declared.fields.Module.{Module}
use Rattle.configuration.specs.declared.walk.Position.{Position}
use Rattle.configuration.specs.declared.walk.Step.TheVariants as step

-- what holds of both formats, each under its bits 5-4, holds of an identifier's
pub by_format : (P : Identifier → Type 0) (x : ℕ) → (x / 16 % 4 ≡ 0 → P Special) → ((x / 16 % 4 ≡ 0 → ⊥) → P General) → P (identifier_of x)
by_format P x special general =
    by_pick P (eqb (x / 16 % 4) 0) (λ e. special (eqb-true (x / 16 % 4) 0 e)) (λ e. general (eqb-false (x / 16 % 4) 0 e))

-- ---- how large a module is, of which `left` bytes are there

pub record Sized (m : Module) (start len left : ℕ) : Type 0 where
  pub low : 1 ≤ start
  pub fits : start + len ≤ left
  pub input : input_of m ≤ 128
  pub output : output_of m ≤ 128

abbrev pub SizedIf : ℕ → Found → Type 0
SizedIf left (one m start len) = Sized m start len left
SizedIf left (unfit r) = Unit

side_small : (b n x : ℕ) → n ≤ 64 → length_of (side_if b n x) ≤ 128
side_small b n x h =
    by_pick (λ side. length_of side ≤ 128) (eqb b 1)
    (λ _. by_pick (λ k. k ≤ 128) (eqb (x / words_bit % 2) 1) (λ _. omega arith) (λ _. omega arith))
    (λ _. omega arith)

pub sized : (r : List ℕ) → 1 ≤ length r → SizedIf (length r) (module_in r)
unfolding module_in special_in special_of general_of
sized r some =
    let x : ℕ = get_or r 0 0 in
    let y : ℕ = get_or r 1 0 in
    let z : ℕ = get_or r (1 + x / output_bit Special % 2) 0 in
    by_format (λ (k : Identifier). SizedIf (length r) (module_by k r)) x
    (λ _. by_pick (SizedIf (length r)) (eqb (x % 16) barred) (λ _. tt)
    (λ _. by_pick (SizedIf (length r)) (ltb (length r) (front_of x + x % 16)) (λ _. tt)
    (λ h.
    record {
      low = omega arith;
      fits = ltb-false (length r) (front_of x + x % 16) h;
      input = side_small (x / input_bit Special % 2) (z % most_units Special + 1) z (omega arith);
      output = side_small (x / output_bit Special % 2) (y % most_units Special + 1) y (omega arith);
    })))
    (λ _.
    record {
      low = omega arith;
      fits = some;
      input = side_small (x / input_bit General % 2) (x % most_units General + 1) x (omega arith);
      output = side_small (x / output_bit General % 2) (x % most_units General + 1) x (omega arith);
    })

-- ---- a walk and a step

-- bytes that belong to the module before are passed over
pub walk_skip : (s : List ℕ) (k : ℕ) → walk_of s k ≡ walk_of (drop k s) 0
unfolding walk_of
walk_skip s zero = refl
walk_skip [] (suc k) = refl
walk_skip (x ∷ s) (suc k) = walk_skip s k

-- a part of what is left is a part of the whole
pub part_drop : (s : List ℕ) (at start len : ℕ) → at + start + len ≤ length s → part_of (drop at s) start len ≡ part_of s (at + start) len
unfolding part_of
part_drop s at start len h =
    let a : start + len ≤ length (drop at s) = omega (arith, length-drop at s) in
    simp (le-leb _ _ a, le-leb _ _ h, drop-drop)

-- what holds past the end, at the end, and of whatever is found before it, holds of the step
pub by_next : (P : Step → Type 0) (s : List ℕ) (at : ℕ) → (length s < at → P (Err 12)) → (at ≡ length s → P (Ok step.End))
    → (at < length s → (f : Found) → SizedIf (length (drop at s)) f → module_in (drop at s) ≡ f → P (step_of at f)) → P (next_of s at)
unfolding next_of
by_next P s at past last found =
    by_pick P (ltb (length s) at) (λ p. past (ltb-true (length s) at p))
    (λ p. by_pick P (eqb at (length s)) (λ q. last (eqb-true at (length s) q))
    (λ q.
    let ne : at ≡ length s → ⊥ = eqb-false at (length s) q in
    let h : at < length s = omega (arith, ltb-false (length s) at p) in
    found h (module_in (drop at s)) (sized (drop at s) (omega (arith, length-drop at s))) refl))

module _ (s : List ℕ) (at : ℕ) where
  opened : at < length s → walk_of (drop at s) 0 ≡ after (module_in (drop at s)) (drop at s) (walk_of (drop (suc at) s))
  unfolding walk_of
  opened h = rw (drop-cons s at 0 h)

  by_found : at < length s → (f : Found) → SizedIf (length (drop at s)) f → module_in (drop at s) ≡ f → Says s at (step_of at f)
  by_found h (one m start len) z e =
      let left = length-drop at s in
      let inner : at + start + len ≤ length s = omega (arith, z.fits) in
      let back : suc at + (start + len - 1) ≡ at + start + len = omega (arith, z.low) in
      record {
        further = omega (arith, z.low);
        inside = inner;
        ends = refl;
        input = z.input;
        output = z.output;
        walk =
            opened h
            ∙ ap (λ (f : Found). after f (drop at s) (walk_of (drop (suc at) s))) e
            ∙ ap (λ (v : List ℕ). more m v (walk_of (drop (suc at) s) (start + len - 1))) (part_drop s at start len inner)
            ∙ ap (more m (part_of s (at + start) len))
            (walk_skip (drop (suc at) s) (start + len - 1)
            ∙ ap (λ (l : List ℕ). walk_of l 0) (drop-drop (start + len - 1) (suc at) s ∙ ap (λ (i : ℕ). drop i s) back));
      }
  by_found h (unfit r) z e = λ _. opened h ∙ ap (λ (f : Found). after f (drop at s) (walk_of (drop (suc at) s))) e

  ended : at ≡ length s → walk_of (drop at s) 0 ≡ end
  unfolding walk_of
  ended e = rw (e, drop-length s)

  pub says : Says s at (next_of s at)
  says = by_next (Says s at) s at (λ p q. absurd (omega arith)) (λ e. (e, ended e)) by_found

  -- the three outcomes
  pub stands : {m : Module} {start len : ℕ} {next : Position} → next_of s at ≡ Ok (step.Module m start len next) → Stands s at m start len next.at
  stands e = subst (Says s at) e says

  pub ends : next_of s at ≡ Ok step.End → (at ≡ length s) × (walk_of (drop at s) 0 ≡ end)
  ends e = subst (Says s at) e says

  pub breaks : {r : ℕ} → next_of s at ≡ Err r → at ≤ length s → walk_of (drop at s) 0 ≡ bad r
  breaks e = subst (Says s at) e says
