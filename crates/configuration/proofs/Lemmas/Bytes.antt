-- Between the plain conditions on the bytes of a configuration and the walk over its modules.
use Rattle.std.proofs.Math.Path.{◌≡◌, ap, ap₂}
use Rattle.std.specs.Prelude.{refl, eqb, ltb, Ok, Err}
use Rattle.std.proofs.Common.{◌∙◌, subst}
use mathlib.Core.List.{List}
use Prim.Native.Nat.{ℕ, zero, suc, ◌+◌, ◌*◌, ◌-◌, ◌/◌, ◌%◌, ◌≤◌, ◌<◌}
use native.Mathlib.Omega.{arith}
use Rattle.std.proofs.Math.ListN.{length, get_or, drop, length-drop}
use Rattle.std.proofs.Math.Seq.{get_or-drop, drop-length}
use borrow.Author.Tests.{ltb-false, le-ltb, eqb-false, ne_eqb}
use Rattle.octets.specs.Choice.{pick}
use Rattle.octets.proofs.Choice.{by_pick}
use Rattle.configuration.specs.Fields.{identifier_of, side_if, general_of, special_of, length_of}
use Rattle.configuration.specs.Walk.{Found, one, unfit, front_of, barred, special_in, special_by, module_by, module_in, step_of, next_of, Walk, end, bad, more, walk_of, Step}
use Rattle.configuration.specs.Reading.{input_of, output_of, total, totals_of}
use Rattle.configuration.specs.Contents.{Says}
use Rattle.configuration.specs.Bytes.{side_size, general_input, general_output, special_input, special_output, special_length, ModuleBytes, last, general, special}
use Rattle.configuration.proofs.Lemmas.Steps.{by_format, by_next, says, stands}
use Rattle.configuration.proofs.Lemmas.Accepted.{same_modules, same_inputs, same_outputs}
use Rattle.configuration.specs.declared.fields.Identifier.{Identifier}
use Rattle.configuration.specs.declared.fields.Identifier.TheVariants.{General, Special}
use Rattle.configuration.specs.declared.fields.Module.{Module}
use Rattle.configuration.specs.declared.walk.Step.TheVariants as step

-- ---- how many bytes a side has

side_plain : (b n x : ℕ) → b < 2 → length_of (side_if b n x) ≡ side_size b n x
side_plain zero n x h = omega arith
side_plain (suc zero) n x h = by_word (x / 64 % 2) (omega arith)
  where
    by_word : (w : ℕ) → w < 2 → pick (eqb w 1) (2 * n) n ≡ 1 * (n * (1 + w))
    by_word zero l = omega arith
    by_word (suc zero) l = omega arith
    by_word (suc (suc w)) l = absurd (omega arith)
side_plain (suc (suc b)) n x h = absurd (omega arith)

general_sides : (x : ℕ) → (input_of (general_of x) ≡ general_input x) × (output_of (general_of x) ≡ general_output x)
unfolding general_of
general_sides x = (side_plain (x / 16 % 2) (x % 16 + 1) x (omega arith), side_plain (x / 32 % 2) (x % 16 + 1) x (omega arith))

special_sides : (x y z : ℕ) → (input_of (special_of x y z) ≡ special_input x z) × (output_of (special_of x y z) ≡ special_output x y)
unfolding special_of
special_sides x y z = (side_plain (x / 64 % 2) (z % 64 + 1) z (omega arith), side_plain (x / 128 % 2) (y % 64 + 1) y (omega arith))

-- ---- the module at a place

-- by the identifier x, of which so many bytes are left, and by the bytes where its length bytes stand
abbrev found_by : Identifier → (x left y z : ℕ) → Found
found_by General x left y z = one (general_of x) 1 0
found_by Special x left y z = special_by x left y z

by_numbers : (k : Identifier) (r : List ℕ) → module_by k r ≡ found_by k (get_or r 0 0) (length r) (get_or r 1 0) (get_or r (1 + get_or r 0 0 / 128 % 2) 0)
unfolding special_in
by_numbers General r = refl
by_numbers Special r = refl

module _ (s : List ℕ) (at : ℕ) where
  abbrev head : ℕ
  head = get_or s at 0

  abbrev second : ℕ
  second = get_or s (at + 1) 0

  abbrev behind : ℕ
  behind = get_or s (at + 1 + head / 128 % 2) 0

  module_at : module_in (drop at s) ≡ found_by (identifier_of head) head (length s - at) second behind
  unfolding module_in
  module_at =
      let r : List ℕ = drop at s in
      let e0 : get_or r 0 0 ≡ head = get_or-drop at s 0 0 ∙ ap (λ (i : ℕ). get_or s i 0) (omega arith) in
      let e1 : get_or r 1 0 ≡ second = get_or-drop at s 1 0 in
      let e2 : get_or r (1 + head / 128 % 2) 0 ≡ behind =
      get_or-drop at s (1 + head / 128 % 2) 0 ∙ ap (λ (i : ℕ). get_or s i 0) (omega arith) in
      let e3 : length r ≡ length s - at = length-drop at s in
      by_numbers (identifier_of (get_or r 0 0)) r
      ∙ ap (λ (x : ℕ). found_by (identifier_of x) x (length r) (get_or r 1 0) (get_or r (1 + x / 128 % 2) 0)) e0
      ∙ ap₂ (λ (l y : ℕ). found_by (identifier_of head) head l y (get_or r (1 + head / 128 % 2) 0)) e3 e1
      ∙ ap (found_by (identifier_of head) head (length s - at) second) e2

  -- what was found begins the modules from there on, if those behind it are known
  abbrev Begins : Found → Type 0
  Begins (one m start len) = (n i o : ℕ) → ModuleBytes s (at + start + len) n i o → ModuleBytes s at (suc n) (input_of m + i) (output_of m + o)
  Begins (unfit r) = Unit

  general_begins : at < length s → (head / 16 % 4 ≡ 0 → ⊥) → Begins (one (general_of head) 1 0)
  general_begins h some n i o w =
      let e = general_sides head in
      let p : at + 1 + 0 ≡ at + 1 = omega arith in
      rw (e.0, e.1) (general h (omega arith) (subst (λ (k : ℕ). ModuleBytes s k n i o) p w))

  special_begins : at < length s → head / 16 % 4 ≡ 0 → (head % 16 ≡ 15 → ⊥) → front_of head + head % 16 ≤ length s - at
      → Begins (one (special_of head second behind) (front_of head) (head % 16))
  special_begins h z count fits n i o w =
      let e = special_sides head second behind in
      let p : at + front_of head + head % 16 ≡ at + special_length head = omega arith in
      rw (e.0, e.1) (special z (omega arith) (omega arith) (subst (λ (k : ℕ). ModuleBytes s k n i o) p w))

  begins : at < length s → Begins (module_in (drop at s))
  begins h =
      rw module_at
      (by_format (λ (k : Identifier). Begins (found_by k head (length s - at) second behind)) head
      (λ z. by_pick Begins (eqb (head % 16) barred) (λ _. tt)
      (λ c. by_pick Begins (ltb (length s - at) (front_of head + head % 16)) (λ _. tt)
      (λ f. special_begins h z (eqb-false (head % 16) 15 c) (ltb-false (length s - at) (front_of head + head % 16) f))))
      (λ z. general_begins h z))

  -- the same of a step
  abbrev StepBegins : Step → Type 0
  StepBegins (Ok (step.Module m start len next)) = (n i o : ℕ) → ModuleBytes s next.at n i o → ModuleBytes s at (suc n) (input_of m + i) (output_of m + o)
  StepBegins (Ok step.End) = Unit
  StepBegins (Err r) = Unit

  found_begins : (f : Found) → Begins f → StepBegins (step_of at f)
  found_begins (one m start len) p = p
  found_begins (unfit r) p = tt

  step_begins : StepBegins (next_of s at)
  step_begins = by_next StepBegins s at (λ _. tt) (λ _. tt) (λ h f _ e. found_begins f (subst Begins e (begins h)))

-- ---- from the walk to the modules

-- the modules from a place on, where there are a modules with b input and c output bytes before it
pub record Rest (s : List ℕ) (at a b c n i o : ℕ) : Type 0 where
  pub count : ℕ
  pub inputs : ℕ
  pub outputs : ℕ
  pub counted : n ≡ a + count
  pub input_sum : i ≡ b + inputs
  pub output_sum : o ≡ c + outputs
  pub modules : ModuleBytes s at count inputs outputs

module _ (s : List ℕ) where
  at_end : (at : ℕ) → at ≤ length s → (x : Step) → Says s at x → walk_of (drop at s) 0 ≡ end → at ≡ length s
  at_end at h (Ok (step.Module m start len next)) p e = absurd (let q = p.walk in let z : ◌≡◌ {A = ℕ} 0 1 = cc in omega arith)
  at_end at h (Ok step.End) p e = p.0
  at_end at h (Err r) p e = absurd (let q = p h in let z : ◌≡◌ {A = ℕ} 0 1 = cc in omega arith)

  by_step : (at : ℕ) → at ≤ length s → (m : Module) (v : List ℕ) (w : Walk) (a b c n i o : ℕ) → walk_of (drop at s) 0 ≡ more m v w
      → ((next : ℕ) → next ≤ length s → walk_of (drop next s) 0 ≡ w → Rest s next (a + 1) (b + input_of m) (c + output_of m) n i o)
      → (x : Step) → Says s at x → StepBegins s at x → Rest s at a b c n i o
  by_step at h m v w a b c n i o e rest (Ok (step.Module m' start len next)) p q =
      let walk = p.walk in
      let same : m' ≡ m = cc in
      let r = rest next.at p.inside (cc) in
      record {
        count = suc r.count;
        inputs = input_of m + r.inputs;
        outputs = output_of m + r.outputs;
        counted = omega (arith, r.counted);
        input_sum = omega (arith, r.input_sum);
        output_sum = omega (arith, r.output_sum);
        modules =
            subst (λ (k : Module). ModuleBytes s at (suc r.count) (input_of k + r.inputs) (output_of k + r.outputs)) same
            (q r.count r.inputs r.outputs r.modules);
      }
  by_step at h m v w a b c n i o e rest (Ok step.End) p q = absurd (let y = p.1 in let z : ◌≡◌ {A = ℕ} 0 1 = cc in omega arith)
  by_step at h m v w a b c n i o e rest (Err r) p q = absurd (let y = p h in let z : ◌≡◌ {A = ℕ} 0 1 = cc in omega arith)

  pub from_walk : (w : Walk) (at : ℕ) → at ≤ length s → walk_of (drop at s) 0 ≡ w → (a b c n i o : ℕ) → totals_of a b c w ≡ total n i o
      → Rest s at a b c n i o
  unfolding totals_of
  from_walk end at h e a b c n i o t =
      record {
        count = 0;
        inputs = 0;
        outputs = 0;
        counted = omega (arith, same_modules t);
        input_sum = omega (arith, same_inputs t);
        output_sum = omega (arith, same_outputs t);
        modules = last (at_end at h (next_of s at) (says s at) e);
      }
  from_walk (bad r) at h e a b c n i o t = absurd (let z : ◌≡◌ {A = ℕ} 0 1 = cc in omega arith)
  from_walk (more m v w) at h e a b c n i o t =
      by_step at h m v w a b c n i o e (λ next k f. from_walk w next k f (a + 1) (b + input_of m) (c + output_of m) n i o t) (next_of s at) (says s at) (step_begins s at)

-- ---- from the modules to the walk

same_totals : {a b c n i o : ℕ} → a ≡ n → b ≡ i → c ≡ o → total a b c ≡ total n i o
same_totals x y z = cc

module _ (s : List ℕ) (at a b c : ℕ) (m : Module) (start len n i o input output : ℕ) where
  one_more : at < length s → module_in (drop at s) ≡ one m start len → (input_of m ≡ input) × (output_of m ≡ output)
      → totals_of (a + 1) (b + input_of m) (c + output_of m) (walk_of (drop (at + start + len) s) 0) ≡ total (a + 1 + n) (b + input_of m + i) (c + output_of m + o)
      → totals_of a b c (walk_of (drop at s) 0) ≡ total (a + suc n) (b + (input + i)) (c + (output + o))
  unfolding totals_of next_of
  one_more h f sides rest =
      let some : at ≡ length s → ⊥ = λ e. omega arith in
      let reached : at ≤ length s = omega arith in
      let next : next_of s at ≡ step_of at (one m start len) = simp (le-ltb _ _ reached, ne_eqb _ _ some) (ap (step_of at) f) in
      let p : input_of m ≡ input = sides.0 in
      let q : output_of m ≡ output = sides.1 in
      ap (totals_of a b c) (stands s at next).walk ∙ rest ∙ same_totals (omega arith) (omega arith) (omega arith)

pub to_walk : {s : List ℕ} {at n i o : ℕ} → ModuleBytes s at n i o → (a b c : ℕ)
    → totals_of a b c (walk_of (drop at s) 0) ≡ total (a + n) (b + i) (c + o)
unfolding totals_of walk_of
to_walk {s} (last e) a b c = rw (e, drop-length s) (same_totals (omega arith) (omega arith) (omega arith))
to_walk {s} {at} (general {n = n} {i = i} {o = o} h some w) a b c =
    let x : ℕ = get_or s at 0 in
    let ne : x / 16 % 4 ≡ 0 → ⊥ = λ e. omega arith in
    let p : at + 1 ≡ at + 1 + 0 = omega arith in
    one_more s at a b c (general_of x) 1 0 n i o _ _ h (module_at s at ∙ simp (ne_eqb _ _ ne)) (general_sides x)
    (subst (λ (k : ℕ). totals_of (a + 1) (b + input_of (general_of x)) (c + output_of (general_of x)) (walk_of (drop k s) 0) ≡ total (a + 1 + n) (b + input_of (general_of x) + i) (c + output_of (general_of x) + o)) p
    (to_walk w (a + 1) (b + input_of (general_of x)) (c + output_of (general_of x))))
to_walk {s} {at} (special {n = n} {i = i} {o = o} z count fits w) a b c =
    let x : ℕ = get_or s at 0 in
    let m : Module = special_of x (get_or s (at + 1) 0) (get_or s (at + 1 + x / 128 % 2) 0) in
    let ne : x % 16 ≡ barred → ⊥ = λ e. omega arith in
    let room : front_of x + x % 16 ≤ length s - at = omega arith in
    let p : at + special_length x ≡ at + front_of x + x % 16 = omega arith in
    one_more s at a b c m (front_of x) (x % 16) n i o _ _ (omega arith) (module_at s at ∙ simp (z, ne_eqb _ _ ne, le-ltb _ _ room)) (special_sides x _ _)
    (subst (λ (k : ℕ). totals_of (a + 1) (b + input_of m) (c + output_of m) (walk_of (drop k s) 0) ≡ total (a + 1 + n) (b + input_of m + i) (c + output_of m + o)) p
    (to_walk w (a + 1) (b + input_of m) (c + output_of m)))
