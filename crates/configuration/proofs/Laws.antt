-- The customer's second demand for configurations, of one module and of all, and what the offsets are.
use Rattle.std.specs.Prelude.{◌≡◌, refl, true, List, ◌++◌, ℕ, ◌+◌, ◌≤◌, ◌<◌, length, get_or, take, drop, Ok, Err}
use Rattle.std.proofs.Common.{sym, ap, ◌∙◌, arith, zero-add}
use Rattle.octets.proofs.Choice.{never}
use Rattle.octets.specs.Bytes.{Bytes}
use Rattle.octets.specs.Front.{fine}
use Rattle.octets.proofs.Fixed.{fault_fine}
use Rattle.configuration.specs.Walk.{Walk, end, bad, more, first_position, next_of, walk_of}
use Rattle.configuration.specs.Reading.{input_of, output_of, total, totals_of, read_of, offsets_of, list_by, input_offsets, output_offsets, Reading}
use Rattle.configuration.specs.Writing.{module_verdict, module_bytes, verdict_in, verdict_of}
use Rattle.configuration.specs.Contents.{Reads, Again, Says, accepted, ends_well, walk_bytes, walk_verdict, Whole, input_lengths, output_lengths, sum_of}
use Rattle.configuration.proofs.Lemmas.Steps.{says}
use Rattle.configuration.proofs.Lemmas.Accepted as lemma
use Rattle.configuration.proofs.Lemmas.One.{back, again}
use Rattle.configuration.proofs.Lemmas.All.{all_back, all_again}
use Rattle.configuration.proofs.Lemmas.Sums.{offset_from, sum_front, sums}
use Rattle.configuration.specs.declared.fields.Module.{Module}
use Rattle.configuration.specs.declared.walk.Position.{Position}
use Rattle.configuration.specs.declared.walk.Step.TheVariants as step

-- ---- one module

-- (a) What is written reads back as the same fields and the same vendor bytes, and the next position is behind it, whatever
-- stands before it and behind it.
pub reads_back : (m : Module) (vendor front behind : List ℕ) → module_verdict m vendor ≡ fine
    → Reads (front ++ (module_bytes m vendor ++ behind)) (length front) m vendor
reads_back = back

-- (b) What is read at a position may be written, and gives the same bytes there, up to the next position.
pub writes_back : (s : List ℕ) → Bytes s → (at : ℕ) {m : Module} {start len : ℕ} {next : Position} → next_of s at ≡ Ok (step.Module m start len next)
    → Again s at m start len next.at
writes_back = again

-- ---- all modules

-- What `next` answers at a position is how the modules go on from there: reading finds the same modules as walking, the
-- same end and the same refusal.
pub step_by_step : (s : List ℕ) (at : ℕ) → Says s at (next_of s at)
step_by_step = says

-- From the first position on, these are all modules.
pub from_the_front : (s : List ℕ) → walk_of (drop first_position.at s) 0 ≡ walk_of s 0
from_the_front s = refl

-- (a) Modules that may be written, one after the other, read back as the same modules.
pub modules_read_back : (w : Walk) → walk_verdict w ≡ fine → walk_of (walk_bytes w) 0 ≡ w
modules_read_back = all_back

-- (a), of the whole: what `write` stores is accepted. (It stores what it was given.)
pub configuration_reads_back : (s : List ℕ) → verdict_of s ≡ fine → accepted (read_of s) ≡ true
configuration_reads_back s = by_reading (read_of s)
  where
    by_reading : (r : Reading) → verdict_in r ≡ fine → accepted r ≡ true
    by_reading (Ok found) e = refl
    by_reading (Err r) e = absurd (fault_fine e)

-- (b), of the whole: what is accepted may be written as it is; and all its modules may be, and give the same bytes.
pub record Kept (s : List ℕ) : Type 0 where
  pub taken : verdict_of s ≡ fine
  pub modules : Whole s

ends_well_lem : (w : Walk) (n i o : ℕ) → accepted (totals_of n i o w) ≡ true → ends_well w ≡ true
unfolding totals_of
ends_well_lem end n i o e = refl
ends_well_lem (bad r) n i o e = e
ends_well_lem (more m vendor w) n i o e = ends_well_lem w (n + 1) (i + input_of m) (o + output_of m) e

pub configuration_writes_back : (s : List ℕ) → Bytes s → accepted (read_of s) ≡ true → Kept s
configuration_writes_back s bytes = by_reading (read_of s) refl
  where
    by_reading : (r : Reading) → read_of s ≡ r → accepted r ≡ true → Kept s
    by_reading (Ok found) e a =
        record { taken = ap verdict_in e; modules = all_again s bytes (ends_well_lem (walk_of s 0) 0 0 0 (ap accepted (lemma.accepted s e).totals)) }
    by_reading (Err r) e a = absurd (never a)

-- The fields are complete: two configurations with the same modules and vendor bytes are the same.
pub complete : (s t : List ℕ) → Bytes s → Bytes t → accepted (read_of s) ≡ true → accepted (read_of t) ≡ true → walk_of s 0 ≡ walk_of t 0 → s ≡ t
complete s t a b p q e =
    sym (configuration_writes_back s a p).modules.same ∙ ap walk_bytes e ∙ (configuration_writes_back t b q).modules.same

-- ---- the offsets

-- What is answered of 1 to 244 bytes: as many offsets as modules, and the sums of the lengths on each side, at most 244.
pub record Totals (s : List ℕ) (n i o : ℕ) : Type 0 where
  pub some : 1 ≤ length s
  pub most : length s ≤ 244
  pub input_offsets_lem : length (input_offsets s) ≡ n
  pub output_offsets_lem : length (output_offsets s) ≡ n
  pub inputs : sum_of (input_lengths s) ≡ i
  pub outputs : sum_of (output_lengths s) ≡ o
  pub most_inputs : i ≤ 244
  pub most_outputs : o ≤ 244

pub totals_are_sums : (s : List ℕ) {n i o : ℕ} → read_of s ≡ total n i o → Totals s n i o
totals_are_sums s e =
    let w : Walk = walk_of s 0 in
    let a = lemma.accepted s e in
    let t = sums w 0 0 0 a.totals in
    record {
      some = a.some;
      most = a.most;
      input_offsets_lem = omega (arith, lemma.counted input_of 0 0 0 0 w a.totals);
      output_offsets_lem = omega (arith, lemma.counted output_of 0 0 0 0 w a.totals);
      inputs = omega (arith, t.inputs);
      outputs = omega (arith, t.outputs);
      most_inputs = a.inputs;
      most_outputs = a.outputs;
    }

-- The offsets of module k are the sums of the lengths before it, and its bytes end within the total.
pub record Placed (s : List ℕ) (i o k : ℕ) : Type 0 where
  pub input : get_or (input_offsets s) k 0 ≡ sum_of (take k (input_lengths s))
  pub output : get_or (output_offsets s) k 0 ≡ sum_of (take k (output_lengths s))
  pub input_ends : get_or (input_offsets s) k 0 + get_or (input_lengths s) k 0 ≤ i
  pub output_ends : get_or (output_offsets s) k 0 + get_or (output_lengths s) k 0 ≤ o

pub offsets_are_sums : (s : List ℕ) {n i o : ℕ} → read_of s ≡ total n i o → (k : ℕ) → k < n → Placed s i o k
offsets_are_sums s e k h =
    let t = totals_are_sums s e in
    let a = offset_from input_of 0 (walk_of s 0) k (omega (arith, t.input_offsets_lem)) in
    let b = offset_from output_of 0 (walk_of s 0) k (omega (arith, t.output_offsets_lem)) in
    record {
      input = a ∙ zero-add (sum_of (take k (input_lengths s)));
      output = b ∙ zero-add (sum_of (take k (output_lengths s)));
      input_ends = omega (arith, a, t.inputs, sum_front (input_lengths s) k);
      output_ends = omega (arith, b, t.outputs, sum_front (output_lengths s) k);
    }

-- A refusal stores no offset, of whichever list they are.
pub refused_stores_nothing : (s offsets before : List ℕ) (inputs outputs : ℕ) {r : ℕ} → offsets_of s inputs outputs ≡ Err r
    → list_by (offsets_of s inputs outputs) offsets before ≡ before
refused_stores_nothing s offsets before inputs outputs e = ap (λ (x : Reading). list_by x offsets before) e
