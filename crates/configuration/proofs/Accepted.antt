-- Which bytes are accepted as a configuration: exactly those that are one in plain arithmetic.
use Rattle.std.specs.Prelude.{◌≡◌, refl, true, List, [], ◌∷◌, ◌↔◌, ℕ, ◌+◌, Ok, Err}
use Rattle.std.proofs.Common.{ap, arith}
use Rattle.std.proofs.Math.Nat.{zero-add}
use borrow.Author.Tests.{le-ltb}
use Rattle.octets.proofs.Choice.{never}
use Rattle.configuration.specs.Fields.{general_of, special_of}
use Rattle.configuration.specs.Walk.{special_in, module_in, walk_of}
use Rattle.configuration.specs.Reading.{total, totals_of, within_limit, read_of, Reading}
use Rattle.configuration.specs.Contents.{accepted}
use Rattle.configuration.specs.Bytes.{ConfigurationBytes, IsConfiguration}
use Rattle.configuration.proofs.Lemmas.Accepted as lemma
use Rattle.configuration.proofs.Lemmas.Bytes.{from_walk, to_walk}

module _ (s : List ℕ) where
  read_bytes : (n i o : ℕ) → read_of s ≡ total n i o → ConfigurationBytes s n i o
  read_bytes n i o e =
      let a = lemma.accepted s e in
      let r = from_walk s (walk_of s 0) 0 (omega arith) refl 0 0 0 n i o a.totals in
      let x : r.count ≡ n = omega (arith, r.counted) in
      let y : r.inputs ≡ i = omega (arith, r.input_sum) in
      let z : r.outputs ≡ o = omega (arith, r.output_sum) in
      record {
        some = a.some;
        most = a.most;
        modules = rw (x, y, z) at r.modules;
        most_inputs = a.inputs;
        most_outputs = a.outputs;
      }

  bytes_read : (n i o : ℕ) → ConfigurationBytes s n i o → read_of s ≡ total n i o
  unfolding read_of within_limit
  bytes_read n i o c =
      let t : totals_of 0 0 0 (walk_of s 0) ≡ total (0 + n) (0 + i) (0 + o) = to_walk c.modules 0 0 0 in
      let u : totals_of 0 0 0 (walk_of s 0) ≡ total n i o = rw (zero-add n, zero-add i, zero-add o) at t in
      simp (le-ltb _ _ c.some, le-ltb _ _ c.most, u, le-ltb _ _ c.most_inputs, le-ltb _ _ c.most_outputs)

  -- Read as so many modules, input and output bytes exactly when so many tile the bytes, and the lengths are in range.
  pub configuration_read : (n i o : ℕ) → read_of s ≡ total n i o ↔ ConfigurationBytes s n i o
  configuration_read n i o = (read_bytes n i o, bytes_read n i o)

  by_reading : (r : Reading) → read_of s ≡ r → accepted r ≡ true → IsConfiguration s
  by_reading (Ok found) e a = record { count = found.modules; inputs = found.inputs; outputs = found.outputs; bytes = read_bytes found.modules found.inputs found.outputs e }
  by_reading (Err r) e a = absurd (never a)

  -- Accepted exactly when it is one with whatever modules.
  pub configuration_accepted : accepted (read_of s) ≡ true ↔ IsConfiguration s
  configuration_accepted = (by_reading (read_of s) refl, λ c. ap accepted (bytes_read c.count c.inputs c.outputs c.bytes))

-- Document 01's worked configuration, and one empty module.
pub configurations_computed : (read_of (19 ∷ 101 ∷ 193 ∷ 7 ∷ 79 ∷ 32 ∷ []) ≡ total 3 36 20) × (read_of (0 ∷ []) ≡ total 1 0 0)
unfolding read_of within_limit totals_of walk_of module_in special_in general_of special_of
configurations_computed = (refl, refl)
