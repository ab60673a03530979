-- One template of a book.
use Rattle.std.specs.Prelude.{◌≡◌, take, drop, Ok}
use Rattle.std.proofs.Common.{sym, ◌∙◌, drop-drop}
use Rattle.std.proofs.Math.Path.{ap}
use mathlib.Core.List.{List}
use Prim.Native.Nat.{ℕ, suc, ◌+◌, ◌-◌, ◌*◌, ◌≤◌, ◌<◌}
use native.Mathlib.Omega.{arith}
use Rattle.std.proofs.Math.ListN.{length, get_or, length-drop}
use Rattle.std.proofs.Math.Seq.{length-take-le}
use borrow.Author.Tests.{le-ltb, le-leb}
use Rattle.octets.specs.Part.{part_of}
use Rattle.book.specs.Table.{sum_of}
use Rattle.book.specs.Reading.{counted, slots_of, lengths_of, bodies_of, read_of}
use Rattle.book.specs.Template.{start_of, entry_at, template_by, template_of}
use Rattle.book.specs.Contents.{stretch_of, Found}
use Rattle.book.proofs.Lemmas.Fit.{accepted}
use Rattle.book.proofs.Lemmas.Entries.{sum_front}

module _ (s : List ℕ) {n : ℕ} (e : read_of s ≡ Ok n) (i : ℕ) (h : i < n) where
  pub found : Found s i (get_or (slots_of s) i 0) (get_or (lengths_of s) i 0) (stretch_of (lengths_of s) (bodies_of s) i)
  unfolding template_of entry_at part_of
  found =
      let ns : List ℕ = lengths_of s in
      let b : List ℕ = bodies_of s in
      let a = accepted s e in
      let left = length-drop (1 + 2 * counted s) s in
      let front = sum_front ns i in
      let inside : start_of s i + get_or ns i 0 ≤ length s = omega (arith, a.table, a.fit.sum) in
      let low : 1 ≤ suc i = omega arith in
      let less : suc i - 1 ≡ i = omega arith in
      record {
        is = ap (template_by s (suc i)) e ∙ simp (le-ltb _ _ low, le-ltb _ _ h, less);
        inside = inside;
        part = simp (le-leb _ _ inside) (ap (take (get_or ns i 0)) (sym (drop-drop (sum_of (take i ns)) (1 + 2 * counted s) s)));
        long = length-take-le (get_or ns i 0) (drop (sum_of (take i ns)) b) (omega (arith, length-drop (sum_of (take i ns)) b, a.fit.sum));
      }
