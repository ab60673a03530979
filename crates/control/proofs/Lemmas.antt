-- Both ways between a global command and its bytes.
use Rattle.std.specs.Prelude.{ℕ, ◌+◌, ◌-◌, ◌≤◌, ◌≡◌, not, List, eqb, Ok, Err}
use Rattle.std.proofs.Common.{sym, ap, ◌∙◌, length-append}
use native.Mathlib.Omega.{arith}
use Rattle.std.proofs.Math.ListN.{length}
use borrow.Author.Tests.{eqb-true, not-false}
use Rattle.octets.proofs.Elements.{part_elements}
use Rattle.octets.specs.Part.{part_of}
use Rattle.octets.specs.Front.{fine}
use Rattle.octets.specs.Fixed.{judged}
use Rattle.octets.proofs.Fixed.{by_verdict, passed, part_long, part_tiles}
use Rattle.control.specs.Command.{verdict_of, refused, fields_in, read_of, fixed_bytes, bytes_for, verdict_for, CommandReading}
use Rattle.control.specs.declared.command.GlobalCommand.{GlobalCommand}

pub alike : (f : GlobalCommand) (rest : List ℕ) → read_of (bytes_for f rest) ≡ judged refused (verdict_for f rest) (Ok (record { fields = f; start = 2; len = length rest }))
unfolding read_of
alike f rest =
    let len : 2 + length rest - 2 ≡ length rest = omega arith in
    ap (λ (n : ℕ). judged refused (verdict_of f n) (Ok (record { fields = f; start = 2; len = n - 2 }))) (length-append (fixed_bytes f) rest)
    ∙ ap (λ (n : ℕ). judged refused (verdict_for f rest) (Ok (record { fields = f; start = 2; len = n }))) len

module _ (s : List ℕ) where
  abbrev pub Again : CommandReading → Type 0
  Again (Ok found) = (verdict_for found.fields (part_of s found.start found.len) ≡ fine) × (bytes_for found.fields (part_of s found.start found.len) ≡ s)
  Again (Err r) = Unit

  module _ (good : verdict_of (fields_in s) (length s) ≡ fine) where
    long : 2 ≤ length s
    unfolding verdict_of
    long =
        let two : length s ≡ 2 = eqb-true _ _ (not-false _ (passed 20 (not (eqb (length s) 2)) _ good).0) in
        omega arith

    taken : verdict_for (fields_in s) (part_of s 2 (length s - 2)) ≡ fine
    taken = ap (verdict_of (fields_in s)) (part_long 2 s long) ∙ good

    same : bytes_for (fields_in s) (part_of s 2 (length s - 2)) ≡ s
    same = part_tiles 2 s long (sym (part_elements 2 0 s long))

  pub again : Again (read_of s)
  unfolding read_of
  again = by_verdict Again (verdict_of (fields_in s) (length s)) (λ _. tt) (λ good. (taken good, same good))
