-- The customer's second demand for global commands, and that reader and writer refuse alike.
use Rattle.std.specs.Prelude.{ℕ, ◌≡◌, List, length, Ok}
use Rattle.std.proofs.Common.{ap, ◌∙◌, subst}
use Rattle.octets.specs.Part.{part_of}
use Rattle.octets.specs.Front.{Verdict, fine, fault}
use Rattle.octets.specs.Fixed.{judged}
use Rattle.octets.proofs.Fixed.{part_behind}
use Rattle.control.specs.Command.{refused, read_of, fixed_bytes, bytes_for, verdict_for}
use Rattle.control.proofs.Lemmas.{alike, Again, again}
use Rattle.control.specs.declared.command.GlobalCommand.{GlobalCommand}

module _ (f : GlobalCommand) (rest : List ℕ) where
  -- (a) What is written reads back as the same fields and the same rest.
  pub command_reads_back : verdict_for f rest ≡ fine
      → (read_of (bytes_for f rest) ≡ Ok (record { fields = f; start = 2; len = length rest })) × (part_of (bytes_for f rest) 2 (length rest) ≡ rest)
  command_reads_back e =
      (alike f rest ∙ ap (λ (v : Verdict). judged refused v (Ok (record { fields = f; start = 2; len = length rest }))) e, part_behind (fixed_bytes f) rest)

  -- What the writer refuses, the reader would refuse with the same number.
  pub command_refused_alike : (k : ℕ) → verdict_for f rest ≡ fault k → read_of (bytes_for f rest) ≡ refused k
  command_refused_alike k e = alike f rest ∙ ap (λ (v : Verdict). judged refused v (Ok (record { fields = f; start = 2; len = length rest }))) e

-- (b) What is read may be written, and gives the same bytes again.
pub command_writes_back : (s : List ℕ) → {f : GlobalCommand} {start len : ℕ} → read_of s ≡ Ok (record { fields = f; start = start; len = len })
    → (verdict_for f (part_of s start len) ≡ fine) × (bytes_for f (part_of s start len) ≡ s)
command_writes_back s e = subst (Again s) e (again s)
