-- The customer's second demand for typed values: over every value and over all bytes.
use Rattle.std.specs.Prelude.{◌≡◌, List, ℕ, drop, Ok}
use Rattle.std.proofs.Common.{subst}
use Rattle.octets.specs.Bytes.{Bytes}
use Rattle.octets.specs.Number.{number_of}
use Rattle.octets.specs.Front.{fine}
use Rattle.typed.specs.Value.{Kind, code_in, kind_of, pattern_in, InRange}
use Rattle.typed.specs.Reading.{read_of}
use Rattle.typed.specs.Writing.{verdict_of, bytes_for}
use Rattle.typed.proofs.Lemmas.Back.{kind_back, back}
use Rattle.typed.proofs.Lemmas.Again.{Again, again}
use Rattle.typed.specs.declared.value.Value.{Value}

-- No two kinds share a code: the code of each is read as that kind.
pub kind_of_code : (k : Kind) → kind_of (code_in k) ≡ k
kind_of_code k = kind_back k

-- (a) What is written reads back as the same value. Every value that the code can be given is in range.
pub reads_back : (v : Value) → InRange v → verdict_of v ≡ fine → read_of (bytes_for v) ≡ Ok v
reads_back v r e = back v r e

module _ (s : List ℕ) (bytes : Bytes s) {v : Value} (e : read_of s ≡ Ok v) where
  -- (b) What is read may be written, and gives the same bytes again.
  pub writes_back : (verdict_of v ≡ fine) × (bytes_for v ≡ s)
  writes_back = let a = subst (Again s bytes) e (again s bytes) in (a.0, a.2)

  -- The bits behind the code are kept exactly, those of a NaN too.
  pub bits_kept : pattern_in v ≡ number_of (drop 1 s)
  bits_kept = (subst (Again s bytes) e (again s bytes)).1
