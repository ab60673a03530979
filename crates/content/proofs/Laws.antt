-- The customer's second demand for the user data of every service, both ways, and where the part lies.
use Rattle.std.specs.Prelude.{ℕ, ◌+◌, ◌≤◌, ◌≡◌, List, length, Ok}
use Rattle.std.proofs.Common.{subst}
use Rattle.octets.specs.Bytes.{Bytes}
use Rattle.octets.specs.Part.{part_of}
use Rattle.octets.specs.Front.{fine}
use Rattle.octets.specs.declared.Mode.{Mode}
use Rattle.access.specs.Route.{answerer_of}
use Rattle.access.specs.declared.table.Service.{Service}
use Rattle.access.specs.declared.route.Answering.{Answering}
use Rattle.content.specs.Fields.{service_of, fixed_length, ModeFits, IdentFits, Fits, FitsEvery}
use Rattle.content.specs.Reading.{end_of, call_of, answer_of}
use Rattle.content.specs.Writing.{bytes_for, call_verdict, answer_verdict, Again}
use Rattle.content.proofs.Lemmas.Again.{Holds, call_again, answer_again}
use Rattle.content.proofs.Lemmas.Back.{call_back, answer_back}
use Rattle.content.proofs.Lemmas.Inside as inside
use Rattle.content.proofs.Lemmas.Lengths as lengths
use Rattle.content.specs.declared.fields.Content.{Content}

-- The fields take ten bytes at most.
pub fixed_small : (c : Content) → fixed_length c ≤ 10
fixed_small = lengths.fixed_small

-- ---- what is written

module _ (c : Content) (part : List ℕ) where
  -- The fields take so many bytes, and the part is the rest.
  pub bytes_long : length (bytes_for c part) ≡ fixed_length c + length part
  bytes_long = lengths.bytes_long c part

  -- (a) What is written reads back, in the version that it was written in, as the same fields and the same part.
  pub call_reads_back : (m : Mode) → IdentFits c → ModeFits c m → call_verdict c part ≡ fine
      → (call_of (service_of c) (bytes_for c part) m ≡ Ok (record { fields = c; start = fixed_length c; len = length part })) × (part_of (bytes_for c part) (fixed_length c) (length part) ≡ part)
  call_reads_back m i f e = (call_back part c m i f e, lengths.part_back c part)

  -- (a), of answers: from the service whose content it is
  pub answer_reads_back : (a : Answering) → answerer_of a ≡ service_of c → IdentFits c → answer_verdict c part ≡ fine
      → (answer_of a (bytes_for c part) ≡ Ok (record { fields = c; start = fixed_length c; len = length part })) × (part_of (bytes_for c part) (fixed_length c) (length part) ≡ part)
  answer_reads_back a s i e = (answer_back part c a i s e, lengths.part_back c part)

-- ---- what is read

module _ (u : List ℕ) (bytes : Bytes u) {c : Content} {start len : ℕ} where
  -- (b) What is read is of the service and in the version that it was read in, may be written, and gives the same bytes again. Its ident
  -- number has two bytes.
  pub call_writes_back : (s : Service) (m : Mode) → call_of s u m ≡ Ok (record { fields = c; start = start; len = len }) → Again call_verdict (λ x. Fits x m) s u c start len
  call_writes_back s m e = subst (Holds (Again call_verdict (λ x. Fits x m) s u)) e (call_again u bytes m s)

  -- (b), of answers, which are of every version
  pub answer_writes_back : (a : Answering) → answer_of a u ≡ Ok (record { fields = c; start = start; len = len }) → Again answer_verdict FitsEvery (answerer_of a) u c start len
  answer_writes_back a e = subst (Holds (Again answer_verdict FitsEvery (answerer_of a) u)) e (answer_again u bytes a)

-- The part lies inside the user data.
pub call_inside : (s : Service) (u : List ℕ) (m : Mode) → end_of (call_of s u m) ≤ length u
call_inside = inside.call_inside

pub answer_inside : (a : Answering) (u : List ℕ) → end_of (answer_of a u) ≤ length u
answer_inside = inside.answer_inside
