-- What a reading says of the bytes, and that their header is written as it was read.
use Rattle.std.specs.Prelude.{◌≡◌, List, [], ◌∷◌, ℕ, zero, suc, ◌≤◌, ◌<◌, length, get_or, take, drop, ltb, Ok, Err}
use Rattle.std.proofs.Common.{sym, ap, ◌∙◌, arith, ltb-false}
use Rattle.octets.proofs.Choice.{by_pick}
use Rattle.octets.specs.Bytes.{Bytes}
use Rattle.octets.proofs.Number.{bytes_number}
use Rattle.octets.proofs.Elements.{part_elements}
use Rattle.diagnosis.specs.Reading.{header_of, answered, read_of, Count, Reading}
use Rattle.diagnosis.specs.Writing.{header_bytes}
use Rattle.diagnosis.proofs.Lemmas.Judged.{Good, Judges, good, refusal, judges}

-- what a reading says of the bytes
pub data Reads (s : List ℕ) : Reading → Type 0 where
  read : {n : ℕ} → 6 ≤ length s → Good (header_of s) (drop 6 s) n → Reads s (Ok (record { header = header_of s; blocks = n }))
  unread : {r : ℕ} → Reads s (Err r)

by_judges : (s : List ℕ) → 6 ≤ length s → {c : Count} → Judges (header_of s) (drop 6 s) c → Reads s (answered (header_of s) c)
by_judges s l (good g) = read l g
by_judges s l refusal = unread

pub reads : (s : List ℕ) → Reads s (read_of s)
unfolding read_of
reads s = by_pick (Reads s) (ltb (length s) 6) (λ _. unread) (λ l. by_judges s (ltb-false (length s) 6 l) (judges (header_of s) (drop 6 s)))

two_bytes : (x y : ℕ) → x < 256 → y < 256 → Bytes (x ∷ y ∷ [])
two_bytes x y p q zero = p
two_bytes x y p q (suc zero) = q
two_bytes x y p q (suc (suc i)) = omega arith

pub header_again : (s : List ℕ) → Bytes s → 6 ≤ length s → header_bytes (header_of s) ≡ take 6 s
header_again s b l =
    ap (λ (t : List ℕ). get_or s 0 0 ∷ get_or s 1 0 ∷ get_or s 2 0 ∷ get_or s 3 0 ∷ t) (bytes_number (get_or s 4 0 ∷ get_or s 5 0 ∷ []) (two_bytes _ _ (b 4) (b 5)))
    ∙ sym (part_elements 6 0 s l)
