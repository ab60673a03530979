-- A printer that may be used may be used after whatever it hears.
use Rattle.std.specs.Prelude.{ℕ, zero, suc, ◌≤◌, ◌≡◌, refl, Bool, List, [], ◌∷◌, length, get_or, set}
use Rattle.std.proofs.Common.{arith}
use Rattle.octets.proofs.Choice.{by_pick}
use Rattle.octets.specs.Front.{fine, over}
use Rattle.diagnosis.specs.Reading as diagnosis
use Rattle.protocol.specs.Slots.{Slots, Sized}
use Rattle.protocol.specs.Printer.{Received, nothing, elsewhere, status, uncounted, opening, counted, received_of, Reply, bare, perform, opening_reply, Station, Heard, is_repeat, reply_bytes, heard_by, hear, verdict_of}
use Rattle.protocol.proofs.Lemmas.Accepted.{unrefused, usable, fine_printer}
use Rattle.protocol.specs.Verdicts.{Valid}
use Rattle.protocol.proofs.Lemmas.Replies.{valid}
use Rattle.protocol.proofs.Lemmas.Slots.{written_sized}
use Rattle.protocol.proofs.MachineLaws.Memory.{keeps_itself}
use Rattle.protocol.proofs.MachineLaws.Printer.{Changes, kept, stored, slots_change}
use Rattle.protocol.proofs.MachineLaws.Room.{over_long, reply_fits}

-- the slots' lengths
abbrev Short : (lengths : List ℕ) → Type 0
Short l = (i : ℕ) → get_or l i 0 ≤ 200

still_short : (l : List ℕ) (i n : ℕ) → n ≤ 200 → Short l → Short (set l i n)
still_short [] i n h s j = s j
still_short (a ∷ l) zero n h s zero = h
still_short (a ∷ l) zero n h s (suc j) = s (suc j)
still_short (a ∷ l) (suc i) n h s zero = s 0
still_short (a ∷ l) (suc i) n h s (suc j) = still_short l i n h (λ k. s (suc k)) j

lengths_kept : {boarding : Bool} {s s' : Slots} → Changes boarding s s' → Short s.lengths → Short s'.lengths
lengths_kept kept e = e
lengths_kept {s = s} (stored index body i l f) e = still_short s.lengths index (length body) l e

-- the length of the buffer
module _ (diag : List ℕ) (n : ℕ) (x : Station) (v : Valid diag) (room : 255 ≤ length x.buffer) where
  still_long : (sa : ℕ) (r : Reply) → length (over (reply_bytes diag x.printer.address sa r) x.buffer) ≡ length x.buffer
  still_long sa r = over_long (reply_bytes diag x.printer.address sa r) x.buffer (omega (arith, reply_fits diag x.printer.address sa r v))

  long_heard : (r : Received) → length (heard_by diag n r x).station.buffer ≡ length x.buffer
  long_heard nothing = refl
  long_heard elsewhere = refl
  long_heard uncounted = refl
  long_heard (status sa) = still_long sa (bare 0)
  long_heard (opening sa ask) = still_long sa (opening_reply ask)
  long_heard (counted fcb sa ask) =
      by_pick (λ (h : Heard). length h.station.buffer ≡ length x.buffer) (is_repeat x.printer fcb sa) (λ _. refl) (λ _.
      still_long sa (perform x.printer.boarding n x.printer.pending x.slots x.printer.writes ask).reply)

-- A printer that may be used may be used after whatever it hears,
pub station_kept : (diag : List ℕ) (n : ℕ) (s : List ℕ) (x : Station) → verdict_of diag x ≡ fine → verdict_of diag (hear diag n s x).station ≡ fine
unfolding hear
station_kept diag n s x e =
    let u = usable diag x e in
    let y : Station = (hear diag n s x).station in
    let same = keeps_itself diag n s x in
    let long = long_heard diag n x (valid diag (unrefused (diagnosis.read_of diag) u.diagnosis)) u.room (received_of x.printer.address s) in
    let lengths = lengths_kept (slots_change diag n s x) u.lengths in
    fine_printer diag y (record { address = rw same.address u.address; lengths = lengths; diagnosis = u.diagnosis; room = rw long u.room })

-- and has its sixteen slots.
pub slots_sized : (diag : List ℕ) (n : ℕ) (s : List ℕ) (x : Station) → Sized x.slots → Sized (hear diag n s x).station.slots
slots_sized diag n s x z = by (slots_change diag n s x)
  where
    by : {s' : Slots} → Changes x.printer.boarding x.slots s' → Sized s'
    by kept = z
    by (stored index body i l f) = written_sized x.slots z index body i l
