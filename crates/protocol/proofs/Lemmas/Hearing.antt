-- What the printer does with bytes that are no call, with a counted call that is new to it, and with the same call once more;
-- and what stays whatever it hears.
use Rattle.std.specs.Prelude.{ℕ, ◌≡◌, Bool, true, false, not, List, length, get_or, take, drop, Ok, Err}
use Rattle.std.proofs.Math.Path.{refl}
use Rattle.std.proofs.Math.Seq.{take-append_seam}
use borrow.Author.Tests.{eq-eqb}
use Rattle.octets.proofs.Choice.{by_pick}
use Rattle.octets.specs.Front.{over}
use Rattle.fdl.specs.Reading as telegram
use Rattle.fdl.specs.declared.reading.Reading.TheVariants as telegram-reading
use Rattle.protocol.specs.Bits.{bits_agree}
use Rattle.protocol.specs.Printer.{Ask, Received, nothing, elsewhere, status, uncounted, opening, counted, is_call_of, received_by, received_of, Deed, perform, Station, Heard, is_repeat, reply_bytes, new_call, heard_by, hear}
use Rattle.protocol.specs.Download.{Given, hears}

-- ---- what is no call

no_call : (address : ℕ) (s : List ℕ) (r : telegram.Reading) → is_call_of r ≡ false → received_by address s r ≡ nothing
no_call address s (Ok telegram-reading.Confirmation) e = refl
no_call address s (Ok (telegram-reading.Token da sa)) e = refl
no_call address s (Ok (telegram-reading.Telegram f h start len)) e = rw e
no_call address s (Err r) e = refl

-- Bytes that framing refuses, tokens, SC and answers change nothing and get nothing.
pub not_a_call : (diag : List ℕ) (not_yet : ℕ) (s : List ℕ) (x : Station) → is_call_of (telegram.read_of s) ≡ false
    → hear diag not_yet s x ≡ record { station = x; reply = 0 }
unfolding hear received_of
not_a_call diag not_yet s x e = rw (no_call x.printer.address s (telegram.read_of s) e)

-- ---- what stays

by_received : (diag : List ℕ) (not_yet : ℕ) (r : Received) (x : Station) → (heard_by diag not_yet r x).station.printer.boarding ≡ x.printer.boarding
by_received diag not_yet nothing x = refl
by_received diag not_yet elsewhere x = refl
by_received diag not_yet (status sa) x = refl
by_received diag not_yet uncounted x = refl
by_received diag not_yet (opening sa ask) x = refl
by_received diag not_yet (counted fcb sa ask) x =
    by_pick (λ (h : Heard). h.station.printer.boarding ≡ x.printer.boarding) (is_repeat x.printer fcb sa) (λ _. refl) (λ _. refl)

-- Whatever the printer hears, its boarding state stays.
pub boarding_kept : (diag : List ℕ) (not_yet : ℕ) (s : List ℕ) (x : Station) → (hear diag not_yet s x).station.printer.boarding ≡ x.printer.boarding
unfolding hear
boarding_kept diag not_yet s x = by_received diag not_yet (received_of x.printer.address s) x

-- ---- what a counted call does

-- a reply that was stored is what is sent
pub stored_sent : (r buffer : List ℕ) → take (length r) (over r buffer) ≡ r
stored_sent r buffer = take-append_seam r (drop (length r) buffer)

pub same_bit : (b : Bool) → bits_agree b b ≡ true
same_bit true = refl
same_bit false = refl

pub other_bit : (b : Bool) → bits_agree (not b) b ≡ false
other_bit true = refl
other_bit false = refl

module _ (g : Given) where
  -- what a new call does at the station x
  abbrev pub deed_at : Station → Ask → Deed
  deed_at x ask = perform x.printer.boarding (get_or g.not_yet x.printer.writes 0) x.printer.pending x.slots x.printer.writes ask

  abbrev pub renewed_at : Station → (fcb : Bool) (sa : ℕ) → Ask → Station
  renewed_at x fcb sa ask = (new_call g.diagnosis x fcb sa (deed_at x ask)).station

  abbrev pub reply_at : Station → (sa : ℕ) → Ask → List ℕ
  reply_at x sa ask = reply_bytes g.diagnosis x.printer.address sa (deed_at x ask).reply

  module _ (x : Station) (s : List ℕ) (fcb : Bool) (sa : ℕ) (ask : Ask) (call : received_of x.printer.address s ≡ counted fcb sa ask) where
    pub new_heard : is_repeat x.printer fcb sa ≡ false → hears g x s ≡ record { state = renewed_at x fcb sa ask; reply = reply_at x sa ask }
    unfolding hear
    new_heard new = rw (call, new, stored_sent (reply_at x sa ask) x.buffer)

    pub again_heard : hears g (renewed_at x fcb sa ask) s ≡ record { state = renewed_at x fcb sa ask; reply = reply_at x sa ask }
    unfolding hear
    again_heard = rw (call, eq-eqb sa sa refl, same_bit fcb, stored_sent (reply_at x sa ask) x.buffer)
