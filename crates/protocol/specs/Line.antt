-- A controller and a printer joined along a line (document 01, "Template book, printer, download"), whatever each of them
-- is: P is what the printer's end remembers, O the controller's own state, E how it ends. Telegrams are bytes, and no reply
-- is no bytes.
use Rattle.std.specs.Prelude.{ℕ, zero, suc, List, [], ◌∷◌}

-- What the line does with one sending. In place of a request or of a reply it may also bring other bytes.
pub data Passage : Type 0 where
  through : Passage
  request_lost : Passage
  reply_lost : Passage
  request_damaged : (bytes : List ℕ) → Passage
  reply_damaged : (bytes : List ℕ) → Passage

-- the printer's end after it heard a request, and its reply
pub record Answered (P : Type 0) : Type 0 where
  pub state : P
  pub reply : List ℕ

-- what the controller does next: it sends a request, or it has ended
pub data Move (O E : Type 0) : Type 0 where
  go : (request : List ℕ) → O → Move O E
  stop : E → Move O E

-- the line that is left, both ends, and the number of sendings so far
pub record Config (P O E : Type 0) : Type 0 where
  pub line : List Passage
  pub printer : P
  pub move : Move O E
  pub sent : ℕ

-- one sending: the request's bytes, what the line did, and the reply's bytes as they came back
pub record Sending : Type 0 where
  pub request : List ℕ
  pub passage : Passage
  pub reply : List ℕ

-- one sending takes one entry of the line; a missing one goes through
abbrev pub passage_of : List Passage → Passage
passage_of [] = through
passage_of (h ∷ l) = h

abbrev pub rest_of : List Passage → List Passage
rest_of [] = []
rest_of (h ∷ l) = l

module _ {P O E : Type 0} (hear : P → List ℕ → Answered P) (step : O → (reply : List ℕ) → Move O E) where
  -- the printer after a sending of q, and the reply as it comes back
  abbrev pub printer_after : Passage → P → (q : List ℕ) → P
  printer_after through p q = (hear p q).state
  printer_after request_lost p q = p
  printer_after reply_lost p q = (hear p q).state
  printer_after (request_damaged bytes) p q = (hear p bytes).state
  printer_after (reply_damaged bytes) p q = (hear p q).state

  abbrev pub reply_after : Passage → P → (q : List ℕ) → List ℕ
  reply_after through p q = (hear p q).reply
  reply_after request_lost p q = []
  reply_after reply_lost p q = []
  reply_after (request_damaged bytes) p q = (hear p bytes).reply
  reply_after (reply_damaged bytes) p q = bytes

  -- one sending; who has ended stays as it is
  abbrev pub next_by : List Passage → P → Move O E → (sent : ℕ) → Config P O E
  next_by l p (stop e) n = record { line = l; printer = p; move = stop e; sent = n }
  next_by l p (go q o) n =
      record {
        line = rest_of l;
        printer = printer_after (passage_of l) p q;
        move = step o (reply_after (passage_of l) p q);
        sent = suc n;
      }

  abbrev pub next : Config P O E → Config P O E
  next x = next_by x.line x.printer x.move x.sent

  -- m sendings
  unfoldable pub run : ℕ → Config P O E → Config P O E
  run zero x = x
  run (suc m) x = run m (next x)

  -- and what was sent, in order
  abbrev pub sending_by : List Passage → P → Move O E → List Sending → List Sending
  sending_by l p (stop e) rest = []
  sending_by l p (go q o) rest = record { request = q; passage = passage_of l; reply = reply_after (passage_of l) p q } ∷ rest

  unfoldable pub transcript : ℕ → Config P O E → List Sending
  transcript zero x = []
  transcript (suc m) x = sending_by x.line x.printer x.move (transcript m (next x))

-- ---- damage: the line brings other bytes only such as Bad says

module _ (Bad : List ℕ → Type 0) where
  abbrev pub DamagedBy : Passage → Type 0
  DamagedBy through = Unit {0}
  DamagedBy request_lost = Unit {0}
  DamagedBy reply_lost = Unit {0}
  DamagedBy (request_damaged bytes) = Bad bytes
  DamagedBy (reply_damaged bytes) = Bad bytes

  abbrev pub Damage : List Passage → Type 0
  Damage [] = Unit {0}
  Damage (h ∷ l) = DamagedBy h × Damage l

-- a line that loses what another damages
abbrev pub lost_for : Passage → Passage
lost_for through = through
lost_for request_lost = request_lost
lost_for reply_lost = reply_lost
lost_for (request_damaged bytes) = request_lost
lost_for (reply_damaged bytes) = reply_lost

abbrev pub as_lost : List Passage → List Passage
as_lost [] = []
as_lost (h ∷ l) = lost_for h ∷ as_lost l
