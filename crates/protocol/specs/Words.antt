-- The customer's words (document 01, "A sending is heard unless .."), over the sendings of a download alone: their bytes,
-- what the line did, and the replies as they came back.
use Rattle.std.specs.Prelude.{ℕ, zero, suc, ◌+◌, ◌≤◌, ◌≡◌, Bool, true, false, not, List, [], ◌∷◌, eqb, length, get_or, drop, Ok, Err}
use Rattle.octets.specs.Choice.{pick, ◌and◌, ◌or◌}
use Rattle.octets.specs.declared.Mode.TheVariants as mode
use Rattle.fdl.specs.Contents.{accepted}
use Rattle.fdl.specs.Reading as telegram
use Rattle.fdl.specs.declared.reading.Reading.TheVariants as telegram-reading
use Rattle.service.specs.Reading as service
use Rattle.protocol.specs.Line.{Passage, through, request_lost, reply_lost, request_damaged, reply_damaged, Sending}
use Rattle.protocol.specs.Printer.{Ask, slave_diag, write, poll, unknown, undecodable, ask_by}
use Rattle.protocol.specs.Controller.{Got, nothing, confirmation, diagnosis, positive, negative, other, got_in}
use Rattle.protocol.specs.declared.controller.Settings.{Settings}

module _ {A : Type 0} (test : A → Bool) where
  -- does the test hold of one of them, and of how many
  abbrev pub any_of : List A → Bool
  any_of [] = false
  any_of (a ∷ l) = test a or any_of l

  abbrev pub count_of : List A → ℕ
  count_of [] = 0
  count_of (a ∷ l) = pick (test a) (suc (count_of l)) (count_of l)

-- ---- a sending

-- the request reaches the other end as it was sent
abbrev pub arrives : Passage → Bool
arrives through = true
arrives request_lost = false
arrives reply_lost = true
arrives (request_damaged bytes) = false
arrives (reply_damaged bytes) = true

abbrev pub names_station : (address : ℕ) → telegram.Reading → Bool
names_station a (Ok telegram-reading.Confirmation) = false
names_station a (Ok (telegram-reading.Token da sa)) = false
names_station a (Ok (telegram-reading.Telegram f h start len)) = eqb h.da a
names_station a (Err r) = false

-- bytes that framing refuses, which count as no telegram
abbrev pub FramingRefuses : List ℕ → Type 0
FramingRefuses s = accepted (telegram.read_of s) ≡ false

-- "heard unless its request is lost or names another station"
unfoldable pub heard : (address : ℕ) → Sending → Bool
heard a s = arrives s.passage and names_station a (telegram.read_of s.request)

-- "and answered if its reply then arrives"; bytes that framing refuses count as no reply
unfoldable pub answered : (address : ℕ) → Sending → Bool
answered a s = heard a s and accepted (telegram.read_of s.reply)

-- ---- a guarded slot

-- "index 7 while boarding", and no other
abbrev pub guarded : (boarding : Bool) (slot : ℕ) → Bool
guarded boarding slot = boarding and eqb slot 7

-- ---- a request: neighbouring sendings of the same bytes

abbrev pub bytes_agree : List ℕ → List ℕ → Bool
bytes_agree [] [] = true
bytes_agree [] (y ∷ ys) = false
bytes_agree (x ∷ xs) [] = false
bytes_agree (x ∷ xs) (y ∷ ys) = eqb x y and bytes_agree xs ys

abbrev pub joined : Sending → List (List Sending) → List (List Sending)
joined s [] = (s ∷ []) ∷ []
joined s ([] ∷ rs) = (s ∷ []) ∷ rs
joined s ((t ∷ r) ∷ rs) = pick (bytes_agree s.request t.request) ((s ∷ t ∷ r) ∷ rs) ((s ∷ []) ∷ (t ∷ r) ∷ rs)

unfoldable pub requests_in : List Sending → List (List Sending)
requests_in [] = []
requests_in (s ∷ l) = joined s (requests_in l)

-- "failed if it never was" answered
abbrev pub failed : (address : ℕ) → List Sending → Bool
failed a r = not (any_of (answered a) r)

-- all its sendings but the last
abbrev pub but_last : List Sending → List Sending
but_last [] = []
but_last (s ∷ []) = []
but_last (s ∷ t ∷ r) = s ∷ but_last (t ∷ r)

-- "each request is sent until answered, R + 1 times at most": only the last sending may be answered, and where none was there
-- were R + 1
pub record UntilAnswered (address repeats : ℕ) (r : List Sending) : Type 0 where
  pub at_most_lem : length r ≤ repeats + 1
  pub only_last : any_of (answered address) (but_last r) ≡ false
  pub all_tried : failed address r ≡ true → length r ≡ repeats + 1

-- what a request asks for, by the service reader
abbrev pub asked : (request : List ℕ) → Ask
asked s = ask_by s (service.read_of s mode.Dpv1)

abbrev pub is_write_ask : Ask → Bool
is_write_ask slave_diag = false
is_write_ask (write slot index body) = true
is_write_ask poll = false
is_write_ask unknown = false
is_write_ask undecodable = false

-- the opening asks for the diagnosis
abbrev pub is_opening_ask : Ask → Bool
is_opening_ask slave_diag = true
is_opening_ask (write slot index body) = false
is_opening_ask poll = false
is_opening_ask unknown = false
is_opening_ask undecodable = false

abbrev pub asked_in : List Sending → Ask
asked_in [] = unknown
asked_in (s ∷ r) = asked s.request

abbrev pub is_write : List Sending → Bool
is_write r = is_write_ask (asked_in r)

abbrev pub is_opening : List Sending → Bool
is_opening r = is_opening_ask (asked_in r)

-- how many writes have a heard sending
abbrev pub writes_heard : (address : ℕ) → List Sending → ℕ
writes_heard a l = count_of (λ (r : List Sending). is_write r and any_of (heard a) r) (requests_in l)

-- ---- the requests of a template: its write, and then its polls

abbrev pub first_is_write : List (List Sending) → Bool
first_is_write [] = true
first_is_write (r ∷ rs) = is_write r

abbrev pub attached : Bool → List Sending → List (List (List Sending)) → List (List (List Sending))
attached true r gs = (r ∷ []) ∷ gs
attached false r [] = (r ∷ []) ∷ []
attached false r (g ∷ gs) = (r ∷ g) ∷ gs

-- a write begins the next template's
unfoldable pub by_template : List (List Sending) → List (List (List Sending))
by_template [] = []
by_template (r ∷ rs) = attached (first_is_write rs) r (by_template rs)

-- the first request is the opening
abbrev pub templates_in : List Sending → List (List (List Sending))
templates_in l = by_template (drop 1 (requests_in l))

-- those at template k, counted from 1
abbrev pub requests_at : List Sending → (k : ℕ) → List (List Sending)
requests_at l zero = []
requests_at l (suc i) = get_or (templates_in l) i []

abbrev pub write_in : List (List Sending) → List Sending
write_in [] = []
write_in (r ∷ rs) = r

abbrev pub polls_in : List (List Sending) → List (List Sending)
polls_in [] = []
polls_in (r ∷ rs) = rs

-- ---- what came to a poll

-- the reply of a request: of its last sending
abbrev pub reply_of : List Sending → List ℕ
reply_of [] = []
reply_of (s ∷ []) = s.reply
reply_of (s ∷ t ∷ r) = reply_of (t ∷ r)

abbrev pub is_nothing : Got → Bool
is_nothing nothing = true
is_nothing confirmation = false
is_nothing diagnosis = false
is_nothing (positive slot index len) = false
is_nothing (negative code1 code2) = false
is_nothing other = false

abbrev pub is_confirmation : Got → Bool
is_confirmation nothing = false
is_confirmation confirmation = true
is_confirmation diagnosis = false
is_confirmation (positive slot index len) = false
is_confirmation (negative code1 code2) = false
is_confirmation other = false

abbrev pub is_negative : (code1 code2 : ℕ) → Got → Bool
is_negative c d nothing = false
is_negative c d confirmation = false
is_negative c d diagnosis = false
is_negative c d (positive slot index len) = false
is_negative c d (negative code1 code2) = eqb c code1 and eqb d code2
is_negative c d other = false

-- it got SC
abbrev pub got_confirmation : Settings → List Sending → Bool
got_confirmation c r = is_confirmation (got_in c (reply_of r))

-- the printer's DF came, with these codes
abbrev pub got_negative : Settings → (code1 code2 : ℕ) → List Sending → Bool
got_negative c code1 code2 r = is_negative code1 code2 (got_in c (reply_of r))
