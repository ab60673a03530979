-- The course of a download from the line alone: what each request meets, and how it ends.
use Rattle.std.specs.Prelude.{ℕ, zero, suc, ◌-◌, Bool, true, false, not, List, [], ◌∷◌, ◌++◌, length, get_or}
use Rattle.octets.specs.Choice.{pick, ◌or◌}
use Rattle.fdl.specs.Writing.{confirmation_bytes}
use Rattle.book.specs.Contents.{Entry}
use Rattle.protocol.specs.Line.{Passage, through, request_lost, reply_lost, request_damaged, reply_damaged, Sending, passage_of, rest_of}
use Rattle.protocol.specs.Telegrams.{write_bytes, poll_bytes, outcome_bytes}
use Rattle.protocol.specs.Words.{any_of, arrives, guarded}
use Rattle.protocol.specs.declared.controller.Settings.{Settings}
use Rattle.protocol.specs.declared.controller.Ending.{Ending}
use Rattle.protocol.specs.declared.controller.Ending.TheVariants as ending
use Rattle.protocol.specs.declared.printer.Outcome.{Outcome}
use Rattle.protocol.specs.declared.printer.Outcome.TheVariants as outcome

-- ---- one request, sent until answered, R + 1 times at most

abbrev pub is_through : Passage → Bool
is_through through = true
is_through request_lost = false
is_through reply_lost = false
is_through (request_damaged bytes) = false
is_through (reply_damaged bytes) = false

-- what comes back of the reply r
abbrev pub reply_by : Passage → (r : List ℕ) → List ℕ
reply_by through r = r
reply_by request_lost r = []
reply_by reply_lost r = []
reply_by (request_damaged bytes) r = []
reply_by (reply_damaged bytes) r = bytes

abbrev pub sending_of : (q r : List ℕ) → Passage → Sending
sending_of q r p = record { request = q; passage = p; reply = reply_by p r }

-- its sendings, where the printer's reply is r
unfoldable pub exchange : (repeats : ℕ) (q r : List ℕ) → List Passage → List Sending
exchange zero q r l = sending_of q r (passage_of l) ∷ []
exchange (suc n) q r l =
    pick (is_through (passage_of l)) (sending_of q r (passage_of l) ∷ []) (sending_of q r (passage_of l) ∷ exchange n q r (rest_of l))

-- is it answered
unfoldable pub meets : (repeats : ℕ) → List Passage → Bool
meets zero l = is_through (passage_of l)
meets (suc n) l = is_through (passage_of l) or meets n (rest_of l)

-- the line that it leaves
unfoldable pub leaves : (repeats : ℕ) → List Passage → List Passage
leaves zero l = rest_of l
leaves (suc n) l = pick (is_through (passage_of l)) (rest_of l) (leaves n (rest_of l))

abbrev pub one_arrives : List Sending → Bool
one_arrives r = any_of (λ s. arrives s.passage) r

-- ---- the polls of one template: until one gets another reply than SC

-- how they end: the result came, and then the next request's FCB and the line are these; P polls got SC; or one failed
pub data Polled : Type 0 where
  ready : (fcb : Bool) → List Passage → Polled
  late : Polled
  silent : Polled

module _ (c : Settings) where
  -- their sendings, where `left` may follow the first, `wait` get "not yet", and then comes the result's reply
  unfoldable pub polls : (result : List ℕ) (left wait : ℕ) (fcb : Bool) → List Passage → List (List Sending)
  polls result left zero b l = exchange c.repeats (poll_bytes c.printer c.controller b) result l ∷ []
  polls result zero (suc wait) b l = exchange c.repeats (poll_bytes c.printer c.controller b) confirmation_bytes l ∷ []
  polls result (suc left) (suc wait) b l =
      exchange c.repeats (poll_bytes c.printer c.controller b) confirmation_bytes l
      ∷ pick (meets c.repeats l) (polls result left wait (not b) (leaves c.repeats l)) []

  unfoldable pub polled : (left wait : ℕ) (fcb : Bool) → List Passage → Polled
  polled left zero b l = pick (meets c.repeats l) (ready (not b) (leaves c.repeats l)) silent
  polled zero (suc wait) b l = pick (meets c.repeats l) late silent
  polled (suc left) (suc wait) b l = pick (meets c.repeats l) (polled left wait (not b) (leaves c.repeats l)) silent

-- ---- the whole, after the opening

-- the requests of each template in order, the end, and the templates that the printer then has
pub record Course : Type 0 where
  pub requests : List (List (List Sending))
  pub ending : Ending
  pub stored : List Entry

abbrev pub unless : Bool → Entry → List Entry
unless b t = pick b [] (t ∷ [])

-- the result of a template's write, by the guard: DF with B6, or 5F
abbrev pub outcome_of : (guard : Bool) → Entry → Outcome
outcome_of guard t = pick guard (outcome.Negative 0xB6 0) (outcome.Positive 1 t.slot (length t.body))

-- an end at this template, whose requests are these
abbrev pub ends_with : List (List Sending) → Ending → List Entry → Course
ends_with rs e ts = record { requests = rs ∷ []; ending = e; stored = ts }

abbrev pub after : List (List Sending) → Entry → Course → Course
after rs t x = record { requests = rs ∷ x.requests; ending = x.ending; stored = t ∷ x.stored }

-- by how the polls ended of template k, whose slot is guarded or not
abbrev pub after_polls : (k : ℕ) → Entry → (guard : Bool) → List (List Sending) → Polled → (Bool → List Passage → Course) → Course
after_polls k t guard rs (ready b l) rest = pick guard (ends_with rs (ending.Refused k 0xB6 0) []) (after rs t (rest b l))
after_polls k t guard rs late rest = ends_with rs (ending.NotReady k) (unless guard t)
after_polls k t guard rs silent rest = ends_with rs (ending.NoAnswer k) (unless guard t)

module _ (c : Settings) (boarding : Bool) (not_yet : List ℕ) where
  abbrev pub write_of : (fcb : Bool) → Entry → List Passage → List Sending
  write_of b t l = exchange c.repeats (write_bytes c.printer c.controller b t.slot t.body) confirmation_bytes l

  -- the reply with the result of its write
  abbrev pub result_of : Entry → List ℕ
  result_of t = outcome_bytes c.controller c.printer (outcome_of (guarded boarding t.slot) t)

  -- the templates from place i of the book on, counted from 0
  unfoldable pub course : (i : ℕ) (fcb : Bool) → List Entry → List Passage → Course
  course i b [] l = record { requests = []; ending = ending.Done; stored = [] }
  course i b (t ∷ ts) l =
      pick (meets c.repeats l)
      (after_polls (suc i) t (guarded boarding t.slot)
      (write_of b t l ∷ polls c (result_of t) (c.polls - 1) (get_or not_yet i 0) (not b) (leaves c.repeats l))
      (polled c (c.polls - 1) (get_or not_yet i 0) (not b) (leaves c.repeats l))
      (λ b' l'. course (suc i) b' ts l'))
      (ends_with (write_of b t l ∷ []) (ending.NoAnswer (suc i)) (pick (one_arrives (write_of b t l)) (unless (guarded boarding t.slot) t) []))

-- lists in a row as one: a course has a list of requests for each template, and a request a list of sendings
abbrev pub concat : {A : Type 0} → List (List A) → List A
concat [] = []
concat (a ∷ l) = a ++ concat l
