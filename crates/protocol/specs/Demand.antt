-- The customer's third demand (document 01, "Demand 3 is one statement about the whole line"): what holds of every download that
-- is not refused, a field for each sentence. The words stand in Words: they are about the sendings, and not about either
-- machine's state.
use Rattle.std.specs.Prelude.{ℕ, zero, suc, ◌≤◌, ◌<◌, ◌≡◌, Bool, true, false, not, List, [], ◌∷◌, eqb, ltb, length, get_or, take, drop, Ok}
use Rattle.octets.specs.Choice.{pick, ◌and◌}
use Rattle.book.specs.Contents.{Entry, InOrder}
use Rattle.protocol.specs.Line.{Passage, Sending, stop, Damage}
use Rattle.protocol.specs.Slots.{slot_in, filled}
use Rattle.protocol.specs.Printer.{Station}
use Rattle.protocol.specs.Download.{Given, Config, after, sendings, bound, download, given, passages_of, Whole}
use Rattle.protocol.specs.Words.{any_of, count_of, heard, answered, failed, requests_in, requests_at, is_opening, writes_heard, write_in, polls_in, got_confirmation, got_negative, guarded, FramingRefuses, UntilAnswered}
use Rattle.protocol.specs.Verdicts.{Usable}
use Rattle.protocol.specs.Endings.{is_done, is_no_opening, is_no_answer, is_not_ready, is_refused, is_strange, stops_at}
use Rattle.protocol.specs.declared.controller.Ending.{Ending}
use Rattle.protocol.specs.declared.controller.Settings.{Settings}

-- the template at place i of the book, counted from 0
abbrev pub At : List Entry → (i : ℕ) → Entry → Type 0
At [] i t = ⊥
At (a ∷ l) zero t = a ≡ t
At (a ∷ l) (suc i) t = At l i t

-- is each result of the templates from place i on ready within so many polls: is its number of "not yet" below
abbrev pub all_ready : (polls : ℕ) (not_yet : List ℕ) (i : ℕ) → List Entry → Bool
all_ready p n i [] = true
all_ready p n i (t ∷ ts) = ltb (get_or n i 0) p and all_ready p n (suc i) ts

-- ---- what is not refused: settings, book, line and printer

pub record NotRefused (g : Given) (l : List Passage) (x : Station) : Type 0 where
  pub printer : g.settings.printer ≤ 126
  pub controller : g.settings.controller ≤ 126
  pub unequal : g.settings.printer ≡ g.settings.controller → ⊥
  pub repeats : g.settings.repeats ≤ 7
  pub some_polls : 1 ≤ g.settings.polls
  pub polls : g.settings.polls ≤ 31
  pub in_order : InOrder 0 g.book
  pub some_templates : 1 ≤ length g.book
  pub templates : length g.book ≤ 16
  pub station : Usable g.diagnosis x
  -- bytes that the line brings in place of a telegram are refused by framing
  pub damage : Damage FramingRefuses l

-- ---- the demand

module _ (g : Given) (l : List Passage) (x : Station) where
  -- how it ended, and all that was sent
  abbrev pub final : Config
  final = download g l x

  abbrev pub all : List Sending
  all = sendings g l x (bound g)

  -- the printer's own station address, which the words ask for
  abbrev pub here : ℕ
  here = x.printer.address

  abbrev pub opening_answered : Bool
  opening_answered = any_of (answered here) (take 1 all)

  -- was the opening heard among these sendings
  abbrev pub opening_heard : List Sending → Bool
  opening_heard s = any_of (heard here) (take 1 s)

  -- did a request at template k fail
  abbrev pub failed_at : (k : ℕ) → Bool
  failed_at k = any_of (failed here) (requests_at all k)

  abbrev pub guards : Entry → Bool
  guards t = guarded x.printer.boarding t.slot

  -- was a sending of the write of template k heard
  abbrev pub write_heard : (k : ℕ) → Bool
  write_heard k = any_of (heard here) (write_in (requests_at all k))

  -- a new slot has its body's length, that body in front and its other bytes as before; an old one is all as before
  abbrev pub New : Entry → Type 0
  New t = slot_in final.printer.slots t.slot ≡ filled t.body (slot_in x.slots t.slot)

  abbrev pub Old : (slot : ℕ) → Type 0
  Old s = slot_in final.printer.slots s ≡ slot_in x.slots s

  pub record Demand3 : Type 0 where
    -- It ends, within the bound.
    pub ending : Ending
    pub ends : final.move ≡ stop ending
    pub within : final.sent ≤ bound g
    -- The number of sendings is the entries used, one each in turn, and it had not ended before.
    pub sent : final.sent ≡ length all
    pub entries_used : final.line ≡ drop final.sent l
    pub not_sooner : (m : ℕ) → m < final.sent → (e : Ending) → (after g l x m).move ≡ stop e → ⊥
    -- The opening, the first request, is sent once: it has one sending, and no other request is an opening.
    pub opening_once : length (get_or (requests_in all) 0 []) ≡ 1
    pub no_other_opening : any_of is_opening (drop 1 (requests_in all)) ≡ false
    -- After the opening each request is sent until answered, R + 1 times at most.
    pub until_answered : (n : ℕ) → n < length (drop 1 (requests_in all)) → UntilAnswered here g.settings.repeats (get_or (drop 1 (requests_in all)) n [])
    -- After every number of sendings each write with a heard sending has added exactly one, from the opening's hearing on.
    pub once : (m : ℕ) → (after g l x m).printer.printer.writes ≡ pick (opening_heard (sendings g l x m)) (writes_heard here (sendings g l x m)) x.printer.writes
    -- Done exactly when the opening was answered, no other request failed, every result was ready and none refused.
    pub done : is_done ending ≡ (opening_answered and not (any_of (failed here) (drop 1 (requests_in all))) and all_ready g.settings.polls g.not_yet 0 g.book and not (any_of guards g.book))
    pub no_opening : is_no_opening ending ≡ not opening_answered
    -- No answer at k exactly when a request at k failed; not ready when P polls got SC; refused when the printer's DF came to a
    -- poll, with its codes, which are B6 and 0. Strange never.
    pub no_answer : (k : ℕ) → is_no_answer k ending ≡ failed_at k
    pub not_ready : (k : ℕ) → is_not_ready k ending ≡ eqb (count_of (got_confirmation g.settings) (polls_in (requests_at all k))) g.settings.polls
    pub refused : (k code1 code2 : ℕ) → is_refused k code1 code2 ending ≡ any_of (got_negative g.settings code1 code2) (polls_in (requests_at all k))
    pub refused_codes : (k code1 code2 : ℕ) → is_refused k code1 code2 ending ≡ true → (code1 ≡ 0xB6) × (code2 ≡ 0)
    pub strange : is_strange ending ≡ false
    -- The slots: at done each one named in the book is new; without an opening all are old.
    pub done_new : is_done ending ≡ true → (i : ℕ) (t : Entry) → At g.book i t → New t
    pub no_opening_old : is_no_opening ending ≡ true → (slot : ℕ) → Old slot
    -- At a stop at k those before it are new; the one at k is new exactly when its write was heard and not refused, else old; those
    -- behind it are old.
    pub before_new : (k : ℕ) → stops_at k ending ≡ true → (i : ℕ) (t : Entry) → At g.book i t → suc i < k → New t
    pub there_new : (i : ℕ) (t : Entry) → At g.book i t → stops_at (suc i) ending ≡ true → write_heard (suc i) ≡ true → guards t ≡ false → New t
    pub there_old : (i : ℕ) (t : Entry) → At g.book i t → stops_at (suc i) ending ≡ true → (write_heard (suc i) and not (guards t)) ≡ false → Old t.slot
    pub behind_old : (k : ℕ) → stops_at k ending ≡ true → (i : ℕ) (t : Entry) → At g.book i t → k ≤ i → Old t.slot
    -- A slot that the book does not name is old, whatever the ending.
    pub others_old : (slot : ℕ) → ((i : ℕ) (t : Entry) → At g.book i t → t.slot ≡ slot → ⊥) → Old slot
    -- Boarding is as it was after every number of sendings.
    pub boarding : (m : ℕ) → (after g l x m).printer.printer.boarding ≡ x.printer.boarding

-- ---- over lent bytes

-- What holds of a call that is not refused, by its answer and the lent bytes as it leaves them: it ended as Demand3 says, it
-- answers so with that number of sendings, and the lent slots are those of which Demand3 speaks.
pub record Downloads (c : Settings) (book line not_yet diagnosis : List ℕ) (x : Station) (w : Whole) : Type 0 where
  pub demand : Demand3 (given c book not_yet diagnosis) (passages_of line) x
  pub answer : let z : Config = final (given c book not_yet diagnosis) (passages_of line) x in w.answer ≡ Ok (record { ending = demand.ending; sent = z.sent; printer = z.printer.printer })
  pub slots : w.slots ≡ (final (given c book not_yet diagnosis) (passages_of line) x).printer.slots
