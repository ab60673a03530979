-- What is not refused: each verdict, and what it says.
use Rattle.std.specs.Prelude.{ℕ, zero, suc, ◌≤◌, ◌≡◌, refl, Bool, true, false, List, [], ◌∷◌, eqb, ltb, length, get_or, Ok, Err}
use Rattle.std.proofs.Common.{arith, sym, le-ltb, ltb-false, ne_eqb}
use Rattle.std.proofs.lemmas.Bool.{eqb-false}
use Rattle.octets.specs.Choice.{pick, ◌or◌}
use Rattle.octets.proofs.Choice.{by_pick, never}
use Rattle.octets.specs.Fixed.{judged}
use Rattle.octets.proofs.Fixed.{passed, fault_fine}
use Rattle.octets.specs.Front.{Verdict, fine, fault}
use Rattle.diagnosis.specs.Reading as diagnosis-format
use Rattle.book.specs.Contents.{InOrder, templates_of}
use Rattle.book.proofs.Laws.{templates_in_order}
use Rattle.book.specs.Reading as book-format
use Rattle.protocol.specs.Slots.{too_long}
use Rattle.protocol.specs.Words.{FramingRefuses}
use Rattle.protocol.specs.Line.{DamagedBy, Damage}
use Rattle.protocol.specs.Printer as printer-step
use Rattle.protocol.specs.Printer.{Station}
use Rattle.protocol.specs.Controller.{settings_verdict, book_verdict}
use Rattle.protocol.specs.Download.{given, passages_of, line_verdict, room_verdict, verdict_of}
use Rattle.protocol.specs.Verdicts.{Settled, Readable, Usable}
use Rattle.protocol.specs.Demand.{NotRefused}
use Rattle.protocol.specs.declared.controller.Settings.{Settings}

pub both_fine : (v w : Verdict) → judged fault v w ≡ fine → (v ≡ fine) × (w ≡ fine)
both_fine fine w e = (refl, e)
both_fine (fault k) w e = absurd (fault_fine e)

-- where a test does not hold, what follows decides
unless : (k : ℕ) {b : Bool} {v : Verdict} → b ≡ false → v ≡ fine → pick b (fault k) v ≡ fine
unless k e f = rw e f

-- ---- settings

pub fine_settings : (c : Settings) → Settled c → settings_verdict c ≡ fine
unfolding settings_verdict
fine_settings c s =
    unless 12 (le-ltb 126 c.printer s.printer)
    (unless 12 (le-ltb 126 c.controller s.controller)
    (unless 12 (ne_eqb c.printer c.controller s.unequal)
    (unless 12 (le-ltb 7 c.repeats s.repeats)
    (unless 12 (le-ltb c.polls 1 s.some_polls)
    (unless 12 (le-ltb 31 c.polls s.polls) refl)))))

pub settled : (c : Settings) → settings_verdict c ≡ fine → Settled c
unfolding settings_verdict
settled c e =
    let most : Verdict = pick (ltb 31 c.polls) (fault 12) fine in
    let least : Verdict = pick (ltb c.polls 1) (fault 12) most in
    let repeat : Verdict = pick (ltb 7 c.repeats) (fault 12) least in
    let apart : Verdict = pick (eqb c.printer c.controller) (fault 12) repeat in
    let second : Verdict = pick (ltb 126 c.controller) (fault 12) apart in
    let p = passed 12 (ltb 126 c.printer) second e in
    let k = passed 12 (ltb 126 c.controller) apart p.1 in
    let u = passed 12 (eqb c.printer c.controller) repeat k.1 in
    let r = passed 12 (ltb 7 c.repeats) least u.1 in
    let s = passed 12 (ltb c.polls 1) most r.1 in
    let m = passed 12 (ltb 31 c.polls) fine s.1 in
    record {
      printer = ltb-false 126 c.printer p.0;
      controller = ltb-false 126 c.controller k.0;
      unequal = eqb-false c.printer c.controller u.0;
      repeats = ltb-false 7 c.repeats r.0;
      some_polls = ltb-false c.polls 1 s.0;
      polls = ltb-false 31 c.polls m.0;
    }

-- ---- a printer

neither : {a b : Bool} → a ≡ false → b ≡ false → (a or b) ≡ false
neither e f = rw e f

all_short : (l : List ℕ) → ((i : ℕ) → get_or l i 0 ≤ 200) → too_long l ≡ false
all_short [] h = refl
all_short (n ∷ l) h = neither (le-ltb 200 n (h 0)) (all_short l (λ i. h (suc i)))

short_at : (l : List ℕ) → too_long l ≡ false → (i : ℕ) → get_or l i 0 ≤ 200
short_at [] e i = omega arith
short_at (n ∷ l) e i = by (ltb 200 n) refl e i (λ f k. short_at l f k)
  where
    by : (b : Bool) → ltb 200 n ≡ b → (b or too_long l) ≡ false → (k : ℕ) → (too_long l ≡ false → (j : ℕ) → get_or l j 0 ≤ 200) → get_or (n ∷ l) k 0 ≤ 200
    by true t f k rest = absurd (never (sym f))
    by false t f zero rest = ltb-false 200 n t
    by false t f (suc k) rest = rest f k

pub unrefused : (r : diagnosis-format.Reading) → ((k : ℕ) → r ≡ Err k → ⊥) → printer-step.is_refused r ≡ false
unrefused (Ok found) f = refl
unrefused (Err k) f = absurd (f k refl)

never_refused : (r : diagnosis-format.Reading) → printer-step.is_refused r ≡ false → (k : ℕ) → r ≡ Err k → ⊥
never_refused (Ok found) e k q = let z : ◌≡◌ {A = ℕ} 0 1 = cc in omega arith
never_refused (Err j) e k q = never (sym e)

pub fine_printer : (diag : List ℕ) (x : Station) → Usable diag x → printer-step.verdict_of diag x ≡ fine
unfolding printer-step.verdict_of
fine_printer diag x u =
    unless 12 (le-ltb 126 x.printer.address u.address)
    (unless 12 (all_short x.slots.lengths u.lengths)
    (unless 12 (unrefused (diagnosis-format.read_of diag) u.diagnosis)
    (unless 11 (le-ltb (length x.buffer) 255 u.room) refl)))

pub usable : (diag : List ℕ) (x : Station) → printer-step.verdict_of diag x ≡ fine → Usable diag x
unfolding printer-step.verdict_of
usable diag x e =
    let small : Verdict = pick (ltb (length x.buffer) 255) (fault 11) fine in
    let unread : Verdict = pick (printer-step.is_refused (diagnosis-format.read_of diag)) (fault 12) small in
    let long : Verdict = pick (too_long x.slots.lengths) (fault 12) unread in
    let a = passed 12 (ltb 126 x.printer.address) long e in
    let l = passed 12 (too_long x.slots.lengths) unread a.1 in
    let d = passed 12 (printer-step.is_refused (diagnosis-format.read_of diag)) small l.1 in
    record {
      address = ltb-false 126 x.printer.address a.0;
      lengths = short_at x.slots.lengths l.0;
      diagnosis = never_refused (diagnosis-format.read_of diag) d.0;
      room = ltb-false (length x.buffer) 255 (passed 11 (ltb (length x.buffer) 255) fine d.1).0;
    }

-- ---- a book

pub fine_book : (book : List ℕ) → Readable book → book_verdict (book-format.read_of book) ≡ fine
fine_book book h = by (book-format.read_of book) h
  where
    by : (r : book-format.Reading) → ((k : ℕ) → r ≡ Err k → ⊥) → book_verdict r ≡ fine
    by (Ok n) f = refl
    by (Err k) f = absurd (f k refl)

pub readable : (book : List ℕ) → book_verdict (book-format.read_of book) ≡ fine → Readable book
readable book e = by (book-format.read_of book) e
  where
    by : (r : book-format.Reading) → book_verdict r ≡ fine → (k : ℕ) → r ≡ Err k → ⊥
    by (Ok n) f k q = let z : ◌≡◌ {A = ℕ} 0 1 = cc in omega arith
    by (Err j) f k q = fault_fine f

record Ordered (book : List ℕ) : Type 0 where
  in_order : InOrder 0 (templates_of book)
  some : 1 ≤ length (templates_of book)
  most : length (templates_of book) ≤ 16

ordered : (book : List ℕ) → book_verdict (book-format.read_of book) ≡ fine → Ordered book
ordered book e = by (book-format.read_of book) refl e
  where
    by : (r : book-format.Reading) → book-format.read_of book ≡ r → book_verdict r ≡ fine → Ordered book
    by (Ok n) q f = let t = templates_in_order book q in record { in_order = t.0; some = omega (arith, t.1, t.2); most = omega (arith, t.1, t.3) }
    by (Err r) q f = absurd (fault_fine f)

-- ---- a line

pub fine_line : (line : List ℕ) → ((i : ℕ) → get_or line i 0 ≤ 2) → line_verdict line ≡ fine
unfolding line_verdict
fine_line [] h = refl
fine_line (b ∷ line) h = unless 12 (le-ltb 2 b (h 0)) (fine_line line (λ i. h (suc i)))

pub entry_known : (line : List ℕ) → line_verdict line ≡ fine → (i : ℕ) → get_or line i 0 ≤ 2
unfolding line_verdict
entry_known [] e i = omega arith
entry_known (b ∷ line) e zero = ltb-false 2 b (passed 12 (ltb 2 b) (line_verdict line) e).0
entry_known (b ∷ line) e (suc i) = entry_known line (passed 12 (ltb 2 b) (line_verdict line) e).1 i

-- a line of bytes damages nothing
undamaged : (line : List ℕ) → Damage FramingRefuses (passages_of line)
undamaged [] = tt
undamaged (b ∷ line) =
    (by_pick (DamagedBy FramingRefuses) (eqb b 1) (λ _. tt) (λ _. by_pick (DamagedBy FramingRefuses) (eqb b 2) (λ _. tt) (λ _. tt)), undamaged line)

-- ---- a download, part by part

pub record Taken (c : Settings) (book line diagnosis : List ℕ) (x : Station) (request : List ℕ) : Type 0 where
  pub settings : settings_verdict c ≡ fine
  pub templates : book_verdict (book-format.read_of book) ≡ fine
  pub entries : line_verdict line ≡ fine
  pub station : printer-step.verdict_of diagnosis x ≡ fine
  pub room : room_verdict request ≡ fine

pub taken : (c : Settings) (book line diagnosis : List ℕ) (x : Station) (request : List ℕ) → verdict_of c book line diagnosis x request ≡ fine
    → Taken c book line diagnosis x request
unfolding verdict_of
taken c book line diagnosis x request e =
    let printers : Verdict = judged fault (printer-step.verdict_of diagnosis x) (room_verdict request) in
    let lines : Verdict = judged fault (line_verdict line) printers in
    let a = both_fine (settings_verdict c) (judged fault (book_verdict (book-format.read_of book)) lines) e in
    let b = both_fine (book_verdict (book-format.read_of book)) lines a.1 in
    let d = both_fine (line_verdict line) printers b.1 in
    let p = both_fine (printer-step.verdict_of diagnosis x) (room_verdict request) d.1 in
    record { settings = a.0; templates = b.0; entries = d.0; station = p.0; room = p.1 }

pub all_taken : {c : Settings} {book line diagnosis : List ℕ} {x : Station} {request : List ℕ} → Taken c book line diagnosis x request
    → verdict_of c book line diagnosis x request ≡ fine
unfolding verdict_of
all_taken t = rw (t.settings, t.templates, t.entries, t.station, t.room)

pub has_room : (request : List ℕ) → room_verdict request ≡ fine → 255 ≤ length request
has_room request e = ltb-false (length request) 255 (passed 11 (ltb (length request) 255) fine e).0

pub taken_so : {c : Settings} {book line diagnosis : List ℕ} {x : Station} {request : List ℕ} (not_yet : List ℕ) → Taken c book line diagnosis x request
    → NotRefused (given c book not_yet diagnosis) (passages_of line) x
taken_so {c} {book} {line} {diagnosis} {x} not_yet t =
    let s = settled c t.settings in
    let o = ordered book t.templates in
    record {
      printer = s.printer;
      controller = s.controller;
      unequal = s.unequal;
      repeats = s.repeats;
      some_polls = s.some_polls;
      polls = s.polls;
      in_order = o.in_order;
      some_templates = o.some;
      templates = o.most;
      station = usable diagnosis x t.station;
      damage = undamaged line;
    }

pub not_refused : (c : Settings) (book line not_yet diagnosis : List ℕ) (x : Station) (request : List ℕ) → verdict_of c book line diagnosis x request ≡ fine
    → NotRefused (given c book not_yet diagnosis) (passages_of line) x
not_refused c book line not_yet diagnosis x request e = taken_so not_yet (taken c book line diagnosis x request e)
