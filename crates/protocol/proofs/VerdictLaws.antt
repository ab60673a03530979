-- Each verdict is fine exactly where document 01 refuses nothing, and so is demand 3's premise.
use Rattle.std.specs.Prelude.{ℕ, zero, suc, ◌%◌, ◌≤◌, ◌≡◌, refl, Bool, true, false, not, List, [], ◌∷◌, ◌↔◌, eqb, length, get_or}
use Rattle.std.proofs.Common.{arith, sym, ap, le-ltb, lt-ltb, eqb-true, eq-eqb}
use Rattle.octets.specs.Choice.{◌and◌, ◌or◌}
use Rattle.octets.proofs.Choice.{never}
use Rattle.octets.specs.Fixed.{judged}
use Rattle.octets.specs.Front.{fine, fault}
use Rattle.book.specs.Contents.{templates_of, bytes_for}
use Rattle.book.proofs.Laws.{book_bytes_lem}
use Rattle.book.specs.Reading as book-format
use Rattle.protocol.specs.Bits.{bits_agree}
use Rattle.protocol.specs.Line.{Passage, through, request_lost, reply_lost, request_damaged, reply_damaged}
use Rattle.protocol.specs.Printer as printer-step
use Rattle.protocol.specs.Printer.{Station}
use Rattle.protocol.specs.Controller as controller-step
use Rattle.protocol.specs.Controller.{settings_verdict, book_verdict, requests_before, wrong_fcb, too_many_polls, state_verdict}
use Rattle.protocol.specs.Verdicts.{Settled, Usable, PollsLeft, Alternates, InReach, MayStep, MayRun, Undamaged, entry_for, entries_for, SaidBy}
use Rattle.protocol.specs.Download.{Given, passages_of, verdict_of}
use Rattle.protocol.specs.Demand.{NotRefused}
use Rattle.protocol.proofs.Lemmas.Accepted.{both_fine, fine_settings, settled, fine_printer, usable, fine_book, readable, fine_line, entry_known, taken, all_taken, has_room, not_refused}
use Rattle.protocol.proofs.MachineLaws.States.{stands, may_stand, polls_bound}
use Rattle.protocol.specs.declared.controller.Settings.{Settings}
use Rattle.protocol.specs.declared.controller.Job.{Job}
use Rattle.protocol.specs.declared.controller.Job.TheVariants as job
use Rattle.protocol.specs.declared.controller.Controller.{Controller}
use Rattle.protocol.specs.declared.controller.Controller.TheVariants as controller

-- ---- settings and a printer

pub settings_fine : (c : Settings) → settings_verdict c ≡ fine ↔ Settled c
settings_fine c = (settled c, fine_settings c)

pub printer_fine : (diag : List ℕ) (x : Station) → printer-step.verdict_of diag x ≡ fine ↔ Usable diag x
printer_fine diag x = (usable diag x, fine_printer diag x)

-- ---- a controller's state

same_is : (a b : Bool) → bits_agree a b ≡ true → a ≡ b
same_is true true e = refl
same_is true false e = absurd (never e)
same_is false true e = absurd (never e)
same_is false false e = refl

is_same : (a b : Bool) → a ≡ b → bits_agree a b ≡ true
is_same true b e = sym e
is_same false b e = ap not (sym e)

module _ (c : Settings) (k : ℕ) (j : Job) (fcb : Bool) where
  -- the FCB that it has after so many requests
  abbrev bit : Bool
  bit = eqb (requests_before c j % 2) 1

  alternates : fcb ≡ bit → Alternates c j fcb
  alternates e = by j e
    where
      by : (i : Job) → fcb ≡ eqb (requests_before c i % 2) 1 → Alternates c i fcb
      by job.Write e = e
      by (job.Poll left) e = e

  bit_is : Alternates c j fcb → fcb ≡ bit
  bit_is e = by j e
    where
      by : (i : Job) → Alternates c i fcb → fcb ≡ eqb (requests_before c i % 2) 1
      by job.Write e = e
      by (job.Poll left) e = e

  -- where it is known it is not wrong
  known : (a b s : Bool) → ((a or b) and not s) ≡ false → (a or b) ≡ true → s ≡ true
  known true b true e f = refl
  known true b false e f = sym e
  known false true true e f = refl
  known false true false e f = sym e
  known false false s e f = absurd (never f)

  or_right : (a : Bool) → (a or true) ≡ true
  or_right true = refl
  or_right false = refl

  first_known : wrong_fcb c k j fcb ≡ false → k ≡ 1 → Alternates c j fcb
  first_known e q =
      alternates (same_is fcb bit (known (eqb k 1) (eqb c.polls 1) (bits_agree fcb bit) e (rw (eq-eqb k 1 q))))

  one_poll_known : wrong_fcb c k j fcb ≡ false → c.polls ≡ 1 → Alternates c j fcb
  one_poll_known e q =
      alternates (same_is fcb bit (known (eqb k 1) (eqb c.polls 1) (bits_agree fcb bit) e (rw (eq-eqb c.polls 1 q) (or_right (eqb k 1)))))

  not_wrong : (k ≡ 1 → Alternates c j fcb) → (c.polls ≡ 1 → Alternates c j fcb) → wrong_fcb c k j fcb ≡ false
  not_wrong f g = by (eqb k 1) refl (eqb c.polls 1) refl
    where
      right : Alternates c j fcb → not (bits_agree fcb bit) ≡ false
      right h = ap not (is_same fcb bit (bit_is h))

      by : (a : Bool) → eqb k 1 ≡ a → (b : Bool) → eqb c.polls 1 ≡ b → ((a or b) and not (bits_agree fcb bit)) ≡ false
      by true e b h = right (f (eqb-true k 1 e))
      by false e true h = right (g (eqb-true c.polls 1 h))
      by false e false h = refl

polls_fewer : (c : Settings) (j : Job) → too_many_polls c j ≡ false → PollsLeft c j
polls_fewer c job.Write e = tt
polls_fewer c (job.Poll left) e = polls_bound c left e

not_too_many : (c : Settings) (j : Job) → PollsLeft c j → too_many_polls c j ≡ false
not_too_many c job.Write h = refl
not_too_many c (job.Poll left) h = rw (lt-ltb left c.polls h)

in_reach : (c : Settings) (n : ℕ) (o : Controller) → state_verdict c n o ≡ fine → InReach c n o
in_reach c n controller.Fresh e = tt
in_reach c n controller.Opening e = tt
in_reach c n (controller.Asking k j fcb left) e =
    let s = stands c n k j fcb left e in
    record {
      from_one = s.from_one;
      in_book = s.within;
      polls = polls_fewer c j s.polls;
      repeats = s.repeats;
      first_fcb = first_known c k j fcb s.right_fcb;
      one_poll_fcb = one_poll_known c k j fcb s.right_fcb;
    }

fine_state : (c : Settings) (n : ℕ) (o : Controller) → InReach c n o → state_verdict c n o ≡ fine
unfolding state_verdict
fine_state c n controller.Fresh h = refl
fine_state c n controller.Opening h = refl
fine_state c n (controller.Asking k j fcb left) h =
    may_stand c n k j fcb left
    (record {
      from_one = h.from_one;
      within = h.in_book;
      polls = not_too_many c j h.polls;
      repeats = h.repeats;
      right_fcb = not_wrong c k j fcb h.first_fcb h.one_poll_fcb;
    })

pub state_fine : (c : Settings) (templates : ℕ) (o : Controller) → state_verdict c templates o ≡ fine ↔ InReach c templates o
state_fine c n o = (in_reach c n o, fine_state c n o)

-- ---- the controller's step

pub controller_fine : (c : Settings) (book : List ℕ) (o : Controller) → controller-step.verdict_of c book o ≡ fine ↔ MayStep c book o
unfolding controller-step.verdict_of
controller_fine c book o = (
  λ e.
      let a = both_fine (settings_verdict c) (judged fault (book_verdict (book-format.read_of book)) (state_verdict c (length (templates_of book)) o)) e in
      let b = both_fine (book_verdict (book-format.read_of book)) (state_verdict c (length (templates_of book)) o) a.1 in
      record { settings = settled c a.0; book = readable book b.0; state = in_reach c (length (templates_of book)) o b.1 },
  λ h. rw (fine_settings c h.settings, fine_book book h.book) (fine_state c (length (templates_of book)) o h.state),
)

-- ---- the download

module _ (c : Settings) (book line diag : List ℕ) (x : Station) (request : List ℕ) where
  pub download_fine : verdict_of c book line diag x request ≡ fine ↔ MayRun c book line diag x request
  download_fine = (
    λ e.
        let t = taken c book line diag x request e in
        record {
          settings = settled c t.settings;
          book = readable book t.templates;
          entries = entry_known line t.entries;
          station = usable diag x t.station;
          room = has_room request t.room;
        },
    λ h.
        all_taken (record {
          settings = fine_settings c h.settings;
          templates = fine_book book h.book;
          entries = fine_line line h.entries;
          station = fine_printer diag x h.station;
          room = rw (le-ltb (length request) 255 h.room);
        }),
  )

-- ---- demand 3's premise

-- the line of the bytes that say it
line_back : (l : List Passage) → Undamaged l → passages_of (entries_for l) ≡ l
line_back [] d = refl
line_back (through ∷ l) d = ap (λ (m : List Passage). through ∷ m) (line_back l d.1)
line_back (request_lost ∷ l) d = ap (λ (m : List Passage). request_lost ∷ m) (line_back l d.1)
line_back (reply_lost ∷ l) d = ap (λ (m : List Passage). reply_lost ∷ m) (line_back l d.1)
line_back (request_damaged bytes ∷ l) d = absurd d.0
line_back (reply_damaged bytes ∷ l) d = absurd d.0

entry_least : (l : List Passage) (i : ℕ) → get_or (entries_for l) i 0 ≤ 2
entry_least [] i = omega arith
entry_least (h ∷ l) zero = by h
  where
    by : (p : Passage) → entry_for p ≤ 2
    by through = omega arith
    by request_lost = omega arith
    by reply_lost = omega arith
    by (request_damaged bytes) = omega arith
    by (reply_damaged bytes) = omega arith
entry_least (h ∷ l) (suc i) = entry_least l i

module _ (g : Given) (l : List Passage) (x : Station) (request : List ℕ) (d : Undamaged l) (room : 255 ≤ length request) where
  said : NotRefused g l x → SaidBy g l x (bytes_for g.book) (entries_for l) request
  said ok =
      let b = book_bytes_lem g.book ok.in_order ok.some_templates ok.templates in
      record {
        templates = b.1;
        passages = line_back l d;
        taken = (download_fine g.settings (bytes_for g.book) (entries_for l) g.diagnosis x request).1
            (record {
              settings = record {
                printer = ok.printer;
                controller = ok.controller;
                unequal = ok.unequal;
                repeats = ok.repeats;
                some_polls = ok.some_polls;
                polls = ok.polls;
              };
              book = λ r e. let z : ◌≡◌ {A = ℕ} 0 1 = cc b.0 in omega arith;
              entries = entry_least l;
              station = ok.station;
              room = room;
            });
      }

  -- What demand 3 is about, on a line that damages nothing, is what a download's bytes say that is not refused.
  pub premise_fine : NotRefused g l x ↔ SaidBy g l x (bytes_for g.book) (entries_for l) request
  premise_fine = (
    said,
    λ s.
        rw (s.templates, s.passages) at (not_refused g.settings (bytes_for g.book) (entries_for l) g.not_yet g.diagnosis x request s.taken),
  )
