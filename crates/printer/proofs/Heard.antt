-- The step, case by case.
use Rattle.std.specs.Prelude.{Ok}
use mathlib.Core.Path.{◌≡◌, refl, sym, ap, ap₂, ◌∙◌, subst}
use mathlib.Core.Bool.{Bool}
use mathlib.Core.List.{List}
use Prim.Native.Nat.{ℕ, ◌≤◌}
use lib.Dec.{ltb}
use lib.ListN.{length}
use borrow.Author.Tests.{ltb-false}
use Rattle.octets.proofs.Fixed.{passed}
use Rattle.octets.specs.Front.{AtFront, fine}
use Rattle.diagnosis.specs.Reading as diagnosis
use Rattle.protocol.proofs.Lemmas.Replies.{valid}
use Rattle.protocol.proofs.MachineLaws.Replies.{Comes, comes}
use Rattle.protocol.specs.Printer as printer
use Rattle.protocol.specs.Printer.{received_of, perform, reply_bytes, renewed, is_repeat, saying, new_call, counted, heard_by, hear, is_refused, verdict_of, Station, lending, leaving, stepped, step_by, step_of}
use Rattle.protocol.specs.Slots.{Slots, too_long}
use Rattle.protocol.specs.declared.printer.Printer.{Printer}
use Rattle.protocol.specs.declared.printer.Reaction.{Reaction}
use Rattle.printer_input.specs.Meaning.{ask_in, received_in}
use Rattle.printer_input.specs.declared.Ask.{Ask}
use Rattle.printer_input.specs.declared.Ask.TheVariants as ask
use Rattle.printer_input.specs.declared.Received.{Received}
use Rattle.printer_rules.specs.Meaning.{reply_in, ask_with, slots_after, deed_in}
use Rattle.printer_rules.specs.declared.rules.Deed.{Deed}
use Rattle.printer.specs.Meaning.{body_in, slots_of}
use Rattle.printer.specs.Ready.{Usable, Ready, Sends}

-- ---- what is judged first

-- what is not refused may be used
pub may_be_used : (diag : List ℕ) (p : Printer) (lengths bodies buffer : List ℕ) → verdict_of diag (lending p lengths bodies buffer) ≡ fine → Usable diag p.address buffer
unfolding verdict_of
may_be_used diag p lengths bodies buffer e =
    let address = passed 12 (ltb 126 p.address) _ e in
    let slots = passed 12 (too_long lengths) _ address.1 in
    let diagnosed = passed 12 (is_refused (diagnosis.read_of diag)) _ slots.1 in
    let room = passed 11 (ltb (length buffer) 255) _ diagnosed.1 in
    record { own = ltb-false _ _ address.0; diagnosis = valid diag diagnosed.0; room = ltb-false _ _ room.0 }

pub ready : {diag : List ℕ} {address to : ℕ} {buffer : List ℕ} → Usable diag address buffer → to ≤ 126 → Ready diag address to buffer
ready u t = record { stations = record { own = u.own; other = t; room = u.room }; diagnosis = u.diagnosis }

module _ (diag : List ℕ) (n : ℕ) (s : List ℕ) (x : Station) where
  -- by what was received
  pub by_received : {r k : Received} → received_in s r ≡ received_of x.printer.address s → r ≡ k
      → stepped (heard_by diag n (received_in s k) x) ≡ stepped (hear diag n s x)
  unfolding hear
  by_received e t = ap (λ (y : printer.Received). stepped (heard_by diag n y x)) (ap (received_in s) (sym t) ∙ e)

-- ---- calls

-- a call comes from a station 0..126
pub came : (address : ℕ) (s : List ℕ) {r k : Received} → received_in s r ≡ received_of address s → r ≡ k → Comes (received_in s k)
came address s e t = subst Comes (sym e ∙ ap (received_in s) t) (comes address s)

-- the body of a call stands in its telegram
pub ask_body : (s : List ℕ) (a : Ask) → ask_with a (body_in s a) ≡ ask_in s a
ask_body s ask.SlaveDiag = refl
ask_body s (ask.Write slot index start len) = refl
ask_body s ask.Poll = refl
ask_body s ask.Unknown = refl
ask_body s ask.Undecodable = refl

-- ---- replies

-- one that is not held
pub sent : (lengths bodies : List ℕ) {p : Printer} {said out out' : List ℕ} {r : Reaction} → Sends p said out out' r
    → leaving (Ok r) lengths bodies out' ≡ stepped (saying p (slots_of lengths bodies) out said)
sent lengths bodies e = ap₂ (λ (r : Reaction) (o : List ℕ). leaving (Ok r) lengths bodies o) e.answer e.bytes

-- a new call, carried out
pub carried : (diag : List ℕ) (p : Printer) (fcb : Bool) (sa : ℕ) (d : Deed) (body lengths bodies out : List ℕ) {lengths' bodies' out' : List ℕ} {n : ℕ} {q : Printer}
    → slots_of lengths' bodies' ≡ slots_after d.target body (slots_of lengths bodies)
    → AtFront (reply_bytes diag p.address sa (reply_in d.reply)) out out' n
    → q ≡ renewed p fcb sa n (deed_in d body (slots_of lengths bodies))
    → leaving (Ok (record { printer = q; reply = n })) lengths' bodies' out' ≡ stepped (new_call diag (lending p lengths bodies out) fcb sa (deed_in d body (slots_of lengths bodies)))
carried diag p fcb sa d body lengths bodies out {out' = out'} {n} {q} kept front next =
    ap (λ (s : Slots). leaving (Ok (record { printer = q; reply = n })) s.lengths s.bodies out') kept
    ∙ rw (next, front.counted, front.bytes)
