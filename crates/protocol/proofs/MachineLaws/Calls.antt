-- Which calls the printer takes as its own, and which of them as a repeat: at every state and every telegram.
use Rattle.std.specs.Prelude.{ℕ, ◌+◌, ◌%◌, ◌/◌, ◌≡◌, refl, Bool, true, false, List, [], eqb, take}
use Rattle.std.proofs.Common.{sym, arith}
use borrow.Author.Tests.{eqb-true, eqb-false, eq-eqb, ne_eqb}
use Rattle.octets.proofs.Choice.{and_left, and_right, never}
use Rattle.function_code.specs.declared.code.Class.{Class}
use Rattle.function_code.specs.declared.code.Class.TheVariants as class
use Rattle.fdl.specs.Telegram.{checksum_of}
use Rattle.fdl.specs.Writing.{core_of, telegram_of}
use Rattle.fdl.specs.declared.telegram.Header.{Header}
use Rattle.protocol.specs.Bits.{bits_agree}
use Rattle.protocol.specs.Telegrams.{bare_bytes}
use Rattle.protocol.proofs.Lemmas.Hearing.{stored_sent}
use Rattle.protocol.specs.Printer as printer
use Rattle.protocol.specs.Printer.{nothing, elsewhere, status, ask_in, fcb_of, received_of, Station, Heard, drop_held, is_repeat, saying, hear}
use Rattle.protocol.specs.MachineLaws.Effects.{Framed, IsAnswer, bare, carrying, IsCall, opening, counted, uncounted, Calls, bit_of, Remembered, bare_reply, Sent, Dropped}
use Rattle.protocol.specs.declared.printer.Printer.{Printer}

-- ---- what is sent

-- What is sent stands at the front of the buffer.
pub sent_bytes : {x : Station} {bytes : List ℕ} {y : Heard} → Sent x bytes y → take y.reply y.station.buffer ≡ bytes
sent_bytes {x} {bytes} e = rw (e.reply, e.buffer) (stored_sent bytes x.buffer)

pub bare_bytes_lem : (to from n : ℕ) → bare_bytes to from n ≡ bare_reply to from n
unfolding telegram_of core_of checksum_of
bare_bytes_lem to from n =
    let t : to + 0 ≡ to = omega arith in
    let f : from + 0 ≡ from = omega arith in
    let sum : to + 0 + (from + 0 + (n + 0)) ≡ to + from + n = omega arith in
    rw (sum, t, f)

-- ---- a repeat, by the remembered SA and FCB

bit_told : (n : ℕ) (b : Bool) → bits_agree (eqb (n % 2) 1) b ≡ true → n % 2 ≡ bit_of b
bit_told n b e = by (eqb (n % 2) 1) refl b e
  where
    by : (t : Bool) → eqb (n % 2) 1 ≡ t → (c : Bool) → bits_agree t c ≡ true → n % 2 ≡ bit_of c
    by true q true k = eqb-true (n % 2) 1 q
    by true q false k = absurd (never k)
    by false q true k = absurd (never k)
    by false q false k = omega (arith, eqb-false (n % 2) 1 q)

bit_same : (n : ℕ) (b : Bool) → n % 2 ≡ bit_of b → bits_agree (eqb (n % 2) 1) b ≡ true
bit_same n true e = rw (eq-eqb (n % 2) 1 e)
bit_same n false e = let z : eqb (n % 2) 1 ≡ false = ne_eqb (n % 2) 1 (λ q. omega arith) in rw z

pub bit_kept : (n : ℕ) → bit_of (eqb (n % 2) 1) ≡ n % 2
bit_kept n = by (eqb (n % 2) 1) refl
  where
    by : (t : Bool) → eqb (n % 2) 1 ≡ t → bit_of t ≡ n % 2
    by true q = sym (eqb-true (n % 2) 1 q)
    by false q = omega (arith, eqb-false (n % 2) 1 q)

module _ (p : Printer) (h : Header) where
  remembered : is_repeat p (fcb_of h.fc) h.sa ≡ true → Remembered p h
  remembered e =
      let a : Bool = eqb h.sa p.sa in
      let b : Bool = bits_agree (fcb_of h.fc) p.fcb in
      record { source = eqb-true h.sa p.sa (and_left a b e); bit = bit_told (h.fc / 32) p.fcb (and_right a b e) }

  pub repeats : Remembered p h → is_repeat p (fcb_of h.fc) h.sa ≡ true
  repeats r = rw (eq-eqb h.sa p.sa r.source, bit_same (h.fc / 32) p.fcb r.bit)

  pub not_repeated : (Remembered p h → ⊥) → is_repeat p (fcb_of h.fc) h.sa ≡ false
  not_repeated other = by (is_repeat p (fcb_of h.fc) h.sa) refl
    where
      by : (b : Bool) → is_repeat p (fcb_of h.fc) h.sa ≡ b → b ≡ false
      by true e = absurd (other (remembered e))
      by false e = refl

-- ---- what a telegram is to the printer, by its class and its address

module _ (x : Station) (s : List ℕ) {h : Header} where
  pub opening_received : Calls x s class.Opening h → received_of x.printer.address s ≡ printer.opening h.sa (ask_in s h.fc)
  unfolding received_of
  opening_received c = rw (c.framed.read, c.framed.code, eq-eqb h.da x.printer.address c.own)

  pub counted_received : Calls x s class.Counted h → received_of x.printer.address s ≡ printer.counted (fcb_of h.fc) h.sa (ask_in s h.fc)
  unfolding received_of
  counted_received c = rw (c.framed.read, c.framed.code, eq-eqb h.da x.printer.address c.own)

  uncounted_received : Calls x s class.Uncounted h → (h.fc % 16 ≡ 9 → ⊥) → received_of x.printer.address s ≡ printer.uncounted
  unfolding received_of
  uncounted_received c n = rw (c.framed.read, c.framed.code, eq-eqb h.da x.printer.address c.own, ne_eqb (h.fc % 16) 9 n)

  status_received : Calls x s class.Uncounted h → h.fc % 16 ≡ 9 → received_of x.printer.address s ≡ status h.sa
  unfolding received_of
  status_received c e = rw (c.framed.read, c.framed.code, eq-eqb h.da x.printer.address c.own, eq-eqb (h.fc % 16) 9 e)

  elsewhere_received : {k : Class} → IsCall k → Framed s k h → (h.da ≡ x.printer.address → ⊥) → received_of x.printer.address s ≡ elsewhere
  unfolding received_of
  elsewhere_received opening c n = rw (c.read, c.code, ne_eqb h.da x.printer.address n)
  elsewhere_received counted c n = rw (c.read, c.code, ne_eqb h.da x.printer.address n)
  elsewhere_received uncounted c n = rw (c.read, c.code, ne_eqb h.da x.printer.address n)

  answer_received : {k : Class} → IsAnswer k → Framed s k h → received_of x.printer.address s ≡ nothing
  unfolding received_of
  answer_received bare c = rw (c.read, c.code)
  answer_received carrying c = rw (c.read, c.code)

dropped : (x : Station) (bytes : List ℕ) → Dropped x bytes (saying (drop_held x.printer) x.slots x.buffer bytes)
dropped x bytes =
    record {
      same = record { address = refl; boarding = refl };
      fcb = refl;
      sa = refl;
      held = refl;
      pending = refl;
      writes = refl;
      slots = refl;
      sent = record { reply = refl; buffer = refl };
    }

-- ---- the laws

module _ (diag : List ℕ) (not_yet : ℕ) (x : Station) (s : List ℕ) {h : Header} where
  -- An answer, to whatever station, changes nothing and gets nothing.
  pub answer_unheard : {k : Class} → IsAnswer k → Framed s k h → hear diag not_yet s x ≡ record { station = x; reply = 0 }
  unfolding hear
  answer_unheard a c = rw (answer_received x s a c)

  -- A call to another station, 127 too, gets nothing, drops the held reply and changes nothing else.
  pub call_elsewhere : {k : Class} → IsCall k → Framed s k h → (h.da ≡ x.printer.address → ⊥) → Dropped x [] (hear diag not_yet s x)
  unfolding hear
  call_elsewhere a c n = rw (elsewhere_received x s a c n) (dropped x [])

  -- So does an uncounted call,
  pub uncounted_call : Calls x s class.Uncounted h → (h.fc % 16 ≡ 9 → ⊥) → Dropped x [] (hear diag not_yet s x)
  unfolding hear
  uncounted_call c n = rw (uncounted_received x s c n) (dropped x [])

  -- but FDL status, function 9, gets bare function 0, to its SA.
  pub fdl_status : Calls x s class.Uncounted h → h.fc % 16 ≡ 9 → Dropped x (bare_reply h.sa x.printer.address 0) (hear diag not_yet s x)
  unfolding hear
  fdl_status c e = rw (status_received x s c e, bare_bytes_lem h.sa x.printer.address 0) (dropped x (bare_reply h.sa x.printer.address 0))

  -- A counted call whose SA and FCB are those remembered gets the held reply, and changes nothing. (Any other is new: what it
  -- does is said in `Answers`.)
  pub repeat_held : Calls x s class.Counted h → Remembered x.printer h → hear diag not_yet s x ≡ record { station = x; reply = x.printer.held }
  unfolding hear
  repeat_held c r = rw (counted_received x s c, repeats x.printer h r)
