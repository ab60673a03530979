-- The customer's second demand for telegrams, and what else holds of every reading. Each law is stated once, over every
-- kind of telegram and over any classes of function codes; the last section takes our own classes.
use Rattle.std.specs.Prelude.{◌≡◌, refl, true, false, List, ℕ, ◌+◌, ◌≤◌, ◌<◌, length, get_or, take, set, Ok, Err}
use Rattle.std.proofs.Math.Path.{sym}
use Rattle.std.proofs.Common.{ap, ◌∙◌, subst, arith}
use borrow.Author.Tests.{le-leb}
use Rattle.octets.proofs.Choice.{never}
use Rattle.octets.specs.Bytes.{Bytes}
use Rattle.octets.specs.Front.{fine}
use Rattle.octets.proofs.Fixed.{fault_fine}
use Rattle.function_code.specs.Code.{class_of}
use Rattle.function_code.proofs.Laws.{start_byte_reserved}
use Rattle.fdl.specs.Reading.{read_by, read_of, Reading}
use Rattle.fdl.specs.Writing.{telegram_of, user_start, token_verdict, verdict_by}
use Rattle.fdl.specs.Contents.{Contents, nothing, confirmation, token, telegram, contents_in, contents_of, bytes_for, verdict_for, accepted, is_token}
use Rattle.fdl.proofs.Lemmas.Extends.{within}
use Rattle.fdl.proofs.Lemmas.Reads as case
use Rattle.fdl.proofs.Lemmas.Reads.{Reads, reads}
use Rattle.fdl.proofs.Lemmas.Fields.{writable, start_small, pdu_small}
use Rattle.fdl.proofs.Lemmas.Back.{fields_back, user_back, token_back, confirmation_back}
use Rattle.fdl.proofs.Lemmas.Again.{fine_again, same_again}
use Rattle.fdl.proofs.Lemmas.Changed.{changed}
use Rattle.fdl.proofs.Lemmas.Long.{first_bytes}
use Rattle.function_code.specs.declared.code.Class.{Class}
use Rattle.function_code.specs.declared.code.Class.TheVariants.{Reserved}
use Rattle.fdl.specs.declared.telegram.Format.{Format}
use Rattle.fdl.specs.declared.telegram.Header.{Header}
use Rattle.fdl.specs.declared.reading.Reading.TheVariants.{Confirmation, Token, Telegram}

module _ (classes : ℕ → Class) where
  -- (a) What is written reads back as the same fields and the same user data.
  pub reads_back : (x : Contents) → verdict_for classes x ≡ fine → contents_of classes (bytes_for x) ≡ x
  reads_back nothing e = absurd (fault_fine e)
  reads_back confirmation e = ap (contents_in (bytes_for confirmation)) (confirmation_back classes)
  reads_back (token da sa) e = ap (contents_in (bytes_for (token da sa))) (token_back classes da sa e)
  reads_back (telegram f h user) e =
      let w = writable classes f h user e in
      ap (contents_in (bytes_for (telegram f h user))) (fields_back classes f h user w)
      ∙ ap (telegram f h) (user_back classes f h user w)

  -- (a), of a telegram with fields: what the reading is. Its user data begin where writing put them.
  pub telegram_reads_back : (f : Format) (h : Header) (user : List ℕ) → verdict_by classes f h user ≡ fine
      → read_by classes (telegram_of f h user) ≡ Ok (Telegram f h (user_start f h) (length user))
  telegram_reads_back f h user e = fields_back classes f h user (writable classes f h user e)

  -- (b) What is read may be written, and gives the same bytes again.
  pub record Again (s : List ℕ) (x : Contents) : Type 0 where
    pub taken : verdict_for classes x ≡ fine
    pub same : bytes_for x ≡ s

  again : (s : List ℕ) → Bytes s → {r : Reading} → Reads classes s r → accepted r ≡ true → Again s (contents_in s r)
  unfolding token_verdict
  again s b (case.confirmation e) a = record { taken = refl; same = sym e }
  again s b (case.token e x y) a = record { taken = simp (le-leb _ _ x, le-leb _ _ y); same = sym e }
  again s b (case.telegram {f} {at} {pdu} {dsap} {ssap} starts frames) a =
      record { taken = fine_again classes s at pdu dsap ssap frames b f starts; same = same_again classes s at pdu dsap ssap frames b f starts }
  again s b case.refusal a = absurd (never a)

  pub writes_back : (s : List ℕ) → Bytes s → accepted (read_by classes s) ≡ true → Again s (contents_of classes s)
  writes_back s b a = again s b (reads classes s) a

  -- (c) One byte changed to another value in an accepted telegram, tokens excepted, is refused: where 68 hex is no
  -- function code. (With LE 8 that alone keeps SD2 and SD3 apart.)
  pub one_byte_changed : classes 0x68 ≡ Reserved → (s : List ℕ) → Bytes s → accepted (read_by classes s) ≡ true → is_token (read_by classes s) ≡ false
      → (i v : ℕ) → i < length s → v < 256 → (v ≡ get_or s i 0 → ⊥) → accepted (read_by classes (set s i v)) ≡ false
  one_byte_changed reserved s b a t i v h w ne = changed classes reserved s b i v h w ne (reads classes s) (reads classes (set s i v)) a t

  -- A reading depends on the first 256 bytes alone.
  pub first_256_bytes : (s : List ℕ) → read_by classes (take 256 s) ≡ read_by classes s
  first_256_bytes s = first_bytes classes s

  -- The user data lie inside the telegram, before its last two bytes, and a telegram has at most 255 bytes.
  pub record Inside (s : List ℕ) (start len : ℕ) : Type 0 where
    pub ends : start + len + 2 ≡ length s
    pub most : length s ≤ 255

  abbrev DataIn : List ℕ → Reading → Type 0
  DataIn s (Ok (Telegram f h start len)) = Inside s start len
  DataIn s (Ok Confirmation) = Unit
  DataIn s (Ok (Token da sa)) = Unit
  DataIn s (Err r) = Unit

  inside : (s : List ℕ) {r : Reading} → Reads classes s r → DataIn s r
  inside s (case.confirmation e) = tt
  inside s (case.token e x y) = tt
  inside s (case.telegram {f} {at} {pdu} {dsap} {ssap} starts frames) =
      record {
        ends = omega (arith, frames.size, within _ _ _ _ frames.destination_sap, within _ _ _ _ frames.source_sap);
        most = omega (arith, frames.size, starts.place, start_small f, pdu_small f pdu starts.sized);
      }
  inside s case.refusal = tt

  pub data_inside : (s : List ℕ) {f : Format} {h : Header} {start len : ℕ} → read_by classes s ≡ Ok (Telegram f h start len) → Inside s start len
  data_inside s e = subst (DataIn s) e (inside s (reads classes s))

-- ---- by our classes, in which 68 hex is reserved

pub our_one_byte_changed : (s : List ℕ) → Bytes s → accepted (read_of s) ≡ true → is_token (read_of s) ≡ false
    → (i v : ℕ) → i < length s → v < 256 → (v ≡ get_or s i 0 → ⊥) → accepted (read_of (set s i v)) ≡ false
our_one_byte_changed = one_byte_changed class_of start_byte_reserved
