-- What a reply is, in document 01's words: by the fields that framing reads and by the bytes of its user data. The laws of
-- `MachineLaws/Got` and `MachineLaws/Moves` hold the controller to these words.
use Rattle.std.specs.Prelude.{ℕ, ◌≤◌, ◌≡◌, Bool, true, false, List, [], ◌∷◌, length, Ok, Some}
use Rattle.octets.specs.Part.{part_of}
use Rattle.fdl.specs.Contents.{accepted}
use Rattle.fdl.specs.Reading as telegram
use Rattle.fdl.specs.declared.reading.Reading.TheVariants.{Telegram}
use Rattle.fdl.specs.declared.telegram.Format.TheVariants.{Sd2}
use Rattle.access.specs.Route.{header_with}
use Rattle.acyclic.specs.Errors.{good_decode, good_code1}
use Rattle.diagnosis.specs.Reading as diagnosis
use Rattle.book.specs.Contents.{Entry}
use Rattle.protocol.specs.Printer.{is_refused}
use Rattle.protocol.specs.declared.controller.Settings.{Settings}

-- short confirmation
abbrev pub Sc : (s : List ℕ) → Type 0
Sc s = s ≡ 0xE5 ∷ []

module _ (c : Settings) where
  -- data from the printer set to the controller set: SD2 with function code 08, these access points and exactly these user data
  pub record FromPrinter (dsap ssap : ℕ) (user s : List ℕ) : Type 0 where
    pub start : ℕ
    pub len : ℕ
    pub framed : telegram.read_of s ≡ Ok (Telegram Sd2 (header_with c.controller c.printer 0x08 (Some dsap) (Some ssap)) start len)
    pub bytes : part_of s start len ≡ user

  -- the printer's diagnosis: from Slave_Diag, 60, and not refused
  pub record Diagnosis (s : List ℕ) : Type 0 where
    pub user : List ℕ
    pub from : FromPrinter 62 60 user s
    pub read : is_refused (diagnosis.read_of user) ≡ false

  -- the printer's 5F: these three bytes behind it and no more, the length at most 240
  pub record Positive (slot index len : ℕ) (s : List ℕ) : Type 0 where
    pub from : FromPrinter 51 51 (0x5F ∷ slot ∷ index ∷ len ∷ []) s
    pub most : len ≤ 240

  -- the printer's DF: decode 128, 254 or 255, then these codes; under 128 the first is of a class and code that are not reserved
  pub record Negative (code1 code2 : ℕ) (s : List ℕ) : Type 0 where
    pub decode : ℕ
    pub from : FromPrinter 51 51 (0xDF ∷ decode ∷ code1 ∷ code2 ∷ []) s
    pub decoded : good_decode decode ≡ true
    pub known : good_code1 decode code1 ≡ true

  -- any other that framing accepts
  pub record Another (s : List ℕ) : Type 0 where
    pub framed : accepted (telegram.read_of s) ≡ true
    pub no_sc : Sc s → ⊥
    pub no_diagnosis : Diagnosis s → ⊥
    pub no_positive : {slot index len : ℕ} → Positive slot index len s → ⊥
    pub no_negative : {code1 code2 : ℕ} → Negative code1 code2 s → ⊥

  -- strange to a request for template t: framing accepts it, and it is neither SC nor, to a poll, the printer's DF or its 5F with
  -- the write's slot, index and length
  pub record Strange (poll : Bool) (t : Entry) (s : List ℕ) : Type 0 where
    pub framed : accepted (telegram.read_of s) ≡ true
    pub no_sc : Sc s → ⊥
    pub no_refusal : poll ≡ true → {code1 code2 : ℕ} → Negative code1 code2 s → ⊥
    pub no_result : poll ≡ true → Positive 1 t.slot (length t.body) s → ⊥
