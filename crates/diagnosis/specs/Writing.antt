-- Writing a diagnosis and its blocks (document 01, "Diagnosis"): the bytes, and which fields and parts may be written.
use Rattle.std.specs.Prelude.{ℕ, ◌+◌, ◌*◌, Bool, not, List, [], ◌∷◌, ◌++◌, length, eqb, ltb, leb, Result, Ok, Err}
use Rattle.octets.specs.Choice.{pick, ◌and◌}
use Rattle.octets.specs.Number.{bytes_of}
use Rattle.octets.specs.Front.{Verdict, fine, fault}
use Rattle.diagnosis.specs.Block.{kind_number, direction_place, type_place, good_code}
use Rattle.diagnosis.specs.Reading.{judge}
use Rattle.diagnosis.specs.declared.block.Kind.{Kind}
use Rattle.diagnosis.specs.declared.block.Kind.TheVariants.{Device, Module, Channel}
use Rattle.diagnosis.specs.declared.walk.Channel as the-channel
use Rattle.diagnosis.specs.declared.reading.Header.{Header}

-- ---- a whole diagnosis

abbrev pub header_bytes : Header → List ℕ
header_bytes h = h.status1 ∷ h.status2 ∷ h.status3 ∷ h.master ∷ bytes_of 2 h.ident

abbrev pub diagnosis_bytes : Header → (blocks : List ℕ) → List ℕ
diagnosis_bytes h blocks = header_bytes h ++ blocks

-- the verdict that reading, a step or what was found at a place came to
abbrev pub verdict_by : {A : Type 0} → Result A ℕ → Verdict
verdict_by (Ok a) = fine
verdict_by (Err r) = fault r

-- what reading would refuse is not written, and the number is the same
abbrev pub verdict_of : Header → (blocks : List ℕ) → Verdict
verdict_of h blocks = verdict_by (judge h blocks)

-- ---- one block

-- a block's header: the kind in bits 7-6, and below them a length or a module's number
abbrev pub head_of : Kind → (low : ℕ) → ℕ
head_of kind low = 64 * kind_number kind + low

-- a header with the length, and then the bytes
abbrev pub sized_bytes : Kind → List ℕ → List ℕ
sized_bytes kind s = head_of kind (length s + 1) ∷ s

-- the length is not below 2, and fits its six bits
unfoldable pub sized_verdict : List ℕ → Verdict
sized_verdict s = pick (ltb (length s + 1) 2) (fault 23) (pick (ltb 63 (length s + 1)) (fault 21) fine)

-- a device block
abbrev pub device_bytes : List ℕ → List ℕ
device_bytes s = sized_bytes Device s

abbrev pub device_verdict : List ℕ → Verdict
device_verdict s = sized_verdict s

-- a module block
abbrev pub module_bytes : (map : List ℕ) → List ℕ
module_bytes map = sized_bytes Module map

abbrev pub module_verdict : (map : List ℕ) → Verdict
module_verdict map = sized_verdict map

-- a channel block
abbrev pub channel_bytes : the-channel.Channel → List ℕ
channel_bytes c = head_of Channel c.«module» ∷ (c.direction * direction_place + c.channel) ∷ (c.kind * type_place + c.error) ∷ []

-- two fields fit one byte: the high one goes up to top, the low one to bottom
abbrev pub fits : (high top low bottom : ℕ) → Bool
fits high top low bottom = leb high top and leb low bottom

-- of each byte in turn: its fields fit, else 21; its codes are not reserved, else 25
unfoldable pub channel_verdict : the-channel.Channel → Verdict
channel_verdict c =
    pick (ltb 63 c.«module») (fault 21)
    (pick (not (fits c.direction 3 c.channel 63)) (fault 21)
    (pick (eqb c.direction 0) (fault 25)
    (pick (not (fits c.kind 7 c.error 31)) (fault 21)
    (pick (not (good_code c.kind c.error)) (fault 25) fine))))
