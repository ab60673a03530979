-- Reading a diagnosis (document 01, "Diagnosis"): each byte that can be refused has a line of its own, in the order in which
-- the faults decide.
use Rattle.std.specs.Prelude.{ℕ, zero, suc, ◌+◌, ◌-◌, ◌/◌, ◌%◌, Bool, not, List, [], ◌∷◌, length, get_or, drop, eqb, ltb, leb, Ok, Err, Result}
use Rattle.octets.specs.Choice.{pick, ◌and◌, ◌or◌}
use Rattle.octets.specs.Number.{number_of}
use Rattle.diagnosis.specs.Block.{found_at, Found}
use Rattle.diagnosis.specs.declared.block.Extent.{Extent}
use Rattle.diagnosis.specs.declared.reading.Header.{Header}
use Rattle.diagnosis.specs.declared.reading.Reading as whole

-- how many blocks there are, or a refusal's number
abbrev pub Count : Type 0
Count = Result ℕ ℕ

-- what reading answers: the header and how many blocks there are, or a refusal's number
abbrev pub Reading : Type 0
Reading = Result whole.Reading ℕ

-- ---- the header

-- bits 0, 5 and 7 are 0
unfoldable pub good_status1 : ℕ → Bool
good_status1 b = eqb (b % 2) 0 and eqb (b / 32 % 2) 0 and eqb (b / 128) 0

-- bit 2 is 1, bits 6 and 7 are 0
unfoldable pub good_status2 : ℕ → Bool
good_status2 b = eqb (b / 4 % 2) 1 and eqb (b / 64) 0

-- bits 0..6 are 0
abbrev pub good_status3 : ℕ → Bool
good_status3 b = eqb (b % 128) 0

-- the master's address, or 255 for none
unfoldable pub good_master : ℕ → Bool
good_master b = leb b 125 or eqb b 255

-- ---- the blocks

-- blocks that end where the bytes end, or, where they do not, up to the first fault
pub data Blocks : Type 0 where
  end : Blocks
  bad : ℕ → Blocks
  more : Extent → Blocks → Blocks

-- a block, and then what is made of the bytes after its first, of which so many are still its own
abbrev pub onward : Found → (ℕ → Blocks) → Blocks
onward (Ok e) rest = more e (rest (e.len - 1))
onward (Err r) rest = bad r

-- the blocks of bytes of which the first `skip` are passed over
unfoldable pub blocks_in : List ℕ → (skip : ℕ) → Blocks
blocks_in [] skip = end
blocks_in (x ∷ xs) zero = onward (found_at (x ∷ xs) 0) (λ skip. blocks_in xs skip)
blocks_in (x ∷ xs) (suc skip) = blocks_in xs skip

-- how many blocks there are, with n before them
abbrev pub counted : (n : ℕ) → Blocks → Count
counted n end = Ok n
counted n (bad r) = Err r
counted n (more e blocks) = counted (n + 1) blocks

abbrev pub count_of : List ℕ → Count
count_of s = counted 0 (blocks_in s 0)

abbrev pub refused : ℕ → Count
refused k = Err k

-- the agreement of Ext_Diag: bit 3 of status 1 is set exactly when a block exists
unfoldable pub ext_diag_agrees : (status1 blocks : ℕ) → Bool
ext_diag_agrees status1 blocks = pick (eqb blocks 0) (eqb (status1 / 8 % 2) 0) (eqb (status1 / 8 % 2) 1)

abbrev pub agreed : (status1 : ℕ) → Count → Count
agreed status1 (Err r) = Err r
agreed status1 (Ok n) = pick (ext_diag_agrees status1 n) (Ok n) (refused 22)

-- ---- the whole

-- a header with these bytes behind it, of which there are at most 244 - 6
unfoldable pub judge : Header → (blocks : List ℕ) → Count
judge h blocks =
    pick (ltb 238 (length blocks)) (refused 20)
    (pick (not (good_status1 h.status1)) (refused 21)
    (pick (not (good_status2 h.status2)) (refused 21)
    (pick (not (good_status3 h.status3)) (refused 21)
    (pick (not (good_master h.master)) (refused 21)
    (agreed h.status1 (count_of blocks))))))

-- ident is high byte first
abbrev pub header_of : List ℕ → Header
header_of s =
    record {
      status1 = get_or s 0 0;
      status2 = get_or s 1 0;
      status3 = get_or s 2 0;
      master = get_or s 3 0;
      ident = number_of (get_or s 4 0 ∷ get_or s 5 0 ∷ []);
    }

abbrev pub answered : Header → Count → Reading
answered h (Err r) = Err r
answered h (Ok n) = Ok (record { header = h; blocks = n })

unfoldable pub read_of : List ℕ → Reading
read_of s = pick (ltb (length s) 6) (Err 20) (answered (header_of s) (judge (header_of s) (drop 6 s)))
