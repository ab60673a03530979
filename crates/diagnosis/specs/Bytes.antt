-- The bytes of a diagnosis (document 01, "Diagnosis"), in plain arithmetic.
use Rattle.std.specs.Prelude.{ℕ, suc, ◌+◌, ◌/◌, ◌%◌, ◌≤◌, ◌<◌, ◌≡◌, List, length, get_or}

-- ---- the header

-- the master's address, or 255 for none
pub data MasterByte (b : ℕ) : Type 0 where
  station : b ≤ 125 → MasterByte b
  no_station : b ≡ 255 → MasterByte b

pub record HeaderBytes (s : List ℕ) : Type 0 where
  -- status 1: bits 0, 5 and 7 are 0
  pub status1_bit0 : get_or s 0 0 % 2 ≡ 0
  pub status1_bit5 : get_or s 0 0 / 32 % 2 ≡ 0
  pub status1_bit7 : get_or s 0 0 < 128
  -- status 2: bit 2 is 1, bits 6 and 7 are 0
  pub status2_bit2 : get_or s 1 0 / 4 % 2 ≡ 1
  pub status2_high : get_or s 1 0 < 64
  -- status 3: bits 0..6 are 0
  pub status3 : get_or s 2 0 % 128 ≡ 0
  pub master : MasterByte (get_or s 3 0)

-- ---- the blocks

-- byte 3 of a channel block: type 1..6, error 1..9 or 16..31
pub data CodeByte (b : ℕ) : Type 0 where
  low_error : 1 ≤ b / 32 → b / 32 ≤ 6 → 1 ≤ b % 32 → b % 32 ≤ 9 → CodeByte b
  high_error : 1 ≤ b / 32 → b / 32 ≤ 6 → 16 ≤ b % 32 → CodeByte b

-- n blocks from a place on, which tile the bytes to their end: a device or module block as long as its header says, a channel block
-- of three bytes
pub data BlockBytes (s : List ℕ) : (at n : ℕ) → Type 0 where
  last : {at : ℕ} → at ≡ length s → BlockBytes s at 0
  device : {at n : ℕ} → get_or s at 0 / 64 ≡ 0 → 2 ≤ get_or s at 0 % 64 → at + get_or s at 0 % 64 ≤ length s
      → BlockBytes s (at + get_or s at 0 % 64) n → BlockBytes s at (suc n)
  modules : {at n : ℕ} → get_or s at 0 / 64 ≡ 1 → 2 ≤ get_or s at 0 % 64 → at + get_or s at 0 % 64 ≤ length s
      → BlockBytes s (at + get_or s at 0 % 64) n → BlockBytes s at (suc n)
  channel : {at n : ℕ} → get_or s at 0 / 64 ≡ 2 → at + 3 ≤ length s → 1 ≤ get_or s (at + 1) 0 / 64 → CodeByte (get_or s (at + 2) 0)
      → BlockBytes s (at + 3) n → BlockBytes s at (suc n)

-- Ext_Diag, bit 3 of status 1, is set exactly when a block exists
pub data ExtDiag (status1 n : ℕ) : Type 0 where
  without : n ≡ 0 → status1 / 8 % 2 ≡ 0 → ExtDiag status1 n
  with_blocks : 1 ≤ n → status1 / 8 % 2 ≡ 1 → ExtDiag status1 n

-- ---- the whole

pub record DiagnosisBytes (s : List ℕ) (n : ℕ) : Type 0 where
  pub long : 6 ≤ length s
  pub short : length s ≤ 244
  pub header : HeaderBytes s
  pub blocks : BlockBytes s 6 n
  pub agrees : ExtDiag (get_or s 0 0) n

-- with whatever blocks
pub record IsDiagnosis (s : List ℕ) : Type 0 where
  pub count : ℕ
  pub bytes : DiagnosisBytes s count
