-- What reading and writing a telegram share.
use Rattle.std.specs.Prelude.{ℕ, ◌+◌, ◌%◌, List, [], ◌∷◌, Some, None}
use Rattle.fdl.specs.declared.telegram.Format.{Format}
use Rattle.fdl.specs.declared.telegram.Format.TheVariants.{Sd1, Sd2, Sd3}
use Rattle.fdl.specs.Sap.{Sap}

-- ---- the start bytes

abbrev pub start_byte : Format → ℕ
start_byte Sd1 = 0x10
start_byte Sd2 = 0x68
start_byte Sd3 = 0xA2

-- SD4, with which a token starts
abbrev pub token_byte : ℕ
token_byte = 0xDC

-- SC, which is a short confirmation
abbrev pub confirmation_byte : ℕ
confirmation_byte = 0xE5

-- ---- the checksum and the access points

abbrev pub sum_of : List ℕ → ℕ
sum_of [] = 0
sum_of (x ∷ xs) = x + sum_of xs

-- FCS: the sum of DA through the last PDU byte, modulo 256
unfoldable pub checksum_of : List ℕ → ℕ
checksum_of core = sum_of core % 256

-- how many bytes of the PDU an access point takes
abbrev pub sap_length : Sap → ℕ
sap_length None = 0
sap_length (Some x) = 1
