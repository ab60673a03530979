-- Writing a telegram around user data that stand in their place already.
use Rattle.std.specs.Prelude.{ℕ, ◌+◌, Bool, List, ◌++◌, take, drop, replicate}
use Rattle.octets.specs.Choice.{◌and◌}
use Rattle.function_code.specs.Code.{class_of}
use Rattle.fdl.specs.Telegram.{sap_length}
use Rattle.fdl.specs.Writing.{sap_bytes, address_bytes, user_start, good_length, good_header}
use Rattle.fdl.specs.declared.telegram.Format.{Format}
use Rattle.fdl.specs.declared.telegram.Header.{Header}

-- the len bytes of user data that stand in out; what would lie past its end counts as zeros
unfoldable pub user_in : Format → Header → (len : ℕ) (out : List ℕ) → List ℕ
user_in f h len out = take len (drop (user_start f h) out ++ replicate len 0)

-- DA through the last access point: what stands between the start and the user data
abbrev pub head_bytes : Header → List ℕ
head_bytes h = address_bytes h ++ (sap_bytes h.dsap ++ sap_bytes h.ssap)

-- the fields that may be written with so many bytes of user data
abbrev pub good_fields : Format → Header → (len : ℕ) → Bool
good_fields f h len = good_header class_of h and good_length f (sap_length h.dsap + sap_length h.ssap + len)
