-- What a telegram carries, whichever way it goes: the common ground on which the laws of reading and writing are stated.
use Rattle.std.specs.Prelude.{ℕ, Bool, true, false, List, [], Ok, Err}
use Rattle.octets.specs.Part.{part_of}
use Rattle.octets.specs.Front.{Verdict, fine, fault}
use Rattle.fdl.specs.Reading.{read_by, Reading}
use Rattle.fdl.specs.Writing.{telegram_of, token_bytes, confirmation_bytes, verdict_by, token_verdict}
use Rattle.function_code.specs.declared.code.Class.{Class}
use Rattle.fdl.specs.declared.telegram.Format.{Format}
use Rattle.fdl.specs.declared.telegram.Header.{Header}
use Rattle.fdl.specs.declared.reading.Reading.TheVariants.{Confirmation, Token, Telegram}

pub data Contents : Type 0 where
  nothing : Contents
  confirmation : Contents
  token : (da sa : ℕ) → Contents
  telegram : Format → Header → (user : List ℕ) → Contents

-- a reading's fields, and its user data as the part of the bytes that it names
abbrev pub contents_in : List ℕ → Reading → Contents
contents_in s (Ok Confirmation) = confirmation
contents_in s (Ok (Token da sa)) = token da sa
contents_in s (Ok (Telegram f h start len)) = telegram f h (part_of s start len)
contents_in s (Err r) = nothing

-- the bytes that writing stores for them
abbrev pub bytes_for : Contents → List ℕ
bytes_for nothing = []
bytes_for confirmation = confirmation_bytes
bytes_for (token da sa) = token_bytes da sa
bytes_for (telegram f h user) = telegram_of f h user

module _ (classes : ℕ → Class) where
  -- whether writing takes them
  abbrev pub verdict_for : Contents → Verdict
  verdict_for nothing = fault 12
  verdict_for confirmation = fine
  verdict_for (token da sa) = token_verdict da sa
  verdict_for (telegram f h user) = verdict_by classes f h user

  -- what reading finds
  abbrev pub contents_of : List ℕ → Contents
  contents_of s = contents_in s (read_by classes s)

abbrev pub accepted : Reading → Bool
accepted (Ok Confirmation) = true
accepted (Ok (Token da sa)) = true
accepted (Ok (Telegram f h start len)) = true
accepted (Err r) = false

abbrev pub is_token : Reading → Bool
is_token (Ok Confirmation) = false
is_token (Ok (Token da sa)) = true
is_token (Ok (Telegram f h start len)) = false
is_token (Err r) = false
