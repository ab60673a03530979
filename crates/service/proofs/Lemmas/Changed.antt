-- What the telegram reader says of a service telegram, and of bytes that it refuses.
use Rattle.std.specs.Prelude.{ℕ, ◌≡◌, refl, true, false, List, Ok, Err}
use Rattle.std.proofs.Common.{sym}
use Rattle.octets.proofs.Choice.{never}
use Rattle.octets.specs.declared.Mode.{Mode}
use Rattle.fdl.specs.Contents as telegram
use Rattle.fdl.specs.Reading as telegram-type
use Rattle.fdl.specs.declared.reading.Reading.TheVariants as telegram-reading
use Rattle.service.specs.Reading.{service_in, accepted}

module _ (s : List ℕ) (m : Mode) where
  -- a service is read from a telegram that is accepted, and from no token
  pub is_telegram : (t : telegram-type.Reading) → accepted (service_in s m t) ≡ true → (telegram.accepted t ≡ true) × (telegram.is_token t ≡ false)
  is_telegram (Ok telegram-reading.Confirmation) e = absurd (never e)
  is_telegram (Ok (telegram-reading.Token da sa)) e = absurd (never e)
  is_telegram (Ok (telegram-reading.Telegram f h start len)) e = (refl, refl)
  is_telegram (Err r) e = absurd (never e)

  -- what the telegram reader refuses has no service
  pub refused_alike : (t : telegram-type.Reading) → telegram.accepted t ≡ false → accepted (service_in s m t) ≡ false
  refused_alike (Ok telegram-reading.Confirmation) e = refl
  refused_alike (Ok (telegram-reading.Token da sa)) e = refl
  refused_alike (Ok (telegram-reading.Telegram f h start len)) e = absurd (never (sym e))
  refused_alike (Err r) e = refl
