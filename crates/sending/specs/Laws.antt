-- A sending over lent bytes is that of the line's definition.
use Rattle.std.specs.Prelude.{ℕ, ◌≡◌, refl, List, eqb, get_or, take}
use Rattle.std.proofs.Common.{ap}
use Rattle.octets.proofs.Choice.{by_pick}
use Rattle.octets.specs.Front.{fine}
use Rattle.protocol.specs.Line as line
use Rattle.protocol.specs.Line.{Passage}
use Rattle.protocol.specs.Printer.{Station, Stepped, stepped, hear, step_of}
use Rattle.protocol.specs.Printer as printer
use Rattle.protocol.specs.Download.{Given, hears, steps, passage_by}
use Rattle.protocol.proofs.MachineLaws.Steps.{step_hears}
use Rattle.sending.specs.Sending.{unanswered, sent_by}

module _ (g : Given) (y : Station) (q : List ℕ) where
  abbrev pub station_after : Passage → Station
  station_after p = line.printer_after (hears g) (steps g) p y q

  -- the printer is as the line's definition has it, and so is what comes back
  pub record Sent (p : Passage) (z : Stepped) : Type 0 where
    pub back : ℕ
    pub heard : z ≡ stepped (record { station = station_after p; reply = back })
    pub reply : take back (station_after p).buffer ≡ line.reply_after (hears g) (steps g) p y q

  module _ (u : printer.verdict_of g.diagnosis y ≡ fine) where
    abbrev number : ℕ
    number = get_or g.not_yet y.printer.writes 0

    heard_so : step_of g.diagnosis number q y ≡ stepped (hear g.diagnosis number q y)
    heard_so = step_hears g.diagnosis number q y u

    pub sent_so : (entry : ℕ) → Sent (passage_by entry) (sent_by (passage_by entry) q g.not_yet g.diagnosis y)
    sent_so entry =
        by_pick (λ p. Sent p (sent_by p q g.not_yet g.diagnosis y)) (eqb entry 1) (λ _. record { back = 0; heard = refl; reply = refl }) (λ _.
        by_pick (λ p. Sent p (sent_by p q g.not_yet g.diagnosis y)) (eqb entry 2) (λ _. record { back = 0; heard = ap unanswered heard_so; reply = refl }) (λ _.
        record { back = (hear g.diagnosis number q y).reply; heard = heard_so; reply = refl }))
