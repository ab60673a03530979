-- What the verdict on a service's telegram is: 12, or that of its route.
use Rattle.std.specs.Prelude.{ℕ, ◌+◌, ◌≡◌, true, false, List, length}
use Rattle.std.proofs.Math.Path.{ap}
use Rattle.octets.specs.Front.{Verdict, fault}
use Rattle.octets.specs.Fixed.{judged}
use Rattle.fdl.specs.Around.{good_fields}
use Rattle.fdl.proofs.Lemmas.Around.{fit, unfit}
use Rattle.fdl.specs.declared.telegram.Format.{Format}
use Rattle.access.specs.Route.{route_of}
use Rattle.content.specs.Fields.{fixed_length}
use Rattle.content.proofs.Laws.{bytes_long}
use Rattle.content.specs.Writing.{bytes_for}
use Rattle.content.specs.declared.fields.Content.{Content}
use Rattle.service.specs.Writing.{header_for, route_verdict, verdict_of}

module _ (f : Format) (da sa fc : ℕ) (c : Content) (part : List ℕ) where
  abbrev Good : Type 0
  Good = good_fields f (header_for da sa fc c) (fixed_length c + length part) ≡ true

  pub bad_fields : good_fields f (header_for da sa fc c) (fixed_length c + length part) ≡ false → verdict_of f da sa fc c part ≡ fault 12
  unfolding verdict_of
  bad_fields e =
      ap (λ (v : Verdict). judged fault v (route_verdict (route_of (header_for da sa fc c)) c part))
      (unfit f (header_for da sa fc c) (bytes_for c part) (bytes_long c part) e)

  pub good_fields_lem : Good → verdict_of f da sa fc c part ≡ route_verdict (route_of (header_for da sa fc c)) c part
  unfolding verdict_of
  good_fields_lem e =
      ap (λ (v : Verdict). judged fault v (route_verdict (route_of (header_for da sa fc c)) c part))
      (fit f (header_for da sa fc c) (bytes_for c part) (bytes_long c part) e).verdict
