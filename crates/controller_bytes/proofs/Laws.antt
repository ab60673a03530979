-- The bytes of a controller's state are the state of what they were made from: a step takes up exactly what the step before
-- it left.
use Rattle.std.specs.Prelude.{◌≡◌, refl, Some}
use Rattle.octets.proofs.Bits.{bit_low, bit_again}
use Rattle.protocol.specs.declared.controller.Job.TheVariants as job
use Rattle.protocol.specs.declared.controller.Controller.{Controller}
use Rattle.protocol.specs.declared.controller.Controller.TheVariants as controller
use Rattle.controller_bytes.specs.State.{asking_by, controller_in, controller_bytes}

pub controller_again : (o : Controller) → controller_in (controller_bytes o) ≡ Some o
unfolding controller_in asking_by
controller_again controller.Fresh = refl
controller_again controller.Opening = refl
controller_again (controller.Asking k job.Write fcb repeats) = simp (bit_low, bit_again)
controller_again (controller.Asking k (job.Poll left) fcb repeats) = simp (bit_low, bit_again)
