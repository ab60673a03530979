-- What is set for a download as four bytes, and the controller's state as five: the request that was sent last, its template,
-- FCB, the repeats left and the polls left.
use Rattle.std.specs.Prelude.{ℕ, Bool, List, [], ◌∷◌, eqb, ltb, get_or, Some, None, Option}
use Rattle.octets.specs.Choice.{pick}
use Rattle.octets.specs.Bits.{bit_of}
use Rattle.protocol.specs.declared.controller.Settings.{Settings}
use Rattle.protocol.specs.declared.controller.Job.{Job}
use Rattle.protocol.specs.declared.controller.Job.TheVariants as job
use Rattle.protocol.specs.declared.controller.Controller.{Controller}
use Rattle.protocol.specs.declared.controller.Controller.TheVariants as controller

-- the controller that bytes are the state of, if they are one's
abbrev pub ControllerFound : Type 0
ControllerFound = Option Controller

abbrev pub settings_in : (settings : List ℕ) → Settings
settings_in s = record { printer = get_or s 0 0; controller = get_or s 1 0; repeats = get_or s 2 0; polls = get_or s 3 0 }

-- ---- what bytes are the state of

-- FCB is not above 1
unfoldable pub asking_by : Job → (template fcb repeats : ℕ) → ControllerFound
asking_by j k fcb repeats = pick (ltb 1 fcb) None (Some (controller.Asking k j (eqb fcb 1) repeats))

-- 0 for a fresh controller, 1 for the opening, 2 for a write, 3 for a poll
unfoldable pub controller_in : (state : List ℕ) → ControllerFound
controller_in s =
    pick (eqb (get_or s 0 0) 0) (Some controller.Fresh)
    (pick (eqb (get_or s 0 0) 1) (Some controller.Opening)
    (pick (eqb (get_or s 0 0) 2) (asking_by job.Write (get_or s 1 0) (get_or s 2 0) (get_or s 3 0))
    (pick (eqb (get_or s 0 0) 3) (asking_by (job.Poll (get_or s 4 0)) (get_or s 1 0) (get_or s 2 0) (get_or s 3 0)) None)))

-- ---- the bytes of a state

abbrev pub asking_bytes : (template : ℕ) → Job → (fcb : Bool) (repeats : ℕ) → List ℕ
asking_bytes k job.Write fcb repeats = 2 ∷ k ∷ bit_of fcb ∷ repeats ∷ 0 ∷ []
asking_bytes k (job.Poll left) fcb repeats = 3 ∷ k ∷ bit_of fcb ∷ repeats ∷ left ∷ []

abbrev pub controller_bytes : Controller → List ℕ
controller_bytes controller.Fresh = 0 ∷ 0 ∷ 0 ∷ 0 ∷ 0 ∷ []
controller_bytes controller.Opening = 1 ∷ 0 ∷ 0 ∷ 0 ∷ 0 ∷ []
controller_bytes (controller.Asking k j fcb repeats) = asking_bytes k j fcb repeats
