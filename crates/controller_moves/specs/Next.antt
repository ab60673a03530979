-- What the code says comes next, in the words of `protocol`.
use Rattle.std.specs.Prelude.{ℕ, ◌-◌, ◌≤◌, ◌≡◌, Bool, List, ltb, drop, Ok, Err, Result}
use Rattle.octets.specs.Choice.{◌and◌}
use Rattle.octets.specs.Front.{fine, fault}
use Rattle.book.specs.Contents.{Entry, templates_of}
use Rattle.protocol.specs.Line.{go, stop}
use Rattle.protocol.specs.Telegrams.{opening_bytes, poll_bytes}
use Rattle.protocol.specs.Controller.{Got, Move, ask_for, move_of, verdict_of}
use Rattle.protocol.specs.Words.{is_nothing}
use Rattle.protocol.specs.declared.controller.Settings.{Settings}
use Rattle.protocol.specs.declared.controller.Job.TheVariants as job
use Rattle.protocol.specs.declared.controller.Controller.{Controller}
use Rattle.protocol.specs.declared.controller.Controller.TheVariants as controller
use Rattle.controller_moves.specs.declared.moves.Next.{Next}
use Rattle.controller_moves.specs.declared.moves.Next.TheVariants as next

-- the next move, or a refusal's number
abbrev pub Decision : Type 0
Decision = Result Next ℕ

-- behind the last template there is none to write, and the download is done
abbrev pub move_in : Settings → (book : List Entry) → Next → Move
move_in c book next.Open = go (opening_bytes c.printer c.controller) controller.Opening
move_in c book (next.Write k fcb repeats) = ask_for c k job.Write fcb repeats (drop (k - 1) book)
move_in c book (next.Poll k left fcb repeats) = go (poll_bytes c.printer c.controller fcb) (controller.Asking k (job.Poll left) fcb repeats)
move_in c book (next.End e) = stop e

-- templates are counted from 1
abbrev pub FromOne : Next → Type 0
FromOne next.Open = Unit {0}
FromOne (next.Write k fcb repeats) = 1 ≤ k
FromOne (next.Poll k left fcb repeats) = Unit {0}
FromOne (next.End e) = Unit {0}

pub record Says (c : Settings) (book : List Entry) (n : Next) (m : Move) : Type 0 where
  pub move : move_in c book n ≡ m
  pub counted : FromOne n

-- nothing came, and the request may be sent again
abbrev pub may_repeat : Got → (repeats : ℕ) → Bool
may_repeat g repeats = is_nothing g and ltb 0 repeats

-- a step is refused with the verdict's number, or this comes next
abbrev pub Decides : Settings → (book : List ℕ) → Controller → (reply : List ℕ) → Decision → Type 0
Decides c s o reply (Err number) = verdict_of c s o ≡ fault number
Decides c s o reply (Ok n) = (verdict_of c s o ≡ fine) × Says c (templates_of s) n (move_of c (templates_of s) o reply)
