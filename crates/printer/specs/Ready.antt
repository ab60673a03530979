-- What the helpers of the step are promised, and what they promise to each other.
use Rattle.std.specs.Prelude.{◌≡◌, List, ℕ, ◌≤◌, length}
use Rattle.octets.specs.Front.{over}
use Rattle.protocol.specs.Verdicts.{Valid}
use Rattle.protocol.specs.declared.printer.Printer.{Printer}
use Rattle.protocol.specs.declared.printer.Reaction.{Reaction}

-- a printer that may be used
pub record Usable (diag : List ℕ) (address : ℕ) (buffer : List ℕ) : Type 0 where
  pub own : address ≤ 126
  pub diagnosis : Valid diag
  pub room : 255 ≤ length buffer

-- two stations, and room for every reply
pub record Between (address to : ℕ) (buffer : List ℕ) : Type 0 where
  pub own : address ≤ 126
  pub other : to ≤ 126
  pub room : 255 ≤ length buffer

-- and with a diagnosis
pub record Ready (diag : List ℕ) (address to : ℕ) (buffer : List ℕ) : Type 0 where
  pub stations : Between address to buffer
  pub diagnosis : Valid diag

-- a reply stored in front of the buffer, and its length answered
pub record Sends (p : Printer) (said before after : List ℕ) (r : Reaction) : Type 0 where
  pub answer : r ≡ record { printer = p; reply = length said }
  pub bytes : after ≡ over said before
