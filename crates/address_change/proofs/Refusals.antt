-- Every refusal of Set_Slave_Adr, read or to be written, has a number of document 01's table.
use Rattle.std.specs.Prelude.{ℕ, ◌≡◌, refl, true, List, Ok, Err}
use Rattle.octets.proofs.Choice.{through, alike}
use Rattle.octets.specs.Front.{Verdict, fine, fault}
use Rattle.octets.specs.Refusals.{listed, numbered}
use Rattle.octets.proofs.Refusals.{judged_numbered}
use Rattle.address_change.specs.Address.{verdict_of, refused, read_of, AddressReading}
use Rattle.address_change.specs.declared.AddressChange.{AddressChange}

-- the verdict that a reading came to
abbrev pub verdict_in : AddressReading → Verdict
verdict_in (Ok found) = fine
verdict_in (Err r) = fault r

pub verdict_numbered : (f : AddressChange) (size : ℕ) → numbered (verdict_of f size) ≡ true
unfolding verdict_of listed
verdict_numbered f size = simp (through numbered, alike)

pub reading_numbered : (s : List ℕ) → numbered (verdict_in (read_of s)) ≡ true
unfolding read_of listed
reading_numbered s = simp (judged_numbered verdict_in refused (λ k. refl), verdict_numbered, alike)
