-- The refusal numbers (document 01, "Refusal numbers"): which there are, and what an answer says that is 0 or one of them.
use Rattle.std.specs.Prelude.{ℕ, ◌≡◌, Bool, true, false, List, [], ◌∷◌, eqb, Result, Ok, Err}
use Rattle.octets.specs.Choice.{one_of}
use Rattle.octets.specs.Front.{Verdict, fine, fault}
use Rattle.octets.specs.declared.refusal.Refusal.{Refusal}
use Rattle.octets.specs.declared.refusal.Refusal.TheVariants as refusal

-- the number of each refusal
abbrev pub number : Refusal → ℕ
number refusal.EndsEarly = 1
number refusal.NoStartByte = 2
number refusal.LengthBytes = 3
number refusal.BytesFollow = 4
number refusal.EndByte = 5
number refusal.Checksum = 6
number refusal.Address = 7
number refusal.FunctionCode = 8
number refusal.AddressExtension = 9
number refusal.NoService = 10
number refusal.NoRoom = 11
number refusal.Field = 12
number refusal.DataLength = 20
number refusal.DataByte = 21
number refusal.ExtDiag = 22
number refusal.BlockHeader = 23
number refusal.PastTheData = 24
number refusal.ChannelCode = 25
number refusal.VendorCount = 26
number refusal.OverLimit = 27
number refusal.Dpv1Code = 28
number refusal.TypedCode = 29
number refusal.BookTable = 32

-- The definitions of all formats speak of refusals by their numbers; this is what a function's answer tells of one.
abbrev pub told : {A : Type 0} → Result A Refusal → Result A ℕ
told (Ok a) = Ok a
told (Err r) = Err (number r)

-- a verdict that is told so: fine, or the refusal's number
abbrev pub verdict_in : {A : Type 0} → Result A Refusal → Verdict
verdict_in (Ok a) = fine
verdict_in (Err r) = fault (number r)

-- the table's numbers, in its order
abbrev pub refusal_numbers : List ℕ
refusal_numbers =
    1 ∷ 2 ∷ 3 ∷ 4 ∷ 5 ∷ 6 ∷ 7 ∷ 8 ∷ 9 ∷ 10 ∷ 11 ∷ 12 ∷ 20 ∷ 21 ∷ 22 ∷ 23 ∷ 24 ∷ 25 ∷ 26 ∷ 27 ∷ 28 ∷ 29 ∷ 32 ∷ []

unfoldable pub listed : ℕ → Bool
listed k = one_of k refusal_numbers

-- a verdict that is fine, or has one of these numbers
abbrev pub numbered : Verdict → Bool
numbered fine = true
numbered (fault k) = listed k

abbrev pub is_fine : Verdict → Bool
is_fine fine = true
is_fine (fault k) = false

-- A number that says whether the input is accepted: 0 exactly then, and a refusal number else.
pub record Status (accepted : Bool) (number : ℕ) : Type 0 where
  pub zero_is_accepted : eqb number 0 ≡ accepted
  pub refusals_listed : accepted ≡ false → listed number ≡ true
