-- The refusal numbers (document 01, "Refusal numbers"): which there are, and what an answer says that is 0 or one of them.
use Rattle.std.specs.Prelude.{ℕ, zero, suc, ◌≡◌, refl, true, false, eqb, Result, Ok, Err}
use Rattle.std.specs.Result.{IsErr, IsErrAnd}
use Rattle.octets.specs.declared.refusal.Refusal.{Refusal}
use Rattle.octets.specs.declared.refusal.Refusal.TheVariants as refusal
use Rattle.std.proofs.Common.{sym, ap, ◌∙◌, arith, ne_eqb}
use Rattle.octets.specs.Choice.{pick}
use Rattle.octets.proofs.Choice.{never}
use Rattle.octets.specs.Front.{Verdict, fine, fault}
use Rattle.octets.specs.Fixed.{judged}
use Rattle.octets.specs.Refusals.{number, told, listed, numbered, is_fine, Status}

-- ---- laws
-- No refusal number is 0.
pub listed_not_zero : (k : ℕ) → listed k ≡ true → eqb k 0 ≡ false
unfolding listed
listed_not_zero zero e = absurd (never e)
listed_not_zero (suc k) e = ne_eqb (suc k) 0 (λ z. omega arith)

pub zero_accepted : Status true 0
zero_accepted = record { zero_is_accepted = refl; refusals_listed = λ e. absurd (never (sym e)) }

pub listed_refused : {k : ℕ} → listed k ≡ true → Status false k
listed_refused {k} e = record { zero_is_accepted = listed_not_zero k e; refusals_listed = λ _. e }

-- what is judged is numbered as the answer is, or the verdict
pub judged_numbered : {A : Type 0} (f : A → Verdict) (refuse : ℕ → A) → ((k : ℕ) → f (refuse k) ≡ fault k) → (v : Verdict) (a : A)
    → numbered (f (judged refuse v a)) ≡ pick (is_fine v) (numbered (f a)) (numbered v)
judged_numbered f refuse same fine a = refl
judged_numbered f refuse same (fault k) a = ap numbered (same k)

pub both_numbered : (v w : Verdict) → numbered (judged fault v w) ≡ pick (is_fine v) (numbered w) (numbered v)
both_numbered v w = judged_numbered (λ (u : Verdict). u) fault (λ k. refl) v w

-- Every refusal has a number of the table.
pub number_listed : (r : Refusal) → listed (number r) ≡ true
unfolding listed
number_listed refusal.EndsEarly = refl
number_listed refusal.NoStartByte = refl
number_listed refusal.LengthBytes = refl
number_listed refusal.BytesFollow = refl
number_listed refusal.EndByte = refl
number_listed refusal.Checksum = refl
number_listed refusal.Address = refl
number_listed refusal.FunctionCode = refl
number_listed refusal.AddressExtension = refl
number_listed refusal.NoService = refl
number_listed refusal.NoRoom = refl
number_listed refusal.Field = refl
number_listed refusal.DataLength = refl
number_listed refusal.DataByte = refl
number_listed refusal.ExtDiag = refl
number_listed refusal.BlockHeader = refl
number_listed refusal.PastTheData = refl
number_listed refusal.ChannelCode = refl
number_listed refusal.VendorCount = refl
number_listed refusal.OverLimit = refl
number_listed refusal.Dpv1Code = refl
number_listed refusal.TypedCode = refl
number_listed refusal.BookTable = refl

-- the refusal that a number names
abbrev named : ℕ → Refusal
named k =
    pick (eqb k 1) refusal.EndsEarly
    (pick (eqb k 2) refusal.NoStartByte
    (pick (eqb k 3) refusal.LengthBytes
    (pick (eqb k 4) refusal.BytesFollow
    (pick (eqb k 5) refusal.EndByte
    (pick (eqb k 6) refusal.Checksum
    (pick (eqb k 7) refusal.Address
    (pick (eqb k 8) refusal.FunctionCode
    (pick (eqb k 9) refusal.AddressExtension
    (pick (eqb k 10) refusal.NoService
    (pick (eqb k 11) refusal.NoRoom
    (pick (eqb k 12) refusal.Field
    (pick (eqb k 20) refusal.DataLength
    (pick (eqb k 21) refusal.DataByte
    (pick (eqb k 22) refusal.ExtDiag
    (pick (eqb k 23) refusal.BlockHeader
    (pick (eqb k 24) refusal.PastTheData
    (pick (eqb k 25) refusal.ChannelCode
    (pick (eqb k 26) refusal.VendorCount
    (pick (eqb k 27) refusal.OverLimit
    (pick (eqb k 28) refusal.Dpv1Code
    (pick (eqb k 29) refusal.TypedCode
    refusal.BookTable)))))))))))))))))))))

again : (r : Refusal) → named (number r) ≡ r
again refusal.EndsEarly = refl
again refusal.NoStartByte = refl
again refusal.LengthBytes = refl
again refusal.BytesFollow = refl
again refusal.EndByte = refl
again refusal.Checksum = refl
again refusal.Address = refl
again refusal.FunctionCode = refl
again refusal.AddressExtension = refl
again refusal.NoService = refl
again refusal.NoRoom = refl
again refusal.Field = refl
again refusal.DataLength = refl
again refusal.DataByte = refl
again refusal.ExtDiag = refl
again refusal.BlockHeader = refl
again refusal.PastTheData = refl
again refusal.ChannelCode = refl
again refusal.VendorCount = refl
again refusal.OverLimit = refl
again refusal.Dpv1Code = refl
again refusal.TypedCode = refl
again refusal.BookTable = refl

-- No two refusals have one number.
pub number_tells : (a b : Refusal) → number a ≡ number b → a ≡ b
number_tells a b e = sym (again a) ∙ ap named e ∙ again b

-- ---- a refusal that `?` hands on
-- is told by its own number
pub handed_on : {A : Type 0} (r : Result A Refusal) (e : Refusal) → IsErr r × IsErrAnd r (λ x. x ≡ e) → told r ≡ Err (number e)
handed_on (Ok a) e h = absurd h.1
handed_on (Err x) e h = ap (λ (y : Refusal). Err (number y)) h.1
