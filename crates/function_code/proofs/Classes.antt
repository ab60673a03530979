-- The rule of the class table: one test, which antt computes at every entry, and from it the class at each byte.
use mathlib.Core.Path.{◌≡◌, refl, sym, ap, ◌∙◌, subst}
use mathlib.Core.Bool.{Bool, true}
use mathlib.Core.List.{List, [], ◌∷◌}
use Prim.Native.Nat.{ℕ, zero, suc, ◌+◌, ◌<◌}
use native.Mathlib.Nat.{zero-add}
use native.Mathlib.Omega.{arith}
use lib.Dec.{eqb}
use lib.ListN.{length, get_or}
use borrow.Author.Tests.{eqb-true}
use Rattle.octets.specs.Choice.{pick, ◌and◌}
use Rattle.octets.proofs.Choice.{and_left, and_right}
use Rattle.function_code.specs.Code.{class_of, class_number, Entry}
use Rattle.function_code.specs.declared.code.Class.{Class}
use Rattle.function_code.specs.declared.code.Class.TheVariants.{Opening, Counted, Uncounted, Bare, Data, Reserved}

-- the class that a number names
abbrev pub named : ℕ → Class
named n =
    pick (eqb n (class_number Opening)) Opening
    (pick (eqb n (class_number Counted)) Counted
    (pick (eqb n (class_number Uncounted)) Uncounted (pick (eqb n (class_number Bare)) Bare (pick (eqb n (class_number Data)) Data Reserved))))

pub named_number : (c : Class) → named (class_number c) ≡ c
named_number Opening = refl
named_number Counted = refl
named_number Uncounted = refl
named_number Bare = refl
named_number Data = refl
named_number Reserved = refl

-- an entry is its function code's class
abbrev right : (fc : ℕ) (entry : Class) → Bool
right fc entry = eqb (class_number entry) (class_number (class_of fc))

is_right : (fc : ℕ) (entry : Class) → right fc entry ≡ true → entry ≡ class_of fc
is_right fc entry t =
    sym (named_number entry) ∙ ap named (eqb-true (class_number entry) (class_number (class_of fc)) t) ∙ named_number (class_of fc)

-- each entry of a table is, whose first one is that of the code `from`
abbrev pub all_right : (from : ℕ) → List Class → Bool
all_right from [] = true
all_right from (x ∷ xs) = right from x and all_right (suc from) xs

from : (xs : List Class) (i : ℕ) → all_right i xs ≡ true → (k : ℕ) → k < length xs → get_or xs k Reserved ≡ class_of (i + k)
from [] i t k h = absurd (omega arith)
from (x ∷ xs) i t zero h =
    let e : i ≡ i + 0 = omega arith in
    subst (λ (m : ℕ). x ≡ class_of m) e (is_right i x (and_left (right i x) (all_right (suc i) xs) t))
from (x ∷ xs) i t (suc k) h =
    let e : suc i + k ≡ i + suc k = omega arith in
    subst (λ (m : ℕ). get_or xs k Reserved ≡ class_of m) e (from xs (suc i) (and_right (right i x) (all_right (suc i) xs) t) k (omega arith))

-- the class at each byte
pub class_at : {table : List Class} {fc : ℕ} {c : Class} → Entry table fc c → fc < 256 → length table ≡ 256 → all_right 0 table ≡ true → c ≡ class_of fc
class_at {table} {fc} e h l t = e.there ∙ rw zero-add at (from table 0 t fc (omega arith))
