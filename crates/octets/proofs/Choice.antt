-- The choice by a test, by which the definitions of all formats are written, and its laws.
use Rattle.std.specs.Prelude.{◌≡◌, refl, Bool, true, false, ℕ}
use Rattle.std.proofs.Common.{arith}
use Rattle.octets.specs.Choice.{pick, ◌and◌, ◌or◌}

-- what holds of both choices, each under its test, holds of the choice
pub by_pick : {A : Type 0} (P : A → Type 0) (b : Bool) {x y : A} → (b ≡ true → P x) → (b ≡ false → P y) → P (pick b x y)
by_pick P true p q = p refl
by_pick P false p q = q refl

-- what a function makes of a choice is the choice of what it makes of both
pub through : {A B : Type 0} (f : A → B) (b : Bool) (x y : A) → f (pick b x y) ≡ pick b (f x) (f y)
through f true x y = refl
through f false x y = refl

pub alike : {A : Type 0} (b : Bool) (x : A) → pick b x x ≡ x
alike true x = refl
alike false x = refl

pub and_left : (a b : Bool) → (a and b) ≡ true → a ≡ true
and_left true b e = refl
and_left false b e = e

pub and_right : (a b : Bool) → (a and b) ≡ true → b ≡ true
and_right true b e = e
and_right false b e = cc

-- what follows from either of two tests follows where one of them holds
pub by_or : {A : Type 0} (a b : Bool) → (a or b) ≡ true → (a ≡ true → A) → (b ≡ true → A) → A
by_or true b e f g = f refl
by_or false b e f g = g e

pub never : false ≡ true → ⊥
never e = let z : ◌≡◌ {A = ℕ} 0 1 = cc in omega arith
