-- Every refusal of a configuration, read or to be written, has a number of document 01's table.
use Rattle.std.specs.Prelude.{ℕ, zero, suc, ◌≡◌, ◌+◌, refl, true, List, [], ◌∷◌, get_or, Ok, Err}
use Rattle.octets.proofs.Choice.{through, alike}
use Rattle.octets.specs.Front.{Verdict, fine, fault}
use Rattle.octets.specs.Refusals.{listed, numbered}
use Rattle.configuration.specs.Fields.{identifier_of}
use Rattle.configuration.specs.Walk.{Found, one, unfit, special_in, module_by, module_in, Walk, end, bad, more, after, walk_of}
use Rattle.configuration.specs.Reading.{input_of, output_of, totals_of, within_limit, read_of, with_room, offsets_of, Reading}
use Rattle.configuration.specs.Writing.{verdict_in}
use Rattle.configuration.specs.declared.fields.Identifier.{Identifier}
use Rattle.configuration.specs.declared.fields.Identifier.TheVariants.{General, Special}

-- the verdict that a module came to, and all of them
abbrev found_verdict : Found → Verdict
found_verdict (one m start len) = fine
found_verdict (unfit r) = fault r

abbrev walk_verdict : Walk → Verdict
walk_verdict end = fine
walk_verdict (bad r) = fault r
walk_verdict (more m vendor w) = walk_verdict w

by_format : (k : Identifier) (r : List ℕ) → numbered (found_verdict (module_by k r)) ≡ true
unfolding special_in listed
by_format General r = refl
by_format Special r = simp (through found_verdict, through numbered, alike)

module_numbered : (r : List ℕ) → numbered (found_verdict (module_in r)) ≡ true
unfolding module_in
module_numbered r = by_format (identifier_of (get_or r 0 0)) r

after_numbered : (f : Found) (r : List ℕ) (rest : ℕ → Walk) → numbered (found_verdict f) ≡ true
    → ((k : ℕ) → numbered (walk_verdict (rest k)) ≡ true) → numbered (walk_verdict (after f r rest)) ≡ true
after_numbered (one m start len) r rest h all = all _
after_numbered (unfit k) r rest h all = h

walk_numbered : (s : List ℕ) (skip : ℕ) → numbered (walk_verdict (walk_of s skip)) ≡ true
unfolding walk_of
walk_numbered [] skip = refl
walk_numbered (x ∷ xs) zero = after_numbered (module_in (x ∷ xs)) (x ∷ xs) (walk_of xs) (module_numbered (x ∷ xs)) (walk_numbered xs)
walk_numbered (x ∷ xs) (suc k) = walk_numbered xs k

totals_numbered : (n i o : ℕ) (w : Walk) → numbered (walk_verdict w) ≡ true → numbered (verdict_in (totals_of n i o w)) ≡ true
unfolding totals_of
totals_numbered n i o end h = refl
totals_numbered n i o (bad r) h = h
totals_numbered n i o (more m vendor w) h = totals_numbered (n + 1) (i + input_of m) (o + output_of m) w h

limit_numbered : (r : Reading) → numbered (verdict_in r) ≡ true → numbered (verdict_in (within_limit r)) ≡ true
unfolding within_limit listed
limit_numbered (Ok found) h = simp (through verdict_in, through numbered, alike)
limit_numbered (Err r) h = h

pub reading_numbered : (s : List ℕ) → numbered (verdict_in (read_of s)) ≡ true
unfolding read_of listed
reading_numbered s =
    let h = limit_numbered (totals_of 0 0 0 (walk_of s 0)) (totals_numbered 0 0 0 (walk_of s 0) (walk_numbered s 0)) in
    simp (through verdict_in, through numbered, alike, h)

room_numbered : (a b : ℕ) (r : Reading) → numbered (verdict_in r) ≡ true → numbered (verdict_in (with_room a b r)) ≡ true
unfolding with_room listed
room_numbered a b (Ok found) h = simp (through verdict_in, through numbered, alike)
room_numbered a b (Err r) h = h

pub offsets_numbered : (s : List ℕ) (a b : ℕ) → numbered (verdict_in (offsets_of s a b)) ≡ true
offsets_numbered s a b = room_numbered a b (read_of s) (reading_numbered s)
