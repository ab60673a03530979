-- The endings of a course: which it can have, and what they say of the templates before and behind.
use Prim.Native.Nat.{ℕ, zero, suc, ◌+◌, ◌≤◌, ◌<◌}
use Rattle.std.proofs.Common.{arith, sym, ◌∙◌}
use Rattle.std.specs.Prelude.{◌≡◌, Bool, false}
use Rattle.std.proofs.Math.Path.{refl}
use Rattle.std.proofs.Math.Bool.{true}
use mathlib.Core.List.{List, [], ◌∷◌}
use Rattle.std.proofs.Math.Dec.{eqb}
use Rattle.std.proofs.Math.ListN.{get_or}
use borrow.Author.Tests.{eqb-true}
use Rattle.octets.specs.Choice.{◌and◌}
use Rattle.octets.proofs.Choice.{never, and_left, and_right}
use Rattle.fdl.specs.Writing.{confirmation_bytes}
use Rattle.book.specs.Contents.{Entry, InOrder}
use Rattle.protocol.specs.Endings.{is_done, is_no_opening, is_refused, is_strange, stops_at}
use Rattle.protocol.specs.Line.{Passage, Sending}
use Rattle.protocol.specs.Telegrams.{write_bytes}
use Rattle.protocol.specs.Words.{any_of, heard, guarded}
use Rattle.protocol.specs.Course.{meets, Course, course}
use Rattle.protocol.specs.Demand.{At}
use Rattle.protocol.proofs.Lemmas.Read.{write_names}
use Rattle.protocol.proofs.Lemmas.Groups.{exchange_all}
use Rattle.protocol.proofs.Lemmas.Ours.{heard_arrives}
use Rattle.protocol.proofs.Lemmas.Follows.{answered_arrived}
use Rattle.protocol.proofs.Lemmas.Means.{by_ways, wrote, requests, ends_later}
use Rattle.protocol.proofs.Lemmas.Stored.{is_stored}
use Rattle.protocol.specs.declared.controller.Ending.{Ending}
use Rattle.protocol.specs.declared.controller.Ending.TheVariants as ending
use Rattle.protocol.specs.declared.controller.Settings.{Settings}

-- it went past template k, or stopped before it
abbrev pub Passed : (k : ℕ) → Ending → Type 0
Passed k ending.Done = Unit {0}
Passed k ending.NoOpening = ⊥
Passed k (ending.NoAnswer n) = k < n
Passed k (ending.NotReady n) = k < n
Passed k (ending.Refused n code1 code2) = k < n
Passed k (ending.Strange n) = k < n

pub record Before (k : ℕ) (e : Ending) : Type 0 where
  pub at : ℕ
  pub before : at < k
  pub there : stops_at at e ≡ true

pub done_passed : (k : ℕ) (e : Ending) → is_done e ≡ true → Passed k e
done_passed k ending.Done h = tt
done_passed k ending.NoOpening h = absurd (never h)
done_passed k (ending.NoAnswer n) h = absurd (never h)
done_passed k (ending.NotReady n) h = absurd (never h)
done_passed k (ending.Refused n code1 code2) h = absurd (never h)
done_passed k (ending.Strange n) h = absurd (never h)

pub stop_passed : (k m : ℕ) (e : Ending) → stops_at m e ≡ true → k < m → Passed k e
stop_passed k m ending.Done h l = tt
stop_passed k m ending.NoOpening h l = never h
stop_passed k m (ending.NoAnswer n) h l = let z = eqb-true n m h in omega arith
stop_passed k m (ending.NotReady n) h l = let z = eqb-true n m h in omega arith
stop_passed k m (ending.Refused n code1 code2) h l = let z = eqb-true n m h in omega arith
stop_passed k m (ending.Strange n) h l = let z = eqb-true n m h in omega arith

module _ (c : Settings) (boarding : Bool) (not_yet : List ℕ) (to : c.printer ≤ 126) (from : c.controller ≤ 126) (some : 1 ≤ c.polls) where
  abbrev course_from : (i : ℕ) (b : Bool) → List Entry → List Passage → Course
  course_from = course c boarding not_yet

  -- The opening is behind it, nothing strange comes, and a refusal has the codes B6 and 0.
  pub record Regular (e : Ending) : Type 0 where
    pub opened : is_no_opening e ≡ false
    pub known : is_strange e ≡ false
    pub codes : (k code1 code2 : ℕ) → is_refused k code1 code2 e ≡ true → (code1 ≡ 0xB6) × (code2 ≡ 0)

  pub regular : (i : ℕ) (b : Bool) (ts : List Entry) (l : List Passage) → Regular (course_from i b ts l).ending
  unfolding course
  regular i b [] l = record { opened = refl; known = refl; codes = λ k x y h. absurd (never h) }
  regular i b (t ∷ ts) l =
      by_ways c boarding not_yet i b t ts l (λ x. Regular x.ending)
      (record {
        unanswered = λ e. record { opened = refl; known = refl; codes = λ k x y h. absurd (never h) };
        unpolled = λ e p. record { opened = refl; known = refl; codes = λ k x y h. absurd (never h) };
        unready = λ e p. record { opened = refl; known = refl; codes = λ k x y h. absurd (never h) };
        refused = λ e b' l' p g. record {
          opened = refl;
          known = refl;
          codes = λ k x y h.
              let r = and_right (eqb (suc i) k) (eqb x 0xB6 and eqb y 0) h in
              (eqb-true x 0xB6 (and_left (eqb x 0xB6) (eqb y 0) r), eqb-true y 0 (and_right (eqb x 0xB6) (eqb y 0) r));
        };
        well = λ e b' l' p g. regular (suc i) b' ts l';
      })

  -- The templates before the end are stored.
  pub stored_before : (i m : ℕ) (b : Bool) (ts : List Entry) (l : List Passage) → InOrder m ts → (j : ℕ) (t : Entry) → At ts j t
      → Passed (suc (i + j)) (course_from i b ts l).ending → is_stored c.printer boarding (get_or (course_from i b ts l).requests j []) t ≡ true
  unfolding course
  stored_before i m b [] l order j t k h = absurd k
  stored_before i m b (u ∷ ts) l order j t k h =
      by_ways c boarding not_yet i b u ts l (λ x. Passed (suc (i + j)) x.ending → is_stored c.printer boarding (get_or x.requests j []) t ≡ true)
      (record {
        unanswered = λ e z. absurd (omega arith);
        unpolled = λ e p z. absurd (omega arith);
        unready = λ e p z. absurd (omega arith);
        refused = λ e b' l' p g z. absurd (omega arith);
        well = λ e b' l' p g z. further j k e g b' l' z (λ n a y. stored_before (suc i) (suc u.slot) b' ts l' order.4 n t a y);
      }) h
    where
      was : meets c.repeats l ≡ true → any_of (heard c.printer) (wrote c boarding not_yet i b u ts l) ≡ true
      was e =
          let q : List ℕ = write_bytes c.printer c.controller b u.slot u.body in
          heard_arrives c.printer q (write_names c.printer c.controller to from b u.slot u.body order.2 order.3) (wrote c boarding not_yet i b u ts l)
          (exchange_all c.repeats q confirmation_bytes l)
          ∙ answered_arrived c.repeats q confirmation_bytes l e

      further : (n : ℕ) → At (u ∷ ts) n t → meets c.repeats l ≡ true → guarded boarding u.slot ≡ false → (b' : Bool) (l' : List Passage)
          → Passed (suc (i + n)) (course_from (suc i) b' ts l').ending
          → ((n : ℕ) → At ts n t → Passed (suc (suc i + n)) (course_from (suc i) b' ts l').ending → is_stored c.printer boarding (get_or (course_from (suc i) b' ts l').requests n []) t ≡ true)
          → is_stored c.printer boarding (get_or (requests c boarding not_yet i b u ts l ∷ (course_from (suc i) b' ts l').requests) n []) t ≡ true
      further zero a e g b' l' z rest = rw (← a, was e, g)
      further (suc n) a e g b' l' z rest = let same : suc (i + suc n) ≡ suc (suc i + n) = omega arith in rest n a (rw same at z)

  -- Those behind it had no request.
  pub none_behind : (i : ℕ) (b : Bool) (ts : List Entry) (l : List Passage) (j : ℕ) → Before (suc (i + j)) (course_from i b ts l).ending
      → get_or (course_from i b ts l).requests j [] ≡ []
  unfolding course
  none_behind i b [] l j h = refl
  none_behind i b (t ∷ ts) l j h =
      by_ways c boarding not_yet i b t ts l (λ x. Before (suc (i + j)) x.ending → get_or x.requests j [] ≡ [])
      (record {
        unanswered = λ e z. alone j _ (let y = eqb-true (suc i) z.at z.there in omega (arith, z.before));
        unpolled = λ e p z. alone j _ (let y = eqb-true (suc i) z.at z.there in omega (arith, z.before));
        unready = λ e p z. alone j _ (let y = eqb-true (suc i) z.at z.there in omega (arith, z.before));
        refused = λ e b' l' p g z. alone j _ (let y = eqb-true (suc i) z.at z.there in omega (arith, z.before));
        well = λ e b' l' p g z. further j b' l' z (λ n y. none_behind (suc i) b' ts l' n y);
      }) h
    where
      alone : (n : ℕ) (rs : List (List Sending)) → 0 < n → get_or (rs ∷ []) n [] ≡ []
      alone zero rs h = absurd (omega arith)
      alone (suc n) rs h = refl

      further : (n : ℕ) (b' : Bool) (l' : List Passage) → Before (suc (i + n)) (course_from (suc i) b' ts l').ending
          → ((n : ℕ) → Before (suc (suc i + n)) (course_from (suc i) b' ts l').ending → get_or (course_from (suc i) b' ts l').requests n [] ≡ [])
          → get_or (requests c boarding not_yet i b t ts l ∷ (course_from (suc i) b' ts l').requests) n [] ≡ []
      further zero b' l' z rest = absurd (never (sym (ends_later c boarding not_yet to from some (suc i) b' ts l' z.at (omega (arith, z.before))) ∙ z.there))
      further (suc n) b' l' z rest = let same : suc (i + suc n) ≡ suc (suc i + n) = omega arith in rest n (rw same at z)
