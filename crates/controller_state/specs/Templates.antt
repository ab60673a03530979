-- The templates of an accepted book: what one is found as, and those from it on.
use Rattle.std.specs.Prelude.{ℕ, zero, suc, ◌-◌, ◌≤◌, ◌<◌, ◌≡◌, refl, Bool, true, false, List, [], ◌∷◌, ltb, length, get_or, drop, Ok, Err}
use Rattle.std.proofs.Common.{sym, ap, ◌∙◌, arith, drop_of_length-le, drop-cons}
use borrow.Author.Tests.{ltb-true, ltb-false, lt-ltb, le-ltb}
use Rattle.octets.specs.Part.{part_of}
use Rattle.book.specs.Contents.{Entry, InOrder, templates_of}
use Rattle.book.proofs.Laws.{templates_in_order, template_is, listed_is}
use Rattle.book.specs.Template.{refused, listed_of, template_of, start_of, Template}
use Rattle.book.specs.declared.answers.Template as template
use Rattle.controller_state.specs.Accepted.{Accepted}

-- what would stand past the end of a book
pub none : Entry
none = record { slot = 0; body = [] }

-- the templates from k on
pub left_from : (book : List Entry) (k : ℕ) → 1 ≤ k → k ≤ length book → drop (k - 1) book ≡ get_or book (k - 1) none ∷ drop k book
left_from book k some most =
    let inside : k - 1 < length book = omega arith in
    let behind : suc (k - 1) ≡ k = omega arith in
    drop-cons book (k - 1) none inside ∙ ap (λ (n : ℕ). get_or book (k - 1) none ∷ drop n book) behind

-- the bodies of a book
sized : (m : ℕ) (ts : List Entry) (i : ℕ) → InOrder m ts → i < length ts → (1 ≤ length (get_or ts i none).body) × (length (get_or ts i none).body ≤ 200)
sized m [] i o h = absurd (omega arith)
sized m (t ∷ ts) zero o h = (o.2, o.3)
sized m (t ∷ ts) (suc i) o h = sized (suc t.slot) ts i o.4 (omega arith)

module _ (s : List ℕ) (k : ℕ) (book : Accepted s) (some : 1 ≤ k) where
  past : length (templates_of s) < k → template_of s k ≡ refused 12
  unfolding template_of
  past h = simp (book, le-ltb _ _ some, lt-ltb _ _ h)

  -- template k, counted from 1
  abbrev the : Entry
  the = get_or (templates_of s) (k - 1) none

  there : k ≤ length (templates_of s) → template_of s k ≡ Ok (record { slot = the.slot; start = start_of s (k - 1); len = length the.body })
  there h =
      let i : suc (k - 1) ≡ k = omega arith in
      ap (template_of s) (sym i) ∙ (template_is s book none (k - 1) (omega arith)).is

  -- what is found is in the book, and is that template
  pub record Holds (x start len : ℕ) : Type 0 where
    pub most : k ≤ length (templates_of s)
    pub slot : x ≡ the.slot
    pub long : len ≡ length the.body
    pub part : part_of s start len ≡ the.body
    pub nonempty : 1 ≤ length the.body
    pub short : length the.body ≤ 200

  pub holds : {t : Template} {x start len : ℕ} → t ≡ listed_of s k → t ≡ Ok (record { slot = x; start = start; len = len }) → Holds x start len
  holds {t} {x} {start} {len} e l = by (ltb (length (templates_of s)) k) refl
    where
      by : (b : Bool) → ltb (length (templates_of s)) k ≡ b → Holds x start len
      by true g = let p = listed_is s book k ∙ past (ltb-true _ _ g) in absurd (let z : ◌≡◌ {A = ℕ} 0 1 = cc in omega arith)
      by false g =
          let most : k ≤ length (templates_of s) = ltb-false _ _ g in
          let inside : k - 1 < length (templates_of s) = omega arith in
          let f = template_is s book none (k - 1) inside in
          let found : template.Template = record { slot = x; start = start; len = len } in
          let own : template.Template = record { slot = the.slot; start = start_of s (k - 1); len = length the.body } in
          let same : ◌≡◌ {A = Template} (Ok found) (Ok own) = sym l ∙ e ∙ listed_is s book k ∙ there most in
          let is : found ≡ own = cc in
          let slot : x ≡ the.slot = ap (λ (t : template.Template). t.slot) is in
          let begins : start ≡ start_of s (k - 1) = ap (λ (t : template.Template). t.start) is in
          let long : len ≡ length the.body = ap (λ (t : template.Template). t.len) is in
          let z = sized 0 (templates_of s) (k - 1) (templates_in_order s book).0 inside in
          record {
            most = most;
            slot = slot;
            long = long;
            part = ap (λ (n : ℕ). part_of s n len) begins ∙ ap (part_of s (start_of s (k - 1))) long ∙ f.part;
            nonempty = z.0;
            short = z.1;
          }

  -- where none is found, none is left
  pub none_left : {t : Template} {r : ℕ} → t ≡ listed_of s k → t ≡ Err r → drop (k - 1) (templates_of s) ≡ []
  none_left e l = by (ltb (length (templates_of s)) k) refl
    where
      by : (b : Bool) → ltb (length (templates_of s)) k ≡ b → drop (k - 1) (templates_of s) ≡ []
      by true g = drop_of_length-le (templates_of s) {i = k - 1} (omega (arith, ltb-true (length (templates_of s)) k g))
      by false g = let p = listed_is s book k ∙ there (ltb-false _ _ g) in absurd (let z : ◌≡◌ {A = ℕ} 0 1 = cc in omega arith)

-- where one is found, it is left with those behind it
pub one_left : {s : List ℕ} {k : ℕ} {book : Accepted s} {some : 1 ≤ k} {x start len : ℕ} → Holds s k book some x start len
    → drop (k - 1) (templates_of s) ≡ get_or (templates_of s) (k - 1) none ∷ drop k (templates_of s)
one_left {s} {k} {some = some} h = left_from (templates_of s) k some h.most
