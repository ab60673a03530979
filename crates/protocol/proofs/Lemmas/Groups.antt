-- Sendings put together again to requests, and requests to templates.
use Rattle.std.specs.Prelude.{ℕ, zero, suc, ◌≤◌, ◌<◌, Bool, true, false, List, [], ◌∷◌, ◌++◌, ◌≡◌, refl, length, get_or, take}
use Rattle.std.proofs.Common.{arith, eq-eqb, append-nil, append_assoc, sym, ap, ◌∙◌}
use Rattle.octets.specs.Choice.{◌or◌}
use Rattle.octets.proofs.Choice.{by_pick, never}
use Rattle.protocol.specs.Line.{Passage, Sending, passage_of, rest_of}
use Rattle.protocol.specs.Printer.{Ask, slave_diag, write, poll, unknown, undecodable}
use Rattle.protocol.specs.Course.{is_through, exchange, concat}
use Rattle.protocol.specs.Words.{any_of, bytes_agree, joined, requests_in, is_write_ask, is_opening_ask, asked_in, is_write, is_opening, first_is_write, by_template}

-- ---- tests over two lists in a row

or_or : (a b c : Bool) → (a or b or c) ≡ ((a or b) or c)
or_or true b c = refl
or_or false b c = refl

module _ {A : Type 0} (t : A → Bool) where
  pub any_append : (a b : List A) → any_of t (a ++ b) ≡ (any_of t a or any_of t b)
  any_append [] b = refl
  any_append (x ∷ a) b = rw (any_append a b) (or_or (t x) (any_of t a) (any_of t b))

pub concat_append : {A : Type 0} (l m : List (List A)) → concat (l ++ m) ≡ concat l ++ concat m
concat_append [] m = refl
concat_append (a ∷ l) m = rw (concat_append l m) (sym (append_assoc a (concat l) (concat m)))

-- what holds of each of them
abbrev pub Each : {A : Type 0} → (P : A → Type 0) → List A → Type 0
Each P [] = Unit {0}
Each P (a ∷ l) = P a × Each P l

pub each_append : {A : Type 0} (P : A → Type 0) (l m : List A) → Each P l → Each P m → Each P (l ++ m)
each_append P [] m h k = k
each_append P (a ∷ l) m h k = (h.0, each_append P l m h.1 k)

pub each_at : {A : Type 0} (P : A → Type 0) (l : List A) (d : A) → Each P l → (n : ℕ) → n < length l → P (get_or l n d)
each_at P [] d h n k = absurd (omega arith)
each_at P (a ∷ l) d h zero k = h.0
each_at P (a ∷ l) d h (suc n) k = each_at P l d h.1 n (omega arith)

-- ---- one request

-- each sending is of the bytes q
abbrev pub AllOf : (q : List ℕ) → List Sending → Type 0
AllOf q [] = Unit {0}
AllOf q (s ∷ l) = (s.request ≡ q) × AllOf q l

pub exchange_all : (n : ℕ) (q r : List ℕ) (l : List Passage) → AllOf q (exchange n q r l)
unfolding exchange
exchange_all zero q r l = (refl, tt)
exchange_all (suc n) q r l = by_pick (AllOf q) (is_through (passage_of l)) (λ t. (refl, tt)) (λ t. (refl, exchange_all n q r (rest_of l)))

pub take_all_of : (q : List ℕ) (v : ℕ) (l : List Sending) → AllOf q l → AllOf q (take v l)
take_all_of q zero l h = tt
take_all_of q (suc v) [] h = tt
take_all_of q (suc v) (s ∷ l) h = (h.0, take_all_of q v l h.1)

-- what follows is of other bytes at first
abbrev pub Apart : (q : List ℕ) → List Sending → Type 0
Apart q [] = Unit {0}
Apart q (s ∷ l) = bytes_agree q s.request ≡ false

pub apart_all : (q q' : List ℕ) (l : List Sending) → bytes_agree q q' ≡ false → AllOf q' l → Apart q l
apart_all q q' [] e h = tt
apart_all q q' (s ∷ l) e h = rw h.0 e

pub apart_append : (q : List ℕ) (l m : List Sending) → 1 ≤ length l → Apart q l → Apart q (l ++ m)
apart_append q [] m some h = absurd (omega arith)
apart_append q (s ∷ l) m some h = h

-- b is all the sendings of one request, before the rest
pub record Block (q : List ℕ) (b rest : List Sending) : Type 0 where
  pub some : 1 ≤ length b
  pub same : AllOf q b
  pub apart : Apart q rest

pub same_bytes_refl : (s : List ℕ) → bytes_agree s s ≡ true
same_bytes_refl [] = refl
same_bytes_refl (x ∷ s) = rw (eq-eqb x x refl) (same_bytes_refl s)

joined_apart : (s t : Sending) (rs : List (List Sending)) → bytes_agree s.request t.request ≡ false
    → joined s (joined t rs) ≡ (s ∷ []) ∷ joined t rs
joined_apart s t [] e = rw e
joined_apart s t ([] ∷ rs) e = rw e
joined_apart s t ((u ∷ r) ∷ rs) e =
    by_pick (λ l. joined s l ≡ (s ∷ []) ∷ l) (bytes_agree t.request u.request) (λ y. rw e) (λ n. rw e)

-- its last sending, and then those in front of it
before : (q : List ℕ) (s : Sending) (rest : List Sending) → s.request ≡ q → Apart q rest → requests_in (s ∷ rest) ≡ (s ∷ []) ∷ requests_in rest
unfolding requests_in
before q s [] e a = refl
before q s (t ∷ rest) e a = joined_apart s t (requests_in rest) (rw e a)

together : (q : List ℕ) (s : Sending) (l rest : List Sending) → s.request ≡ q → AllOf q l → Apart q rest
    → requests_in (s ∷ (l ++ rest)) ≡ (s ∷ l) ∷ requests_in rest
unfolding requests_in
together q s [] rest e h a = before q s rest e a
together q s (t ∷ l) rest e h a = rw (together q t l rest h.0 h.1 a, e, h.0, same_bytes_refl q)

pub block_in : (q : List ℕ) (b rest : List Sending) → Block q b rest → requests_in (b ++ rest) ≡ b ∷ requests_in rest
block_in q [] rest k = absurd (omega (arith, k.some))
block_in q (s ∷ l) rest k = together q s l rest k.same.0 k.same.1 k.apart

-- ---- many requests, and then t

abbrev pub Blocks : List (List Sending) → (t : List Sending) → Type 0
Blocks [] t = Unit {0}
Blocks (b ∷ rs) t = (q : List ℕ) × Block q b (concat rs ++ t) × Blocks rs t

pub blocks_in_lem : (rs : List (List Sending)) (t : List Sending) → Blocks rs t → requests_in (concat rs ++ t) ≡ rs ++ requests_in t
blocks_in_lem [] t h = refl
blocks_in_lem (b ∷ rs) t h =
    rw append_assoc (block_in h.0 b (concat rs ++ t) h.1 ∙ ap (λ l. b ∷ l) (blocks_in_lem rs t h.2))

pub blocks_alone : (rs : List (List Sending)) → Blocks rs [] → requests_in (concat rs) ≡ rs
unfolding requests_in
blocks_alone rs h = ap requests_in (sym (append-nil (concat rs))) ∙ blocks_in_lem rs [] h ∙ append-nil rs

-- ---- many templates

abbrev pub Polls : List (List Sending) → Type 0
Polls [] = Unit {0}
Polls (p ∷ ps) = (asked_in p ≡ poll) × Polls ps

-- a write and then polls
abbrev pub Template : List (List Sending) → Type 0
Template [] = ⊥
Template (w ∷ ps) = (is_write w ≡ true) × Polls ps

abbrev pub Templates : List (List (List Sending)) → Type 0
Templates [] = Unit {0}
Templates (g ∷ gs) = Template g × Templates gs

first_written : (gs : List (List (List Sending))) → Templates gs → first_is_write (concat gs) ≡ true
first_written [] h = refl
first_written ([] ∷ gs) h = absurd h.0
first_written ((w ∷ ps) ∷ gs) h = h.0.0

template_in : (r : List Sending) (ps rest : List (List Sending)) → Polls ps → first_is_write rest ≡ true
    → by_template (r ∷ (ps ++ rest)) ≡ (r ∷ ps) ∷ by_template rest
unfolding by_template
template_in r [] rest h e = rw e
template_in r (p ∷ ps) rest h e = rw (h.0, template_in p ps rest h.1 e)

pub templates_in_lem : (gs : List (List (List Sending))) → Templates gs → by_template (concat gs) ≡ gs
unfolding by_template
templates_in_lem [] h = refl
templates_in_lem ([] ∷ gs) h = absurd h.0
templates_in_lem ((w ∷ ps) ∷ gs) h =
    template_in w ps (concat gs) h.0.1 (first_written gs h.1) ∙ ap (λ l. (w ∷ ps) ∷ l) (templates_in_lem gs h.1)

-- none of them is an opening
writes_apart : (a : Ask) → is_write_ask a ≡ true → is_opening_ask a ≡ false
writes_apart slave_diag e = absurd (never e)
writes_apart (write slot index body) e = refl
writes_apart poll e = refl
writes_apart unknown e = refl
writes_apart undecodable e = refl

polls_apart : (ps : List (List Sending)) → Polls ps → any_of is_opening ps ≡ false
polls_apart [] h = refl
polls_apart (p ∷ ps) h = rw h.0 (polls_apart ps h.1)

pub no_openings : (gs : List (List (List Sending))) → Templates gs → any_of is_opening (concat gs) ≡ false
no_openings [] h = refl
no_openings ([] ∷ gs) h = absurd h.0
no_openings ((w ∷ ps) ∷ gs) h =
    any_append is_opening (w ∷ ps) (concat gs)
    ∙ rw (writes_apart (asked_in w) h.0.0, polls_apart ps h.0.1) (no_openings gs h.1)
