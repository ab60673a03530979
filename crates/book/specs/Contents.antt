-- What a book has: its templates, in their order, and what is found of each.
use Rattle.std.specs.Prelude.{◌≡◌, List, [], ◌∷◌, ◌++◌, ℕ, suc, ◌+◌, ◌≤◌, length, get_or, take, drop, Ok}
use Rattle.octets.specs.Part.{part_of}
use Rattle.book.specs.Table.{sum_of}
use Rattle.book.specs.Reading.{slots_of, lengths_of, bodies_of}
use Rattle.book.specs.Template.{start_of, template_of}
use Rattle.book.specs.Writing.{book_bytes}

-- a template: its slot and its body
pub record Entry : Type 0 where
  pub slot : ℕ
  pub body : List ℕ

-- ---- from bytes to templates

-- the bodies one after the other, each as long as its length says
abbrev pub templates_by : (slots lengths bodies : List ℕ) → List Entry
templates_by [] lengths bodies = []
templates_by (x ∷ slots) [] bodies = []
templates_by (x ∷ slots) (n ∷ lengths) bodies = record { slot = x; body = take n bodies } ∷ templates_by slots lengths (drop n bodies)

-- the templates of an accepted book
abbrev pub templates_of : List ℕ → List Entry
templates_of s = templates_by (slots_of s) (lengths_of s) (bodies_of s)

-- slots from m on, 0 to 15 and strictly rising; bodies of 1 to 200 bytes
abbrev pub InOrder : (m : ℕ) → List Entry → Type 0
InOrder m [] = Unit {0}
InOrder m (t ∷ ts) = (m ≤ t.slot) × (t.slot ≤ 15) × (1 ≤ length t.body) × (length t.body ≤ 200) × InOrder (suc t.slot) ts

-- ---- from templates to bytes

abbrev pub slots_in : List Entry → List ℕ
slots_in [] = []
slots_in (t ∷ ts) = t.slot ∷ slots_in ts

abbrev pub lengths_in : List Entry → List ℕ
lengths_in [] = []
lengths_in (t ∷ ts) = length t.body ∷ lengths_in ts

abbrev pub bodies_in : List Entry → List ℕ
bodies_in [] = []
bodies_in (t ∷ ts) = t.body ++ bodies_in ts

-- the bytes of a book
abbrev pub bytes_for : List Entry → List ℕ
bytes_for ts = book_bytes (slots_in ts) (lengths_in ts) (bodies_in ts)

-- ---- one template

-- the stretch of the bodies that template i has: behind those before it, as long as its length says
abbrev pub stretch_of : (lengths bodies : List ℕ) (i : ℕ) → List ℕ
stretch_of lengths bodies i = take (get_or lengths i 0) (drop (sum_of (take i lengths)) bodies)

-- template i, counted from 0, is found with this slot and this body
pub record Found (s : List ℕ) (i slot len : ℕ) (body : List ℕ) : Type 0 where
  pub is : template_of s (suc i) ≡ Ok (record { slot = slot; start = start_of s i; len = len })
  pub inside : start_of s i + len ≤ length s
  pub part : part_of s (start_of s i) len ≡ body
  pub long : length body ≡ len
