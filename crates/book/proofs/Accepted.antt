-- Which bytes are accepted as a book (document 01, "A book"): exactly the count, the table and the bodies of templates in order.
use Rattle.std.specs.Prelude.{◌≡◌, refl, List, [], ◌∷◌, ◌↔◌, ℕ, ◌≤◌, length, Ok}
use Rattle.std.proofs.Common.{sym, ap, ◌∙◌, arith}
use Rattle.book.specs.Table.{good_pair, pair_of, table_of}
use Rattle.book.specs.Reading.{bodies_by, read_of}
use Rattle.book.specs.Contents.{Entry, templates_of, InOrder, bytes_for}
use Rattle.book.proofs.Laws.{templates_in_order, book_bytes_lem, bytes_again}

-- n templates, 1 to 16, with slots of 0..15 that rise strictly and bodies of 1 to 200 bytes
pub record BookBytes (s : List ℕ) (n : ℕ) : Type 0 where
  pub templates : List Entry
  pub order : InOrder 0 templates
  pub count : length templates ≡ n
  pub some : 1 ≤ n
  pub most : n ≤ 16
  pub bytes : bytes_for templates ≡ s

module _ (s : List ℕ) (n : ℕ) where
  read_bytes : read_of s ≡ Ok n → BookBytes s n
  read_bytes e =
      let t = templates_in_order s e in
      record { templates = templates_of s; order = t.0; count = t.1; some = t.2; most = t.3; bytes = bytes_again s e }

  bytes_read : BookBytes s n → read_of s ≡ Ok n
  bytes_read b =
      let e = b.count in
      ap read_of (sym b.bytes) ∙ (book_bytes_lem b.templates b.order (omega (arith, b.some)) (omega (arith, b.most))).0 ∙ ap Ok e

  -- Read as a book of n templates exactly when it is the bytes of n templates in order.
  pub book_accepted : read_of s ≡ Ok n ↔ BookBytes s n
  book_accepted = (read_bytes, bytes_read)

-- Document 01's worked book.
pub book_computed : read_of (1 ∷ 7 ∷ 3 ∷ 65 ∷ 66 ∷ 67 ∷ []) ≡ Ok 1
unfolding read_of bodies_by table_of pair_of good_pair
book_computed = refl
