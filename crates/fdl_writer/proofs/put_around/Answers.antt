-- `fdl_writer::put_around` meets its contract. Two stores: DA to the end byte behind the start, whose length byte is le.
use mathlib.Core.Path.{◌≡◌}
use mathlib.Core.List.{List, ◌++◌}
use Prim.Native.Nat.{ℕ, ◌+◌, ◌≤◌}
use native.Mathlib.Omega.{arith}
use lib.ListN.{length, take, drop, length-append}
use Rattle.octets.proofs.Front.{first_fits, within, rest_fits, both, lent_rest}
use Rattle.fdl.specs.declared.telegram.Format.{Format}
use Rattle.fdl.specs.declared.telegram.Header.{Header}
use Rattle.fdl.specs.Writing.{start_bytes, core_of, end_bytes, closed_of, user_start, telegram_of}
use Rattle.fdl.specs.Around.{user_in, head_bytes}
use Rattle.fdl.proofs.Around.{user_length}
use Rattle.fdl.proofs.Lemmas.Fields.{core_length}
use Rattle.fdl.proofs.Lemmas.Around.{head_length, around_length, user_behind}
use Rattle.fdl_writer.proofs.put_around.Goals as goal

-- the telegram around the user data, with its length byte
whole :
    (f : Format) (h : Header) (user : List ℕ) {len le : ℕ} → length user ≡ len → le ≡ length (head_bytes h) + len →
    telegram_of f h user ≡ start_bytes f le ++ closed_of (core_of h user)
unfolding telegram_of
whole f h user {len} {le} counted e =
    let g : length (core_of h user) ≡ le = omega (arith, core_length h user, head_length h) in
    rw g

room :
    (f : Format) (h : Header) (user out : List ℕ) {len le : ℕ} → length user ≡ len → le ≡ length (head_bytes h) + len →
    user_start f h + len + 2 ≤ length out →
    length (start_bytes f le ++ closed_of (core_of h user)) ≤ length out
room f h user out {len} {le} counted e k =
    let fits : length (telegram_of f h user) ≤ length out = omega (arith, around_length f h user counted, k) in
    rw (whole f h user counted e) at fits

pub length_byte-le-requires : goal.length_byte-le-requires
length_byte-le-requires c = c.requires.2

pub put_start-n-requires : goal.put_start-n-requires
put_start-n-requires c =
    let a = c.args in
    let user : List ℕ = user_in a.format a.header a.len a.out.now in
    let counted : length user ≡ a.len = user_length a.format a.header a.len a.out.now in
    first_fits (start_bytes a.format c.length_byte-le.result) (closed_of (core_of a.header user))
    (room a.format a.header user a.out.now counted c.length_byte-le.ensures c.requires.3)

pub slice_bounds-put_closed-count : goal.slice_bounds-put_closed-count
slice_bounds-put_closed-count c =
    let a = c.args in
    let user : List ℕ = user_in a.format a.header a.len a.out.now in
    let counted : length user ≡ a.len = user_length a.format a.header a.len a.out.now in
    let fits = room a.format a.header user a.out.now counted c.length_byte-le.ensures c.requires.3 in
    omega (arith, within c.put_start-n.ensures (closed_of (core_of a.header user)) fits)

pub slice_bounds-put_closed-start : goal.slice_bounds-put_closed-start
slice_bounds-put_closed-start c = slice_bounds-put_closed-count c

pub put_closed-requires : goal.put_closed-requires
put_closed-requires c =
    let a = c.args in
    let le : ℕ = c.length_byte-le.result in
    let user : List ℕ = user_in a.format a.header a.len a.out.now in
    let core : List ℕ = core_of a.header user in
    let counted : length user ≡ a.len = user_length a.format a.header a.len a.out.now in
    let fits = room a.format a.header user a.out.now counted c.length_byte-le.ensures c.requires.3 in
    let behind : take a.len (drop (length (head_bytes a.header)) (drop (length (start_bytes a.format le)) a.out.now)) ≡ user =
    user_behind a.format a.header a.len le a.out.now (omega (arith, c.requires.3)) in
    let left = rest_fits c.put_start-n.ensures (closed_of core) fits in
    let sum = rw (← behind, ← lent_rest c.put_start-n.ensures) at c.requires.4 in
    let cored : length core ≡ le = omega (arith, core_length a.header user, head_length a.header) in
    (c.requires.0, c.requires.1, c.requires.2, omega (arith, left, length-append core (end_bytes core)), sum)

pub returns : goal.returns
returns c =
    let a = c.args in
    let le : ℕ = c.length_byte-le.result in
    let user : List ℕ = user_in a.format a.header a.len a.out.now in
    let counted : length user ≡ a.len = user_length a.format a.header a.len a.out.now in
    let behind : take a.len (drop (length (head_bytes a.header)) (drop (length (start_bytes a.format le)) a.out.now)) ≡ user =
    user_behind a.format a.header a.len le a.out.now (omega (arith, c.requires.3)) in
    let start = c.put_start-n.ensures in
    rw (whole a.format a.header user counted c.length_byte-le.ensures, ← behind, ← lent_rest start) (both start c.put_closed.ensures)

pub overflow_add-result : goal.overflow_add-result
overflow_add-result c =
    let a = c.args in
    let user : List ℕ = user_in a.format a.header a.len a.out.now in
    let counted : length user ≡ a.len = user_length a.format a.header a.len a.out.now in
    let fits : length (telegram_of a.format a.header user) ≤ length a.out.now =
    omega (arith, around_length a.format a.header user counted, c.requires.3) in
    omega (arith, (returns c).counted, fits)
