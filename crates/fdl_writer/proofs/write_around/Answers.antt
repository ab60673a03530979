-- `fdl_writer::write_around` meets its contract. The test of the fields is the verdict, and what is added up is the
-- length of the telegram.
use mathlib.Core.Path.{◌≡◌, sym, ap, ap₂, ◌∙◌}
use mathlib.Core.List.{List}
use Prim.Native.Nat.{ℕ, ◌+◌, ◌-◌}
use native.Mathlib.Omega.{arith}
use lib.ListN.{length, take, drop}
use Rattle.octets.proofs.Front.{refused, too_small, stored}
use Rattle.fdl.specs.Telegram.{checksum_of}
use Rattle.fdl.specs.Writing.{telegram_of}
use Rattle.fdl.specs.Around.{user_in}
use Rattle.fdl.proofs.Around.{user_length, user_inside}
use Rattle.fdl.proofs.Lemmas.Around.{Fit, fit, unfit}
use Rattle.fdl_writer.proofs.write_around.Goals as goal

pub returns-then-not-writable : goal.returns-then-not-writable
returns-then-not-writable c =
    let user_at : List ℕ = user_in c.args.format c.args.header c.args.len c.args.out.now in
    let bytes_at : List ℕ = telegram_of c.args.format c.args.header user_at in
    let counted : length user_at ≡ c.args.len = user_length c.args.format c.args.header c.args.len c.args.out.now in
    let a = c.args in
    let bad = sym c.writable.ensures ∙ c.if-not-writable.true in
    let told = (refused 12 bytes_at a.out.now) in
    record { answer = rw (unfit a.format a.header user_at counted bad) told.0; bytes = rw (unfit a.format a.header user_at counted bad) told.1 }

pub overflow_add-place : goal.overflow_add-place
overflow_add-place c =
    let user_at : List ℕ = user_in c.args.format c.args.header c.args.len c.args.out.now in
    let counted : length user_at ≡ c.args.len = user_length c.args.format c.args.header c.args.len c.args.out.now in
    let fitting : Fit c.args.format c.args.header user_at c.args.len =
    fit c.args.format c.args.header user_at counted (sym c.writable.ensures ∙ c.if-not-writable.false) in
    omega (arith, fitting.most)

pub overflow_add-place-2 : goal.overflow_add-place-2
overflow_add-place-2 c =
    let user_at : List ℕ = user_in c.args.format c.args.header c.args.len c.args.out.now in
    let counted : length user_at ≡ c.args.len = user_length c.args.format c.args.header c.args.len c.args.out.now in
    let fitting : Fit c.args.format c.args.header user_at c.args.len =
    fit c.args.format c.args.header user_at counted (sym c.writable.ensures ∙ c.if-not-writable.false) in
    omega (arith, fitting.most)

pub returns-then-out-place : goal.returns-then-out-place
returns-then-out-place c =
    let user_at : List ℕ = user_in c.args.format c.args.header c.args.len c.args.out.now in
    let bytes_at : List ℕ = telegram_of c.args.format c.args.header user_at in
    let counted : length user_at ≡ c.args.len = user_length c.args.format c.args.header c.args.len c.args.out.now in
    let fitting : Fit c.args.format c.args.header user_at c.args.len =
    fit c.args.format c.args.header user_at counted (sym c.writable.ensures ∙ c.if-not-writable.false) in
    let told = (too_small bytes_at c.args.out.now (omega (arith, fitting.total))) in
    record { answer = rw fitting.verdict told.0; bytes = rw fitting.verdict told.1 }

pub overflow_add-place-3 : goal.overflow_add-place-3
overflow_add-place-3 c =
    let user_at : List ℕ = user_in c.args.format c.args.header c.args.len c.args.out.now in
    let counted : length user_at ≡ c.args.len = user_length c.args.format c.args.header c.args.len c.args.out.now in
    let fitting : Fit c.args.format c.args.header user_at c.args.len =
    fit c.args.format c.args.header user_at counted (sym c.writable.ensures ∙ c.if-not-writable.false) in
    omega (arith, fitting.most)

pub put_around-requires : goal.put_around-requires
put_around-requires c =
    let user_at : List ℕ = user_in c.args.format c.args.header c.args.len c.args.out.now in
    let counted : length user_at ≡ c.args.len = user_length c.args.format c.args.header c.args.len c.args.out.now in
    let fitting : Fit c.args.format c.args.header user_at c.args.len =
    fit c.args.format c.args.header user_at counted (sym c.writable.ensures ∙ c.if-not-writable.false) in
    let a = c.args in
    let place = c.user_start-place.result in
    let g = fitting in
    let long : place + a.len - place ≡ a.len = omega arith in
    let user =
    ap₂ (λ (n c : ℕ). take n (drop c a.out.now)) long c.user_start-place.ensures
    ∙ sym (user_inside a.format a.header a.len a.out.now (omega arith))
    in
    (g.header.da, g.header.sa, g.core, omega arith, c.checksum-sum.ensures ∙ ap checksum_of user)

pub returns : goal.returns
returns c =
    let user_at : List ℕ = user_in c.args.format c.args.header c.args.len c.args.out.now in
    let counted : length user_at ≡ c.args.len = user_length c.args.format c.args.header c.args.len c.args.out.now in
    let fitting : Fit c.args.format c.args.header user_at c.args.len =
    fit c.args.format c.args.header user_at counted (sym c.writable.ensures ∙ c.if-not-writable.false) in
    let told = (stored (omega (arith, fitting.total)) c.put_around.ensures) in
    record { answer = rw fitting.verdict told.0; bytes = rw fitting.verdict told.1 }
