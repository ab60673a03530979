-- `fdl_writer::write` meets its contract. The test of the fields is the verdict, what is added up is the length of the
-- telegram, and the telegram is made around the user data, which it covers.
use mathlib.Core.Path.{refl, sym, ap, ◌∙◌}
use mathlib.Core.List.{List}
use Prim.Native.Nat.{ℕ}
use native.Mathlib.Omega.{arith}
use lib.ListN.{length}
use Rattle.octets.proofs.Front.{refused, too_small, stored, covered}
use Rattle.fdl.specs.Telegram.{checksum_of}
use Rattle.fdl.specs.Writing.{telegram_of}
use Rattle.fdl.proofs.Lemmas.Around.{Fit, fit, unfit, user_held}
use Rattle.fdl_writer.proofs.write.Goals as goal

pub returns-then-not-writable : goal.returns-then-not-writable
returns-then-not-writable c =
    let user_at : List ℕ = c.args.user.now in
    let bytes_at : List ℕ = telegram_of c.args.format c.args.header user_at in
    let a = c.args in
    let bad = sym c.writable.ensures ∙ c.if-not-writable.true in
    let told = (refused 12 bytes_at a.out.now) in
    record { answer = rw (unfit a.format a.header user_at refl bad) told.0; bytes = rw (unfit a.format a.header user_at refl bad) told.1 }

pub overflow_add-start : goal.overflow_add-start
overflow_add-start c =
    let user_at : List ℕ = c.args.user.now in
    let len_at : ℕ = length user_at in
    let fitting : Fit c.args.format c.args.header user_at len_at =
    fit c.args.format c.args.header user_at refl (sym c.writable.ensures ∙ c.if-not-writable.false) in
    omega (arith, fitting.most)

pub overflow_add-start-2 : goal.overflow_add-start-2
overflow_add-start-2 c =
    let user_at : List ℕ = c.args.user.now in
    let len_at : ℕ = length user_at in
    let fitting : Fit c.args.format c.args.header user_at len_at =
    fit c.args.format c.args.header user_at refl (sym c.writable.ensures ∙ c.if-not-writable.false) in
    omega (arith, fitting.most)

pub returns-then-out-start : goal.returns-then-out-start
returns-then-out-start c =
    let user_at : List ℕ = c.args.user.now in
    let bytes_at : List ℕ = telegram_of c.args.format c.args.header user_at in
    let len_at : ℕ = length user_at in
    let fitting : Fit c.args.format c.args.header user_at len_at =
    fit c.args.format c.args.header user_at refl (sym c.writable.ensures ∙ c.if-not-writable.false) in
    let told = (too_small bytes_at c.args.out.now (omega (arith, fitting.total))) in
    record { answer = rw fitting.verdict told.0; bytes = rw fitting.verdict told.1 }

pub put_around-requires : goal.put_around-requires
put_around-requires c =
    let user_at : List ℕ = c.args.user.now in
    let len_at : ℕ = length user_at in
    let fitting : Fit c.args.format c.args.header user_at len_at =
    fit c.args.format c.args.header user_at refl (sym c.writable.ensures ∙ c.if-not-writable.false) in
    let a = c.args in
    let g = fitting in
    let held = c.store_behind.ensures.bytes in
    let user = user_held a.format a.header c.user_start-start.result user_at a.out.now c.user_start-start.ensures (omega arith) held in
    (g.header.da, g.header.sa, g.core, omega arith, c.checksum-sum.ensures ∙ ap checksum_of (sym user))

pub returns : goal.returns
returns c =
    let user_at : List ℕ = c.args.user.now in
    let len_at : ℕ = length user_at in
    let fitting : Fit c.args.format c.args.header user_at len_at =
    fit c.args.format c.args.header user_at refl (sym c.writable.ensures ∙ c.if-not-writable.false) in
    let a = c.args in
    let g = fitting in
    let start = c.user_start-start.result in
    let held = c.store_behind.ensures.bytes in
    let user = user_held a.format a.header start user_at a.out.now c.user_start-start.ensures (omega arith) held in
    let made = covered start user_at a.out.now (omega arith) (omega (arith, g.total)) held (rw user at c.put_around.ensures) in
    let told = (stored (omega (arith, g.total)) made) in
    record { answer = rw g.verdict told.0; bytes = rw g.verdict told.1 }
