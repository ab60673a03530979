-- `parameters_writer::writing::write` meets its contract. The tests are the verdict, and what is added up is the length of the bytes.
use mathlib.Core.Path.{◌≡◌, sym, ap, ◌∙◌}
use mathlib.Core.List.{List}
use Prim.Native.Nat.{ℕ, ◌+◌, ◌≤◌}
use native.Mathlib.Omega.{arith}
use lib.ListN.{length}
use borrow.Author.Tests.{le-ltb}
use Rattle.octets.specs.Front.{Verdict, fine, fault}
use Rattle.octets.proofs.Front.{refused, too_small, stored}
use Rattle.parameters.specs.Fields.{fixed_length, extension_verdict, verdict_of}
use Rattle.parameters.specs.Writing.{bytes_for, user_start, verdict_for}
use Rattle.parameters.proofs.Lemmas.Fields.{bytes_length, extension_verdict_lem}
use Rattle.parameters_writer.proofs.writing.write.Goals as goal

pub returns-then-not-good_extension : goal.returns-then-not-good_extension
unfolding verdict_of
returns-then-not-good_extension c =
    let bytes_at : List ℕ = bytes_for c.args.fields c.args.user.now in
    let verdict_at : Verdict = verdict_for c.args.fields c.args.user.now in
    let start : c.fixed_length.result ≡ user_start c.args.fields = c.fixed_length.ensures ∙ ap fixed_length c.mode_of.ensures in
    let small : let a = c.args in user_start a.fields + length a.user.now ≤ 244 = omega (arith, start) in
    let rest : verdict_at ≡ extension_verdict c.args.fields.extension = let e2 = c in
    simp (
      le-ltb _ _ small,
      sym e2.good_flags.ensures ∙ e2.if-not-good_flags.false,
      sym c.good_response.ensures ∙ c.if-not-good_response.false,
    ) in
    let v : verdict_at ≡ fault 21 = rest ∙ extension_verdict_lem _ ∙ simp (sym c.good_extension.ensures ∙ c.if-not-good_extension.true) in
    record { answer = rw v (refused 21 bytes_at c.args.out.now).0; bytes = rw v (refused 21 bytes_at c.args.out.now).1 }

pub returns-then-out-size : goal.returns-then-out-size
unfolding verdict_of
returns-then-out-size c =
    let bytes_at : List ℕ = bytes_for c.args.fields c.args.user.now in
    let start : c.fixed_length.result ≡ user_start c.args.fields = c.fixed_length.ensures ∙ ap fixed_length c.mode_of.ensures in
    let total : length bytes_at ≡ c.fixed_length.result + length c.args.user.now = omega (arith, bytes_length c.args.fields c.args.user.now, start) in
    let verdict_at : Verdict = verdict_for c.args.fields c.args.user.now in
    let small : let a = c.args in user_start a.fields + length a.user.now ≤ 244 = omega (arith, start) in
    let rest : verdict_at ≡ extension_verdict c.args.fields.extension = let e2 = c in
    simp (
      le-ltb _ _ small,
      sym e2.good_flags.ensures ∙ e2.if-not-good_flags.false,
      sym c.good_response.ensures ∙ c.if-not-good_response.false,
    ) in
    let verdict : verdict_at ≡ fine = rest ∙ extension_verdict_lem _ ∙ simp (sym c.good_extension.ensures ∙ c.if-not-good_extension.false) in
    record { answer = rw verdict (too_small bytes_at c.args.out.now (omega (arith, total))).0; bytes = rw verdict (too_small bytes_at c.args.out.now (omega (arith, total))).1 }

pub returns : goal.returns
unfolding verdict_of
returns c =
    let verdict_at : Verdict = verdict_for c.args.fields c.args.user.now in
    let start : c.fixed_length.result ≡ user_start c.args.fields = c.fixed_length.ensures ∙ ap fixed_length c.mode_of.ensures in
    let small : let a = c.args in user_start a.fields + length a.user.now ≤ 244 = omega (arith, start) in
    let rest : verdict_at ≡ extension_verdict c.args.fields.extension = let e2 = c in
    simp (
      le-ltb _ _ small,
      sym e2.good_flags.ensures ∙ e2.if-not-good_flags.false,
      sym c.good_response.ensures ∙ c.if-not-good_response.false,
    ) in
    let verdict : verdict_at ≡ fine = rest ∙ extension_verdict_lem _ ∙ simp (sym c.good_extension.ensures ∙ c.if-not-good_extension.false) in
    let bytes_at : List ℕ = bytes_for c.args.fields c.args.user.now in
    let total : length bytes_at ≡ c.fixed_length.result + length c.args.user.now = omega (arith, bytes_length c.args.fields c.args.user.now, start) in
    let room : length bytes_at ≤ length c.args.out.now = omega (arith, total) in
    record { answer = rw verdict (stored room c.put.ensures).0; bytes = rw verdict (stored room c.put.ensures).1 }
