-- `framing::write_token` meets its contract. The two tests are the verdict, and its three bytes are stored in turn.
use mathlib.Core.Path.{◌≡◌}
use native.Mathlib.Omega.{arith}
use lib.ListN.{length-set}
use borrow.Author.Tests.{le-leb, lt-leb}
use Rattle.octets.specs.Front.{fine}
use Rattle.octets.proofs.Front.{stores, refused, too_small, stored}
use Rattle.fdl.specs.Writing.{token_bytes, token_verdict}
use Rattle.framing.proofs.write_token.Goals as goal

pub returns-then-da-gt126 : goal.returns-then-da-gt126
unfolding token_verdict
returns-then-da-gt126 c =
    let a = c.args in
    let told = refused 12 (token_bytes a.da a.sa) a.out.now in
    record { answer = simp (lt-leb _ _ c.if-da-gt126.true) told.0; bytes = simp (lt-leb _ _ c.if-da-gt126.true) told.1 }

pub returns-then-sa-gt126 : goal.returns-then-sa-gt126
unfolding token_verdict
returns-then-sa-gt126 c =
    let a = c.args in
    let told = refused 12 (token_bytes a.da a.sa) a.out.now in
    record { answer = simp (le-leb _ _ c.if-da-gt126.false, lt-leb _ _ c.if-sa-gt126.true) told.0; bytes = simp (le-leb _ _ c.if-da-gt126.false, lt-leb _ _ c.if-sa-gt126.true) told.1 }

pub returns-then-out-lt3 : goal.returns-then-out-lt3
unfolding token_verdict
returns-then-out-lt3 c =
    let good : token_verdict c.args.da c.args.sa ≡ fine = simp (le-leb _ _ c.if-da-gt126.false, le-leb _ _ c.if-sa-gt126.false) in
    let a = c.args in
    let told = too_small (token_bytes a.da a.sa) a.out.now c.if-out-lt3.true in
    record { answer = rw good told.0; bytes = rw good told.1 }

pub bounds-out-1 : goal.bounds-out-1
bounds-out-1 c = simp length-set (omega arith)

pub returns : goal.returns
unfolding token_verdict
returns c =
    let good : token_verdict c.args.da c.args.sa ≡ fine = simp (le-leb _ _ c.if-da-gt126.false, le-leb _ _ c.if-sa-gt126.false) in
    let a = c.args in
    let told = stored c.if-out-lt3.false (stores (token_bytes a.da a.sa) a.out.now c.if-out-lt3.false) in
    record { answer = rw good told.0; bytes = rw good told.1 }
