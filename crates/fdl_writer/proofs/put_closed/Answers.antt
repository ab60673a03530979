-- `fdl_writer::put_closed` meets its contract. The user data behind the head stand as they were, so both are the core,
-- and both checksums make the core's.
use mathlib.Core.Path.{◌≡◌, sym, ap, ap₂, ◌∙◌, subst}
use mathlib.Core.List.{List, [], ◌∷◌}
use Prim.Native.Nat.{ℕ, ◌+◌, ◌%◌, ◌≤◌}
use native.Mathlib.Omega.{arith}
use lib.ListN.{length, take, drop, length-append}
use Rattle.octets.specs.Front.{AtFront}
use Rattle.octets.proofs.Front.{front, within, behind, kept}
use Rattle.fdl.specs.declared.telegram.Header.{Header}
use Rattle.fdl.specs.Telegram.{checksum_of}
use Rattle.fdl.specs.Writing.{core_of, end_bytes}
use Rattle.fdl.specs.Around.{head_bytes}
use Rattle.fdl.proofs.Lemmas.Around.{head_core, core_checksum}
use Rattle.fdl_writer.proofs.put_closed.Goals as goal

-- where the head was stored, the core stands
cored :
    (h : Header) (len : ℕ) (out : List ℕ) {a : List ℕ} {n : ℕ} → length (head_bytes h) + len ≤ length out →
    AtFront (head_bytes h) out a n → AtFront (core_of h (take len (drop (length (head_bytes h)) out))) out a (n + len)
cored h len out {a} {n} k f =
    subst (λ (p : List ℕ). AtFront p out a (n + len)) (sym (head_core h (take len (drop (length (head_bytes h)) out)))) (kept f len k)

pub put_head-requires : goal.put_head-requires
put_head-requires c = (c.requires.0, c.requires.1, omega arith)

pub put_end-requires : goal.put_end-requires
put_end-requires c =
    let a = c.args in
    let core : List ℕ = core_of a.header (take a.len (drop (length (head_bytes a.header)) a.out.now)) in
    let g = cored a.header a.len a.out.now (omega (arith, c.requires.3)) c.put_head.ensures in
    let end = end_bytes core in
    let room = within g end (omega (arith, g.counted, length-append core end)) in
    (omega arith, omega (arith, room))

pub returns : goal.returns
returns c =
    let a = c.args in
    let user : List ℕ = take a.len (drop (length (head_bytes a.header)) a.out.now) in
    let core : List ℕ = core_of a.header user in
    let fcs : ℕ = (c.head_sum.result + a.sum) % 256 in
    let e : fcs ≡ checksum_of core =
    ap₂ (λ (x y : ℕ). (x + y) % 256) c.head_sum.ensures c.requires.4 ∙ sym (core_checksum a.header user) in
    let closing : fcs ∷ 0x16 ∷ [] ≡ end_bytes core = ap (λ (x : ℕ). x ∷ 0x16 ∷ []) e in
    let g = cored a.header a.len a.out.now (omega (arith, c.requires.3)) c.put_head.ensures in
    behind g (end_bytes core) (rw (front g, closing) at c.put_end.ensures)
