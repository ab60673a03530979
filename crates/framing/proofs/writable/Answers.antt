-- `framing::writable` meets its contract. Where the user data alone are too long for a PDU, so is the PDU.
use mathlib.Core.Path.{◌≡◌, sym, ap, ◌∙◌}
use mathlib.Core.Bool.{true}
use Prim.Native.Nat.{ℕ, ◌+◌}
use native.Mathlib.Omega.{arith}
use Rattle.function_code.specs.Code.{class_of}
use Rattle.fdl.specs.Telegram.{sap_length}
use Rattle.fdl.specs.Writing.{good_header, good_length}
use Rattle.fdl.proofs.Lemmas.Fields.{sap_small, pdu_large}
use Rattle.framing.proofs.writable.Goals as goal

pub returns-then-not-good_header : goal.returns-then-not-good_header
returns-then-not-good_header c = simp (sym c.good_header.ensures ∙ c.if-not-good_header.true)

pub returns-then-len-gt246 : goal.returns-then-len-gt246
returns-then-len-gt246 c =
    let pdu_at : ℕ = sap_length c.args.header.dsap + sap_length c.args.header.ssap + c.args.len in
    let header : good_header class_of c.args.header ≡ true = sym c.good_header.ensures ∙ c.if-not-good_header.false in
    simp (header, pdu_large c.args.format pdu_at (omega arith))

pub overflow_add-saps_length : goal.overflow_add-saps_length
overflow_add-saps_length c =
    let h = c.args.header in
    omega (arith, sap_small h.dsap, sap_small h.ssap)

pub returns : goal.returns
returns c =
    let header : good_header class_of c.args.header ≡ true = sym c.good_header.ensures ∙ c.if-not-good_header.false in
    simp header
    (c.good_length.ensures ∙ ap (λ (k : ℕ). good_length c.args.format (k + c.args.len)) c.saps_length.ensures)
