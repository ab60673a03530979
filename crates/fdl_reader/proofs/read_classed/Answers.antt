-- `fdl_reader::read_classed` meets its contract, by what the leading bytes say.
use mathlib.Core.Path.{◌≡◌, sym, ap, ◌∙◌, subst}
use Rattle.std.specs.Prelude.{List, Ok}
use Prim.Native.Nat.{ℕ, ◌≤◌}
use native.Mathlib.Omega.{arith}
use Rattle.function_code.specs.Code.{class_of}
use Rattle.fdl.specs.Reading.{framed_of, read_of, classed_by}
use Rattle.fdl.specs.declared.telegram.Format.{Format}
use Rattle.fdl.specs.declared.telegram.Format.TheVariants.{Sd1, Sd2, Sd3}
use Rattle.fdl_leading.specs.Leading.{place_of, leading_of, Leads, Leading}
use Rattle.fdl_leading.proofs.LeadingLaws.{leads}
use Rattle.octets.proofs.Refusals.{handed_on}
use Rattle.fdl_reader.proofs.read_classed.Goals as goal

near : (f : Format) → place_of f ≤ 4
near Sd1 = omega arith
near Sd2 = omega arith
near Sd3 = omega arith

led : (s : List ℕ) {x : Leading} → x ≡ leading_of s → Leads s (read_of s) x
led s e = subst (Leads s (read_of s)) (sym e) (leads s)

-- what the leading bytes were found to be
pub framed-requires : goal.framed-requires
framed-requires c =
    (omega (arith, c.place_of.ensures, near c.in-Framed.format), (led _ (ap Ok (sym c.in-Framed.is) ∙ c.in_ok-leading.ensures)).1)

pub returns-in-Framed : goal.returns-in-Framed
returns-in-Framed c =
    let g = c.in-Framed in
    c.framed.ensures
    ∙ ap (λ (at : ℕ). classed_by class_of (framed_of class_of c.args.bytes.now g.format at g.pdu)) c.place_of.ensures
    ∙ ap (classed_by class_of) (led _ (ap Ok (sym g.is) ∙ c.in_ok-leading.ensures)).0

pub returns-in-Token : goal.returns-in-Token
returns-in-Token c = c.token.ensures ∙ ap (classed_by class_of) (led _ (ap Ok (sym c.in-Token.is) ∙ c.in_ok-leading.ensures))

pub returns-in-Confirmation : goal.returns-in-Confirmation
returns-in-Confirmation c = ap (classed_by class_of) (led _ (ap Ok (sym c.in-Confirmation.is) ∙ c.in_ok-leading.ensures))

pub returns-in_err-leading : goal.returns-in_err-leading
returns-in_err-leading c = handed_on _ _ c.from_residual.ensures ∙ ap (classed_by class_of) (led _ c.in_err-leading.ensures)
