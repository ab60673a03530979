-- `fdl_reader::fields` meets its contract: what it hands on is what the definition says with the class it has looked up.
use denote.Enum.Bare.{sameb}
use mathlib.Core.Path.{◌≡◌, refl, sym, ap, ◌∙◌}
use Prim.Native.Nat.{◌+◌}
use lib.ListN.{get_or}
use Rattle.function_code.specs.Code.{class_of, is_reserved}
use Rattle.function_code.specs.declared.code.Class.{Class}
use Rattle.function_code.specs.declared.code.Class.TheVariants.{Opening, Counted, Uncounted, Bare, Data, Reserved}
use Rattle.function_code.specs.contracts.code.Class.{the_type}
use Rattle.fdl.specs.Reading.{destination_of, fields_of, with_class}
use Rattle.fdl_reader.proofs.Classes.{code_class}
use borrow.Author.Tests.{ne_eqb}
use Rattle.fdl_reader.proofs.fields.Goals as goal

-- the test for the reserved class is the definition's
same : (k : Class) → sameb the_type k Reserved ≡ is_reserved k
same Opening = refl
same Counted = refl
same Uncounted = refl
same Bare = refl
same Data = refl
same Reserved = refl

pub returns : goal.returns
unfolding fields_of
returns c =
    let told : let a = c.args in is_reserved (class_of (get_or a.s.now (a.at + 2) 0)) ≡ c.eq.result =
    ap is_reserved (sym c.class_of-class.ensures) ∙ sym (c.eq.ensures ∙ same c.class_of-class.result) in
    let a = c.args in
    simp (ne_eqb _ _ c.if-sa-eq127.false, told ∙ c.if-eq.false)
    (c.destination.ensures ∙ ap (λ (x : Class). with_class x (destination_of a.s.now a.format a.at a.pdu)) c.class_of-class.ensures
    ∙ code_class a.s.now a.format a.at a.pdu)
