-- The class of the function code that stands behind SA is the class of the telegram that is read.
use Rattle.std.specs.Prelude.{Ok, Err}
use Prim.Native.Nat.{ℕ, ◌+◌, ◌-◌}
use mathlib.Core.Path.{◌≡◌, refl}
use mathlib.Core.List.{List}
use lib.ListN.{get_or}
use Rattle.function_code.specs.Code.{class_of}
use Rattle.fdl.specs.Telegram.{sap_length}
use Rattle.fdl.specs.Reading.{extension_of, with_source, source_of, with_destination, destination_of, with_class, classed_by, Extension}
use Rattle.fdl.specs.declared.telegram.Format.{Format}
use Rattle.fdl.specs.Sap.{Sap}

source_class :
    (e : Extension) (f : Format) (da sa fc : ℕ) (dsap : Sap) (start len : ℕ) →
    let r = with_source e f da sa fc dsap start len in
    with_class (class_of fc) r ≡ classed_by class_of r
source_class (Err r) f da sa fc dsap start len = refl
source_class (Ok ssap) f da sa fc dsap start len = refl

module _ (s : List ℕ) (f : Format) (at pdu : ℕ) where
  destination_class : (e : Extension) → let r = with_destination e s f at pdu in with_class (class_of (get_or s (at + 2) 0)) r ≡ classed_by class_of r
  unfolding source_of
  destination_class (Err r) = refl
  destination_class (Ok dsap) =
      source_class (extension_of s (get_or s (at + 1) 0) (at + 3 + sap_length dsap) (pdu - sap_length dsap)) f (get_or s at 0) (get_or s (at + 1) 0) (get_or s (at + 2) 0) dsap
      (at + 3 + sap_length dsap) (pdu - sap_length dsap)

  pub code_class : let r = destination_of s f at pdu in with_class (class_of (get_or s (at + 2) 0)) r ≡ classed_by class_of r
  unfolding destination_of
  code_class = destination_class (extension_of s (get_or s at 0) (at + 3) pdu)
