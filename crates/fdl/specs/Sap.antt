-- A service access point (SAP), where the address has the bit that says that one follows.
use Rattle.std.specs.Prelude.{ℕ, Option}

abbrev pub Sap : Type 0
Sap = Option ℕ
