-- When an access point is found, and both ways between that and `extension_of`.
use Rattle.std.specs.Prelude.{◌≡◌, ℕ, ◌≤◌, ◌<◌, List, get_or, eqb, ltb, Ok, Err, Some, None}
use Rattle.std.proofs.Common.{subst, zero-le}
use native.Mathlib.Omega.{arith}
use borrow.Author.Tests.{lt-ltb, le-ltb, ne_eqb, ltb-true, ltb-false, eqb-false}
use Rattle.octets.proofs.Choice.{by_pick}
use Rattle.fdl.specs.Telegram.{sap_length}
use Rattle.fdl.specs.Reading.{extension_of, Extension}
use Rattle.fdl.specs.Sap.{Sap}

module _ (s : List ℕ) (address start len : ℕ) where
  pub data Extends : Sap → Type 0 where
    none : address < 128 → Extends None
    one : 128 ≤ address → 0 < len → get_or s start 0 ≤ 63 → Extends (Some (get_or s start 0))

  abbrev pub Found : Extension → Type 0
  Found (Ok sap) = Extends sap
  Found (Err r) = Unit

  pub found : Found (extension_of s address start len)
  unfolding extension_of
  found =
      by_pick Found (ltb address 128) (λ t. none (ltb-true address 128 t))
      (λ f. by_pick Found (eqb len 0) (λ _. tt)
      (λ g.
      let full : len ≡ 0 → ⊥ = eqb-false len 0 g in
      by_pick Found (ltb 63 (get_or s start 0)) (λ _. tt) (λ h. one (ltb-false address 128 f) (omega arith) (ltb-false 63 (get_or s start 0) h))))

  pub is_found : {sap : Sap} → extension_of s address start len ≡ Ok sap → Extends sap
  is_found e = subst Found e found

  pub reads_extension : {sap : Sap} → Extends sap → extension_of s address start len ≡ Ok sap
  unfolding extension_of
  reads_extension (none a) = simp (lt-ltb _ _ a)
  reads_extension (one a b c) =
      let full : len ≡ 0 → ⊥ = λ e. omega arith in
      simp (le-ltb _ _ a, ne_eqb _ _ full, le-ltb _ _ c)

  -- it lies within what is left of the PDU
  pub within : {sap : Sap} → Extends sap → sap_length sap ≤ len
  within (none a) = zero-le
  within (one a b c) = b
