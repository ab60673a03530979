-- Writing a telegram around user data that stand in their place already.
use Rattle.std.specs.Prelude.{ℕ, ◌+◌, ◌≤◌, ◌<◌, ◌≡◌, Bool, true, false, List, [], ◌++◌, length, take, drop, replicate}
use Rattle.std.proofs.Math.Path.{refl}
use Rattle.std.proofs.Common.{ap, ◌∙◌, append_assoc, arith, length-append, length-take-le, drop_at}
use Rattle.std.proofs.Math.ListN.{length-drop}
use Rattle.std.proofs.lemmas.List.{length-replicate}
use Rattle.std.proofs.Math.Seq.{take-append-le, take-append_seam}
use Rattle.octets.specs.Choice.{◌and◌}
use Rattle.function_code.specs.Code.{class_of}
use Rattle.fdl.specs.Telegram.{sap_length}
use Rattle.fdl.specs.Writing.{user_start, good_header}
use Rattle.fdl.proofs.Lemmas.Fields.{pdu_large}
use Rattle.fdl.specs.declared.telegram.Format.{Format}
use Rattle.fdl.specs.declared.telegram.Header.{Header}
use Rattle.fdl.specs.Around.{user_in, good_fields}

-- ---- laws
and_false : (b : Bool) → (b and false) ≡ false
and_false true = refl
and_false false = refl

-- More bytes of user data than a PDU has are never written.
pub too_long : (f : Format) (h : Header) (len : ℕ) → 246 < len → good_fields f h len ≡ false
too_long f h len e =
    ap (λ (b : Bool). good_header class_of h and b) (pdu_large f (sap_length h.dsap + sap_length h.ssap + len) (omega arith))
    ∙ and_false (good_header class_of h)

padded : (len : ℕ) (l : List ℕ) → length (take len (l ++ replicate len 0)) ≡ len
padded len l =
    let zeros : List ℕ = replicate len 0 in
    length-take-le len (l ++ zeros) (omega (arith, length-append l zeros, length-replicate {A = ℕ} len 0))

module _ (f : Format) (h : Header) where
  -- The user data have the length that was asked for, whatever stands in out.
  pub user_length : (len : ℕ) (out : List ℕ) → length (user_in f h len out) ≡ len
  unfolding user_in
  user_length len out = rw padded

  pub user_none : (out : List ℕ) → user_in f h 0 out ≡ []
  unfolding user_in
  user_none out = refl

  -- Where out reaches so far, they are its bytes.
  pub user_inside : (len : ℕ) (out : List ℕ) → user_start f h + len ≤ length out → user_in f h len out ≡ take len (drop (user_start f h) out)
  unfolding user_in
  user_inside len out e =
      take-append-le len (drop (user_start f h) out) (replicate len 0) (omega (arith, length-drop (user_start f h) out))

  -- Data that were stored in their place are the user data.
  pub user_stored : (front user rest : List ℕ) → length front ≡ user_start f h → user_in f h (length user) (front ++ user ++ rest) ≡ user
  user_stored front user rest e =
      let s : List ℕ = front ++ user ++ rest in
      let at_start : drop (user_start f h) (front ++ (user ++ rest)) ≡ user ++ rest = drop_at front (user ++ rest) (user_start f h) e in
      user_inside (length user) s (omega (arith, length-append (front ++ user) rest, length-append front user))
      ∙ rw (append_assoc, at_start) (take-append_seam user rest)
