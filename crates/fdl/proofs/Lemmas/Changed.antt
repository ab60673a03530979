-- One byte changed in a telegram that is accepted: it is accepted no more.
use Rattle.std.specs.Prelude.{◌≡◌, refl, false, not, List, [], ◌∷◌, ℕ, zero, suc, ◌+◌, ◌-◌, ◌≤◌, ◌<◌, get_or, take, drop, set, eqb, leb}
use Rattle.std.proofs.Math.Path.{sym, ap}
use Rattle.std.proofs.Common.{ap₂, ◌∙◌, subst, arith, lt_of_not-le, le_refl, le_of_suc-le-suc, length-set, length-drop, get_or-set_same, get_or-set_other, get_or-take, get_or-drop, length-take-le}
use Rattle.std.proofs.Math.Bool.{true}
use Rattle.std.proofs.Math.Decide.{dec_le}
use Rattle.std.proofs.Math.ListN.{length}
use Rattle.std.proofs.lemmas.List.{drop-set-add, take-set-le}
use Rattle.std.proofs.Math.Seq.{take-set-lt}
use borrow.Author.Tests.{eqb-true, eqb-false, not-true}
use Rattle.octets.proofs.Choice.{and_left, never}
use Rattle.octets.specs.Bytes.{Bytes}
use Rattle.function_code.specs.Code.{is_reserved}
use Rattle.fdl.specs.Telegram.{start_byte, sum_of, checksum_of}
use Rattle.fdl.specs.Writing.{start_bytes, good_length, confirmation_bytes}
use Rattle.fdl.specs.Contents.{accepted, is_token}
use Rattle.fdl.proofs.Lemmas.Reads.{Starts, Frames, Reads, confirmation, token, telegram, refusal, start_byte_lem}
use Rattle.fdl.proofs.Lemmas.Fields.{start_some}
use Rattle.function_code.specs.declared.code.Class.{Class}
use Rattle.function_code.specs.declared.code.Class.TheVariants.{Reserved}
use Rattle.fdl.specs.declared.telegram.Format.{Format}
use Rattle.fdl.specs.declared.telegram.Format.TheVariants.{Sd1, Sd2, Sd3}
use Rattle.fdl.specs.Sap.{Sap}
use Rattle.fdl.specs.Reading.{Reading}

split : {X : Type 0} (a b : ℕ) → (a ≤ b → X) → (b < a → X) → X
split a b f g = elim (dec_le a b) [ yes h ↦ f h | no h ↦ g (lt_of_not-le h) ]

-- ---- the checksum finds one changed byte

sum_set : (l : List ℕ) (j v : ℕ) → j < length l → sum_of (set l j v) + get_or l j 0 ≡ sum_of l + v
sum_set [] j v h = absurd (let z : suc j ≤ 0 = h in omega arith)
sum_set (x ∷ l) zero v h = omega arith
sum_set (x ∷ l) (suc j) v h = omega (arith, sum_set l j v (le_of_suc-le-suc h))

checksum_set : (l : List ℕ) (j v : ℕ) → j < length l → v < 256 → get_or l j 0 < 256 → (v ≡ get_or l j 0 → ⊥) → checksum_of (set l j v) ≡ checksum_of l → ⊥
unfolding checksum_of
checksum_set l j v h a b ne e = omega (arith, sum_set l j v h)

-- ---- what the start says

first_byte : (f : Format) (le : ℕ) → get_or (start_bytes f le) 0 0 ≡ start_byte f
first_byte Sd1 le = refl
first_byte Sd2 le = refl
first_byte Sd3 le = refl

one_format : (f g : Format) → start_byte f ≡ start_byte g → f ≡ g
one_format Sd1 Sd1 e = refl
one_format Sd1 Sd2 e = absurd (omega (arith, e))
one_format Sd1 Sd3 e = absurd (omega (arith, e))
one_format Sd2 Sd1 e = absurd (omega (arith, e))
one_format Sd2 Sd2 e = refl
one_format Sd2 Sd3 e = absurd (omega (arith, e))
one_format Sd3 Sd1 e = absurd (omega (arith, e))
one_format Sd3 Sd2 e = absurd (omega (arith, e))
one_format Sd3 Sd3 e = refl

-- a telegram with fields, its access points not named
record Framed (classes : ℕ → Class) (s : List ℕ) : Type 0 where
  pub format : Format
  pub at : ℕ
  pub pdu : ℕ
  pub dsap : Sap
  pub ssap : Sap
  pub starts : Starts s format at pdu
  pub frames : Frames classes s at pdu dsap ssap

module _ {classes : ℕ → Class} {s : List ℕ} (a : Framed classes s) where
  first_is : get_or s 0 0 ≡ start_byte a.format
  first_is =
      start_byte_lem a.starts 0 (omega (arith, a.starts.place, start_some a.format))
      ∙ first_byte a.format (a.pdu + 3)

  -- the length that the format gives
  Long : Format → Type 0
  Long Sd1 = length s ≡ 6
  Long Sd2 = 9 < length s
  Long Sd3 = length s ≡ 14

  long : (f : Format) → a.format ≡ f → Long f
  unfolding Long
  long Sd1 p =
      let at : a.at ≡ 1 = a.starts.place ∙ ap (λ (f : Format). length (start_bytes f 0)) p in
      let n : a.pdu ≡ 0 = eqb-true a.pdu 0 (ap (λ (f : Format). good_length f a.pdu) (sym p) ∙ a.starts.sized) in
      omega (arith, a.frames.size)
  long Sd2 p =
      let at : a.at ≡ 4 = a.starts.place ∙ ap (λ (f : Format). length (start_bytes f 0)) p in
      let g : good_length Sd2 a.pdu ≡ true = ap (λ (f : Format). good_length f a.pdu) (sym p) ∙ a.starts.sized in
      let z : a.pdu ≡ 0 → ⊥ = eqb-false a.pdu 0 (not-true _ (and_left (not (eqb a.pdu 0)) (leb a.pdu 246) g)) in
      omega (arith, a.frames.size)
  long Sd3 p =
      let at : a.at ≡ 1 = a.starts.place ∙ ap (λ (f : Format). length (start_bytes f 0)) p in
      let n : a.pdu ≡ 8 = eqb-true a.pdu 8 (ap (λ (f : Format). good_length f a.pdu) (sym p) ∙ a.starts.sized) in
      omega (arith, a.frames.size)

  -- The fourth byte is 68 hex in SD2, and in SD3 the function code, which 68 hex is not.
  fourth_sd2 : a.format ≡ Sd2 → get_or s 3 0 ≡ 0x68
  fourth_sd2 p =
      let at : a.at ≡ 4 = a.starts.place ∙ ap (λ (f : Format). length (start_bytes f 0)) p in
      start_byte_lem a.starts 3 (omega arith) ∙ ap (λ (f : Format). get_or (start_bytes f (a.pdu + 3)) 3 0) p

  fourth_sd3 : a.format ≡ Sd3 → classes 0x68 ≡ Reserved → get_or s 3 0 ≡ 0x68 → ⊥
  fourth_sd3 p r e =
      let at : 3 ≡ a.at + 2 = omega (arith, a.starts.place ∙ ap (λ (f : Format). length (start_bytes f 0)) p) in
      never
      (sym a.frames.code
      ∙ ap (λ (x : ℕ). is_reserved (classes (get_or s x 0))) (sym at)
      ∙ ap (λ (x : ℕ). is_reserved (classes x)) e
      ∙ ap is_reserved r)

-- ---- two telegrams that differ in the byte at i

module _ (classes : ℕ → Class) (reserved : classes 0x68 ≡ Reserved) (s : List ℕ) (bytes : Bytes s) (i v : ℕ) (inside : i < length s) (byte : v < 256)
    (other : v ≡ get_or s i 0 → ⊥) where
  there : (j : ℕ) → (j ≡ i → ⊥) → get_or (set s i v) j 0 ≡ get_or s j 0
  there j h = get_or-set_other s i j v 0 h

  here : get_or (set s i v) i 0 ≡ v
  here = get_or-set_same s i v 0 inside

  -- the same at i, in whatever way that is known: no
  clash_at : (j : ℕ) → i ≡ j → get_or (set s i v) j 0 ≡ get_or s j 0 → ⊥
  clash_at j q e = other (sym here ∙ ap (λ (x : ℕ). get_or (set s i v) x 0) q ∙ e ∙ ap (λ (x : ℕ). get_or s x 0) (sym q))

  module _ (at pdu : ℕ) {d e d' e' : Sap} (g : Frames classes s at pdu d e) (g' : Frames classes (set s i v) at pdu d' e') where
    -- within what the checksum is of
    in_core : at ≤ i → i < at + pdu + 3 → ⊥
    in_core lo hi =
        let j : ℕ = i - at in
        let ij : i ≡ at + j = omega arith in
        let core : List ℕ = take (pdu + 3) (drop at s) in
        let jn : j < pdu + 3 = omega arith in
        let cut : take (pdu + 3) (drop at (set s i v)) ≡ set core j v =
        ap (λ (x : ℕ). take (pdu + 3) (drop at (set s x v))) ij
        ∙ ap (take (pdu + 3)) (drop-set-add at s j v)
        ∙ take-set-lt (pdu + 3) (drop at s) j v jn
        in
        let long : length core ≡ pdu + 3 = length-take-le (pdu + 3) (drop at s) (simp length-drop (omega (arith, g.size))) in
        let old : get_or core j 0 ≡ get_or s i 0 = get_or-take (pdu + 3) (drop at s) j 0 jn ∙ get_or-drop at s j 0 ∙ ap (λ (x : ℕ). get_or s x 0) (sym ij) in
        let jl : j < length core = omega arith in
        checksum_set core j v jl byte (omega (arith, old, bytes i)) (λ q. other (q ∙ old))
        (ap checksum_of (sym cut) ∙ sym g'.sum ∙ there (at + pdu + 3) (λ q. omega (arith, q)) ∙ g.sum)

    in_checksum : i ≡ at + pdu + 3 → ⊥
    in_checksum q =
        let r : i ≡ at + (pdu + 3) = omega arith in
        let kept : take (pdu + 3) (drop at (set s i v)) ≡ take (pdu + 3) (drop at s) =
        ap (λ (x : ℕ). take (pdu + 3) (drop at (set s x v))) r
        ∙ ap (take (pdu + 3)) (drop-set-add at s (pdu + 3) v)
        ∙ take-set-le (pdu + 3) (drop at s) (pdu + 3) v (le_refl (pdu + 3))
        in
        clash_at (at + pdu + 3) q (g'.sum ∙ ap checksum_of kept ∙ sym g.sum)

    behind_start : at ≤ i → ⊥
    behind_start lo =
        split (at + pdu + 3) i
        (λ h. split (at + pdu + 4) i
        (λ k. clash_at (at + pdu + 4) (omega (arith, g.size)) (g'.ending ∙ sym g.ending))
        (λ k. in_checksum (omega arith)))
        (λ h. in_core lo h)

  module _ (a : Framed classes s) (a' : Framed classes (set s i v)) where
    lengths : length (set s i v) ≡ length s
    lengths = length-set s i v

    fourth : i ≡ 0 → get_or (set s i v) 3 0 ≡ get_or s 3 0
    fourth z = there 3 (λ e. omega (arith, e, z))

    same_format : a.format ≡ a'.format → i ≡ 0 → ⊥
    same_format q z = clash_at 0 z (first_is a' ∙ ap start_byte (sym q) ∙ sym (first_is a))

    -- the start byte: another format has another length, or 68 hex as its function code
    in_first : (f g : Format) → a.format ≡ f → a'.format ≡ g → i ≡ 0 → ⊥
    unfolding Long
    in_first Sd1 Sd1 p q z = same_format (p ∙ sym q) z
    in_first Sd1 Sd2 p q z = omega (arith, long a Sd1 p, long a' Sd2 q, lengths)
    in_first Sd1 Sd3 p q z = omega (arith, long a Sd1 p, long a' Sd3 q, lengths)
    in_first Sd2 Sd1 p q z = omega (arith, long a Sd2 p, long a' Sd1 q, lengths)
    in_first Sd2 Sd2 p q z = same_format (p ∙ sym q) z
    in_first Sd2 Sd3 p q z = fourth_sd3 a' q reserved (fourth z ∙ fourth_sd2 a p)
    in_first Sd3 Sd1 p q z = omega (arith, long a Sd3 p, long a' Sd1 q, lengths)
    in_first Sd3 Sd2 p q z = fourth_sd3 a p reserved (sym (fourth z) ∙ fourth_sd2 a' q)
    in_first Sd3 Sd3 p q z = same_format (p ∙ sym q) z

    -- any later byte: the format, and with it all places, are the same
    later : 1 ≤ i → ⊥
    later pos =
        let z : 0 ≡ i → ⊥ = λ e. omega (arith, e) in
        let q : a.format ≡ a'.format = one_format a.format a'.format (sym (first_is a) ∙ sym (there 0 z) ∙ first_is a') in
        let p : a'.at ≡ a.at = a'.starts.place ∙ ap (λ (f : Format). length (start_bytes f 0)) (sym q) ∙ sym a.starts.place in
        let m : a'.pdu ≡ a.pdu = omega (arith, p, a.frames.size, a'.frames.size, lengths) in
        let g : Frames classes (set s i v) a.at a.pdu a'.dsap a'.ssap =
        subst (λ (x : ℕ). Frames classes (set s i v) a.at x a'.dsap a'.ssap) m
        (subst (λ (x : ℕ). Frames classes (set s i v) x a'.pdu a'.dsap a'.ssap) p a'.frames)
        in
        split a.at i
        (λ h. behind_start a.at a.pdu a.frames g h)
        (λ h. clash_at i refl
        (start_byte_lem a'.starts i (omega (arith, p, h))
        ∙ ap₂ (λ (f : Format) (x : ℕ). get_or (start_bytes f (x + 3)) i 0) (sym q) m
        ∙ sym (start_byte_lem a.starts i h)))

    clash : ⊥
    clash = split 1 i (λ h. later h) (λ h. in_first a.format a'.format refl refl (omega arith))

  long_enough : Framed classes s → 5 < length s
  long_enough a = omega (arith, a.frames.size, a.starts.place, start_some a.format)

  -- a telegram with fields, changed
  from_telegram : Framed classes s → {r : Reading} → Reads classes (set s i v) r → accepted r ≡ false
  from_telegram a (confirmation e) = absurd (omega (arith, long_enough a, length-set s i v, ap length e))
  from_telegram a (token e _ _) = absurd (omega (arith, long_enough a, length-set s i v, ap length e))
  from_telegram a (telegram starts frames) = absurd (clash a (record { format = _; at = _; pdu = _; dsap = _; ssap = _; starts = starts; frames = frames }))
  from_telegram a refusal = refl

  -- a short confirmation, changed
  from_confirmation : s ≡ confirmation_bytes → {r : Reading} → Reads classes (set s i v) r → accepted r ≡ false
  from_confirmation p (confirmation e) =
      let first : i ≡ 0 = omega (arith, inside, ap length p) in
      absurd (clash_at 0 first (ap (λ (l : List ℕ). get_or l 0 0) e ∙ sym (ap (λ (l : List ℕ). get_or l 0 0) p)))
  from_confirmation p (token e _ _) = absurd (omega (arith, length-set s i v, ap length e, ap length p))
  from_confirmation p (telegram starts frames) = absurd (omega (arith, length-set s i v, ap length p, frames.size))
  from_confirmation p refusal = refl

  pub changed : {r r' : Reading} → Reads classes s r → Reads classes (set s i v) r' → accepted r ≡ true → is_token r ≡ false → accepted r' ≡ false
  changed (confirmation e) x y z = from_confirmation e x
  changed (token e a b) x y z = absurd (never (sym z))
  changed (telegram starts frames) x y z =
      from_telegram (record { format = _; at = _; pdu = _; dsap = _; ssap = _; starts = starts; frames = frames }) x
  changed refusal x y z = absurd (never y)
