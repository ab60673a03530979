-- Both ways between a call and its bytes.
use Rattle.std.specs.Prelude.{ℕ, ◌-◌, ◌≤◌, ◌≡◌, true, false, List, [], ◌∷◌, ◌++◌, length, get_or, take, eqb, Ok, Err}
use Rattle.std.proofs.Math.Path.{refl}
use Rattle.std.proofs.Common.{ap, ◌∙◌, arith}
use Rattle.octets.specs.Part.{part_of}
use Rattle.octets.specs.Front.{Verdict, fine}
use Rattle.acyclic.specs.Numbers.{read_number, write_number, alarm_ack_number, idle_number, transport_number, call_number, allowed_in_calls}
use Rattle.acyclic.specs.Forms.{alone_of, four, where_allowed}
use Rattle.acyclic.specs.Calls.{refused, call_at, four_of, idle_of, read_call_of, fixed_bytes, bytes_for, verdict_of, verdict_for, CallReading}
use Rattle.acyclic.proofs.Lemmas.Forms.{alone_none, counted_itself, read_four, read_idle}
use Rattle.acyclic.proofs.Lemmas.Again.{Again, Way, idle_again, plain_again, counted_again, by_reading}
use Rattle.acyclic.specs.declared.calls.Call.{Call}
use Rattle.acyclic.specs.declared.calls.Call.TheVariants as call

-- ---- from the fields

abbrev none : CallReading
none = Ok (record { fields = call.Poll; start = 0; len = 0 })

-- four fixed bytes with an allowed number
of_four : (n a b l : ℕ) (part : List ℕ) → allowed_in_calls n ≡ true → eqb n idle_number ≡ false → read_call_of (four n a b l ++ part) ≡ four_of n a b l (length part)
unfolding read_call_of
of_four = read_four refused none allowed_in_calls idle_of four_of

-- a call that has a number is read by the verdict on its fields
pub alike : (c : Call) (part : List ℕ) {n : ℕ} → call_number c ≡ n ∷ []
    → read_call_of (bytes_for c part) ≡ call_at (length (fixed_bytes c (length part))) (length part) (verdict_for c part) c
unfolding four_of read_call_of
alike call.Poll part e = absurd (let z : ◌≡◌ {A = ℕ} 0 1 = cc in omega arith)
alike (call.Read slot index len) part e = of_four read_number slot index len part refl refl
alike (call.Write slot index) part e =
    of_four write_number slot index (length part) part refl refl
    ∙ ap (λ (v : Verdict). call_at 4 (length part) v (call.Write slot index)) (counted_itself 1 (length part))
alike (call.AlarmAck slot alarm specifier) part e = of_four alarm_ack_number slot alarm specifier part refl refl
alike call.Idle part e = read_idle refused none allowed_in_calls idle_of four_of part refl
alike (call.Transport slot index) part e =
    of_four transport_number slot index (length part) part refl refl
    ∙ ap (λ (v : Verdict). call_at 4 (length part) v (call.Transport slot index)) (counted_itself 0 (length part))

-- and so is accepted where that is fine
accepted : {r : CallReading} {start len : ℕ} {v : Verdict} {c : Call} → r ≡ call_at start len v c → v ≡ fine → r ≡ Ok (record { fields = c; start = start; len = len })
accepted {start = start} {len = len} {c = c} e f = e ∙ ap (λ (w : Verdict). call_at start len w c) f

-- one that has none is read as such where nothing follows
poll_back : (part : List ℕ) → verdict_for call.Poll part ≡ fine → read_call_of (bytes_for call.Poll part) ≡ Ok (record { fields = call.Poll; start = 0; len = length part })
unfolding where_allowed read_call_of
poll_back part e = rw (alone_none part e)

pub back : (c : Call) (part : List ℕ) → verdict_for c part ≡ fine → read_call_of (bytes_for c part) ≡ Ok (record { fields = c; start = length (fixed_bytes c (length part)); len = length part })
back call.Poll part e = poll_back part e
back (call.Read slot index len) part e = accepted (alike (call.Read slot index len) part refl) e
back (call.Write slot index) part e = accepted (alike (call.Write slot index) part refl) e
back (call.AlarmAck slot alarm specifier) part e = accepted (alike (call.AlarmAck slot alarm specifier) part refl) e
back call.Idle part e = accepted (alike call.Idle part refl) e
back (call.Transport slot index) part e = accepted (alike (call.Transport slot index) part refl) e

-- a call's first byte is its number
pub first : (c : Call) (part : List ℕ) → verdict_for c part ≡ fine → take 1 (bytes_for c part) ≡ call_number c
first call.Poll part e = ap (take 1) (alone_none part e)
first (call.Read slot index len) part e = refl
first (call.Write slot index) part e = refl
first (call.AlarmAck slot alarm specifier) part e = refl
first call.Idle part e = refl
first (call.Transport slot index) part e = refl

-- ---- from the bytes

abbrev pub AgainIn : List ℕ → CallReading → Type 0
AgainIn s (Ok found) = Again fixed_bytes verdict_of s found.fields found.start found.len
AgainIn s (Err r) = Unit

abbrev found : Call → (start len : ℕ) → CallReading
found c start len = Ok (record { fields = c; start = start; len = len })

abbrev calls : (s : List ℕ) → Way fixed_bytes verdict_of refused found s
calls s = record { Holds = AgainIn s; of_refusals = λ k. tt; of_accepted = λ c start len a. a }

empty_again : (s : List ℕ) → length s ≡ 0 → AgainIn s none
unfolding part_of alone_of
empty_again [] h = (refl, refl, refl)
empty_again (x ∷ xs) h = absurd (omega arith)

module _ (s : List ℕ) where
  four_again : 4 ≤ length s → AgainIn s (four_of (get_or s 0 0) (get_or s 1 0) (get_or s 2 0) (get_or s 3 0) (length s - 4))
  unfolding four_of
  four_again long =
      plain_again (calls s) long (call.Read _ _ _) _ refl
      (counted_again (calls s) long (call.Write _ _) _ 1 refl refl
      (plain_again (calls s) long (call.AlarmAck _ _ _) _ refl
      (counted_again (calls s) long (call.Transport _ _) _ 0 refl refl tt)))

  pub again : AgainIn s (read_call_of s)
  unfolding read_call_of
  again =
      by_reading (calls s) none allowed_in_calls idle_of four_of (empty_again s) (λ h e. idle_again (calls s) h e call.Idle refl) four_again
