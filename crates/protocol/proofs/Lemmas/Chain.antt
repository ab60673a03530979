-- The run of a download as a chain of requests, one behind the other.
use Prim.Native.Nat.{ℕ, zero, suc, ◌+◌, ◌-◌, ◌≤◌, ◌<◌}
use Rattle.std.proofs.Common.{add-zero, ◌∙◌}
use Rattle.std.proofs.Math.Nat.{add_assoc}
use native.Mathlib.Omega.{arith}
use Rattle.std.proofs.Math.Decide.{dec_lt}
use Rattle.std.specs.Prelude.{◌≡◌, Bool, take}
use Rattle.std.proofs.Math.Path.{refl, sym, ap}
use Rattle.std.proofs.Math.Bool.{true, false}
use mathlib.Core.List.{List, [], ◌∷◌, ◌++◌, append-nil}
use Rattle.std.proofs.Math.ListN.{length, length-append}
use Rattle.std.proofs.lemmas.List.{take-append-le}
use Rattle.std.proofs.Math.Seq.{take-append-add, take-length}
use Rattle.octets.specs.Choice.{pick, ◌and◌}
use Rattle.protocol.specs.Line as line
use Rattle.protocol.specs.Line.{Sending}
use Rattle.protocol.specs.Course.{concat}
use Rattle.protocol.specs.Download.{Given, Config, hears, steps}
use Rattle.protocol.specs.Words.{any_of, count_of, heard, is_write, requests_in, writes_heard}
use Rattle.protocol.proofs.Lemmas.Runs.{run_add, transcript_add}
use Rattle.protocol.proofs.Lemmas.Groups.{Apart, Block, Blocks, block_in}

pub apart_take : (q : List ℕ) (v : ℕ) (l : List Sending) → Apart q l → Apart q (take v l)
apart_take q zero l h = tt
apart_take q (suc v) [] h = tt
apart_take q (suc v) (s ∷ l) h = h

-- the writes of a request and of what follows it
module _ (a : ℕ) where
  abbrev counted : List Sending → Bool
  counted r = is_write r and any_of (heard a) r

  writes_split : (q : List ℕ) (b rest : List Sending) → Block q b rest → writes_heard a (b ++ rest) ≡ writes_heard a b + writes_heard a rest
  unfolding requests_in
  writes_split q b rest k =
      let alone : Block q b [] = record { some = k.some; same = k.same; apart = tt } in
      let one : requests_in b ≡ b ∷ [] = ap requests_in (sym (append-nil b)) ∙ block_in q b [] alone in
      ap (count_of counted) (block_in q b rest k) ∙ sym (ap (λ (l : List (List Sending)). count_of counted l + writes_heard a rest) one ∙ add (counted b))
    where
      add : (t : Bool) → pick t 1 0 + writes_heard a rest ≡ pick t (suc (writes_heard a rest)) (writes_heard a rest)
      add true = omega arith
      add false = omega arith

module _ (g : Given) (a : ℕ) where
  abbrev pub runs : ℕ → Config → Config
  runs m x = line.run (hears g) (steps g) m x

  abbrev pub sends : ℕ → Config → List Sending
  sends m x = line.transcript (hears g) (steps g) m x

  abbrev pub writes_of : Config → ℕ
  writes_of x = x.printer.printer.writes

  -- one request, from x to y: its sendings, and the printer's count of writes at each of them
  pub record Link (x : Config) (b : List Sending) (y : Config) : Type 0 where
    pub ran : runs (length b) x ≡ y
    pub sent : sends (length b) x ≡ b
    pub counts : (v : ℕ) → v ≤ length b → writes_of (runs v x) ≡ writes_of x + writes_heard a (take v b)

  pub data Chain : Config → List (List Sending) → Config → Type 0 where
    end : {x : Config} → Chain x [] x
    link : {x y z : Config} {b : List Sending} {bs : List (List Sending)} → Link x b y → Chain y bs z → Chain x (b ∷ bs) z

  pub chain_append : {x y z : Config} {bs cs : List (List Sending)} → Chain x bs y → Chain y cs z → Chain x (bs ++ cs) z
  chain_append end d = d
  chain_append (link l c) d = link l (chain_append c d)

  pub chain_ran : {x z : Config} {bs : List (List Sending)} → Chain x bs z → runs (length (concat bs)) x ≡ z
  unfolding line.run
  chain_ran end = refl
  chain_ran (link {x} {b} {bs} l c) =
      rw (length-append b (concat bs), run_add (hears g) (steps g) (length b) (length (concat bs)) x, l.ran) (chain_ran c)

  pub chain_sent : {x z : Config} {bs : List (List Sending)} → Chain x bs z → sends (length (concat bs)) x ≡ concat bs
  unfolding line.transcript
  chain_sent end = refl
  chain_sent (link {x} {b} {bs} l c) =
      rw (length-append b (concat bs), transcript_add (hears g) (steps g) (length b) (length (concat bs)) x, l.ran, l.sent, chain_sent c)

  -- at every sending the count has gone up by the writes of which one was heard
  pub chain_counts : {x z : Config} {bs : List (List Sending)} → Chain x bs z → Blocks bs []
      → (v : ℕ) → v ≤ length (concat bs) → writes_of (runs v x) ≡ writes_of x + writes_heard a (take v (concat bs))
  unfolding line.run requests_in
  chain_counts (end {x}) k v h = let e : v ≡ 0 = omega arith in rw (e, add-zero)
  chain_counts (link {x} {y} {z} {b} {bs} l c) k v h = by (dec_lt (length b) v) (λ w. chain_counts c k.2 w)
    where
      by : Dec (length b < v) → ((w : ℕ) → w ≤ length (concat bs) → writes_of (runs w y) ≡ writes_of y + writes_heard a (take w (concat bs)))
          → writes_of (runs v x) ≡ writes_of x + writes_heard a (take v (b ++ concat bs))
      by (no n) rest = let e : v ≤ length b = omega arith in rw (take-append-le v b (concat bs) e) (l.counts v e)
      by (yes n) rest =
          let w : ℕ = v - length b in
          let e : v ≡ length b + w = omega arith in
          let within : w ≤ length (concat bs) = omega (arith, length-append b (concat bs)) in
          let whole = l.counts (length b) (omega arith) in
          let block : Block k.0 b (take w (concat bs)) = record {
            some = k.1.some;
            same = k.1.same;
            apart = apart_take k.0 w (concat bs) (rw append-nil at k.1.apart);
          } in
          rw (e, run_add (hears g) (steps g) (length b) w x, take-append-add b (concat bs) w, writes_split a k.0 b (take w (concat bs)) block, l.ran)
          (rest w within ∙ ap (λ (n : ℕ). n + writes_heard a (take w (concat bs))) (ap writes_of (sym l.ran) ∙ (rw take-length at whole))
          ∙ add_assoc (writes_of x) (writes_heard a b) (writes_heard a (take w (concat bs))))
