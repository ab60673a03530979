-- How many fixed bytes and data a call or an answer has that may be written.
use Rattle.std.specs.Prelude.{ℕ, ◌+◌, ◌≤◌, ◌≡◌, List, ◌++◌, length, ltb}
use Rattle.std.proofs.Common.{sym, ap, ◌∙◌, arith, length-append, ltb-false}
use Rattle.octets.specs.Choice.{pick}
use Rattle.octets.specs.Part.{part_of}
use Rattle.octets.specs.Front.{Verdict, fine, fault}
use Rattle.octets.proofs.Fixed.{passed}
use Rattle.acyclic.specs.Forms.{alone_of, ranged_of, negative_of}
use Rattle.acyclic.specs.Calls as calls
use Rattle.acyclic.specs.Answers as answers
use Rattle.acyclic.proofs.Lemmas.Forms.{counted_within}
use Rattle.acyclic.proofs.Lemmas.Again.{part_count}
use Rattle.acyclic.specs.declared.calls.Call.{Call}
use Rattle.acyclic.specs.declared.calls.Call.TheVariants as call
use Rattle.acyclic.specs.declared.answers.Answer.{Answer}
use Rattle.acyclic.specs.declared.answers.Answer.TheVariants as answer

none_behind : (count : ℕ) (v : Verdict) → pick (ltb 0 count) (fault 20) v ≡ fine → count ≤ 240
none_behind count v e = omega (arith, ltb-false 0 count (passed 20 (ltb 0 count) v e).0)

pub call_fits : (c : Call) (count : ℕ) → calls.verdict_of c count ≡ fine → (length (calls.fixed_bytes c count) ≤ 4) × (count ≤ 240)
unfolding alone_of ranged_of
call_fits call.Poll count e = (omega arith, none_behind count _ e)
call_fits (call.Read slot index len) count e = (omega arith, none_behind count _ e)
call_fits (call.Write slot index) count e = (omega arith, (counted_within _ count e).1)
call_fits (call.AlarmAck slot alarm specifier) count e = (omega arith, none_behind count _ e)
call_fits call.Idle count e = (omega arith, none_behind count _ e)
call_fits (call.Transport slot index) count e = (omega arith, (counted_within _ count e).1)

pub answer_fits : (x : Answer) (count : ℕ) → answers.verdict_of x count ≡ fine → (length (answers.fixed_bytes x count) ≤ 4) × (count ≤ 240)
unfolding alone_of ranged_of negative_of
answer_fits (answer.Read slot index) count e = (omega arith, (counted_within _ count e).1)
answer_fits (answer.Write slot index len) count e = (omega arith, none_behind count _ e)
answer_fits (answer.AlarmAck slot alarm specifier) count e = (omega arith, none_behind count _ e)
answer_fits answer.Idle count e = (omega arith, none_behind count _ e)
answer_fits (answer.Transport slot index) count e = (omega arith, (counted_within _ count e).1)
answer_fits (answer.Negative f decode code1 code2) count e = (omega arith, none_behind count _ e)

-- fixed bytes p with the data of s behind them are all of s
pub small : (s p : List ℕ) (start len : ℕ) → start + len ≡ length s → p ++ part_of s start len ≡ s
    → (length p ≤ 4) × (length (part_of s start len) ≤ 240) → (start ≤ 4) × (len ≤ 240)
small s p start len e t f =
    let n = part_count s start len e in
    let a : length p + length (part_of s start len) ≡ length s = sym (length-append p (part_of s start len)) ∙ ap length t in
    (omega (arith, f.0), omega (arith, f.1))
