-- How many bytes the fields take, and where the part stands behind them.
use Rattle.std.specs.Prelude.{ℕ, ◌+◌, ◌≤◌, ◌≡◌, refl, List, ◌++◌}
use Rattle.std.proofs.Common.{sym, ◌∙◌, arith}
use Rattle.std.proofs.Math.Path.{ap}
use Rattle.std.proofs.Math.ListN.{length, length-append}
use Rattle.octets.specs.Part.{part_of}
use Rattle.octets.proofs.Fixed.{part_behind}
use Rattle.acyclic.specs.Answers as answers
use Rattle.acyclic.specs.Calls as calls
use Rattle.acyclic.specs.declared.answers.Answer.{Answer}
use Rattle.acyclic.specs.declared.answers.Answer.TheVariants as answer
use Rattle.acyclic.specs.declared.calls.Call.{Call}
use Rattle.acyclic.specs.declared.calls.Call.TheVariants as call
use Rattle.parameters.specs.Fields as parameters
use Rattle.parameters.specs.Fields.{mode_of}
use Rattle.parameters.proofs.Lemmas.Fields.{front_length}
use Rattle.parameters.specs.declared.fields.Extension.{Extension}
use Rattle.parameters.specs.declared.fields.Extension.TheVariants as extension
use Rattle.content.specs.Fields.{call_length, answer_length, fixed_length}
use Rattle.content.specs.Writing.{fixed_bytes, bytes_for}
use Rattle.content.specs.declared.fields.Content.{Content}
use Rattle.content.specs.declared.fields.Content.TheVariants as content

pub call_long : (c : Call) (count : ℕ) → length (calls.fixed_bytes c count) ≡ call_length c
call_long call.Poll count = refl
call_long (call.Read slot index len) count = refl
call_long (call.Write slot index) count = refl
call_long (call.AlarmAck slot alarm specifier) count = refl
call_long call.Idle count = refl
call_long (call.Transport slot index) count = refl

pub answer_long : (x : Answer) (count : ℕ) → length (answers.fixed_bytes x count) ≡ answer_length x
answer_long (answer.Read slot index) count = refl
answer_long (answer.Write slot index len) count = refl
answer_long (answer.AlarmAck slot alarm specifier) count = refl
answer_long answer.Idle count = refl
answer_long (answer.Transport slot index) count = refl
answer_long (answer.Negative f decode code1 code2) count = refl

fixed_long : (c : Content) (count : ℕ) → length (fixed_bytes c count) ≡ fixed_length c
fixed_long content.DataExchange count = refl
fixed_long (content.Dpv1Call c) count = call_long c count
fixed_long (content.Dpv1Answer x) count = answer_long x count
fixed_long content.ExtUserPrm count = refl
fixed_long (content.SetSlaveAdr f) count = refl
fixed_long content.RdInp count = refl
fixed_long content.RdOutp count = refl
fixed_long (content.GlobalControl f) count = refl
fixed_long content.GetCfg count = refl
fixed_long content.SlaveDiagCall count = refl
fixed_long (content.SlaveDiag h) count = refl
fixed_long (content.SetPrm f) count = sym (front_length f)
fixed_long content.ChkCfg count = refl

-- ten bytes at most: parameters of DPV1
version_small : (x : Extension) → parameters.fixed_length (mode_of x) ≤ 10
version_small extension.Dpv0 = omega arith
version_small (extension.Dpv1 status1 status2 status3) = omega arith

pub fixed_small : (c : Content) → fixed_length c ≤ 10
fixed_small content.DataExchange = omega arith
fixed_small (content.Dpv1Call call.Poll) = omega arith
fixed_small (content.Dpv1Call (call.Read slot index len)) = omega arith
fixed_small (content.Dpv1Call (call.Write slot index)) = omega arith
fixed_small (content.Dpv1Call (call.AlarmAck slot alarm specifier)) = omega arith
fixed_small (content.Dpv1Call call.Idle) = omega arith
fixed_small (content.Dpv1Call (call.Transport slot index)) = omega arith
fixed_small (content.Dpv1Answer (answer.Read slot index)) = omega arith
fixed_small (content.Dpv1Answer (answer.Write slot index len)) = omega arith
fixed_small (content.Dpv1Answer (answer.AlarmAck slot alarm specifier)) = omega arith
fixed_small (content.Dpv1Answer answer.Idle) = omega arith
fixed_small (content.Dpv1Answer (answer.Transport slot index)) = omega arith
fixed_small (content.Dpv1Answer (answer.Negative f decode code1 code2)) = omega arith
fixed_small content.ExtUserPrm = omega arith
fixed_small (content.SetSlaveAdr f) = omega arith
fixed_small content.RdInp = omega arith
fixed_small content.RdOutp = omega arith
fixed_small (content.GlobalControl f) = omega arith
fixed_small content.GetCfg = omega arith
fixed_small content.SlaveDiagCall = omega arith
fixed_small (content.SlaveDiag h) = omega arith
fixed_small (content.SetPrm f) = version_small f.extension
fixed_small content.ChkCfg = omega arith

module _ (c : Content) (part : List ℕ) where
  pub bytes_long : length (bytes_for c part) ≡ fixed_length c + length part
  unfolding bytes_for
  bytes_long =
      length-append (fixed_bytes c (length part)) part ∙ ap (λ (n : ℕ). n + length part) (fixed_long c (length part))

  pub part_back : part_of (bytes_for c part) (fixed_length c) (length part) ≡ part
  unfolding bytes_for
  part_back =
      ap (λ (n : ℕ). part_of (fixed_bytes c (length part) ++ part) n (length part)) (sym (fixed_long c (length part)))
      ∙ part_behind (fixed_bytes c (length part)) part
