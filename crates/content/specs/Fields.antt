-- What a service's user data hold (document 01, "Services by access point"): whose they are, and how many bytes the fields take.
use Rattle.std.specs.Prelude.{ℕ, ◌<◌, ◌≡◌}
use Rattle.octets.specs.declared.Mode.{Mode}
use Rattle.acyclic.specs.declared.answers.Answer.{Answer}
use Rattle.acyclic.specs.declared.answers.Answer.TheVariants as answer
use Rattle.acyclic.specs.declared.calls.Call.{Call}
use Rattle.acyclic.specs.declared.calls.Call.TheVariants as call
use Rattle.parameters.specs.Fields.{mode_of}
use Rattle.parameters.specs.Writing.{user_start}
use Rattle.access.specs.declared.table.Service.{Service}
use Rattle.access.specs.declared.table.Service.TheVariants as service
use Rattle.content.specs.declared.fields.Content.{Content}
use Rattle.content.specs.declared.fields.Content.TheVariants as content

-- ---- the service

-- the service of a content
abbrev pub service_of : Content → Service
service_of content.DataExchange = service.DataExchange
service_of (content.Dpv1Call c) = service.Dpv1
service_of (content.Dpv1Answer x) = service.Dpv1
service_of content.ExtUserPrm = service.ExtUserPrm
service_of (content.SetSlaveAdr f) = service.SetSlaveAdr
service_of content.RdInp = service.RdInp
service_of content.RdOutp = service.RdOutp
service_of (content.GlobalControl f) = service.GlobalControl
service_of content.GetCfg = service.GetCfg
service_of content.SlaveDiagCall = service.SlaveDiag
service_of (content.SlaveDiag h) = service.SlaveDiag
service_of (content.SetPrm f) = service.SetPrm
service_of content.ChkCfg = service.ChkCfg

-- ---- how many bytes the fields take, before the part

-- a poll is empty, idle is its number alone
abbrev pub call_length : Call → ℕ
call_length call.Poll = 0
call_length (call.Read slot index len) = 4
call_length (call.Write slot index) = 4
call_length (call.AlarmAck slot alarm specifier) = 4
call_length call.Idle = 1
call_length (call.Transport slot index) = 4

abbrev pub answer_length : Answer → ℕ
answer_length (answer.Read slot index) = 4
answer_length (answer.Write slot index len) = 4
answer_length (answer.AlarmAck slot alarm specifier) = 4
answer_length answer.Idle = 1
answer_length (answer.Transport slot index) = 4
answer_length (answer.Negative f decode code1 code2) = 4

-- plain bytes, a configuration and an empty call have no fields
abbrev pub fixed_length : Content → ℕ
fixed_length content.DataExchange = 0
fixed_length (content.Dpv1Call c) = call_length c
fixed_length (content.Dpv1Answer x) = answer_length x
fixed_length content.ExtUserPrm = 0
fixed_length (content.SetSlaveAdr f) = 4
fixed_length content.RdInp = 0
fixed_length content.RdOutp = 0
fixed_length (content.GlobalControl f) = 2
fixed_length content.GetCfg = 0
fixed_length content.SlaveDiagCall = 0
fixed_length (content.SlaveDiag h) = 6
fixed_length (content.SetPrm f) = user_start f
fixed_length content.ChkCfg = 0

-- ---- what the laws ask of a content

-- parameters are of the version that the caller speaks
abbrev pub ModeFits : Content → Mode → Type 0
ModeFits content.DataExchange m = Unit
ModeFits (content.Dpv1Call c) m = Unit
ModeFits (content.Dpv1Answer x) m = Unit
ModeFits content.ExtUserPrm m = Unit
ModeFits (content.SetSlaveAdr f) m = Unit
ModeFits content.RdInp m = Unit
ModeFits content.RdOutp m = Unit
ModeFits (content.GlobalControl f) m = Unit
ModeFits content.GetCfg m = Unit
ModeFits content.SlaveDiagCall m = Unit
ModeFits (content.SlaveDiag h) m = Unit
ModeFits (content.SetPrm f) m = mode_of f.extension ≡ m
ModeFits content.ChkCfg m = Unit

-- an ident number has two bytes
abbrev pub IdentFits : Content → Type 0
IdentFits content.DataExchange = Unit
IdentFits (content.Dpv1Call c) = Unit
IdentFits (content.Dpv1Answer x) = Unit
IdentFits content.ExtUserPrm = Unit
IdentFits (content.SetSlaveAdr f) = f.ident < 65536
IdentFits content.RdInp = Unit
IdentFits content.RdOutp = Unit
IdentFits (content.GlobalControl f) = Unit
IdentFits content.GetCfg = Unit
IdentFits content.SlaveDiagCall = Unit
IdentFits (content.SlaveDiag h) = h.ident < 65536
IdentFits (content.SetPrm f) = f.ident < 65536
IdentFits content.ChkCfg = Unit

-- both
abbrev pub Fits : Content → Mode → Type 0
Fits c m = ModeFits c m × IdentFits c

-- in every version
abbrev pub FitsEvery : Content → Type 0
FitsEvery c = (m : Mode) → Fits c m
