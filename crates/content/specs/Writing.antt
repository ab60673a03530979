-- Writing user data, by their service and their way (document 01, "Services by access point"): their bytes, and the verdict on
-- them, in which 10 is for the wrong way.
use Rattle.std.specs.Prelude.{ℕ, ◌≡◌, List, [], ◌++◌, length, ltb}
use Rattle.octets.specs.Choice.{pick}
use Rattle.octets.specs.Part.{part_of}
use Rattle.octets.specs.Front.{Verdict, fine, fault}
use Rattle.acyclic.specs.Answers as answers
use Rattle.acyclic.specs.Calls as calls
use Rattle.address_change.specs.Address as address
use Rattle.configuration.specs.Writing as configuration
use Rattle.control.specs.Command as command
use Rattle.diagnosis.specs.Writing as diagnosis
use Rattle.parameters.specs.Writing as parameters
use Rattle.access.specs.declared.table.Service.{Service}
use Rattle.content.specs.Fields.{service_of, fixed_length}
use Rattle.content.specs.declared.fields.Content.{Content}
use Rattle.content.specs.declared.fields.Content.TheVariants as content

-- ---- the bytes

-- the fields, where a part of so many bytes follows
abbrev pub fixed_bytes : Content → (count : ℕ) → List ℕ
fixed_bytes content.DataExchange count = []
fixed_bytes (content.Dpv1Call c) count = calls.fixed_bytes c count
fixed_bytes (content.Dpv1Answer x) count = answers.fixed_bytes x count
fixed_bytes content.ExtUserPrm count = []
fixed_bytes (content.SetSlaveAdr f) count = address.fixed_bytes f
fixed_bytes content.RdInp count = []
fixed_bytes content.RdOutp count = []
fixed_bytes (content.GlobalControl f) count = command.fixed_bytes f
fixed_bytes content.GetCfg count = []
fixed_bytes content.SlaveDiagCall count = []
fixed_bytes (content.SlaveDiag h) count = diagnosis.header_bytes h
fixed_bytes (content.SetPrm f) count = parameters.front_bytes f
fixed_bytes content.ChkCfg count = []

-- the fields, and then the part
unfoldable pub bytes_for : Content → (part : List ℕ) → List ℕ
bytes_for c part = fixed_bytes c (length part) ++ part

-- ---- each way

-- bytes as they are, at most so many
unfoldable pub at_most : (most : ℕ) → (part : List ℕ) → Verdict
at_most most part = pick (ltb most (length part)) (fault 20) fine

-- calls to 56, 57, 59 and 60 are empty
unfoldable pub call_verdict : Content → (part : List ℕ) → Verdict
call_verdict content.DataExchange part = at_most 244 part
call_verdict (content.Dpv1Call c) part = calls.verdict_for c part
call_verdict (content.Dpv1Answer x) part = fault 10
call_verdict content.ExtUserPrm part = at_most 244 part
call_verdict (content.SetSlaveAdr f) part = address.verdict_for f part
call_verdict content.RdInp part = at_most 0 part
call_verdict content.RdOutp part = at_most 0 part
call_verdict (content.GlobalControl f) part = command.verdict_for f part
call_verdict content.GetCfg part = at_most 0 part
call_verdict content.SlaveDiagCall part = at_most 0 part
call_verdict (content.SlaveDiag h) part = fault 10
call_verdict (content.SetPrm f) part = parameters.verdict_for f part
call_verdict content.ChkCfg part = configuration.verdict_of part

-- data answers come only from 56, 57, 59, 60, from 51 and from Data_Exchange
unfoldable pub answer_verdict : Content → (part : List ℕ) → Verdict
answer_verdict content.DataExchange part = at_most 244 part
answer_verdict (content.Dpv1Call c) part = fault 10
answer_verdict (content.Dpv1Answer x) part = answers.verdict_for x part
answer_verdict content.ExtUserPrm part = fault 10
answer_verdict (content.SetSlaveAdr f) part = fault 10
answer_verdict content.RdInp part = at_most 244 part
answer_verdict content.RdOutp part = at_most 244 part
answer_verdict (content.GlobalControl f) part = fault 10
answer_verdict content.GetCfg part = configuration.verdict_of part
answer_verdict content.SlaveDiagCall part = fault 10
answer_verdict (content.SlaveDiag h) part = diagnosis.verdict_of h part
answer_verdict (content.SetPrm f) part = fault 10
answer_verdict content.ChkCfg part = fault 10

-- ---- what the laws say of user data that were read

-- A content with len bytes from start, as read from u: it is the service's, it fits what the reader was told, its fields take what
-- stands before the part, and it may be written with that part and gives the same bytes.
pub record Again (verdict : Content → List ℕ → Verdict) (Fitting : Content → Type 0) (s : Service) (u : List ℕ) (c : Content) (start len : ℕ) : Type 0 where
  pub service : service_of c ≡ s
  pub fits : Fitting c
  pub front : start ≡ fixed_length c
  pub taken : verdict c (part_of u start len) ≡ fine
  pub same : bytes_for c (part_of u start len) ≡ u
