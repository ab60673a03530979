-- Which headers call a service and which answer from one (document 01, "Services by access point"), by the class of the function
-- code and the access points of the service.
use Rattle.std.specs.Prelude.{◌≡◌}
use Rattle.function_code.specs.Code.{class_of}
use Rattle.function_code.specs.declared.code.Class.TheVariants as class
use Rattle.fdl.specs.declared.telegram.Header.{Header}
use Rattle.access.specs.Table.{points_of}
use Rattle.access.specs.Route.{answerer_of}
use Rattle.access.specs.declared.table.Service.{Service}
use Rattle.access.specs.declared.table.Service.TheVariants as service
use Rattle.access.specs.declared.route.Answering.{Answering}

-- a call goes from the master's access point to the slave's
pub record CallPoints (h : Header) (s : Service) : Type 0 where
  pub to : h.dsap ≡ (points_of s).slave
  pub from : h.ssap ≡ (points_of s).master

-- an answer goes from the slave's to the master's
pub record AnswerPoints (h : Header) (s : Service) : Type 0 where
  pub to : h.dsap ≡ (points_of s).master
  pub from : h.ssap ≡ (points_of s).slave

-- a header that calls a service: every one but Global_Control by an opening or counted call, that one by 44 and 46 hex
pub data Calls (h : Header) : Service → Type 0 where
  opening : {s : Service} → class_of h.fc ≡ class.Opening → CallPoints h s → (s ≡ service.GlobalControl → ⊥) → Calls h s
  counted : {s : Service} → class_of h.fc ≡ class.Counted → CallPoints h s → (s ≡ service.GlobalControl → ⊥) → Calls h s
  function_4 : h.fc ≡ 0x44 → CallPoints h service.GlobalControl → Calls h service.GlobalControl
  function_6 : h.fc ≡ 0x46 → CallPoints h service.GlobalControl → Calls h service.GlobalControl

-- a header that answers from a service: every data code, from each service that answers
pub record Answers (h : Header) (a : Answering) : Type 0 where
  pub code : class_of h.fc ≡ class.Data
  pub points : AnswerPoints h (answerer_of a)
