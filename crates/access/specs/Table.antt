-- The services and the list of their access points (document 01, "Services by access point"): a slave's access point, the master's, and
-- the service.
use Rattle.std.specs.Prelude.{ℕ, List, [], ◌∷◌, eqb, get_or, Some, None, Option}
use Rattle.octets.specs.Choice.{pick}
use Rattle.access.specs.declared.table.Service.{Service}
use Rattle.access.specs.declared.table.Service.TheVariants as service
use Rattle.access.specs.declared.table.Row.{Row}
use Rattle.access.specs.declared.table.Points.{Points}

-- the service that a pair of access points names, if it names one
abbrev pub Named : Type 0
Named = Option Service

-- ---- the access points of each service

-- the slave's, which is the service's number everywhere; Data_Exchange has no access point, and 0 stands for it
abbrev pub service_number : Service → ℕ
service_number service.DataExchange = 0
service_number service.Dpv1 = 51
service_number service.ExtUserPrm = 53
service_number service.SetSlaveAdr = 55
service_number service.RdInp = 56
service_number service.RdOutp = 57
service_number service.GlobalControl = 58
service_number service.GetCfg = 59
service_number service.SlaveDiag = 60
service_number service.SetPrm = 61
service_number service.ChkCfg = 62

-- the master's
abbrev pub master_number : Service → ℕ
master_number service.DataExchange = 0
master_number service.Dpv1 = 51
master_number service.ExtUserPrm = 62
master_number service.SetSlaveAdr = 62
master_number service.RdInp = 62
master_number service.RdOutp = 62
master_number service.GlobalControl = 62
master_number service.GetCfg = 62
master_number service.SlaveDiag = 62
master_number service.SetPrm = 62
master_number service.ChkCfg = 62

-- ---- the list

abbrev pub row_of : Service → Row
row_of s = record { slave = service_number s; master = master_number s; service = s }

unfoldable pub services : List Row
services =
    row_of service.Dpv1
    ∷ row_of service.ExtUserPrm
    ∷ row_of service.SetSlaveAdr
    ∷ row_of service.RdInp
    ∷ row_of service.RdOutp
    ∷ row_of service.GlobalControl
    ∷ row_of service.GetCfg
    ∷ row_of service.SlaveDiag
    ∷ row_of service.SetPrm
    ∷ row_of service.ChkCfg
    ∷ []

-- the service of the first row with this pair
unfoldable pub look : (slave master : ℕ) → List Row → Named
look slave master [] = None
look slave master (r ∷ rows) =
    pick (eqb r.slave slave) (pick (eqb r.master master) (Some r.service) (look slave master rows)) (look slave master rows)

-- the row at a place of the list
unfoldable pub row_at : ℕ → Row
row_at i = get_or services i (row_of service.DataExchange)

-- ---- the access points of a service: those of its row (law `points_named`)

abbrev pub points_in : Row → Points
points_in r = record { slave = Some r.slave; master = Some r.master }

abbrev pub points_of : Service → Points
points_of service.DataExchange = record { slave = None; master = None }
points_of service.Dpv1 = points_in (row_of service.Dpv1)
points_of service.ExtUserPrm = points_in (row_of service.ExtUserPrm)
points_of service.SetSlaveAdr = points_in (row_of service.SetSlaveAdr)
points_of service.RdInp = points_in (row_of service.RdInp)
points_of service.RdOutp = points_in (row_of service.RdOutp)
points_of service.GlobalControl = points_in (row_of service.GlobalControl)
points_of service.GetCfg = points_in (row_of service.GetCfg)
points_of service.SlaveDiag = points_in (row_of service.SlaveDiag)
points_of service.SetPrm = points_in (row_of service.SetPrm)
points_of service.ChkCfg = points_in (row_of service.ChkCfg)
