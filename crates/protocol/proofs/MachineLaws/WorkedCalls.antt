-- Single calls at one printer, computed, and what the laws ask of them: that of the laws there are examples.
use Rattle.std.specs.Prelude.{ℕ, ◌≡◌, refl, true, false, List, [], ◌∷◌, take, replicate, Some, None}
use Rattle.std.proofs.Common.{arith}
use Rattle.octets.specs.Front.{held_behind}
use Rattle.octets.specs.Part.{part_of}
use Rattle.function_code.specs.Code.{class_of}
use Rattle.function_code.specs.declared.code.Class.TheVariants as class
use Rattle.fdl.specs.Reading.{extension_of, source_of, destination_of, fields_of, framed_of, sd2_of, read_by}
use Rattle.fdl.specs.Telegram.{checksum_of}
use Rattle.fdl.specs.Writing.{core_of, telegram_of}
use Rattle.fdl.specs.declared.telegram.Format.TheVariants.{Sd1, Sd2}
use Rattle.fdl.specs.declared.telegram.Header.{Header}
use Rattle.access.specs.Route.{kind_of, header_of, header_with, route_of}
use Rattle.access.specs.Table.{services, look}
use Rattle.acyclic.specs.Calls as calls
use Rattle.acyclic.specs.Forms.{alone_of, counted_of, counted_as_of, by_number, where_allowed}
use Rattle.acyclic.specs.declared.calls.Call.TheVariants as call
use Rattle.content.specs.Reading.{empty_of, call_of}
use Rattle.content.specs.Writing.{bytes_for}
use Rattle.content.specs.declared.fields.Content.TheVariants as content
use Rattle.service.specs.Reading.{read_of}
use Rattle.service.specs.Writing.{telegram_for}
use Rattle.service.specs.declared.reading.Way.TheVariants as way
use Rattle.protocol.specs.Printer.{judge, ask_in, received_of, Station, hear}
use Rattle.protocol.specs.MachineLaws.Effects.{Calls, New, low, Asks, Dropped, Wrote, bare_reply}
use Rattle.protocol.proofs.MachineLaws.Calls.{fdl_status}
use Rattle.protocol.proofs.MachineLaws.Answers.{write_performed}
use Rattle.protocol.specs.declared.printer.Outcome.TheVariants as outcome
use Rattle.protocol.specs.declared.printer.Pending.{Pending}
use Rattle.protocol.specs.declared.printer.Pending.TheVariants as pending

-- a boarding printer at 7, with a held SC; FCB 0 and SA 2 are remembered
abbrev station : Pending → Station
station p =
    record {
      printer = record {
        address = 7;
        boarding = true;
        fcb = false;
        sa = 2;
        held = 1;
        pending = p;
        writes = 255;
      };
      slots = record { lengths = replicate 16 0; bodies = replicate 3200 0 };
      buffer = 0xE5 ∷ replicate 254 0;
    }

abbrev idle : Station
idle = station pending.Nothing

-- a write to slot seven was refused
abbrev refused : Pending
refused = pending.Result (outcome.Negative 0xB6 0) 0

abbrev diag : List ℕ
diag = 0x00 ∷ 0x0C ∷ 0x00 ∷ 0x02 ∷ 0x12 ∷ 0x34 ∷ []

-- the bytes that a station sends back
abbrev sent_back : List ℕ → Station → List ℕ
sent_back s x = take (hear diag 5 s x).reply (hear diag 5 s x).station.buffer

abbrev after : List ℕ → Station → Station
after s x = (hear diag 5 s x).station

-- FDL status, and the same to all stations
abbrev status_call : List ℕ
status_call = 0x10 ∷ 0x07 ∷ 0x02 ∷ 0x49 ∷ 0x52 ∷ 0x16 ∷ []

abbrev status_to_all : List ℕ
status_to_all = 0x10 ∷ 0x7F ∷ 0x02 ∷ 0x49 ∷ 0xCA ∷ 0x16 ∷ []

-- a write of three bytes to slot seven with FCB 0, from station 2 and from station 3
abbrev write_from2 : List ℕ
write_from2 = 0x68 ∷ 0x0C ∷ 0x0C ∷ 0x68 ∷ 0x87 ∷ 0x82 ∷ 0x5C ∷ 0x33 ∷ 0x33 ∷ 0x5F ∷ 0x01 ∷ 0x07 ∷ 0x03 ∷ 0x41 ∷ 0x42 ∷ 0x43 ∷ 0xFB ∷ 0x16 ∷ []

abbrev write_from3 : List ℕ
write_from3 = 0x68 ∷ 0x0C ∷ 0x0C ∷ 0x68 ∷ 0x87 ∷ 0x83 ∷ 0x5C ∷ 0x33 ∷ 0x33 ∷ 0x5F ∷ 0x01 ∷ 0x07 ∷ 0x03 ∷ 0x41 ∷ 0x42 ∷ 0x43 ∷ 0xFC ∷ 0x16 ∷ []

-- with FCB 1 from station 2: a poll, Get_Cfg, an access point that has no service, a write without data, a call that is not SRD
abbrev poll_call : List ℕ
poll_call = 0x68 ∷ 0x05 ∷ 0x05 ∷ 0x68 ∷ 0x87 ∷ 0x82 ∷ 0x7C ∷ 0x33 ∷ 0x33 ∷ 0xEB ∷ 0x16 ∷ []

abbrev get_cfg_call : List ℕ
get_cfg_call = 0x68 ∷ 0x05 ∷ 0x05 ∷ 0x68 ∷ 0x87 ∷ 0x82 ∷ 0x7C ∷ 0x3B ∷ 0x3E ∷ 0xFE ∷ 0x16 ∷ []

abbrev nowhere_call : List ℕ
nowhere_call = 0x68 ∷ 0x05 ∷ 0x05 ∷ 0x68 ∷ 0x87 ∷ 0x82 ∷ 0x7C ∷ 0x20 ∷ 0x3E ∷ 0xE3 ∷ 0x16 ∷ []

abbrev cut_write : List ℕ
cut_write = 0x68 ∷ 0x08 ∷ 0x08 ∷ 0x68 ∷ 0x87 ∷ 0x82 ∷ 0x7C ∷ 0x33 ∷ 0x33 ∷ 0x5F ∷ 0x01 ∷ 0x07 ∷ 0x52 ∷ 0x16 ∷ []

abbrev sda_call : List ℕ
sda_call = 0x10 ∷ 0x07 ∷ 0x02 ∷ 0x73 ∷ 0x7C ∷ 0x16 ∷ []

-- an opening call with a write
abbrev opening_write : List ℕ
opening_write = 0x68 ∷ 0x0C ∷ 0x0C ∷ 0x68 ∷ 0x87 ∷ 0x82 ∷ 0x6C ∷ 0x33 ∷ 0x33 ∷ 0x5F ∷ 0x01 ∷ 0x07 ∷ 0x03 ∷ 0x41 ∷ 0x42 ∷ 0x43 ∷ 0x0B ∷ 0x16 ∷ []

pub record Rows : Type 0 where
  pub status : sent_back status_call idle ≡ 0x10 ∷ 0x02 ∷ 0x07 ∷ 0x00 ∷ 0x09 ∷ 0x16 ∷ []
  pub status_drops : (after status_call idle).printer.held ≡ 0
  pub to_all : sent_back status_to_all idle ≡ []
  pub to_all_drops : (after status_to_all idle).printer.held ≡ 0
  -- the same SA and FCB: the held reply, and nothing performed
  pub again : sent_back write_from2 idle ≡ 0xE5 ∷ []
  pub again_unperformed : (after write_from2 idle).printer.pending ≡ pending.Nothing
  -- another SA: performed, and refused while boarding; the count stays at 255
  pub another : sent_back write_from3 idle ≡ 0xE5 ∷ []
  pub another_performed : (after write_from3 idle).printer.pending ≡ pending.Result (outcome.Negative 0xB6 0) 5
  pub another_counted : (after write_from3 idle).printer.writes ≡ 255
  pub while_pending : sent_back write_from3 (station refused) ≡ 0x10 ∷ 0x03 ∷ 0x07 ∷ 0x02 ∷ 0x0C ∷ 0x16 ∷ []
  pub while_pending_kept : (after write_from3 (station refused)).printer.pending ≡ refused
  pub poll_none : sent_back poll_call idle ≡ 0xE5 ∷ []
  pub poll_fetches : sent_back poll_call (station refused)
      ≡ 0x68 ∷ 0x09 ∷ 0x09 ∷ 0x68 ∷ 0x82 ∷ 0x87 ∷ 0x08 ∷ 0x33 ∷ 0x33 ∷ 0xDF ∷ 0x80 ∷ 0xB6 ∷ 0x00 ∷ 0x8C ∷ 0x16 ∷ []
  pub get_cfg : sent_back get_cfg_call idle ≡ 0x10 ∷ 0x02 ∷ 0x07 ∷ 0x03 ∷ 0x0C ∷ 0x16 ∷ []
  pub nowhere : sent_back nowhere_call idle ≡ 0x10 ∷ 0x02 ∷ 0x07 ∷ 0x03 ∷ 0x0C ∷ 0x16 ∷ []
  pub undecodable : sent_back cut_write idle ≡ 0x10 ∷ 0x02 ∷ 0x07 ∷ 0x01 ∷ 0x0A ∷ 0x16 ∷ []
  pub not_srd : sent_back sda_call idle ≡ 0x10 ∷ 0x02 ∷ 0x07 ∷ 0x03 ∷ 0x0C ∷ 0x16 ∷ []
  pub opening_write_lem : sent_back opening_write idle ≡ 0x10 ∷ 0x02 ∷ 0x07 ∷ 0x03 ∷ 0x0C ∷ 0x16 ∷ []

pub worked_calls : Rows
unfolding part_of class_of extension_of source_of destination_of fields_of framed_of sd2_of read_by checksum_of core_of telegram_of kind_of header_of route_of services look calls.read_call_of calls.four_of alone_of counted_of counted_as_of by_number where_allowed empty_of call_of bytes_for read_of telegram_for held_behind judge ask_in received_of hear
worked_calls =
    record {
      status = refl;
      status_drops = refl;
      to_all = refl;
      to_all_drops = refl;
      again = refl;
      again_unperformed = refl;
      another = refl;
      another_performed = refl;
      another_counted = refl;
      while_pending = refl;
      while_pending_kept = refl;
      poll_none = refl;
      poll_fetches = refl;
      get_cfg = refl;
      nowhere = refl;
      undecodable = refl;
      not_srd = refl;
      opening_write_lem = refl;
    }

-- ---- what the laws ask for

status_calls : Calls idle status_call class.Uncounted (header_with 7 2 0x49 None None)
unfolding class_of extension_of source_of destination_of fields_of framed_of read_by checksum_of
status_calls = record { framed = record { format = Sd1; start = 4; len = 0; read = refl; code = refl }; own = refl }

abbrev write_header : Header
write_header = header_with 7 3 0x5C (Some 51) (Some 51)

write_new : New idle write_from3 write_header
unfolding class_of extension_of source_of destination_of fields_of framed_of sd2_of read_by checksum_of
write_new =
    record {
      calls = record { framed = record { format = Sd2; start = 9; len = 7; read = refl; code = refl }; own = refl };
      other = λ r. omega (arith, r.source);
    }

write_asks : Asks write_from3 write_header (content.Dpv1Call (call.Write 1 7)) (0x41 ∷ 0x42 ∷ 0x43 ∷ [])
unfolding part_of class_of extension_of source_of destination_of fields_of framed_of sd2_of read_by checksum_of kind_of route_of services look calls.read_call_of calls.four_of counted_of counted_as_of by_number where_allowed call_of read_of
write_asks =
    record {
      srd = low refl;
      carries = record { format = Sd2; header = write_header; way = way.Call; start = 13; len = 3; read = refl; bytes = refl };
    }

pub status_applies : Dropped idle (bare_reply 2 7 0) (hear diag 5 status_call idle)
status_applies = fdl_status diag 5 idle status_call status_calls refl

pub write_applies : Wrote idle write_header 5 1 7 (0x41 ∷ 0x42 ∷ 0x43 ∷ []) (hear diag 5 write_from3 idle)
write_applies = write_performed diag 5 idle write_from3 write_new write_asks refl
