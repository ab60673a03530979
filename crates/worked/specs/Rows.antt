-- Further worked bytes, proved together in `proofs/Rows`. The starred rows of document 01 are `worked_rows` of service; these are for what a law
-- of reading and writing back cannot see, because only the constants of a definition say it. A refusal is told by its number.
use Rattle.std.specs.Prelude.{ℕ, ◌≡◌, true, false, List, [], ◌∷◌, Ok, Err, Some, None}
use Rattle.octets.specs.declared.Mode.TheVariants.{Dpv1}
use Rattle.fdl.specs.Reading as telegram
use Rattle.fdl.specs.declared.telegram.Format.TheVariants.{Sd3}
use Rattle.fdl.specs.declared.reading.Reading.TheVariants.{Telegram}
use Rattle.diagnosis.specs.Map.{set_of, lowest_of, lowest_number}
use Rattle.parameters.specs.Reading as parameters
use Rattle.parameters.specs.Timing.{watchdog_of, expired_of}
use Rattle.parameters.specs.declared.fields.Milliseconds.{Milliseconds}
use Rattle.parameters.specs.declared.fields.Parameters.{Parameters}
use Rattle.parameters.specs.declared.fields.Extension.TheVariants as extension
use Rattle.acyclic.specs.Answers as answers
use Rattle.acyclic.specs.Calls as calls
use Rattle.acyclic.specs.declared.numbers.Function.TheVariants as function
use Rattle.acyclic.specs.declared.answers.Answer.TheVariants as answer
use Rattle.acyclic.specs.declared.calls.Call.TheVariants as call
use Rattle.typed.specs.Reading as typed
use Rattle.typed.specs.declared.value.Value.TheVariants.{Boolean, U8}
use Rattle.book.specs.Reading as book
use Rattle.controller_bytes.specs.Endings.{ending_bytes, going_on}
use Rattle.protocol.specs.declared.controller.Ending.TheVariants as ending

abbrev milliseconds : ℕ → Milliseconds
milliseconds n = record { 0 = n }

-- parameters with the watchdog on, its factors 20 and 5, of ident 1234 hex, and this first status byte
abbrev parameter_bytes : (status1 : ℕ) → List ℕ
parameter_bytes status1 = 0x08 ∷ 20 ∷ 5 ∷ 11 ∷ 0x12 ∷ 0x34 ∷ 0 ∷ status1 ∷ 0 ∷ 0 ∷ []

abbrev parameter_fields : (status1 : ℕ) → Parameters
parameter_fields status1 =
    record {
      flags = 0x08;
      factor1 = 20;
      factor2 = 5;
      response = record { 0 = 11 };
      ident = 0x1234;
      groups = 0;
      extension = extension.Dpv1 status1 0 0;
    }

pub record Rows : Type 0 where
  -- telegrams: SD3 has eight bytes of PDU; of two faults the first decides, 7 before 8
  pub an_sd3 : telegram.read_of (0xA2 ∷ 0x07 ∷ 0x02 ∷ 0x44 ∷ 1 ∷ 2 ∷ 3 ∷ 4 ∷ 5 ∷ 6 ∷ 7 ∷ 8 ∷ 0x71 ∷ 0x16 ∷ [])
      ≡ Ok (Telegram Sd3 (record { da = 7; sa = 2; fc = 0x44; dsap = None; ssap = None }) 4 8)
  pub seven_before_eight : telegram.read_of (0x10 ∷ 0x07 ∷ 0x7F ∷ 0x68 ∷ 0xEE ∷ 0x16 ∷ []) ≡ Err 7
  pub eight : telegram.read_of (0x10 ∷ 0x07 ∷ 0x02 ∷ 0x68 ∷ 0x71 ∷ 0x16 ∷ []) ≡ Err 8
  -- a refused write, both ways, and a read call
  pub refused_write : answers.bytes_for (answer.Negative function.Write 128 0xB6 0) [] ≡ 0xDF ∷ 0x80 ∷ 0xB6 ∷ 0x00 ∷ []
  pub refused_write_read : answers.read_answer_of (0xDF ∷ 0x80 ∷ 0xB6 ∷ 0x00 ∷ [])
      ≡ Ok (record { fields = answer.Negative function.Write 128 0xB6 0; start = 4; len = 0 })
  pub read_call : calls.read_call_of (0x5E ∷ 0x01 ∷ 0x07 ∷ 0x03 ∷ []) ≡ Ok (record { fields = call.Read 1 7 3; start = 4; len = 0 })
  -- a map: module 2 is bit 2; and one that no module reports in
  pub module_2 : (set_of (0x04 ∷ []) ≡ 1) × (lowest_of (0x04 ∷ []) ≡ Some 2)
  pub no_module : (lowest_of (0x00 ∷ []) ≡ None) × (lowest_number None ≡ 65535)
  -- DPV1 parameters, and their watchdog in steps of 1 ms and of 10 ms; it has expired when its time is reached
  pub a_set_prm : parameters.read_of (parameter_bytes 0x04) Dpv1 ≡ Ok (record { fields = parameter_fields 0x04; start = 10; len = 0 })
  pub watchdog_in_1_ms : watchdog_of (parameter_fields 0x04) ≡ milliseconds 100
  pub watchdog_in_10_ms : watchdog_of (parameter_fields 0x00) ≡ milliseconds 1000
  pub expired_at_its_time : (expired_of (milliseconds 100) (milliseconds 99) ≡ false) × (expired_of (milliseconds 100) (milliseconds 100) ≡ true)
  -- typed values
  pub true_is_ff : typed.read_of (0x01 ∷ 0xFF ∷ []) ≡ Ok (Boolean true)
  pub unsigned_8 : typed.read_of (0x05 ∷ 0xC8 ∷ []) ≡ Ok (U8 200)
  -- document 01's book, cut short, and with a byte too many
  pub a_book : book.read_of (0x01 ∷ 0x07 ∷ 0x03 ∷ 0x41 ∷ 0x42 ∷ 0x43 ∷ []) ≡ Ok 1
  pub book_cut_short : book.read_of (0x01 ∷ 0x07 ∷ 0x03 ∷ 0x41 ∷ 0x42 ∷ []) ≡ Err 1
  pub book_too_long : book.read_of (0x01 ∷ 0x07 ∷ 0x03 ∷ 0x41 ∷ 0x42 ∷ 0x43 ∷ 0x44 ∷ []) ≡ Err 4
  -- how a download stands, as C has it: refused at template 3 with B6, done, and not ended
  pub refused_at_3 : ending_bytes (ending.Refused 3 0xB6 0) ≡ 5 ∷ 3 ∷ 0xB6 ∷ 0 ∷ []
  pub all_done : (ending_bytes ending.Done ≡ 1 ∷ 0 ∷ 0 ∷ 0 ∷ []) × (going_on ≡ 0 ∷ 0 ∷ 0 ∷ 0 ∷ [])
