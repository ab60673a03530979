-- The starred rows of document 01's worked bytes, proved together, once. A refusal is told by its number.
use Rattle.std.specs.Prelude.{ℕ, ◌≡◌, refl, List, [], ◌∷◌, Ok, Err, None}
use Rattle.function_code.specs.Code.{class_of}
use Rattle.fdl.specs.Reading as telegram
use Rattle.fdl.specs.Reading.{extension_of, source_of, destination_of, token_of, fields_of, framed_of, sd2_of, read_by}
use Rattle.fdl.specs.Telegram.{checksum_of}
use Rattle.function_code.specs.declared.code.Class.TheVariants.{Uncounted}
use Rattle.fdl.specs.declared.telegram.Format.TheVariants.{Sd1}
use Rattle.fdl.specs.declared.reading.Reading.TheVariants.{Confirmation, Token, Telegram}
use Rattle.diagnosis.specs.Block.{good_code, channel_of, found_by}
use Rattle.diagnosis.specs.Reading as diagnosis
use Rattle.diagnosis.specs.Reading.{good_status1, good_status2, good_master, blocks_in, ext_diag_agrees, judge}
use Rattle.diagnosis.specs.Walk.{position, next_of}
use Rattle.diagnosis.specs.declared.walk.Block.TheVariants.{Channel}
use Rattle.diagnosis.specs.declared.walk.Step.TheVariants.{Block}
use Rattle.configuration.specs.Fields.{general_of, special_of}
use Rattle.configuration.specs.Reading as configuration
use Rattle.configuration.specs.Reading.{totals_of, within_limit}
use Rattle.configuration.specs.Walk.{special_in, module_in, walk_of}

abbrev diagnosis_row : List ℕ
diagnosis_row = 0x08 ∷ 0x0C ∷ 0x00 ∷ 0x02 ∷ 0x12 ∷ 0x34 ∷ 0x82 ∷ 0x43 ∷ 0x26 ∷ []

pub record Rows : Type 0 where
  pub short_confirmation_lem : telegram.read_of (0xE5 ∷ []) ≡ Ok Confirmation
  pub a_token : telegram.read_of (0xDC ∷ 0x02 ∷ 0x02 ∷ []) ≡ Ok (Token 2 2)
  pub fdl_status : telegram.read_of (0x10 ∷ 0x07 ∷ 0x02 ∷ 0x49 ∷ 0x52 ∷ 0x16 ∷ [])
      ≡ Ok (Telegram Sd1 (record { da = 7; sa = 2; fc = 0x49; dsap = None; ssap = None }) 4 0)
  pub fdl_status_class : class_of 0x49 ≡ Uncounted
  pub wrong_checksum : telegram.read_of (0x10 ∷ 0x07 ∷ 0x02 ∷ 0x49 ∷ 0x53 ∷ 0x16 ∷ []) ≡ Err 6
  pub wrong_end : telegram.read_of (0x10 ∷ 0x07 ∷ 0x02 ∷ 0x49 ∷ 0x53 ∷ 0x17 ∷ []) ≡ Err 5
  pub no_bytes : telegram.read_of [] ≡ Err 1
  pub cut_start : telegram.read_of (0x68 ∷ 0x05 ∷ []) ≡ Err 1
  pub short_length : telegram.read_of (0x68 ∷ 0x03 ∷ 0x03 ∷ 0x68 ∷ []) ≡ Err 3
  pub source_127 : telegram.read_of (0x10 ∷ 0x07 ∷ 0x7F ∷ 0x49 ∷ 0xCF ∷ 0x16 ∷ []) ≡ Err 7
  pub no_extension : telegram.read_of (0x10 ∷ 0x87 ∷ 0x02 ∷ 0x49 ∷ 0xD2 ∷ 0x16 ∷ []) ≡ Err 9
  pub a_diagnosis : diagnosis.read_of diagnosis_row
      ≡ Ok (record { header = record { status1 = 0x08; status2 = 0x0C; status3 = 0x00; master = 2; ident = 0x1234 }; blocks = 1 })
  -- module 2, input (1) channel 3, bit (1), wire break (6)
  pub its_block : next_of diagnosis_row 6
      ≡ Ok (Block (Channel (record { «module» = 2; direction = 1; channel = 3; kind = 1; error = 6 })) (position 9))
  pub a_configuration : configuration.read_of (0x13 ∷ 0x65 ∷ 0xC1 ∷ 0x07 ∷ 0x4F ∷ 0x20 ∷ []) ≡ Ok (record { modules = 3; inputs = 36; outputs = 20 })

pub worked_rows : Rows
unfolding extension_of source_of destination_of token_of fields_of framed_of sd2_of read_by checksum_of class_of good_code channel_of found_by good_status1 good_status2 good_master blocks_in ext_diag_agrees judge diagnosis.read_of next_of general_of special_of totals_of within_limit special_in module_in walk_of configuration.read_of
worked_rows =
    record {
      short_confirmation_lem = refl;
      a_token = refl;
      fdl_status = refl;
      fdl_status_class = refl;
      wrong_checksum = refl;
      wrong_end = refl;
      no_bytes = refl;
      cut_start = refl;
      short_length = refl;
      source_127 = refl;
      no_extension = refl;
      a_diagnosis = refl;
      its_block = refl;
      a_configuration = refl;
    }
