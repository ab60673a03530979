-- Further worked bytes, proved together, once. The starred rows of document 01 are `worked_rows` of service; these are for what a law
-- of reading and writing back cannot see, because only the constants of a definition say it. A refusal is told by its number.
use Rattle.std.specs.Prelude.{refl}
use Rattle.function_code.specs.Code.{class_of}
use Rattle.fdl.specs.Telegram.{checksum_of}
use Rattle.fdl.specs.Reading.{extension_of, source_of, destination_of, fields_of, framed_of, sd2_of, read_by}
use Rattle.diagnosis.specs.Map.{reports, count_from, lowest_from}
use Rattle.parameters.specs.Fields.{extension_verdict, verdict_of}
use Rattle.parameters.specs.Reading as parameters
use Rattle.acyclic.specs.Answers as answers
use Rattle.acyclic.specs.Calls as calls
use Rattle.acyclic.specs.Errors.{named_in, good_code1}
use Rattle.acyclic.specs.Forms.{ranged_of, negative_of, by_number, where_allowed}
use Rattle.acyclic.specs.Numbers.{failed_by}
use Rattle.typed.specs.Value.{kind_of, value_of}
use Rattle.typed.specs.Reading as typed
use Rattle.book.specs.Table.{good_pair, pair_of, table_of}
use Rattle.book.specs.Reading as book
use Rattle.worked.specs.Rows.{Rows}

pub further_rows : Rows
unfolding extension_of source_of destination_of fields_of framed_of sd2_of read_by checksum_of class_of failed_by negative_of good_code1 named_in ranged_of by_number where_allowed answers.four_of answers.read_answer_of calls.four_of calls.read_call_of reports count_from lowest_from extension_verdict verdict_of parameters.read_of kind_of value_of typed.read_of good_pair pair_of table_of book.bodies_by book.read_of
further_rows =
    record {
      an_sd3 = refl;
      seven_before_eight = refl;
      eight = refl;
      refused_write = refl;
      refused_write_read = refl;
      read_call = refl;
      module_2 = (refl, refl);
      no_module = (refl, refl);
      a_set_prm = refl;
      watchdog_in_1_ms = refl;
      watchdog_in_10_ms = refl;
      expired_at_its_time = (refl, refl);
      true_is_ff = refl;
      unsigned_8 = refl;
      a_book = refl;
      book_cut_short = refl;
      book_too_long = refl;
      refused_at_3 = refl;
      all_done = (refl, refl);
    }
