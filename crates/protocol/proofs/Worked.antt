-- The worked download of document 01, computed, and the same at a boarding printer: demand 3 applies to both. And the same by two
-- cards, with damage on the line.
use Rattle.std.specs.Prelude.{ℕ, ◌≡◌, refl, Bool, true, false, List, [], ◌∷◌, get_or, replicate}
use Rattle.std.proofs.Common.{arith}
use Rattle.octets.specs.Front.{fine, held_behind}
use Rattle.octets.specs.Part.{part_of}
use Rattle.function_code.specs.Code.{class_of}
use Rattle.fdl.specs.Reading.{extension_of, source_of, destination_of, token_of, fields_of, framed_of, sd2_of, read_by}
use Rattle.fdl.specs.Telegram.{checksum_of}
use Rattle.fdl.specs.Writing.{core_of, telegram_of}
use Rattle.diagnosis.specs.Block.{good_code, channel_of, found_by}
use Rattle.diagnosis.specs.Reading as diagnosis
use Rattle.diagnosis.specs.Reading.{good_status1, good_status2, good_master, blocks_in, ext_diag_agrees, judge}
use Rattle.access.specs.Route.{kind_of, header_of, route_of}
use Rattle.access.specs.Table.{services, look}
use Rattle.acyclic.specs.Numbers.{failed_by}
use Rattle.acyclic.specs.Answers as answers
use Rattle.acyclic.specs.Calls as calls
use Rattle.acyclic.specs.Errors.{named_in, good_code1}
use Rattle.acyclic.specs.Forms.{alone_of, ranged_of, counted_of, counted_as_of, negative_of, by_number, where_allowed}
use Rattle.content.specs.Reading.{empty_of, call_of, answer_of}
use Rattle.content.specs.Writing.{bytes_for}
use Rattle.service.specs.Reading.{read_of}
use Rattle.service.specs.Writing.{telegram_for}
use Rattle.book.specs.Reading as book
use Rattle.book.specs.Table.{good_pair, pair_of, table_of}
use Rattle.protocol.specs.Line as line
use Rattle.protocol.specs.Line.{Passage, through, request_damaged, reply_damaged, Sending, stop, Damage}
use Rattle.protocol.specs.Slots.{Slot, slot_in}
use Rattle.protocol.specs.Printer as printer-step
use Rattle.protocol.specs.Printer.{ask_in, received_of, hear, Station}
use Rattle.protocol.specs.Controller as controller-step
use Rattle.protocol.specs.Controller.{got_in, move_of, settings_verdict, state_verdict}
use Rattle.protocol.specs.Download.{Given, Config, given, passages_of, sendings, bound, download, line_verdict, verdict_of}
use Rattle.protocol.specs.Words.{FramingRefuses}
use Rattle.protocol.specs.Demand.{Demand3}
use Rattle.protocol.proofs.Theorem.{download_holds}
use Rattle.protocol.specs.Cards.{Cards, OrRefused, on, refused, switched_on, turns, traffic, Fit, MeetDemand3}
use Rattle.protocol.proofs.CardsTheorem.{cards_meet_demand3}
use Rattle.protocol.specs.declared.controller.Ending.TheVariants as ending
use Rattle.protocol.specs.declared.controller.Settings.{Settings}
use Rattle.protocol.specs.declared.printer.Pending.TheVariants as pending

abbrev settings : Settings
settings = record { printer = 7; controller = 2; repeats = 1; polls = 2 }

abbrev book_bytes : List ℕ
book_bytes = 0x01 ∷ 0x07 ∷ 0x03 ∷ 0x41 ∷ 0x42 ∷ 0x43 ∷ []

-- through, request lost, through, through, reply lost, through
abbrev line_bytes : List ℕ
line_bytes = 0 ∷ 1 ∷ 0 ∷ 0 ∷ 2 ∷ 0 ∷ []

-- the worked diagnosis
abbrev diag : List ℕ
diag = 0x08 ∷ 0x0C ∷ 0x00 ∷ 0x02 ∷ 0x12 ∷ 0x34 ∷ 0x82 ∷ 0x43 ∷ 0x26 ∷ []

abbrev station : (boarding : Bool) → Station
station b =
    record {
      printer = record {
        address = 7;
        boarding = b;
        fcb = false;
        sa = 255;
        held = 0;
        pending = pending.Nothing;
        writes = 9;
      };
      slots = record { lengths = replicate 16 0; bodies = replicate 3200 0 };
      buffer = replicate 255 0;
    }

abbrev world : Given
world = given settings book_bytes (1 ∷ []) diag

-- a sending, counted from 0
abbrev sending_at : (i : ℕ) → Sending
sending_at i = get_or (sendings world (passages_of line_bytes) (station false) 7) i (record { request = []; passage = through; reply = [] })

-- the function codes of the sendings
abbrev codes : List Sending → List ℕ
codes [] = []
codes (s ∷ l) = get_or s.request 6 0 ∷ codes l

module _ (boarding : Bool) where
  abbrev final : Config
  final = download world (passages_of line_bytes) (station boarding)

  abbrev slot7 : Slot
  slot7 = slot_in final.printer.slots 7

  -- nothing of it is refused
  abbrev Taken : Type 0
  Taken = verdict_of settings book_bytes line_bytes diag (station boarding) (replicate 255 0) ≡ fine

-- the same line with damage in place of its losses: a byte of the write's body changed, and its 5F changed to DF
abbrev damaged : List Passage
damaged =
    through
    ∷ request_damaged (0x68 ∷ 0x0C ∷ 0x0C ∷ 0x68 ∷ 0x87 ∷ 0x82 ∷ 0x5C ∷ 0x33 ∷ 0x33 ∷ 0x5F ∷ 0x01 ∷ 0x07 ∷ 0x03 ∷ 0x41 ∷ 0x42 ∷ 0x42 ∷ 0xFB ∷ 0x16 ∷ [])
    ∷ through
    ∷ through
    ∷ reply_damaged (0x68 ∷ 0x09 ∷ 0x09 ∷ 0x68 ∷ 0x82 ∷ 0x87 ∷ 0x08 ∷ 0x33 ∷ 0x33 ∷ 0xDF ∷ 0x01 ∷ 0x07 ∷ 0x03 ∷ 0xE1 ∷ 0x16 ∷ [])
    ∷ through
    ∷ []

-- two cards on it
abbrev cards : OrRefused Cards
cards = switched_on settings book_bytes (1 ∷ []) diag damaged (station false) (replicate 255 0)

-- done after 6 sendings, one write performed, slot seven with the body in front
abbrev DoneAfterSix : OrRefused Cards → Type 0
DoneAfterSix (on z) =
    (z.move ≡ stop ending.Done)
    × (z.sent ≡ 6)
    × (z.printer.printer.writes ≡ 1)
    × (slot_in z.printer.slots 7 ≡ record { len = 3; bytes = 0x41 ∷ 0x42 ∷ 0x43 ∷ replicate 197 0 })
DoneAfterSix (refused k) = ⊥

pub record Rows : Type 0 where
  pub taken : (b : Bool) → Taken b
  pub within : bound world ≡ 7
  -- not boarding: done after 6 sendings, one write performed, slot seven with the body in front
  pub codes_sent : codes (sendings world (passages_of line_bytes) (station false) 7) ≡ 0x6D ∷ 0x5C ∷ 0x5C ∷ 0x7C ∷ 0x5C ∷ 0x5C ∷ []
  pub done : (final false).move ≡ stop ending.Done
  pub sent : (final false).sent ≡ 6
  pub once : (final false).printer.printer.writes ≡ 1
  pub stored : slot7 false ≡ record { len = 3; bytes = 0x41 ∷ 0x42 ∷ 0x43 ∷ replicate 197 0 }
  -- its telegrams: the opening and the diagnosis, the write and its result
  pub opening : (sending_at 0).request ≡ 0x68 ∷ 0x05 ∷ 0x05 ∷ 0x68 ∷ 0x87 ∷ 0x82 ∷ 0x6D ∷ 0x3C ∷ 0x3E ∷ 0xF0 ∷ 0x16 ∷ []
  pub diagnosis_back : (sending_at 0).reply
      ≡ 0x68 ∷ 0x0E ∷ 0x0E ∷ 0x68 ∷ 0x82 ∷ 0x87 ∷ 0x08 ∷ 0x3E ∷ 0x3C ∷ 0x08 ∷ 0x0C ∷ 0x00 ∷ 0x02 ∷ 0x12 ∷ 0x34 ∷ 0x82 ∷ 0x43 ∷ 0x26 ∷ 0xD2 ∷ 0x16 ∷ []
  pub write : (sending_at 2).request
      ≡ 0x68 ∷ 0x0C ∷ 0x0C ∷ 0x68 ∷ 0x87 ∷ 0x82 ∷ 0x5C ∷ 0x33 ∷ 0x33 ∷ 0x5F ∷ 0x01 ∷ 0x07 ∷ 0x03 ∷ 0x41 ∷ 0x42 ∷ 0x43 ∷ 0xFB ∷ 0x16 ∷ []
  pub result_back : (sending_at 5).reply ≡ 0x68 ∷ 0x09 ∷ 0x09 ∷ 0x68 ∷ 0x82 ∷ 0x87 ∷ 0x08 ∷ 0x33 ∷ 0x33 ∷ 0x5F ∷ 0x01 ∷ 0x07 ∷ 0x03 ∷ 0xE1 ∷ 0x16 ∷ []
  -- with no entry at all each sending goes through
  pub missing_entries : codes (sendings world [] (station false) 7) ≡ 0x6D ∷ 0x5C ∷ 0x7C ∷ 0x5C ∷ []
  pub missing_done : (download world [] (station false)).move ≡ stop ending.Done
  -- boarding: slot seven is guarded, and stays as it was
  pub refused : (final true).move ≡ stop (ending.Refused 1 0xB6 0)
  pub refused_sent : (final true).sent ≡ 6
  pub refused_once : (final true).printer.printer.writes ≡ 1
  pub kept : slot7 true ≡ record { len = 0; bytes = replicate 200 0 }
  -- two cards: nothing of them is refused, framing refuses the damage, and they do the same
  pub cards_taken : Fit settings book_bytes diag (station false) (replicate 255 0)
  pub cards_damage : Damage FramingRefuses damaged
  pub cards_codes : codes (traffic settings book_bytes (1 ∷ []) diag 7 cards) ≡ 0x6D ∷ 0x5C ∷ 0x5C ∷ 0x7C ∷ 0x5C ∷ 0x5C ∷ []
  pub cards_done : DoneAfterSix (turns settings book_bytes (1 ∷ []) diag 7 cards)

pub worked_download : Rows
unfolding line.run line.transcript part_of class_of extension_of source_of destination_of token_of fields_of framed_of sd2_of read_by checksum_of core_of telegram_of good_code channel_of found_by good_status1 good_status2 good_master blocks_in ext_diag_agrees judge diagnosis.read_of kind_of header_of route_of services look answers.read_answer_of answers.four_of failed_by calls.read_call_of calls.four_of named_in good_code1 alone_of ranged_of counted_of counted_as_of negative_of by_number where_allowed empty_of call_of answer_of bytes_for read_of telegram_for held_behind printer-step.judge ask_in received_of hear got_in move_of download settings_verdict line_verdict verdict_of printer-step.verdict_of printer-step.step_of state_verdict controller-step.verdict_of controller-step.step_of turns traffic book.read_of book.bodies_by table_of pair_of good_pair
worked_download =
    record {
      taken = by;
      within = refl;
      codes_sent = refl;
      done = refl;
      sent = refl;
      once = refl;
      stored = refl;
      opening = refl;
      diagnosis_back = refl;
      write = refl;
      result_back = refl;
      missing_entries = refl;
      missing_done = refl;
      refused = refl;
      refused_sent = refl;
      refused_once = refl;
      kept = refl;
      cards_taken = record { settings = refl; templates = refl; station = refl; room = omega arith };
      cards_damage = (tt, (refl, (tt, (tt, (refl, (tt, tt))))));
      cards_codes = refl;
      cards_done = (refl, refl, refl, refl);
    }
  where
    by : (b : Bool) → Taken b
    by true = refl
    by false = refl

-- Demand 3 applies to both.
pub applies : (b : Bool) → Demand3 world (passages_of line_bytes) (station b)
applies b =
    download_holds settings book_bytes line_bytes (1 ∷ []) diag (station b) (replicate 255 0) (record { lengths = refl; bodies = refl }) (worked_download.taken b)

-- And to the cards.
pub cards_apply : MeetDemand3 settings book_bytes (1 ∷ []) diag damaged (station false) (replicate 255 0)
cards_apply =
    cards_meet_demand3 settings book_bytes (1 ∷ []) diag damaged (station false) (replicate 255 0) worked_download.cards_taken worked_download.cards_damage
    (record { lengths = refl; bodies = refl })
