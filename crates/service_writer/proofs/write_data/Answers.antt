-- `service_writer::write_data` meets its contract: each way has its writer.
use Rattle.service_writer.proofs.write_data.Goals as goal

pub returns-in-Call : goal.returns-in-Call
returns-in-Call c =
    let told = c.write_call.ensures in
    record { answer = rw c.in-Call.is told.answer; bytes = rw c.in-Call.is told.bytes }

pub returns-in-Answer : goal.returns-in-Answer
returns-in-Answer c =
    let told = c.write_answer.ensures in
    record { answer = rw c.in-Answer.is told.answer; bytes = rw c.in-Answer.is told.bytes }
