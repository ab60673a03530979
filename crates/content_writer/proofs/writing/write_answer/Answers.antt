-- `content_writer::writing::write_answer` meets its contract: each content has its writer.
use Rattle.octets.proofs.Front.{refused}
use Rattle.content.specs.Writing.{bytes_for, answer_verdict}
use Rattle.content_writer.proofs.writing.write_answer.Goals as goal

pub returns-in-DataExchange : goal.returns-in-DataExchange
unfolding answer_verdict bytes_for
returns-in-DataExchange c =
    let told = c.write_at_most.ensures in
    record { answer = rw c.in-DataExchange.is told.answer; bytes = rw c.in-DataExchange.is told.bytes }

pub returns-in-Dpv1Call : goal.returns-in-Dpv1Call
unfolding answer_verdict bytes_for
returns-in-Dpv1Call c =
    let told = (refused 10 _ _) in
    record { answer = rw c.in-Dpv1Call.is told.0; bytes = rw c.in-Dpv1Call.is told.1 }

pub returns-in-Dpv1Answer : goal.returns-in-Dpv1Answer
unfolding answer_verdict bytes_for
returns-in-Dpv1Answer c =
    let told = c.write_answer.ensures in
    record { answer = rw c.in-Dpv1Answer.is told.answer; bytes = rw c.in-Dpv1Answer.is told.bytes }

pub returns-in-ExtUserPrm : goal.returns-in-ExtUserPrm
unfolding answer_verdict bytes_for
returns-in-ExtUserPrm c =
    let told = (refused 10 _ _) in
    record { answer = rw c.in-ExtUserPrm.is told.0; bytes = rw c.in-ExtUserPrm.is told.1 }

pub returns-in-SetSlaveAdr : goal.returns-in-SetSlaveAdr
unfolding answer_verdict bytes_for
returns-in-SetSlaveAdr c =
    let told = (refused 10 _ _) in
    record { answer = rw c.in-SetSlaveAdr.is told.0; bytes = rw c.in-SetSlaveAdr.is told.1 }

pub returns-in-RdInp : goal.returns-in-RdInp
unfolding answer_verdict bytes_for
returns-in-RdInp c =
    let told = c.write_at_most-in-RdInp.ensures in
    record { answer = rw c.in-RdInp.is told.answer; bytes = rw c.in-RdInp.is told.bytes }

pub returns-in-RdOutp : goal.returns-in-RdOutp
unfolding answer_verdict bytes_for
returns-in-RdOutp c =
    let told = c.write_at_most-in-RdOutp.ensures in
    record { answer = rw c.in-RdOutp.is told.answer; bytes = rw c.in-RdOutp.is told.bytes }

pub returns-in-GlobalControl : goal.returns-in-GlobalControl
unfolding answer_verdict bytes_for
returns-in-GlobalControl c =
    let told = (refused 10 _ _) in
    record { answer = rw c.in-GlobalControl.is told.0; bytes = rw c.in-GlobalControl.is told.1 }

pub returns-in-GetCfg : goal.returns-in-GetCfg
unfolding answer_verdict bytes_for
returns-in-GetCfg c =
    let told = c.write.ensures in
    record { answer = rw c.in-GetCfg.is told.answer; bytes = rw c.in-GetCfg.is told.bytes }

pub returns-in-SlaveDiagCall : goal.returns-in-SlaveDiagCall
unfolding answer_verdict bytes_for
returns-in-SlaveDiagCall c =
    let told = (refused 10 _ _) in
    record { answer = rw c.in-SlaveDiagCall.is told.0; bytes = rw c.in-SlaveDiagCall.is told.1 }

pub returns-in-SlaveDiag : goal.returns-in-SlaveDiag
unfolding answer_verdict bytes_for
returns-in-SlaveDiag c =
    let told = c.write-in-SlaveDiag.ensures in
    record { answer = rw c.in-SlaveDiag.is told.answer; bytes = rw c.in-SlaveDiag.is told.bytes }

pub returns-in-SetPrm : goal.returns-in-SetPrm
unfolding answer_verdict bytes_for
returns-in-SetPrm c =
    let told = (refused 10 _ _) in
    record { answer = rw c.in-SetPrm.is told.0; bytes = rw c.in-SetPrm.is told.1 }

pub returns-in-ChkCfg : goal.returns-in-ChkCfg
unfolding answer_verdict bytes_for
returns-in-ChkCfg c =
    let told = (refused 10 _ _) in
    record { answer = rw c.in-ChkCfg.is told.0; bytes = rw c.in-ChkCfg.is told.1 }
