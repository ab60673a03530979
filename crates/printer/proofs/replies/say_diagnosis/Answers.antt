-- `printer::replies::say_diagnosis` meets its contract.
use mathlib.Core.Path.{◌≡◌, sym, ap, subst}
use mathlib.Core.List.{List}
use Prim.Native.Nat.{ℕ}
use Rattle.octets.specs.Front.{fine}
use Rattle.fdl.specs.Writing.{telegram_of, verdict_of}
use Rattle.fdl.specs.declared.telegram.Format.TheVariants.{Sd2}
use Rattle.fdl.specs.declared.telegram.Header.{Header}
use Rattle.protocol.proofs.Lemmas.Replies.{diagnosis_fine}
use Rattle.printer.proofs.Sent.{small, sent, as_said, short}
use Rattle.printer.proofs.replies.say_diagnosis.Goals as goal

pub stored-requires : goal.stored-requires
stored-requires c =
    let d : List ℕ = c.args.diagnosis.now in
    let h : Header = c.header_of-header.result in
    let fine_at : verdict_of Sd2 h d ≡ fine = subst (λ (x : Header). verdict_of Sd2 x d ≡ fine) (sym c.header_of-header.ensures)
    (diagnosis_fine c.args.to c.args.address c.requires.stations.other c.requires.stations.own d c.requires.diagnosis) in
    small (telegram_of Sd2 h d) c.args.out.now fine_at (short Sd2 h d fine_at) c.requires.stations.room c.write.ensures.answer

pub returns : goal.returns
returns c =
    let d : List ℕ = c.args.diagnosis.now in
    let h : Header = c.header_of-header.result in
    let fine_at : verdict_of Sd2 h d ≡ fine = subst (λ (x : Header). verdict_of Sd2 x d ≡ fine) (sym c.header_of-header.ensures)
    (diagnosis_fine c.args.to c.args.address c.requires.stations.other c.requires.stations.own d c.requires.diagnosis) in
    as_said (ap (λ (x : Header). telegram_of Sd2 x d) c.header_of-header.ensures)
    (sent (telegram_of Sd2 h d) c.args.out.now fine_at (short Sd2 h d fine_at) c.requires.stations.room c.write.ensures.answer c.write.ensures.bytes c.stored.ensures)
