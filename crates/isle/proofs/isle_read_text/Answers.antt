use Rattle.text_grammar.proofs.Exactly.{closed}
use Rattle.isle.proofs.EntryLaws.{text_worth}
use Rattle.isle.proofs.isle_read_text.Goals as goal

pub returns : goal.returns
returns c =
    let answer = c.read_text.ensures in
    let worth = text_worth _ _ _ _ _ answer in
    record { answer = answer; meaning = worth; closed = closed worth }
