use Rattle.records.proofs.Laws.{three_words, no_slot}
use Rattle.records.proofs.put_words.Goals as goal

pub returns-then-n-out : goal.returns-then-n-out
returns-then-n-out c = search three_words

pub returns-else-n-out : goal.returns-else-n-out
returns-else-n-out c = search no_slot
