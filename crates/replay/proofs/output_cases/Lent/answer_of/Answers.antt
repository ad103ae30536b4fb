use Rattle.replay.proofs.AgreedLaws.{said_read, said-text, said_make, said-fill}
use Rattle.std.proofs.Common.{rules}
use Rattle.replay.proofs.output_cases.Lent.answer_of.Goals as goal

pub returns-in-Read : goal.returns-in-Read
returns-in-Read c = search (said_read, rules)

pub returns-in-Text : goal.returns-in-Text
returns-in-Text c = search (said-text, rules)

pub returns-in-Make : goal.returns-in-Make
returns-in-Make c = search (said_make, rules)

pub returns-in-Fill : goal.returns-in-Fill
returns-in-Fill c = search (said-fill, rules)
