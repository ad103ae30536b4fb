use Rattle.texts.proofs.ReadLaws.{too_long, plain, not_ascii}
use Rattle.texts.proofs.check.Goals as goal

pub returns-then-text-gt65536 : goal.returns-then-text-gt65536
returns-then-text-gt65536 c = search too_long

pub returns-then-not-is_ascii : goal.returns-then-not-is_ascii
returns-then-not-is_ascii c = search not_ascii

pub returns : goal.returns
returns c = search plain
