use Rattle.steps.specs.Met.{seen}
use Rattle.reading.proofs.ReadLaws.{good_countable}
use Rattle.texts.proofs.ReadLaws.{lexed_read, lexed_refused, refused_countable}
use Rattle.texts.proofs.parse_lexed.Goals as goal

pub returns-in-Ok-clause-reads : goal.returns-in-Ok-clause-reads
returns-in-Ok-clause-reads c = lexed_read (seen c.args.s.now) _ _ _ c.in-Ok.ensures.reads

pub returns-in-Ok-clause-countable : goal.returns-in-Ok-clause-countable
returns-in-Ok-clause-countable c = good_countable (seen c.args.s.now) _ c.requires.few c.in-Ok.ensures.within

pub returns-in-Err-clause-reads : goal.returns-in-Err-clause-reads
returns-in-Err-clause-reads c = lexed_refused (seen c.args.s.now) _ _ _ _ c.in-Err.ensures.reads c.foremost.ensures

pub returns-in-Err-clause-countable : goal.returns-in-Err-clause-countable
returns-in-Err-clause-countable c = refused_countable _
