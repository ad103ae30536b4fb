use Rattle.steps.specs.Met.{seen}
use Rattle.reading.proofs.ReadLaws.{unchecked_met, unchecked_countable, checked_ready, checked_met, checked_countable}
use Rattle.reading.proofs.parse.Goals as goal

pub returns-in_err-check-clause-reads : goal.returns-in_err-check-clause-reads
returns-in_err-check-clause-reads c = unchecked_met _ _ c.from_residual.ensures (seen c.args.s.now) _ c.in_err-check.ensures

pub returns-in_err-check-clause-countable : goal.returns-in_err-check-clause-countable
returns-in_err-check-clause-countable c = unchecked_countable _ _ c.from_residual.ensures

pub parse-requires : goal.parse-requires
parse-requires c = checked_ready (seen c.args.s.now) c.in_ok-check.ensures

pub returns-clause-reads : goal.returns-clause-reads
returns-clause-reads c = checked_met (seen c.args.s.now) c.in_ok-check.ensures _ _ _ c.parse.ensures.reads

pub returns-clause-countable : goal.returns-clause-countable
returns-clause-countable c = checked_countable (seen c.args.s.now) c.in_ok-check.ensures _ c.parse.ensures.within
