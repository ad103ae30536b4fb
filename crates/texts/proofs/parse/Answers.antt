use Rattle.reading.proofs.ReadLaws.{unchecked_countable}
use Rattle.texts.proofs.ReadLaws.{unchecked_met, checked_short, checked_met}
use Rattle.texts.proofs.parse.Goals as goal

pub returns-in_err-check-clause-reads : goal.returns-in_err-check-clause-reads
returns-in_err-check-clause-reads c = unchecked_met _ _ c.from_residual.ensures _ _ c.in_err-check.ensures

pub returns-in_err-check-clause-countable : goal.returns-in_err-check-clause-countable
returns-in_err-check-clause-countable c = unchecked_countable _ _ c.from_residual.ensures

pub invariant_of-parse_plain : goal.invariant_of-parse_plain
invariant_of-parse_plain c = record { within_limit = checked_short _ c.in_ok-check.ensures }

pub returns-clause-reads : goal.returns-clause-reads
returns-clause-reads c = checked_met _ c.in_ok-check.ensures _ _ _ c.parse_plain.ensures.reads
