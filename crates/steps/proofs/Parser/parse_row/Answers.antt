use Rattle.std.proofs.Common.{sym, ◌∙◌}
use Rattle.steps.proofs.ReadLaws.{exit, turning_start, turning_on, turning_stop, turning_end}
use Rattle.steps.proofs.Parser.parse_row.Goals as goal

pub loop-self-init : goal.loop-self-init
loop-self-init g c = turning_start c.requires

pub loop-self-preserved : goal.loop-self-preserved
loop-self-preserved g c = turning_on c.loop-self.invariant (sym c.ends.ensures ∙ c.loop-self-test.true) c.in_ok-parse.ensures.reads c.in_ok-parse.ensures.within

pub returns-in_err-parse-clause-reads : goal.returns-in_err-parse-clause-reads
returns-in_err-parse-clause-reads g c = exit c.from_residual.ensures (turning_stop c.loop-self.invariant (sym c.ends.ensures ∙ c.loop-self-test.true) c.in_err-parse.ensures.reads)

pub returns-clause-reads : goal.returns-clause-reads
returns-clause-reads g c = turning_end c.loop-self.invariant (sym c.ends.ensures ∙ c.loop-self-test.false)
