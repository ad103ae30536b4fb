use Rattle.std.proofs.Common.{rules}
use Rattle.steps.specs.Met.{seen}
use Rattle.reading.proofs.ReadLaws.{too_many, too_long, cut_short, bad-token, all-good}
use Rattle.reading.proofs.check.Goals as goal

pub returns-then-count-gt16384 : goal.returns-then-count-gt16384
returns-then-count-gt16384 c = search too_many

pub returns-then-s-gt65536 : goal.returns-then-s-gt65536
returns-then-s-gt65536 c = search too_long

pub returns-then-s-ne0 : goal.returns-then-s-ne0
returns-then-s-ne0 c = search cut_short

pub returns-in-Some : goal.returns-in-Some
returns-in-Some c = bad-token (seen c.args.s.now) _ _ (search rules) (search rules) (search rules) c.in-Some.ensures.first c.in-Some.ensures.inside (search rules)

pub returns : goal.returns
returns c = all-good (seen c.args.s.now) (search rules) (search rules) (search rules) c.in_default.ensures.first
