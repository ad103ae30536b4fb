use Rattle.parser.proofs.RuleLaws.{i64_low, i64_high}
use Rattle.parser.proofs.rules.is_i64.Goals as goal

pub returns-then-lower-lt9223372036854775808 : goal.returns-then-lower-lt9223372036854775808
returns-then-lower-lt9223372036854775808 c = i64_low _ _ c.if-lower-lt9223372036854775808.true

pub returns : goal.returns
returns c = i64_high _ _ c.if-lower-lt9223372036854775808.false
