use Rattle.lexer.proofs.GapLaws.{skip_again}
use Rattle.lexer.proofs.gaps.skip.Goals as goal

pub loop-i-preserved : goal.loop-i-preserved
loop-i-preserved c = skip_again _ _ _ c.loop-i.invariant _ _ c.loop-i-test.true c.pass.ensures.by_its_first_byte c.in-Some.is c.pass.ensures.behind c.pass.ensures.in_the_text
