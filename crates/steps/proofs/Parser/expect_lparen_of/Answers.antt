use Rattle.tokens.specs.Token.{is_lparen}
use Rattle.steps.specs.Read.{read_by}
use Rattle.steps.proofs.SizeLaws.{met_there, lparen_kinded}
use Rattle.steps.proofs.StepLaws.{step_within, told_by}
use Rattle.steps.proofs.ReadLaws.{passed, not_passed}
use Rattle.steps.proofs.Parser.expect_lparen_of.Goals as goal

pub pass-requires : goal.pass-requires
pass-requires c = met_there (read_by c.args.self.now) c.args.self.now.state.next _ lparen_kinded (told_by is_lparen _ _ _ _ c.requires c.is_lparen.ensures c.if-is_lparen.true)

pub returns-then-is_lparen-clause-reads : goal.returns-then-is_lparen-clause-reads
returns-then-is_lparen-clause-reads c = passed (λ _. is_lparen) c.pass.ensures.next c.pass.ensures.unwritten c.pass.ensures.same (told_by is_lparen _ _ _ _ c.requires c.is_lparen.ensures c.if-is_lparen.true)

pub returns-then-is_lparen-clause-within : goal.returns-then-is_lparen-clause-within
returns-then-is_lparen-clause-within c = step_within _ _ _ c.pass.ensures.next (met_there (read_by c.args.self.now) c.args.self.now.state.next _ lparen_kinded (told_by is_lparen _ _ _ _ c.requires c.is_lparen.ensures c.if-is_lparen.true))

pub returns-clause-reads : goal.returns-clause-reads
returns-clause-reads c = not_passed (λ _. is_lparen) _ c.requires (told_by is_lparen _ _ _ _ c.requires c.is_lparen.ensures c.if-is_lparen.false) c.unexpected.ensures
