use Rattle.tokens.specs.Token.{is_word}
use Rattle.steps.specs.Read.{read_by}
use Rattle.steps.proofs.SizeLaws.{met_there, word_kinded}
use Rattle.steps.proofs.StepLaws.{step_within, told_by}
use Rattle.steps.proofs.ReadLaws.{passed, not_passed}
use Rattle.steps.proofs.Parser.expect_word_of.Goals as goal

pub pass-requires : goal.pass-requires
pass-requires c = met_there (read_by c.args.self.now) c.args.self.now.state.next _ (word_kinded c.args.self.now.source.text.now c.args.w.now) (told_by (is_word c.args.self.now.source.text.now c.args.w.now) _ _ _ _ c.requires c.is_word.ensures c.if-is_word.true)

pub returns-then-is_word-clause-reads : goal.returns-then-is_word-clause-reads
returns-then-is_word-clause-reads c = passed (λ s. is_word s.text c.args.w.now) c.pass.ensures.next c.pass.ensures.unwritten c.pass.ensures.same (told_by (is_word c.args.self.now.source.text.now c.args.w.now) _ _ _ _ c.requires c.is_word.ensures c.if-is_word.true)

pub returns-then-is_word-clause-within : goal.returns-then-is_word-clause-within
returns-then-is_word-clause-within c = step_within _ _ _ c.pass.ensures.next (met_there (read_by c.args.self.now) c.args.self.now.state.next _ (word_kinded c.args.self.now.source.text.now c.args.w.now) (told_by (is_word c.args.self.now.source.text.now c.args.w.now) _ _ _ _ c.requires c.is_word.ensures c.if-is_word.true))

pub returns-clause-reads : goal.returns-clause-reads
returns-clause-reads c = not_passed (λ s. is_word s.text c.args.w.now) _ c.requires (told_by (is_word c.args.self.now.source.text.now c.args.w.now) _ _ _ _ c.requires c.is_word.ensures c.if-is_word.false) c.unexpected.ensures
