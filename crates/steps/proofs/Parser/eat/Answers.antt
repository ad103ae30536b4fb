use Rattle.std.proofs.Common.{sym, ◌∙◌}
use Rattle.steps.specs.Read.{read_by}
use Rattle.steps.proofs.SizeLaws.{met_there, word_kinded}
use Rattle.steps.proofs.ReadLaws.{eaten, not_eaten, token_on}
use Rattle.steps.proofs.Parser.eat.Goals as goal

pub returns-then-not-stands-clause-reads : goal.returns-then-not-stands-clause-reads
returns-then-not-stands-clause-reads c = not_eaten c.args.w.now (sym c.stands.ensures ∙ c.if-not-stands.true)

pub pass-requires : goal.pass-requires
pass-requires c = met_there (read_by c.args.self.now) c.args.self.now.state.next _ (word_kinded c.args.self.now.source.text.now c.args.w.now) (sym c.stands.ensures ∙ c.if-not-stands.false)

pub returns-clause-reads : goal.returns-clause-reads
returns-clause-reads c = eaten c.args.w.now c.pass.ensures.next c.pass.ensures.unwritten c.pass.ensures.same (sym c.stands.ensures ∙ c.if-not-stands.false)

pub returns-clause-within : goal.returns-clause-within
returns-clause-within c = token_on c.pass.ensures.next (met_there (read_by c.args.self.now) c.args.self.now.state.next _ (word_kinded c.args.self.now.source.text.now c.args.w.now) (sym c.stands.ensures ∙ c.if-not-stands.false))
