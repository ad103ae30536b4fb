use Rattle.std.proofs.Common.{◌∙◌, sym}
use Rattle.tokens.specs.Token.{is_kind}
use Rattle.tokens.specs.Kind.{kind_number}
use Rattle.steps.specs.Read.{read_by}
use Rattle.steps.proofs.SizeLaws.{met_there, kind_kinded}
use Rattle.steps.proofs.StepLaws.{step_within, is_kind_yes, is_kind_no}
use Rattle.steps.proofs.ReadLaws.{passed, not_passed}
use Rattle.steps.proofs.Parser.expect_kind.Goals as goal

pub pass-requires : goal.pass-requires
pass-requires c = met_there (read_by c.args.self.now) c.args.self.now.state.next _ (kind_kinded _ c.requires) (is_kind_yes _ _ _ c.next_kind.ensures (c.if-next_kind-number.true ∙ c.number.ensures))

pub returns-then-next_kind-number-clause-reads : goal.returns-then-next_kind-number-clause-reads
returns-then-next_kind-number-clause-reads c = passed (λ _. is_kind (kind_number c.args.kind)) c.pass.ensures.next c.pass.ensures.unwritten c.pass.ensures.same (is_kind_yes _ _ _ c.next_kind.ensures (c.if-next_kind-number.true ∙ c.number.ensures))

pub returns-then-next_kind-number-clause-within : goal.returns-then-next_kind-number-clause-within
returns-then-next_kind-number-clause-within c = step_within _ _ _ c.pass.ensures.next (met_there (read_by c.args.self.now) c.args.self.now.state.next _ (kind_kinded _ c.requires) (is_kind_yes _ _ _ c.next_kind.ensures (c.if-next_kind-number.true ∙ c.number.ensures)))

pub returns-clause-reads : goal.returns-clause-reads
returns-clause-reads c = not_passed (λ _. is_kind (kind_number c.args.kind)) _ c.next_token-t.ensures (is_kind_no _ _ _ c.next_kind.ensures (λ e. c.if-next_kind-number.false (e ∙ sym c.number.ensures))) c.unexpected.ensures
