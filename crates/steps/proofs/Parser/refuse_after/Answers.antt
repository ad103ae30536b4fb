use Rattle.std.proofs.Common.{sym, ◌∙◌}
use Rattle.tokens.specs.Kind.{kind_number}
use Rattle.steps.specs.Read.{read_by}
use Rattle.steps.proofs.StepLaws.{refused_after, refused_other}
use Rattle.steps.proofs.ReadLaws.{refused_here}
use Rattle.steps.proofs.Parser.refuse_after.Goals as goal

pub returns-then-t-number : goal.returns-then-t-number
returns-then-t-number c = refused_here (refused_after (read_by c.args.self.now) (kind_number c.args.kind) c.args.why c.args.self.now.state _ c.next_token-t.ensures _ (c.if-t-number.true ∙ c.number.ensures) c.after.ensures)

pub returns : goal.returns
returns c = refused_here (refused_other (read_by c.args.self.now) (kind_number c.args.kind) c.args.why c.args.self.now.state _ c.next_token-t.ensures _ (λ e. c.if-t-number.false (e ∙ sym c.number.ensures)) c.unexpected.ensures)
