use Rattle.std.proofs.Common.{◌∙◌}
use Rattle.tokens.proofs.TokenLaws.{kind-is}
use Rattle.steps.proofs.Parser.next_kind.Goals as goal

pub returns : goal.returns
returns c = c.kind_at.ensures ∙ kind-is _ c.args.self.now.source.end _
