use Rattle.std.proofs.Common.{ap, ◌∙◌}
use Rattle.tokens.specs.Ident.{ident_refusal}
use Rattle.steps.proofs.NameLaws.{named_exit, named_ok, identifier_nonempty}
use Rattle.steps.proofs.names.ident_name.Goals as goal

pub returns-in_err-check_ident : goal.returns-in_err-check_ident
returns-in_err-check_ident c = named_exit _ _ _ _ _ c.from_residual.ensures c.in_err-check_ident.ensures (ap ident_refusal c.spelling.ensures)

pub returns : goal.returns
returns c = named_ok _ _ (c.in_ok-check_ident.ensures ∙ ap ident_refusal c.spelling.ensures) (identifier_nonempty _ _ _ c.spelling.ensures c.in_ok-check_ident.ensures)
