use Rattle.tokens.specs.Ident.{goes_on}
use Rattle.tokens.proofs.names.may_all_follow.Given as goal

abbrev pub ghost-all_pass : goal.ghost-all_pass
ghost-all_pass a = goes_on
