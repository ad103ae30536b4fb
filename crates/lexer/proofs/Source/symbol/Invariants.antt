use Rattle.lexer.specs.Bytes.{is_sym_other}
use Rattle.lexer.proofs.Source.symbol.Given as goal

abbrev pub ghost-run_end : goal.ghost-run_end
ghost-run_end a = is_sym_other
