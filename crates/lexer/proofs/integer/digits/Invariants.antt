use Rattle.lexer.specs.Bytes.{is_num_other}
use Rattle.lexer.proofs.integer.digits.Given as goal

abbrev pub ghost-run_end : goal.ghost-run_end
ghost-run_end a = is_num_other
