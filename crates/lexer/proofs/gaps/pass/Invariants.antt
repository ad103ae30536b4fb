use Rattle.lexer.specs.Bytes.{in_line}
use Rattle.lexer.proofs.gaps.pass.Given as goal

abbrev pub ghost-run_end : goal.ghost-run_end
ghost-run_end a = in_line
