use Rattle.lexer.proofs.TextLaws.{lex_many, lex_again, lex_refused, lex_none}
use Rattle.lexer.proofs.Source.lex.Goals as goal

pub returns-then-n-eq16384 : goal.returns-then-n-eq16384
returns-then-n-eq16384 c = search lex_many

pub loop-n-preserved : goal.loop-n-preserved
loop-n-preserved c = search lex_again

pub returns-in-Err : goal.returns-in-Err
returns-in-Err c = search lex_refused

pub returns-in-Ok-None : goal.returns-in-Ok-None
returns-in-Ok-None c = search lex_none
