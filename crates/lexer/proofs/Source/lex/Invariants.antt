use Rattle.lexer.proofs.TextLaws.{Lexing}
use Rattle.lexer.proofs.Source.lex.Given as goal

abbrev pub invariant-loop-n : goal.invariant-loop-n
invariant-loop-n l = Lexing l.self.bytes.now l.initial.out l.out l.i l.n
