use Rattle.std.proofs.Common.{Ok}
use Rattle.lexer.proofs.NumberLaws.{Totals}
use Rattle.lexer.proofs.number.from_str_radix.Given as goal

abbrev pub invariant-loop-c : goal.invariant-loop-c
invariant-loop-c l = Totals l.s l.radix (Ok l.sum) l.c-index
