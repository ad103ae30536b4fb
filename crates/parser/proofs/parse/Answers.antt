use Rattle.std.proofs.Common.{sym}
use Rattle.parser.proofs.DefLaws.{parsed, parse_stopped}
use Rattle.parser.proofs.parse.Goals as goal

pub returns-in_err-parse_defs-clause-reads : goal.returns-in_err-parse_defs-clause-reads
returns-in_err-parse_defs-clause-reads c = let m = c.in_err-parse_defs.ensures in parse_stopped _ c.from_residual.ensures m.reads (c.in_err-parse_defs.out-1-own.given.1.1 (sym m.same_output))

pub returns-clause-reads : goal.returns-clause-reads
returns-clause-reads c = let m = c.in_ok-parse_defs.ensures in parsed m.reads (c.out-2-1.given.1.1 (sym m.same_output))
