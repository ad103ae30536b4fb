use Rattle.steps.specs.Read.{read_by}
use Rattle.parser.proofs.RuleLaws.{named_flags, unnamed_flags}
use Rattle.parser.proofs.rules.rule_flags.Goals as goal

pub returns-then-is_symbol : goal.returns-then-is_symbol
returns-then-is_symbol c = rw c.from.ensures (named_flags (read_by c.args.p.now) _ _ _ c.next_token-t.ensures c.is_symbol.ensures _ _ c.if-is_symbol.true c.second_token.ensures c.is_int.ensures)

pub returns : goal.returns
returns c = rw c.from-2.ensures (unnamed_flags (read_by c.args.p.now) _ _ _ c.next_token-t.ensures c.is_symbol.ensures _ c.if-is_symbol.false c.is_int-2.ensures)
