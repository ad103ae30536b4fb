use Rattle.steps.proofs.NameLaws.{symbol_ok, symbol_err}
use Rattle.steps.proofs.Parser.symbol.Goals as goal

pub returns-then-is_symbol : goal.returns-then-is_symbol
returns-then-is_symbol c = symbol_ok _ _ _ _ c.next_token-t.ensures c.is_symbol.ensures c.if-is_symbol.true

pub returns : goal.returns
returns c = symbol_err _ _ _ _ c.next_token-t.ensures c.is_symbol.ensures _ c.if-is_symbol.false c.unexpected.ensures
