use Rattle.std.proofs.Common.{ap}
use Rattle.tokens.specs.declared.Token.{Token}
use Rattle.parser.proofs.ModifierLaws.{symbol_behind, none_behind}
use Rattle.parser.proofs.types.no_modifier.Goals as goal

pub returns-then-is_symbol : goal.returns-then-is_symbol
returns-then-is_symbol c = symbol_behind _ _ _ _ c.next_token.ensures c.is_symbol.ensures c.if-is_symbol.true (ap (λ (t : Token). t.pos) c.second_token.ensures) c.after.ensures

pub returns : goal.returns
returns c = none_behind _ _ c.next_token.ensures c.is_symbol.ensures c.if-is_symbol.false
