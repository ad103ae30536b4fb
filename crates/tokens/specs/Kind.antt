-- The number of a token's kind, as a record holds it.
use Rattle.std.specs.Prelude.{ℕ}
use Rattle.tokens.specs.declared.TokenKind.{TokenKind}
use Rattle.tokens.specs.declared.TokenKind.TheVariants.{Nothing, LParen, RParen, Symbol, Int, At, Refused, TooMany}

abbrev pub kind_number : TokenKind → ℕ
kind_number Nothing = 0
kind_number LParen = 1
kind_number RParen = 2
kind_number Symbol = 3
kind_number Int = 4
kind_number At = 5
kind_number Refused = 6
kind_number TooMany = 7
