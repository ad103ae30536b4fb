-- What the lexer of the Rust answers, `Result<Option<(Pos, Token)>>`: a token and where it ends; no token, at the end; or the place of what is none.
use Rattle.std.specs.Prelude.{ℕ, Option, Some, None, Result, Ok, Err}
use Rattle.tokens.specs.declared.Token.{Token}
use Rattle.lexer.specs.declared.NotAToken.{NotAToken}

abbrev pub Lexed : Type 0
Lexed = Result (Option (Token × ℕ)) NotAToken

abbrev pub Found : Token → ℕ → Lexed
Found t j = Ok (Some (t, j))

abbrev pub Refused : ℕ → Lexed
Refused place = Err (record { place = place })

abbrev pub End : Lexed
End = Ok None
