-- What is read: the tokens, the text that symbols lie in, and the end position.
use Rattle.std.specs.Prelude.{ℕ, ◌≤◌, List, length}
use Rattle.tokens.specs.declared.Token.{Token}
use Rattle.tokens.specs.Token.{token_count, token_at}

pub record Input : Type 0 where
  pub tokens : List ℕ
  pub text : List ℕ
  pub end : ℕ

abbrev pub input : List ℕ → List ℕ → ℕ → Input
input tokens text end = record { tokens = tokens; text = text; end = end }

-- the token at an index, and its position
abbrev pub peek : Input → ℕ → Token
peek s i = token_at s.tokens s.end i

abbrev pub pos_at : Input → ℕ → ℕ
pos_at s i = (peek s i).pos

-- how many tokens there are
abbrev pub size : Input → ℕ
size s = token_count s.tokens

-- within the limits of document 01
pub record Limited (s : Input) : Type 0 where
  pub few : size s ≤ 16384
  pub short : length s.text ≤ 65536
