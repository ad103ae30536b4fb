-- Inputs for the theorems: the same text, and the same tokens up to the third, or up to the second.
use Rattle.std.specs.Prelude.{List, [], ◌∷◌, ◌++◌, ℕ}
use Rattle.tokens.specs.Input.{Input, input}
use Rattle.exprs.specs.Examples.{tok, sym}

abbrev text : List ℕ
text = 40 ∷ 101 ∷ 120 ∷ 116 ∷ 101 ∷ 114 ∷ 110 ∷ 32 ∷ 102 ∷ 111 ∷ 111 ∷ 41 ∷ []

-- `(extern foo)`
unfoldable pub closed : Input
closed = input (tok 1 0 0 0 ++ sym 1 6 ++ sym 8 3 ++ tok 2 11 0 0) text 12

-- `(extern foo @ 7`
unfoldable pub going : Input
going = input (tok 1 0 0 0 ++ sym 1 6 ++ sym 8 3 ++ tok 5 11 0 0 ++ tok 4 11 0 7) text 12

-- `(extern foo`, and nothing behind it
unfoldable pub ended : Input
ended = input (tok 1 0 0 0 ++ sym 1 6 ++ sym 8 3) text 12

-- `(extern`, and then a record where the lexer stops
unfoldable pub stopped : Input
stopped = input (tok 1 0 0 0 ++ sym 1 6 ++ tok 6 8 0 0) text 12
