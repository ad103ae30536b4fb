-- Tokens in a list of bytes, 24 bytes each (document 01, 'Token records'), and the tests of a token.
use Rattle.std.specs.Prelude.{ℕ, ◌+◌, ◌*◌, ◌/◌, ◌%◌, List, Bool, false, length, get_or, ltb, eqb}
use Rattle.trees.specs.Choice.{pick}
use Rattle.trees.specs.Names.{spelled}
use Rattle.words.specs.Words.{word_at}
use Rattle.words.specs.Bytes.{same_bytes}
use Rattle.tokens.specs.declared.Token.{Token}

abbrev pub token_count : List ℕ → ℕ
token_count tokens = length tokens / 24

-- the token that three words are
abbrev pub token_of : ℕ → ℕ → ℕ → Token
token_of a b c = record { kind = a / 1152921504606846976; pos = a % 4294967296; word1 = b; word2 = c }

-- what stands past the last token
abbrev pub past_last : ℕ → Token
past_last end = record { kind = 0; pos = end; word1 = 0; word2 = 0 }

unfoldable pub token_at : List ℕ → ℕ → ℕ → Token
token_at tokens end i =
    pick (ltb i (token_count tokens)) (token_of (word_at tokens (i * 24)) (word_at tokens (i * 24 + 8)) (word_at tokens (i * 24 + 16))) (past_last end)

-- its kind alone, which is 0 past the last one
unfoldable pub kind_at : List ℕ → ℕ → ℕ
kind_at tokens i = pick (ltb i (token_count tokens)) (word_at tokens (i * 24) / 1152921504606846976) 0

-- of this kind
unfoldable pub is_kind : ℕ → Token → Bool
is_kind k t = eqb t.kind k

unfoldable pub is_lparen : Token → Bool
is_lparen t = eqb t.kind 1

unfoldable pub is_rparen : Token → Bool
is_rparen t = eqb t.kind 2

unfoldable pub is_symbol : Token → Bool
is_symbol t = eqb t.kind 3

unfoldable pub is_int : Token → Bool
is_int t = eqb t.kind 4

unfoldable pub is_at : Token → Bool
is_at t = eqb t.kind 5

-- no token: the lexer stops here, because it refuses what comes next (6) or because there are too many (7). Such a record is never lent
unfoldable pub is_refused : Token → Bool
is_refused t = eqb t.kind 6

unfoldable pub is_too_many : Token → Bool
is_too_many t = eqb t.kind 7

-- a symbol that starts with `$`
unfoldable pub is_const : List ℕ → Token → Bool
is_const text t = pick (eqb t.kind 3) (eqb (get_or (spelled text t.word1) 0 0) 36) false

-- the symbol w
unfoldable pub is_word : List ℕ → List ℕ → Token → Bool
is_word text w t = pick (eqb t.kind 3) (same_bytes (spelled text t.word1) w) false
