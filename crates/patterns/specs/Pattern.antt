-- parse_pattern of parser.rs. Depth 64 is read, and entering 65 is refused before its token is looked at.
use Rattle.std.specs.Prelude.{ℕ, zero, suc}
use Rattle.trees.specs.Tree.{head}
use Rattle.trees.specs.declared.Head.{Head}
use Rattle.trees.specs.Ast.{kind_pattern_var, kind_pattern_bind, kind_pattern_const_bool, kind_pattern_const_int, kind_pattern_const_prim, kind_pattern_term, kind_pattern_wildcard, kind_pattern_and}
use Rattle.tokens.specs.declared.Token.{Token}
use Rattle.tokens.specs.Token.{is_lparen, is_symbol, is_int, is_at, is_const, is_word}
use Rattle.tokens.specs.Input.{Input}
use Rattle.steps.specs.Keywords.{word-wildcard, word-true, word-false, word_and}
use Rattle.steps.specs.Outcome.{Reader, ◌⊳◌, parent, leaf, plain, refuse_at, if_next, if_second, row, expect-lparen, expect-rparen, expect-at, expect-word, parse_ident, parse_const}

abbrev pub const_int : Token → Head
const_int t = head kind_pattern_const_int 0 t.pos t.word1 t.word2

-- a name, bound over the pattern after `@` where there is one; `(and ..)` or `(term ..)`; `sub` reads the patterns inside
unfoldable pub compound : Input → Reader → Reader
compound s sub =
    if_next s is_symbol
    (if_second s is_at
    (parent s kind_pattern_bind 0 (parse_ident s ⊳ expect-at s ⊳ sub))
    (parent s kind_pattern_var 0 (parse_ident s)))
    (if_next s is_lparen
    (if_second s (is_word s.text word_and)
    (parent s kind_pattern_and 0 (expect-lparen s ⊳ expect-word s word_and ⊳ row s sub ⊳ expect-rparen s))
    (parent s kind_pattern_term 0 (expect-lparen s ⊳ parse_ident s ⊳ row s sub ⊳ expect-rparen s)))
    (refuse_at s 25))

-- a pattern, by the Rust's tests in their order
unfoldable pub pattern_in : Input → Reader → Reader
pattern_in s sub =
    if_next s is_int (leaf s const_int)
    (if_next s (is_const s.text) (parent s kind_pattern_const_prim 0 (parse_const s))
    (if_next s (is_word s.text word-wildcard) (leaf s (plain kind_pattern_wildcard 0))
    (if_next s (is_word s.text word-true) (leaf s (plain kind_pattern_const_bool 1))
    (if_next s (is_word s.text word-false) (leaf s (plain kind_pattern_const_bool 0))
    (compound s sub)))))

-- a pattern of at most this depth
unfoldable pub parse_pattern : Input → ℕ → Reader
parse_pattern s zero = refuse_at s 8
parse_pattern s (suc d) = pattern_in s (parse_pattern s d)
