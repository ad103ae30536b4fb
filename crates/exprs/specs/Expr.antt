-- parse_expr, parse_expr_inner_parens and parse_letdef of parser.rs, and the if-lets of a rule.
use Rattle.std.specs.Prelude.{ℕ, zero, suc, ◌+◌, Bool, true, false}
use Rattle.trees.specs.Choice.{pick}
use Rattle.trees.specs.Tree.{head}
use Rattle.trees.specs.declared.Head.{Head}
use Rattle.trees.specs.Ast.{kind_if_let, kind_pattern_wildcard, kind_expr_term, kind_expr_var, kind_expr_const_bool, kind_expr_const_int, kind_expr_const_prim, kind_expr_let, kind_let_def}
use Rattle.tokens.specs.declared.Token.{Token}
use Rattle.tokens.specs.Token.{is_lparen, is_symbol, is_int, is_const, is_word}
use Rattle.tokens.specs.Input.{Input, peek}
use Rattle.steps.specs.Keywords.{word-true, word-false, word_let, word_if, word_if_let}
use Rattle.steps.specs.Outcome.{Reader, ◌⊳◌, parent, leaf, nothing, plain, refuse_at, if_next, if_second, row, expect-lparen, expect-rparen, expect-word, parse_ident, parse_const}
use Rattle.patterns.specs.Pattern.{parse_pattern}

abbrev pub const_int : Token → Head
const_int t = head kind_expr_const_int 0 t.pos t.word1 t.word2

-- `(name type value)`; `sub` reads the expressions inside
unfoldable pub parse_letdef : Input → Reader → Reader
parse_letdef s sub = parent s kind_let_def 0 (expect-lparen s ⊳ parse_ident s ⊳ parse_ident s ⊳ sub ⊳ expect-rparen s)

-- `let (definitions) body)`, after the `(`
unfoldable pub let_inside : Input → Reader → Reader
let_inside s sub = expect-word s word_let ⊳ expect-lparen s ⊳ row s (parse_letdef s sub) ⊳ expect-rparen s ⊳ sub ⊳ expect-rparen s

-- `(let (definitions) body)` or `(term ..)`, from its `(` to its `)`
unfoldable pub parse_expr_inner_parens : Input → Reader → Reader
parse_expr_inner_parens s sub =
    if_second s (is_word s.text word_let)
    (parent s kind_expr_let 0 (expect-lparen s ⊳ let_inside s sub))
    (parent s kind_expr_term 0 (expect-lparen s ⊳ parse_ident s ⊳ row s sub ⊳ expect-rparen s))

-- an expression, by the Rust's tests in their order
unfoldable pub expr_in : Input → Reader → Reader
expr_in s sub =
    if_next s is_lparen (parse_expr_inner_parens s sub)
    (if_next s (is_const s.text) (parent s kind_expr_const_prim 0 (parse_const s))
    (if_next s (is_word s.text word-true) (leaf s (plain kind_expr_const_bool 1))
    (if_next s (is_word s.text word-false) (leaf s (plain kind_expr_const_bool 0))
    (if_next s is_symbol (parent s kind_expr_var 0 (parse_ident s))
    (if_next s is_int (leaf s const_int)
    (refuse_at s 26))))))

-- an expression of at most this depth
unfoldable pub parse_expr : Input → ℕ → Reader
parse_expr s zero = refuse_at s 8
parse_expr s (suc d) = expr_in s (parse_expr s d)

-- ---- if-lets

-- after `if-let`: a pattern and an expression
unfoldable pub parse_iflet : Input → Reader
parse_iflet s = parent s kind_if_let 0 (parse_pattern s 64 ⊳ parse_expr s 64)

-- after `if`: an expression, and before it a wildcard at its position, which takes no token
unfoldable pub parse_iflet_if : Input → Reader
parse_iflet_if s = parent s kind_if_let 0 (parent s kind_pattern_wildcard 0 nothing ⊳ parse_expr s 64)

-- an if-let, or the expression that ends a rule; one in parentheses is read as any other
unfoldable pub parse_iflet_or_expr : Input → Reader
parse_iflet_or_expr s =
    if_next s is_lparen
    (if_second s (is_word s.text word_if_let)
    (expect-lparen s ⊳ expect-word s word_if_let ⊳ parse_iflet s ⊳ expect-rparen s)
    (if_second s (is_word s.text word_if)
    (expect-lparen s ⊳ expect-word s word_if ⊳ parse_iflet_if s ⊳ expect-rparen s)
    (parse_expr s 64)))
    (parse_expr s 64)

-- whether the if-lets of a rule end at token i: neither `(if-let` nor `(if` stands there
unfoldable pub no_iflet : Input → ℕ → Bool
no_iflet s i =
    pick (is_lparen (peek s i))
    (pick (is_word s.text word_if_let (peek s (i + 1))) false
    (pick (is_word s.text word_if (peek s (i + 1))) false true))
    true
