-- A `$` by itself (document 02, note 7): reading refuses it where a constant stands, and takes it as a name. Lent lists may still have the
-- constant with an empty name that the crate makes of it.
use Rattle.std.specs.Prelude.{ℕ, ◌+◌, List, [], ◌∷◌, ◌++◌}
use Rattle.trees.specs.Ast.{kind_extern_const, kind_extractor, kind_rule, kind_identifier, kind_pattern_const_prim, kind_pattern_term, kind_expr_const_prim}
use Rattle.exprs.specs.Examples.{sym}
use Rattle.lexer.specs.Quoted.{bytes}
use Rattle.examples.specs.Calls.{isle_make_template, isle_substitute, isle_open, ◌at◌, accepts, Case, ◌gives◌}
use Rattle.examples.specs.Examples.{lparen, rparen, read, rec, node, ident, sheet}

-- the Ident of a constant whose `$` stands at p with n bytes behind it; the constant in a pattern
abbrev cut : ℕ → ℕ → List ℕ
cut p n = rec kind_identifier 0 0 p (p + 1) n 0

abbrev constant : ℕ → ℕ → List ℕ
constant p n = node kind_pattern_const_prim 1 p ++ cut p n

-- `(extractor (P) $) (P)`: the definition as the crate reads it, and the pattern
unfoldable pub p_source : List ℕ
p_source = bytes "(extractor (P) $) (P)"

unfoldable pub p_records : List ℕ
p_records = node kind_extractor 2 11 ++ ident 12 1 ++ constant 15 0

unfoldable pub called : List ℕ
called = node kind_pattern_term 1 18 ++ ident 19 1

unfoldable pub dollars : List Case
dollars =
    -- as a pattern, as an expression, as an extern constant
    (read "(rule n $ y)" (lparen 0 ++ sym 1 4 ++ sym 6 1 ++ sym 8 1 ++ sym 10 1 ++ rparen 11) gives 16 at 8)
    ∷ (read "(rule (A) $)" (lparen 0 ++ sym 1 4 ++ lparen 6 ++ sym 7 1 ++ rparen 8 ++ sym 10 1 ++ rparen 11) gives 16 at 10)
    ∷ (read "(extern const $ T)" (lparen 0 ++ sym 1 6 ++ sym 8 5 ++ sym 14 1 ++ sym 16 1 ++ rparen 17) gives 16 at 14)
    -- with one character more, which may be a `$`
    ∷ (read "(rule n $a $$)" (lparen 0 ++ sym 1 4 ++ sym 6 1 ++ sym 8 2 ++ sym 11 2 ++ rparen 13)
    gives accepts 6 [] (rec kind_rule 1 3 6 0 0 0 ++ ident 6 1 ++ constant 8 1 ++ node kind_expr_const_prim 1 11 ++ cut 11 1))
    -- as a type's name and as a term's; the latter has the records of `(rule (A x) y)`
    ∷ (read "(extern const $$ $)" (lparen 0 ++ sym 1 6 ++ sym 8 5 ++ sym 14 2 ++ sym 17 1 ++ rparen 18) gives accepts 3 [] (node kind_extern_const 2 14 ++ cut 14 1 ++ ident 17 1))
    ∷ (read "(rule ($ x) y)" (lparen 0 ++ sym 1 4 ++ lparen 6 ++ sym 7 1 ++ sym 9 1 ++ rparen 10 ++ sym 12 1 ++ rparen 13) gives accepts 7 [] sheet)
    -- lent lists: the pattern is its own template, and is left as it is; the call opens to it
    ∷ (isle_make_template (bytes "$") (constant 0 0) [] 2 gives accepts 2 [] (constant 0 0))
    ∷ (isle_substitute (bytes "$") (constant 0 0) [] 2 gives accepts 2 [] (constant 0 0))
    ∷ (isle_open p_source p_records called 2 2 gives accepts 2 (constant 15 0) (constant 15 0))
    ∷ []
