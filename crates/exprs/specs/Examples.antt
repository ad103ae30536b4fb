-- Worked cases for patterns, expressions and if-lets, from documents 01 and 02 and the branches of parser.rs.
use Rattle.std.specs.Prelude.{ℕ, ◌+◌, ◌*◌, List, [], ◌∷◌, ◌++◌}
use Rattle.trees.specs.Tree.{Tree, Trees, node, ∅, ◌▸◌, head}
use Rattle.trees.specs.Ast.{kind_if_let, kind_pattern_var, kind_pattern_bind, kind_pattern_const_bool, kind_pattern_const_int, kind_pattern_const_prim, kind_pattern_term, kind_pattern_wildcard, kind_pattern_and, kind_expr_term, kind_expr_var, kind_expr_const_int, kind_expr_const_prim, kind_expr_let, kind_let_def, ident_node}
use Rattle.words.specs.Words.{be8}
use Rattle.tokens.specs.Input.{Input, input}
use Rattle.steps.specs.Outcome.{Outcome, accept, refuse, refusal, Reader}
use Rattle.patterns.specs.Pattern.{parse_pattern}
use Rattle.exprs.specs.Expr.{parse_expr, parse_iflet_or_expr}

-- a token of kind k at position p with these words; the symbol of n bytes at p; the name there; a single tree
unfoldable pub tok : ℕ → ℕ → ℕ → ℕ → List ℕ
tok k p a b = be8 (k * 1152921504606846976 + p) ++ be8 a ++ be8 b

unfoldable pub sym : ℕ → ℕ → List ℕ
sym p n = tok 3 p (p * 4294967296 + n) 0

unfoldable pub id : ℕ → ℕ → Tree
id p n = ident_node p (p * 4294967296 + n)

abbrev one : Tree → Trees
one t = t ▸ ∅

-- a reader, what is given to it, and what reading from the first token comes to
pub record Case : Type 0 where
  pub reader : Input → Reader
  pub given : Input
  pub outcome : Outcome

unfoldable pub case : (Input → Reader) → List ℕ → List ℕ → ℕ → Outcome → Case
case reader tokens text end o = record { reader = reader; given = input tokens text end; outcome = o }

unfoldable pub outcomes : List Case → List Outcome
outcomes [] = []
outcomes (c ∷ cs) = c.outcome ∷ outcomes cs

unfoldable pub parsed : List Case → List Outcome
parsed [] = []
parsed (c ∷ cs) = c.reader c.given 0 ∷ parsed cs

-- a pattern and an expression of a definition; a pattern that may hold no other
abbrev pattern : Input → Reader
pattern s = parse_pattern s 64

abbrev shallow : Input → Reader
shallow s = parse_pattern s 1

abbrev expr : Input → Reader
expr s = parse_expr s 64

abbrev iflet : Input → Reader
iflet s = parse_iflet_or_expr s

unfoldable pub table : List Case
table =
    -- `5`
    (case pattern (tok 4 0 0 5) (53 ∷ []) 1 (accept (one (node (head kind_pattern_const_int 0 0 0 5) ∅)) 1))
    -- `$a`
    ∷ (case pattern (sym 0 2) (36 ∷ 97 ∷ []) 2 (accept (one (node (head kind_pattern_const_prim 0 0 0 0) (one (ident_node 0 4294967297)))) 1))
    -- `$$`
    ∷ (case pattern (sym 0 2) (36 ∷ 36 ∷ []) 2 (accept (one (node (head kind_pattern_const_prim 0 0 0 0) (one (ident_node 0 4294967297)))) 1))
    -- `$` alone is no constant; it is consumed before that is seen
    ∷ (case pattern (sym 0 1) (36 ∷ []) 1 (refuse (refusal 16 0 1)))
    -- `$-`
    ∷ (case pattern (sym 0 2) (36 ∷ 45 ∷ []) 2 (refuse (refusal 15 0 1)))
    -- `($ x)`: as a term's name it may stand alone
    ∷ (case pattern (tok 1 0 0 0 ++ sym 1 1 ++ sym 3 1 ++ tok 2 4 0 0) (40 ∷ 36 ∷ 32 ∷ 120 ∷ 41 ∷ []) 5 (accept (one (node (head kind_pattern_term 0 0 0 0) (id 1 1 ▸ one (node (head kind_pattern_var 0 3 0 0) (one (id 3 1)))))) 4))
    -- `x @ (and y true)`
    ∷ (case pattern (sym 0 1 ++ tok 5 2 0 0 ++ tok 1 4 0 0 ++ sym 5 3 ++ sym 9 1 ++ sym 11 4 ++ tok 2 15 0 0) (120 ∷ 32 ∷ 64 ∷ 32 ∷ 40 ∷ 97 ∷ 110 ∷ 100 ∷ 32 ∷ 121 ∷ 32 ∷ 116 ∷ 114 ∷ 117 ∷ 101 ∷ 41 ∷ []) 16 (accept (one (node (head kind_pattern_bind 0 0 0 0) (id 0 1 ▸ one (node (head kind_pattern_and 0 4 0 0) ((node (head kind_pattern_var 0 9 0 0) (one (id 9 1))) ▸ one (node (head kind_pattern_const_bool 1 11 0 0) ∅)))))) 7))
    -- `(true _ false)`
    ∷ (case pattern (tok 1 0 0 0 ++ sym 1 4 ++ sym 6 1 ++ sym 8 5 ++ tok 2 13 0 0) (40 ∷ 116 ∷ 114 ∷ 117 ∷ 101 ∷ 32 ∷ 95 ∷ 32 ∷ 102 ∷ 97 ∷ 108 ∷ 115 ∷ 101 ∷ 41 ∷ []) 14 (accept (one (node (head kind_pattern_term 0 0 0 0) (id 1 4 ▸ (node (head kind_pattern_wildcard 0 6 0 0) ∅) ▸ one (node (head kind_pattern_const_bool 0 8 0 0) ∅)))) 5))
    -- `)`
    ∷ (case pattern (tok 2 0 0 0) (41 ∷ []) 1 (refuse (refusal 25 0 0)))
    -- `(5)`
    ∷ (case pattern (tok 1 0 0 0 ++ tok 4 1 0 5 ++ tok 2 2 0 0) (40 ∷ 53 ∷ 41 ∷ []) 3 (refuse (refusal 10 1 1)))
    -- `(A x)` where no other may stand inside
    ∷ (case shallow (tok 1 0 0 0 ++ sym 1 1 ++ sym 3 1 ++ tok 2 4 0 0) (40 ∷ 65 ∷ 32 ∷ 120 ∷ 41 ∷ []) 5 (refuse (refusal 8 3 2)))
    -- `x @ y` where no other may stand inside
    ∷ (case shallow (sym 0 1 ++ tok 5 2 0 0 ++ sym 4 1) (120 ∷ 32 ∷ 64 ∷ 32 ∷ 121 ∷ []) 5 (refuse (refusal 8 4 2)))
    -- `x` where no other may stand inside
    ∷ (case shallow (sym 0 1) (120 ∷ []) 1 (accept (one (node (head kind_pattern_var 0 0 0 0) (one (id 0 1)))) 1))
    -- `_`
    ∷ (case expr (sym 0 1) (95 ∷ []) 1 (accept (one (node (head kind_expr_var 0 0 0 0) (one (id 0 1)))) 1))
    -- `$a`
    ∷ (case expr (sym 0 2) (36 ∷ 97 ∷ []) 2 (accept (one (node (head kind_expr_const_prim 0 0 0 0) (one (ident_node 0 4294967297)))) 1))
    -- `$` alone is no constant
    ∷ (case expr (sym 0 1) (36 ∷ []) 1 (refuse (refusal 16 0 1)))
    -- `($ x)`
    ∷ (case expr (tok 1 0 0 0 ++ sym 1 1 ++ sym 3 1 ++ tok 2 4 0 0) (40 ∷ 36 ∷ 32 ∷ 120 ∷ 41 ∷ []) 5 (accept (one (node (head kind_expr_term 0 0 0 0) (id 1 1 ▸ one (node (head kind_expr_var 0 3 0 0) (one (id 3 1)))))) 4))
    -- `(let ((x T 5)) x)`
    ∷ (case expr (tok 1 0 0 0 ++ sym 1 3 ++ tok 1 5 0 0 ++ tok 1 6 0 0 ++ sym 7 1 ++ sym 9 1 ++ tok 4 11 0 5 ++ tok 2 12 0 0 ++ tok 2 13 0 0 ++ sym 15 1 ++ tok 2 16 0 0) (40 ∷ 108 ∷ 101 ∷ 116 ∷ 32 ∷ 40 ∷ 40 ∷ 120 ∷ 32 ∷ 84 ∷ 32 ∷ 53 ∷ 41 ∷ 41 ∷ 32 ∷ 120 ∷ 41 ∷ []) 17 (accept (one (node (head kind_expr_let 0 0 0 0) ((node (head kind_let_def 0 6 0 0) (id 7 1 ▸ id 9 1 ▸ one (node (head kind_expr_const_int 0 11 0 5) ∅))) ▸ one (node (head kind_expr_var 0 15 0 0) (one (id 15 1)))))) 11))
    -- `(let ((x T)) x)`
    ∷ (case expr (tok 1 0 0 0 ++ sym 1 3 ++ tok 1 5 0 0 ++ tok 1 6 0 0 ++ sym 7 1 ++ sym 9 1 ++ tok 2 10 0 0 ++ tok 2 11 0 0 ++ sym 13 1 ++ tok 2 14 0 0) (40 ∷ 108 ∷ 101 ∷ 116 ∷ 32 ∷ 40 ∷ 40 ∷ 120 ∷ 32 ∷ 84 ∷ 41 ∷ 41 ∷ 32 ∷ 120 ∷ 41 ∷ []) 15 (refuse (refusal 26 10 6)))
    -- `@`
    ∷ (case expr (tok 5 0 0 0) (64 ∷ []) 1 (refuse (refusal 26 0 0)))
    -- `(if x)`
    ∷ (case iflet (tok 1 0 0 0 ++ sym 1 2 ++ sym 4 1 ++ tok 2 5 0 0) (40 ∷ 105 ∷ 102 ∷ 32 ∷ 120 ∷ 41 ∷ []) 6 (accept (one (node (head kind_if_let 0 4 0 0) ((node (head kind_pattern_wildcard 0 4 0 0) ∅) ▸ one (node (head kind_expr_var 0 4 0 0) (one (id 4 1)))))) 4))
    -- `(if-let _ y)`
    ∷ (case iflet (tok 1 0 0 0 ++ sym 1 6 ++ sym 8 1 ++ sym 10 1 ++ tok 2 11 0 0) (40 ∷ 105 ∷ 102 ∷ 45 ∷ 108 ∷ 101 ∷ 116 ∷ 32 ∷ 95 ∷ 32 ∷ 121 ∷ 41 ∷ []) 12 (accept (one (node (head kind_if_let 0 8 0 0) ((node (head kind_pattern_wildcard 0 8 0 0) ∅) ▸ one (node (head kind_expr_var 0 10 0 0) (one (id 10 1)))))) 5))
    -- `(iff x)`
    ∷ (case iflet (tok 1 0 0 0 ++ sym 1 3 ++ sym 5 1 ++ tok 2 6 0 0) (40 ∷ 105 ∷ 102 ∷ 102 ∷ 32 ∷ 120 ∷ 41 ∷ []) 7 (accept (one (node (head kind_expr_term 0 0 0 0) (id 1 3 ▸ one (node (head kind_expr_var 0 5 0 0) (one (id 5 1)))))) 4))
    ∷ []
