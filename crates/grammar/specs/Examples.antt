-- Inputs for the theorems of the grammar.
use Rattle.std.specs.Prelude.{◌+◌, ◌*◌, [], ◌∷◌, ◌++◌}
use Rattle.trees.specs.Tree.{Trees, node, ◌▸◌, head}
use Rattle.trees.specs.Ast.{kind_extern_const, ident_node, kind_rule, kind_pattern_var, kind_pattern_term, kind_expr_var}
use Rattle.tokens.specs.Input.{Input, input}
use Rattle.exprs.specs.Examples.{tok, sym, id}
use Rattle.grammar.specs.Lexical.{one}

-- `(rule (A x) y)`, and its tree
unfoldable pub accepted : Input
accepted = input (tok 1 0 0 0 ++ sym 1 4 ++ tok 1 6 0 0 ++ sym 7 1 ++ sym 9 1 ++ tok 2 10 0 0 ++ sym 12 1 ++ tok 2 13 0 0) (40 ∷ 114 ∷ 117 ∷ 108 ∷ 101 ∷ 32 ∷ 40 ∷ 65 ∷ 32 ∷ 120 ∷ 41 ∷ 32 ∷ 121 ∷ 41 ∷ []) 14

unfoldable pub tree : Trees
tree = one (node (head kind_rule 0 6 0 0) (node (head kind_pattern_term 0 6 0 0) (id 7 1 ▸ one (node (head kind_pattern_var 0 9 0 0) (one (id 9 1)))) ▸ one (node (head kind_expr_var 0 12 0 0) (one (id 12 1)))))

-- `(rule 5 x)`
unfoldable pub refused : Input
refused = input (tok 1 0 0 0 ++ sym 1 4 ++ tok 4 6 0 5 ++ sym 8 1 ++ tok 2 9 0 0) (40 ∷ 114 ∷ 117 ∷ 108 ∷ 101 ∷ 32 ∷ 53 ∷ 32 ∷ 120 ∷ 41 ∷ []) 10

-- `(extern const $ T)`
unfoldable pub alone : Input
alone = input (tok 1 0 0 0 ++ sym 1 6 ++ sym 8 5 ++ sym 14 1 ++ sym 16 1 ++ tok 2 17 0 0) (40 ∷ 101 ∷ 120 ∷ 116 ∷ 101 ∷ 114 ∷ 110 ∷ 32 ∷ 99 ∷ 111 ∷ 110 ∷ 115 ∷ 116 ∷ 32 ∷ 36 ∷ 32 ∷ 84 ∷ 41 ∷ []) 18

-- `(extern const $a T)`, and its tree: the name that is left starts at 15 and has one byte
unfoldable pub constant : Input
constant = input (tok 1 0 0 0 ++ sym 1 6 ++ sym 8 5 ++ sym 14 2 ++ sym 17 1 ++ tok 2 18 0 0) (40 ∷ 101 ∷ 120 ∷ 116 ∷ 101 ∷ 114 ∷ 110 ∷ 32 ∷ 99 ∷ 111 ∷ 110 ∷ 115 ∷ 116 ∷ 32 ∷ 36 ∷ 97 ∷ 32 ∷ 84 ∷ 41 ∷ []) 19

unfoldable pub constant-tree : Trees
constant-tree = one (node (head kind_extern_const 0 14 0 0) (ident_node 14 (15 * 4294967296 + 1) ▸ one (id 17 1)))

-- `(rule r x@(A y) z)`
unfoldable pub bound : Input
bound = input (tok 1 0 0 0 ++ sym 1 4 ++ sym 6 1 ++ sym 8 1 ++ tok 5 9 0 0 ++ tok 1 10 0 0 ++ sym 11 1 ++ sym 13 1 ++ tok 2 14 0 0 ++ sym 16 1 ++ tok 2 17 0 0) (40 ∷ 114 ∷ 117 ∷ 108 ∷ 101 ∷ 32 ∷ 114 ∷ 32 ∷ 120 ∷ 64 ∷ 40 ∷ 65 ∷ 32 ∷ 121 ∷ 41 ∷ 32 ∷ 122 ∷ 41 ∷ []) 18
