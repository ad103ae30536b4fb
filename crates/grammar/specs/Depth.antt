-- How deep a tree is nested: the patterns and expressions on the longest way down. LetDef and IfLet are no levels.
use Rattle.std.specs.Prelude.{ℕ, ◌+◌, max, false, leb}
use Rattle.trees.specs.Choice.{pick}
use Rattle.trees.specs.Tree.{Tree, Trees, node, ∅, ◌▸◌}
use Rattle.trees.specs.Ast.{kind_pattern_var, kind_expr_let}

-- 1 for a pattern or an expression, and 0 for any other record
abbrev pub level : ℕ → ℕ
level kind = pick (pick (leb kind_pattern_var kind) (leb kind kind_expr_let) false) 1 0

unfoldable mutual
  pub depth : Tree → ℕ
  depth (node h ts) = level h.kind + deepest ts

  pub deepest : Trees → ℕ
  deepest ∅ = 0
  deepest (t ▸ ts) = max (depth t) (deepest ts)
