-- How far the if-lets of a rule read, and the test for one more. Assumes nothing.
use Prim.Native.Nat.{ℕ, ◌+◌}
use native.Mathlib.Omega.{arith}
use mathlib.Core.Path.{◌≡◌, refl}
use mathlib.Core.List.{List}
use mathlib.Core.Bool.{Bool, true, false, not}
use Rattle.trees.specs.Choice.{pick}
use Rattle.trees.specs.Ast.{kind_if_let, kind_pattern_wildcard}
use Rattle.tokens.specs.declared.Token.{Token}
use Rattle.tokens.specs.Token.{is_lparen, is_word}
use Rattle.tokens.specs.Input.{Input, peek, size}
use Rattle.steps.specs.Sizes.{Bounded}
use Rattle.steps.specs.Keywords.{word_if, word_if_let}
use Rattle.steps.specs.Outcome.{Reader, ◌⊳◌, parent, nothing, if_second, many, expect-lparen, expect-rparen, expect-word}
use Rattle.steps.proofs.SizeLaws.{Steady, Item, steady, item, less_bounded, then_bounded, parent-bounded, next-bounded, second-bounded, nothing-bounded, lparen-bounded, rparen-bounded, word-bounded}
use Rattle.steps.proofs.RowLaws.{row_steady}
use Rattle.patterns.specs.Pattern.{parse_pattern}
use Rattle.patterns.proofs.PatternLaws.{pattern-bounded}
use Rattle.exprs.specs.Expr.{parse_expr, parse_iflet, parse_iflet_if, parse_iflet_or_expr, no_iflet}
use Rattle.exprs.proofs.ExprLaws.{expr-bounded}

module _ (s : Input) where
  iflet-bounded : Bounded 1 1 0 s (parse_iflet s)
  unfolding parse_iflet
  iflet-bounded =
      parent-bounded 2 2 0 1 1 0 s kind_if_let 0 (parse_pattern s 64 ⊳ parse_expr s 64) (omega arith) (omega arith)
      (then_bounded 1 1 0 1 1 0 s (parse_pattern s 64) (parse_expr s 64) (pattern-bounded s 64) (expr-bounded s 64))

  pub wildcard-bounded : Bounded 0 0 1 s (parent s kind_pattern_wildcard 0 nothing)
  wildcard-bounded = parent-bounded 0 0 0 0 0 1 s kind_pattern_wildcard 0 nothing (omega arith) (omega arith) (nothing-bounded s)

  if_bounded : Bounded 1 0 1 s (parse_iflet_if s)
  unfolding parse_iflet_if
  if_bounded =
      parent-bounded 1 1 1 1 0 1 s kind_if_let 0 (parent s kind_pattern_wildcard 0 nothing ⊳ parse_expr s 64) (omega arith) (omega arith)
      (then_bounded 0 0 1 1 1 0 s (parent s kind_pattern_wildcard 0 nothing) (parse_expr s 64) wildcard-bounded (expr-bounded s 64))

  -- `(word ..)`
  worded : (u c d : ℕ) (w : List ℕ) (f : Reader) → Bounded u c d s f → Bounded (1 + 1 + u + 1) (3 + 3 + c + 3) (0 + 0 + d + 0) s (expect-lparen s ⊳ expect-word s w ⊳ f ⊳ expect-rparen s)
  worded u c d w f b =
      then_bounded (1 + 1 + u) (3 + 3 + c) (0 + 0 + d) 1 3 0 s (expect-lparen s ⊳ expect-word s w ⊳ f) (expect-rparen s)
      (then_bounded (1 + 1) (3 + 3) (0 + 0) u c d s (expect-lparen s ⊳ expect-word s w) f
      (then_bounded 1 3 0 1 3 0 s (expect-lparen s) (expect-word s w) (lparen-bounded s) (word-bounded s w)) b) (rparen-bounded s)

  pub either_bounded : Bounded 1 1 0 s (parse_iflet_or_expr s)
  unfolding parse_iflet_or_expr
  either_bounded =
      next-bounded 1 1 0 s is_lparen (if_second s (is_word s.text word_if_let) iflet (if_second s (is_word s.text word_if) if· (parse_expr s 64))) (parse_expr s 64)
      (second-bounded 1 1 0 s (is_word s.text word_if_let) iflet (if_second s (is_word s.text word_if) if· (parse_expr s 64))
      (less_bounded (1 + 1 + 1 + 1) (3 + 3 + 1 + 3) (0 + 0 + 0 + 0) 1 1 0 s iflet (omega arith) (omega arith) (worded 1 1 0 word_if_let (parse_iflet s) iflet-bounded))
      (second-bounded 1 1 0 s (is_word s.text word_if) if· (parse_expr s 64)
      (less_bounded (1 + 1 + 1 + 1) (3 + 3 + 0 + 3) (0 + 0 + 1 + 0) 1 1 0 s if· (omega arith) (omega arith) (worded 1 0 1 word_if (parse_iflet_if s) if_bounded))
      (expr-bounded s 64)))
      (expr-bounded s 64)
    where
      iflet : Reader
      iflet = expect-lparen s ⊳ expect-word s word_if_let ⊳ parse_iflet s ⊳ expect-rparen s

      if· : Reader
      if· = expect-lparen s ⊳ expect-word s word_if ⊳ parse_iflet_if s ⊳ expect-rparen s

  pub either_steady : Steady s (parse_iflet_or_expr s)
  either_steady = steady 1 1 s (parse_iflet_or_expr s) either_bounded

  pub either_item : Item s (parse_iflet_or_expr s)
  either_item = item 1 s (parse_iflet_or_expr s) either_bounded

  pub iflets_steady : Steady s (many (size s) (no_iflet s) (parse_iflet_or_expr s))
  iflets_steady = row_steady s (no_iflet s) (parse_iflet_or_expr s) either_item

-- ---- whether no more if-let stands there

module _ (s : Input) (i : ℕ) (t : Token) (a : Bool) (x : t ≡ peek s i) (q : a ≡ is_lparen t) where
  pub none_there : a ≡ false → true ≡ no_iflet s i
  unfolding no_iflet
  none_there v = rw (← x, ← q, v)

  module _ (u : Token) (b : Bool) (v : a ≡ true) (y : u ≡ peek s (i + 1)) (r : b ≡ is_word s.text word_if_let u) where
    pub iflet_there : b ≡ true → false ≡ no_iflet s i
    unfolding no_iflet
    iflet_there w = rw (← x, ← y, ← q, v, ← r, w)

    pub if_there : (c : Bool) → b ≡ false → c ≡ is_word s.text word_if u → not c ≡ no_iflet s i
    unfolding no_iflet
    if_there c w z = rw (← x, ← y, ← q, v, ← r, w, ← z) (go c)
      where
        go : (k : Bool) → not k ≡ pick k false true
        go true = refl
        go false = refl
