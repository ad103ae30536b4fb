-- How far an expression reads, and its depth in the words of the code. Assumes nothing.
use Prim.Native.Nat.{ℕ, zero, suc, ◌-◌}
use native.Mathlib.Omega.{arith}
use mathlib.Core.Path.{◌≡◌, refl}
use Rattle.trees.specs.Ast.{kind_expr_term, kind_expr_var, kind_expr_const_bool, kind_expr_const_prim, kind_expr_let, kind_let_def}
use Rattle.tokens.specs.Token.{is_lparen, is_rparen, is_symbol, is_int, is_const, is_word}
use Rattle.tokens.specs.Input.{Input, peek}
use Rattle.std.specs.Prelude.{Result}
use Rattle.steps.specs.declared.Parser.{Parser}
use Rattle.steps.specs.declared.Stop.{Stop}
use Rattle.steps.specs.Keywords.{word-true, word-false, word_let}
use Rattle.steps.specs.Outcome.{Reader, ◌⊳◌, parent, leaf, plain, refuse_at, if_next, row, expect-lparen, expect-rparen, expect-word, parse_ident, parse_const}
use Rattle.steps.specs.Sizes.{Bounded}
use Rattle.steps.specs.Read.{read_by, Read}
use Rattle.steps.proofs.SizeLaws.{Steady, Item, steady, item, then_bounded, parent-bounded, next-bounded, second-bounded, leaf-bounded, refuse-bounded, int_kinded, word_kinded, lparen-bounded, rparen-bounded, word-bounded, ident-bounded, const_bounded}
use Rattle.steps.proofs.RowLaws.{row_steady}
use Rattle.exprs.specs.Expr.{const_int, parse_letdef, let_inside, parse_expr_inner_parens, expr_in, parse_expr}

-- ---- at least a token, and a record to spare

module _ (s : Input) (sub : Reader) (b : Bounded 1 1 0 s sub) where
  pub letdef_bounded : Bounded 1 1 0 s (parse_letdef s sub)
  unfolding parse_letdef
  letdef_bounded =
      parent-bounded 5 11 0 1 1 0 s kind_let_def 0 (expect-lparen s ⊳ parse_ident s ⊳ parse_ident s ⊳ sub ⊳ expect-rparen s) (omega arith) (omega arith)
      (then_bounded 4 8 0 1 3 0 s (expect-lparen s ⊳ parse_ident s ⊳ parse_ident s ⊳ sub) (expect-rparen s)
      (then_bounded 3 7 0 1 1 0 s (expect-lparen s ⊳ parse_ident s ⊳ parse_ident s) sub
      (then_bounded 2 5 0 1 2 0 s (expect-lparen s ⊳ parse_ident s) (parse_ident s)
      (then_bounded 1 3 0 1 2 0 s (expect-lparen s) (parse_ident s) (lparen-bounded s) (ident-bounded s)) (ident-bounded s)) b) (rparen-bounded s))

  letdefs_steady : Steady s (row s (parse_letdef s sub))
  letdefs_steady = row_steady s (λ i. is_rparen (peek s i)) (parse_letdef s sub) (item 1 s (parse_letdef s sub) letdef_bounded)

  rows_steady : Steady s (row s sub)
  rows_steady = row_steady s (λ i. is_rparen (peek s i)) sub (item 1 s sub b)

  -- the inside of a let
  pub inside-bounded : Bounded 5 13 0 s (let_inside s sub)
  unfolding let_inside
  inside-bounded =
      then_bounded 4 10 0 1 3 0 s (expect-word s word_let ⊳ expect-lparen s ⊳ row s (parse_letdef s sub) ⊳ expect-rparen s ⊳ sub) (expect-rparen s)
      (then_bounded 3 9 0 1 1 0 s (expect-word s word_let ⊳ expect-lparen s ⊳ row s (parse_letdef s sub) ⊳ expect-rparen s) sub
      (then_bounded 2 6 0 1 3 0 s (expect-word s word_let ⊳ expect-lparen s ⊳ row s (parse_letdef s sub)) (expect-rparen s)
      (then_bounded 2 6 0 0 0 0 s (expect-word s word_let ⊳ expect-lparen s) (row s (parse_letdef s sub))
      (then_bounded 1 3 0 1 3 0 s (expect-word s word_let) (expect-lparen s) (word-bounded s word_let) (lparen-bounded s)) letdefs_steady) (rparen-bounded s)) b) (rparen-bounded s)

  let-bounded : Bounded 1 1 0 s (parent s kind_expr_let 0 (expect-lparen s ⊳ let_inside s sub))
  let-bounded =
      parent-bounded 6 16 0 1 1 0 s kind_expr_let 0 (expect-lparen s ⊳ let_inside s sub) (omega arith) (omega arith)
      (then_bounded 1 3 0 5 13 0 s (expect-lparen s) (let_inside s sub) (lparen-bounded s) inside-bounded)

  term-bounded : Bounded 1 1 0 s (parent s kind_expr_term 0 (expect-lparen s ⊳ parse_ident s ⊳ row s sub ⊳ expect-rparen s))
  term-bounded =
      parent-bounded 3 8 0 1 1 0 s kind_expr_term 0 (expect-lparen s ⊳ parse_ident s ⊳ row s sub ⊳ expect-rparen s) (omega arith) (omega arith)
      (then_bounded 2 5 0 1 3 0 s (expect-lparen s ⊳ parse_ident s ⊳ row s sub) (expect-rparen s)
      (then_bounded 2 5 0 0 0 0 s (expect-lparen s ⊳ parse_ident s) (row s sub)
      (then_bounded 1 3 0 1 2 0 s (expect-lparen s) (parse_ident s) (lparen-bounded s) (ident-bounded s)) rows_steady) (rparen-bounded s))

  parens_bounded : Bounded 1 1 0 s (parse_expr_inner_parens s sub)
  unfolding parse_expr_inner_parens
  parens_bounded =
      second-bounded 1 1 0 s (is_word s.text word_let)
      (parent s kind_expr_let 0 (expect-lparen s ⊳ let_inside s sub))
      (parent s kind_expr_term 0 (expect-lparen s ⊳ parse_ident s ⊳ row s sub ⊳ expect-rparen s)) let-bounded term-bounded

  in-bounded : Bounded 1 1 0 s (expr_in s sub)
  unfolding expr_in
  in-bounded =
      next-bounded 1 1 0 s is_lparen (parse_expr_inner_parens s sub) consts parens_bounded
      (next-bounded 1 1 0 s (is_const s.text) (parent s kind_expr_const_prim 0 (parse_const s)) trues
      (parent-bounded 1 2 0 1 1 0 s kind_expr_const_prim 0 (parse_const s) (omega arith) (omega arith) (const_bounded s))
      (leaf-bounded 1 s (is_word s.text word-true) (plain kind_expr_const_bool 1) falses (omega arith) (word_kinded s.text word-true)
      (leaf-bounded 1 s (is_word s.text word-false) (plain kind_expr_const_bool 0) vars (omega arith) (word_kinded s.text word-false)
      (next-bounded 1 1 0 s is_symbol (parent s kind_expr_var 0 (parse_ident s)) ints
      (parent-bounded 1 2 0 1 1 0 s kind_expr_var 0 (parse_ident s) (omega arith) (omega arith) (ident-bounded s))
      (leaf-bounded 1 s is_int const_int (refuse_at s 26) (omega arith) int_kinded (refuse-bounded 1 1 0 s 26))))))
    where
      ints : Reader
      ints = if_next s is_int (leaf s const_int) (refuse_at s 26)

      vars : Reader
      vars = if_next s is_symbol (parent s kind_expr_var 0 (parse_ident s)) ints

      falses : Reader
      falses = if_next s (is_word s.text word-false) (leaf s (plain kind_expr_const_bool 0)) vars

      trues : Reader
      trues = if_next s (is_word s.text word-true) (leaf s (plain kind_expr_const_bool 1)) falses

      consts : Reader
      consts = if_next s (is_const s.text) (parent s kind_expr_const_prim 0 (parse_const s)) trues

pub expr-bounded : (s : Input) (d : ℕ) → Bounded 1 1 0 s (parse_expr s d)
unfolding parse_expr
expr-bounded s zero = refuse-bounded 1 1 0 s 8
expr-bounded s (suc d) = in-bounded s (parse_expr s d) (expr-bounded s d)

module _ (s : Input) (d : ℕ) where
  pub expr_steady : Steady s (parse_expr s d)
  expr_steady = steady 1 1 s (parse_expr s d) (expr-bounded s d)

  pub expr_item : Item s (parse_expr s d)
  expr_item = item 1 s (parse_expr s d) (expr-bounded s d)

  pub exprs_steady : Steady s (row s (parse_expr s d))
  exprs_steady = rows_steady s (parse_expr s d) (expr-bounded s d)

  pub letdef_steady : Steady s (parse_letdef s (parse_expr s d))
  letdef_steady = steady 1 1 s (parse_letdef s (parse_expr s d)) (letdef_bounded s (parse_expr s d) (expr-bounded s d))

  pub letdef_item : Item s (parse_letdef s (parse_expr s d))
  letdef_item = item 1 s (parse_letdef s (parse_expr s d)) (letdef_bounded s (parse_expr s d) (expr-bounded s d))

  pub defs_steady : Steady s (row s (parse_letdef s (parse_expr s d)))
  defs_steady = letdefs_steady s (parse_expr s d) (expr-bounded s d)

  pub inner_steady : Steady s (let_inside s (parse_expr s d))
  inner_steady = steady 5 13 s (let_inside s (parse_expr s d)) (inside-bounded s (parse_expr s d) (expr-bounded s d))

-- ---- depth

one_less : (s : Input) (d : ℕ) → (d ≡ 0 → ⊥) → parse_expr s d ≡ expr_in s (parse_expr s (d - 1))
unfolding parse_expr
one_less s zero h = absurd (h refl)
one_less s (suc d) h = let e : suc d - 1 ≡ d = omega arith in rw e

pub too_deep : (d : ℕ) {p p' : Parser} {r : Result (Unit {0}) Stop} → d ≡ 0 → Read (λ s. refuse_at s 8) p p' r → Read (λ s. parse_expr s d) p p' r
unfolding parse_expr
too_deep d e m = rw e m

pub not_too_deep : (d : ℕ) {p p' : Parser} {r : Result (Unit {0}) Stop} → (d ≡ 0 → ⊥) → Read (λ s. expr_in s (parse_expr s (d - 1))) p p' r → Read (λ s. parse_expr s d) p p' r
not_too_deep d {p = p} z m = record { read = rw (one_less (read_by p) d z) m.read; same = m.same }
