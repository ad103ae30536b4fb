-- The readers of expressions and if-lets. Assumes nothing.
use Prim.Native.Nat.{ℕ, zero, suc, ◌+◌, ◌<◌, ◌≤◌}
use native.Mathlib.Omega.{arith}
use mathlib.Core.Path.{◌≡◌, refl}
use mathlib.Core.Bool.{Bool, true, false}
use Rattle.trees.specs.Choice.{pick}
use Rattle.trees.specs.Ast.{kind_if_let, kind_pattern_wildcard, kind_expr_term, kind_expr_var, kind_expr_const_bool, kind_expr_const_prim, kind_expr_let, kind_let_def}
use Rattle.tokens.specs.Token.{is_lparen, is_symbol, is_const, is_word}
use Rattle.tokens.specs.Input.{Input, peek, size}
use Rattle.steps.specs.Keywords.{word-true, word-false, word_let, word_if, word_if_let}
use Rattle.steps.specs.Outcome.{Reader, ◌⊳◌, plain, if_next, if_second, many, expect-lparen, expect-rparen, expect-word}
use Rattle.exprs.specs.Expr.{const_int, parse_letdef, let_inside, parse_expr_inner_parens, expr_in, parse_expr, parse_iflet, parse_iflet_if, parse_iflet_or_expr, no_iflet}
use Rattle.grammar.proofs.Laws.{least}
use Rattle.grammar.proofs.Rows.{item_on}
use Rattle.grammar.proofs.Expr.{exact_expr}
use Rattle.lookahead.specs.Agree.{Agree}
use Rattle.lookahead.proofs.Combinators.{reach, Follows, Start, start-goes, Begins, ◌⊳·◌, ◌⊳→◌, on_either, start_either, parents, parents→, told, next-at, nexts, second_at, seconds}
use Rattle.lookahead.proofs.Steps.{nothings, refuses, integer-leaves, word-leaves, rparens, words, lparens, idents, constants}
use Rattle.lookahead.proofs.Rows.{Takes, start_takes, begins_takes, next_takes, rows_then, rows_of, below}
use Rattle.lookahead.proofs.Patterns.{patterns}

expr_takes : (s : Input) (d : ℕ) → Takes (size s) (parse_expr s d)
unfolding least
expr_takes s d = record { takes = λ i ts j e. item_on refl ((exact_expr s d).sound i e).derives }

module _ {m : ℕ} {s t : Input} (a : Agree m s t) where
  module _ {sub sub' : Reader} (h : Takes (size s) sub) (r : Follows s m sub sub') where
    letdefs : Begins s 1 m (parse_letdef s sub) (parse_letdef t sub')
    unfolding parse_letdef
    letdefs = parents→ a kind_let_def 0 (lparens a ⊳→ (idents a).follows ⊳→ (idents a).follows ⊳→ r ⊳→ rparens a)

    let-insides : Follows s m (let_inside s sub) (let_inside t sub')
    unfolding let_inside
    let-insides = words a word_let ⊳· (lparens a).follows ⊳· rows_of a (begins_takes (omega arith) letdefs) letdefs.follows ⊳· rparens a ⊳· r ⊳· rparens a

    parens : Begins s 1 m (parse_expr_inner_parens s sub) (parse_expr_inner_parens t sub')
    unfolding parse_expr_inner_parens
    parens =
        seconds a (λ x. is_word x word_let)
        (parents→ a kind_expr_let 0 (lparens a ⊳→ let-insides))
        (parents→ a kind_expr_term 0 (lparens a ⊳→ (idents a).follows ⊳→ rows_of a h r ⊳→ rparens a))

  exprs : (d : ℕ) → Follows s m (parse_expr s d) (parse_expr t d)
  unfolding parse_expr expr_in
  exprs zero = refuses a 8
  exprs (suc d) =
      nexts a (λ _. is_lparen) (parens (expr_takes s d) (exprs d)).follows
      (nexts a is_const (parents a kind_expr_const_prim 0 (constants a).follows)
      (word-leaves a word-true (plain kind_expr_const_bool 1)
      (word-leaves a word-false (plain kind_expr_const_bool 0)
      (nexts a (λ _. is_symbol) (parents a kind_expr_var 0 (idents a).follows)
      (integer-leaves a const_int
      (refuses a 26))))))

  -- ---- if-lets

  iflets : Begins s 1 m (expect-lparen s ⊳ expect-word s word_if_let ⊳ parse_iflet s ⊳ expect-rparen s) (expect-lparen t ⊳ expect-word t word_if_let ⊳ parse_iflet t ⊳ expect-rparen t)
  unfolding parse_iflet
  iflets = lparens a ⊳→ words a word_if_let ⊳→ parents a kind_if_let 0 (patterns a 64 ⊳· exprs 64) ⊳→ rparens a

  ifs : Begins s 1 m (expect-lparen s ⊳ expect-word s word_if ⊳ parse_iflet_if s ⊳ expect-rparen s) (expect-lparen t ⊳ expect-word t word_if ⊳ parse_iflet_if t ⊳ expect-rparen t)
  unfolding parse_iflet_if
  ifs = lparens a ⊳→ words a word_if ⊳→ parents a kind_if_let 0 (parents a kind_pattern_wildcard 0 nothings ⊳· exprs 64) ⊳→ rparens a

  -- at a `(` an expression consumes it, as an if-let does
  expr-start : (i : ℕ) → is_lparen (peek s i) ≡ true → Start s 1 i (parse_expr s 64 i)
  unfolding parse_expr expr_in if_next
  expr-start i e = rw e ((parens (expr_takes s 63) (exprs 63)).start i)

  iflets_or_exprs : Follows s m (parse_iflet_or_expr s) (parse_iflet_or_expr t)
  unfolding parse_iflet_or_expr if_next if_second
  iflets_or_exprs =
      record {
        at = λ i. next-at a (λ _. is_lparen)
            (λ e. second_at a (λ x. is_word x word_if_let) (iflets.follows.at i)
            (second_at a (λ x. is_word x word_if) (ifs.follows.at i) ((exprs 64).at i) (ifs.start i) (expr-start i e))
            (iflets.start i) (start_either (is_word s.text word_if (peek s (i + 1))) (ifs.start i) (expr-start i e)))
            ((exprs 64).at i);
      }

  abbrev paren : Reader
  paren =
      if_second s (is_word s.text word_if_let) (expect-lparen s ⊳ expect-word s word_if_let ⊳ parse_iflet s ⊳ expect-rparen s)
      (if_second s (is_word s.text word_if) (expect-lparen s ⊳ expect-word s word_if ⊳ parse_iflet_if s ⊳ expect-rparen s) (parse_expr s 64))

  paren_start : (i : ℕ) → is_lparen (peek s i) ≡ true → Start s 1 i (paren i)
  unfolding if_second
  paren_start i e =
      start_either (is_word s.text word_if_let (peek s (i + 1))) (iflets.start i)
      (start_either (is_word s.text word_if (peek s (i + 1))) (ifs.start i) (expr-start i e))

  past_paren : (i : ℕ) → is_lparen (peek s i) ≡ true → i < reach (parse_iflet_or_expr s i)
  unfolding parse_iflet_or_expr if_next is_lparen
  past_paren i e = rw e (start-goes e (paren_start i e))

  either_takes : Takes (size s) (parse_iflet_or_expr s)
  unfolding parse_iflet_or_expr
  either_takes = next_takes s is_lparen (λ i ts j e x. start_takes ts j (omega arith) (paren_start i e) x) (expr_takes s 64)

  -- whether the if-lets end is told by the `(` alone, or by the token after it, which what is read next goes past
  no_iflet_lem : (i : ℕ) → i ≤ m → reach (parse_iflet_or_expr s i) ≤ m → no_iflet t i ≡ no_iflet s i
  unfolding no_iflet
  no_iflet_lem i l h = go (is_lparen (peek s i)) refl
    where
      go : (b : Bool) → is_lparen (peek s i) ≡ b
          → pick (is_lparen (peek t i)) (pick (is_word t.text word_if_let (peek t (i + 1))) false (pick (is_word t.text word_if (peek t (i + 1))) false true)) true
          ≡ pick (is_lparen (peek s i)) (pick (is_word s.text word_if_let (peek s (i + 1))) false (pick (is_word s.text word_if (peek s (i + 1))) false true)) true
      go true e =
          let n : i + 1 ≤ m = omega (arith, past_paren i e) in
          rw (told a (λ _. is_lparen) i l, told a (λ x. is_word x word_if_let) (i + 1) n, told a (λ x. is_word x word_if) (i + 1) n)
      go false e = rw (told a (λ _. is_lparen) i l, e)

  -- the if-lets of a rule and its expression
  pub iflet-rows : Follows s m (many (size s) (no_iflet s) (parse_iflet_or_expr s) ⊳ parse_iflet_or_expr s) (many (size t) (no_iflet t) (parse_iflet_or_expr t) ⊳ parse_iflet_or_expr t)
  unfolding many
  iflet-rows =
      rows_then (record {
        near = below a;
        takes = λ _. either_takes;
        items = λ _. iflets_or_exprs;
        last = iflets_or_exprs;
        tells = λ k i l h. let z = on_either {n = reach (parse_iflet_or_expr s i)} (no_iflet s i) (parse_iflet_or_expr s i) (parse_iflet_or_expr s i) (omega arith) (omega arith) in no_iflet_lem i l (omega arith);
      }) 0
