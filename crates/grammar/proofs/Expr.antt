-- The reader of expressions is exact. Assumes nothing.
use Prim.Native.Nat.{ℕ, zero, suc, ◌≤◌}
use native.Mathlib.Omega.{arith}
use mathlib.Core.Path.{refl}
use Rattle.trees.specs.Tree.{Trees, ◌⧺◌}
use Rattle.trees.specs.Ast.{kind_expr_term, kind_expr_var, kind_expr_const_bool, kind_expr_const_prim, kind_expr_let, kind_let_def}
use Rattle.words.specs.Bytes.{same_bytes}
use Rattle.tokens.specs.Input.{Input}
use Rattle.steps.specs.Keywords.{word-true, word-false, word_let}
use Rattle.steps.specs.Outcome.{row, plain}
use Rattle.exprs.specs.Expr.{const_int, parse_letdef, let_inside, parse_expr_inner_parens, expr_in, parse_expr}
use Rattle.grammar.specs.Grammar.{expression, letdef, list, Gram, e_integer, e_constant, e_true, e_false, e_var, e_let, e_term, l_def}
use Rattle.grammar.specs.Depth.{deepest}
use Rattle.grammar.specs.Nesting.{Read, Nested, here, inward, in-letdef, in-let, in-expression}
use Rattle.grammar.proofs.Exact.{Exact, deep, token, then, up, over, holds, fails, after, first, second, if_so, if_not, exact_iff, exact_to, exact_refuse_at}
use Rattle.grammar.proofs.Known.{Inner, inner, known, refuses, leaves, quiet, ◌⊳⊳◌, ◌⊳↓◌, ◌⊳⇊◌, ◌⊳·◌, parents, nexts, nexts↓, seconds↓}
use Rattle.grammar.proofs.Lexemes.{other, opens, symbols, integers, words, dollars, one_word, no_dollar_word, lparen, rparen, word, ident, constant}
use Rattle.grammar.proofs.Laws.{least, deepest_⧺}
use Rattle.grammar.proofs.Rows.{Shut, InRow, in_row, exact_row_in}

level : {s : Input} {i j : ℕ} {ts : Trees} → Gram s expression i j ts → 1 ≤ deepest ts
unfolding deepest
level (e_integer h) = omega arith
level (e_constant h) = omega arith
level (e_true h) = omega arith
level (e_false h) = omega arith
level (e_var h) = omega arith
level (e_let o w p ds c e q) = omega arith
level (e_term o h n ps c) = omega arith

module _ (s : Input) (d : ℕ) (ih : Exact s (Nested s expression d) (parse_expr s d) (Read s expression d)) where
  exprs : Exact s (InRow s expression d (Nested s expression d)) (row s (parse_expr s d)) (Shut s (list expression) d)
  unfolding least
  exprs = exact_row_in refl ih

  abbrev def_shape : Inner s (parse_letdef s (parse_expr s d))
  unfolding parse_letdef
  def_shape = inner (parents s kind_let_def 0 (known (lparen s) ⊳⊳ known (ident s) ⊳⊳ known (ident s) ⊳↓ known ih ⊳· rparen s))

  def_there : {i j : ℕ} {ts : Trees} → def_shape.reads.Means i ts j → Read s letdef d i ts j
  unfolding parse_letdef deepest ◌⧺◌
  def_there (over (up (then (then (then (token o) (token h)) (token u)) r) c)) = record { derives = l_def o h u r.derives c; shallow = omega (arith, r.shallow) }

  def_back : {i j : ℕ} {ts : Trees} → Gram s letdef i j ts → deepest ts ≤ d → def_shape.reads.Means i ts j
  unfolding parse_letdef deepest ◌⧺◌
  def_back (l_def o h u e c) m = over (up (then (then (then (token o) (token h)) (token u)) (record { derives = e; shallow = omega arith })) c)

  defs : Exact s (InRow s letdef d def_shape.Reaches) (row s (parse_letdef s (parse_expr s d))) (Shut s (list letdef) d)
  unfolding least
  defs = exact_row_in refl (exact_iff def_shape.reads.exact (λ i ts j r. def_there r) (λ i ts j r. def_back r.derives r.shallow))

  abbrev shape : Inner s (expr_in s (parse_expr s d))
  unfolding expr_in parse_expr_inner_parens let_inside
  shape =
      inner (nexts↓ (opens s)
      (seconds↓ (words s word_let)
      (parents s kind_expr_let 0 (known (lparen s) ⊳↓ (known (word s word_let) ⊳· lparen s ⊳↓ known defs ⊳· rparen s ⊳⇊ known ih ⊳· rparen s)))
      (parents s kind_expr_term 0 (known (lparen s) ⊳⊳ known (ident s) ⊳↓ known exprs ⊳· rparen s)))
      (quiet (nexts (dollars s) (parents s kind_expr_const_prim 0 (known (constant s)))
      (nexts (words s word-true) (leaves s (plain kind_expr_const_bool 1))
      (nexts (words s word-false) (leaves s (plain kind_expr_const_bool 0))
      (nexts (symbols s) (parents s kind_expr_var 0 (known (ident s)))
      (nexts (integers s) (leaves s const_int)
      (refuses s 26 (omega arith) (omega arith) (λ z. omega arith)))))))))

  there : {i j : ℕ} {ts : Trees} → shape.reads.Means i ts j → Read s expression (suc d) i ts j
  unfolding expr_in parse_expr_inner_parens let_inside deepest ◌⧺◌
  there (holds o (holds w (over (then (token p) (up (then {vs = e} (up (then {vs = ts} (up (token v) q) ds) c) r) z))))) =
      record { derives = e_let o v q ds.derives c r.derives z; shallow = omega (arith, deepest_⧺ ts e, r.shallow, ds.shallow) }
  there (holds o (fails n (over (up (then (then (token p) (token h)) r) c)))) = record { derives = e_term o h n r.derives c; shallow = omega (arith, r.shallow) }
  there (fails a (holds k (over (token h)))) = record { derives = e_constant h; shallow = omega arith }
  there (fails a (fails b (holds h (token _)))) = record { derives = e_true h; shallow = omega arith }
  there (fails a (fails b (fails c (holds h (token _))))) = record { derives = e_false h; shallow = omega arith }
  there (fails a (fails b (fails c (fails e (holds k (over (token h))))))) =
      record { derives = e_var (record { named = h; no_dollar = b; no_true = c; no_false = e }); shallow = omega arith }
  there (fails a (fails b (fails c (fails e (fails f (holds h (token _))))))) = record { derives = e_integer h; shallow = omega arith }
  there {i = i} {j = j} {ts = ts} (fails a (fails b (fails c (fails e (fails f (fails _ x21)))))) = elim x21 [ ]

  back : {i j : ℕ} {ts : Trees} → Gram s expression i j ts → deepest ts ≤ suc d → shape.reads.Means i ts j
  unfolding expr_in parse_expr_inner_parens let_inside deepest ◌⧺◌ same_bytes
  back (e_integer h) m =
      fails (λ z. other z h refl) (fails (λ z. other z.symbol h refl) (fails (λ z. other z.symbol h refl) (fails (λ z. other z.symbol h refl) (fails (λ z. other z h refl) (holds h (token tt))))))
  back (e_constant h) m = fails (λ z. other z h.dollar.symbol refl) (holds h.dollar (over (token h)))
  back (e_true h) m = fails (λ z. other z h.symbol refl) (fails (λ z. omega (arith, no_dollar_word h z)) (holds h (token tt)))
  back (e_false h) m = fails (λ z. other z h.symbol refl) (fails (λ z. omega (arith, no_dollar_word h z)) (fails (λ z. one_word h z refl) (holds h (token tt))))
  back (e_var h) m =
      fails (λ z. other z h.named.symbol refl) (fails h.no_dollar (fails h.no_true (fails h.no_false (holds h.named.symbol (over (token h.named))))))
  back (e_let {ts = ts} {e = u} o w p ds c e q) m =
      let y = deepest_⧺ ts u in
      holds o (holds w (over (then (token o) (up (then (up (then (up (token w) p) (record { derives = ds; shallow = omega arith; shuts = c })) c) (record { derives = e; shallow = omega arith })) q))))
  back (e_term o h n ps c) m = holds o (fails n (over (up (then (then (token o) (token h)) (record { derives = ps; shallow = omega arith; shuts = c })) c)))

  inside : {i k : ℕ} → shape.Reaches i k → Nested s expression (suc d) i k
  unfolding expr_in parse_expr_inner_parens let_inside parse_letdef
  inside (if_so o (if_so w (after (token p) (first (after (up (token v) q) (in_row ds z (after (then (then (token u) (token h)) (token y)) n))))))) = inward (in-letdef o v q ds u h y) n
  inside (if_so o (if_so w (after (token p) (second (after (up (then (up (token v) q) ds) c) n))))) = inward (in-let o v q (record { derives = ds.derives; shallow = ds.shallow }) c) n
  inside (if_so o (if_not m (after (then (token p) (token h)) (in_row ps z n)))) = inward (in-expression o h m ps z) n
  inside {i = i} {k = k} (if_not _ x'') = elim x'' [ ]

pub exact_expr : (s : Input) (d : ℕ) → Exact s (Nested s expression d) (parse_expr s d) (Read s expression d)
unfolding parse_expr
exact_expr s zero = exact_iff (exact_refuse_at s 8 (λ i. deep i here refl refl)) (λ i ts j. elim [ ]) (λ i ts j r. absurd (omega (arith, level r.derives, r.shallow)))
exact_expr s (suc d) =
    let ih = exact_expr s d in
    exact_to (λ i k x. inside s d ih x) (exact_iff (shape s d ih).reads.exact (λ i ts j r. there s d ih r) (λ i ts j r. back s d ih r.derives r.shallow))
