-- How far a pattern reads, and its depth in the words of the code. Assumes nothing.
use Prim.Native.Nat.{ℕ, zero, suc, ◌+◌, ◌-◌}
use native.Mathlib.Omega.{arith}
use mathlib.Core.Path.{◌≡◌, refl}
use mathlib.Core.List.{List}
use Rattle.trees.specs.Ast.{kind_pattern_var, kind_pattern_bind, kind_pattern_const_bool, kind_pattern_const_prim, kind_pattern_term, kind_pattern_wildcard, kind_pattern_and}
use Rattle.tokens.specs.Token.{is_lparen, is_rparen, is_symbol, is_int, is_at, is_const, is_word}
use Rattle.tokens.specs.Input.{Input, peek}
use Rattle.std.specs.Prelude.{Result}
use Rattle.steps.specs.declared.Parser.{Parser}
use Rattle.steps.specs.declared.Stop.{Stop}
use Rattle.steps.specs.Keywords.{word-wildcard, word-true, word-false, word_and}
use Rattle.steps.specs.Outcome.{Reader, ◌⊳◌, parent, leaf, plain, refuse_at, if_next, if_second, row, expect-lparen, expect-rparen, expect-at, expect-word, parse_ident, parse_const}
use Rattle.steps.specs.Sizes.{Bounded}
use Rattle.steps.specs.Read.{read_by, Read}
use Rattle.steps.proofs.SizeLaws.{Steady, Item, steady, item, then_bounded, parent-bounded, next-bounded, second-bounded, leaf-bounded, refuse-bounded, int_kinded, word_kinded, lparen-bounded, rparen-bounded, at-bounded, word-bounded, ident-bounded, const_bounded}
use Rattle.steps.proofs.RowLaws.{row_steady}
use Rattle.patterns.specs.Pattern.{const_int, compound, pattern_in, parse_pattern}

-- ---- at least a token, and a record to spare

module _ (s : Input) (sub : Reader) (b : Bounded 1 1 0 s sub) where
  rows : Steady s (row s sub)
  rows = row_steady s (λ i. is_rparen (peek s i)) sub (item 1 s sub b)

  bind-bounded : Bounded 1 1 0 s (parent s kind_pattern_bind 0 (parse_ident s ⊳ expect-at s ⊳ sub))
  bind-bounded =
      parent-bounded 3 6 0 1 1 0 s kind_pattern_bind 0 (parse_ident s ⊳ expect-at s ⊳ sub) (omega arith) (omega arith)
      (then_bounded 2 5 0 1 1 0 s (parse_ident s ⊳ expect-at s) sub (then_bounded 1 2 0 1 3 0 s (parse_ident s) (expect-at s) (ident-bounded s) (at-bounded s)) b)

  -- a list in parentheses after its first two tokens
  listed : (c kind : ℕ) (f : Reader) → Bounded 2 (5 + c) 0 s f → Bounded 1 1 0 s (parent s kind 0 (f ⊳ row s sub ⊳ expect-rparen s))
  listed c kind f z =
      parent-bounded (2 + 0 + 1) (5 + c + 0 + 3) (0 + 0 + 0) 1 1 0 s kind 0 (f ⊳ row s sub ⊳ expect-rparen s) (omega arith) (omega arith)
      (then_bounded (2 + 0) (5 + c + 0) (0 + 0) 1 3 0 s (f ⊳ row s sub) (expect-rparen s) (then_bounded 2 (5 + c) 0 0 0 0 s f (row s sub) z rows) (rparen-bounded s))

  pub compound-bounded : Bounded 1 1 0 s (compound s sub)
  unfolding compound
  compound-bounded =
      next-bounded 1 1 0 s is_symbol
      (if_second s is_at (parent s kind_pattern_bind 0 (parse_ident s ⊳ expect-at s ⊳ sub)) (parent s kind_pattern_var 0 (parse_ident s)))
      (if_next s is_lparen (if_second s (is_word s.text word_and) and· term) (refuse_at s 25))
      (second-bounded 1 1 0 s is_at (parent s kind_pattern_bind 0 (parse_ident s ⊳ expect-at s ⊳ sub)) (parent s kind_pattern_var 0 (parse_ident s)) bind-bounded
      (parent-bounded 1 2 0 1 1 0 s kind_pattern_var 0 (parse_ident s) (omega arith) (omega arith) (ident-bounded s)))
      (next-bounded 1 1 0 s is_lparen (if_second s (is_word s.text word_and) and· term) (refuse_at s 25)
      (second-bounded 1 1 0 s (is_word s.text word_and) and· term
      (listed 1 kind_pattern_and (expect-lparen s ⊳ expect-word s word_and) (then_bounded 1 3 0 1 3 0 s (expect-lparen s) (expect-word s word_and) (lparen-bounded s) (word-bounded s word_and)))
      (listed 0 kind_pattern_term (expect-lparen s ⊳ parse_ident s) (then_bounded 1 3 0 1 2 0 s (expect-lparen s) (parse_ident s) (lparen-bounded s) (ident-bounded s))))
      (refuse-bounded 1 1 0 s 25))
    where
      and· : Reader
      and· = parent s kind_pattern_and 0 (expect-lparen s ⊳ expect-word s word_and ⊳ row s sub ⊳ expect-rparen s)

      term : Reader
      term = parent s kind_pattern_term 0 (expect-lparen s ⊳ parse_ident s ⊳ row s sub ⊳ expect-rparen s)

  leaf_then : (w : List ℕ) (kind flags : ℕ) (g : Reader) → Bounded 1 1 0 s g → Bounded 1 1 0 s (if_next s (is_word s.text w) (leaf s (plain kind flags)) g)
  leaf_then w kind flags g z = leaf-bounded 1 s (is_word s.text w) (plain kind flags) g (omega arith) (word_kinded s.text w) z

  in-bounded : Bounded 1 1 0 s (pattern_in s sub)
  unfolding pattern_in
  in-bounded =
      leaf-bounded 1 s is_int const_int rest (omega arith) int_kinded
      (next-bounded 1 1 0 s (is_const s.text) (parent s kind_pattern_const_prim 0 (parse_const s)) words
      (parent-bounded 1 2 0 1 1 0 s kind_pattern_const_prim 0 (parse_const s) (omega arith) (omega arith) (const_bounded s))
      (leaf_then word-wildcard kind_pattern_wildcard 0 trues
      (leaf_then word-true kind_pattern_const_bool 1 falses
      (leaf_then word-false kind_pattern_const_bool 0 (compound s sub) compound-bounded))))
    where
      falses : Reader
      falses = if_next s (is_word s.text word-false) (leaf s (plain kind_pattern_const_bool 0)) (compound s sub)

      trues : Reader
      trues = if_next s (is_word s.text word-true) (leaf s (plain kind_pattern_const_bool 1)) falses

      words : Reader
      words = if_next s (is_word s.text word-wildcard) (leaf s (plain kind_pattern_wildcard 0)) trues

      rest : Reader
      rest = if_next s (is_const s.text) (parent s kind_pattern_const_prim 0 (parse_const s)) words

pub pattern-bounded : (s : Input) (d : ℕ) → Bounded 1 1 0 s (parse_pattern s d)
unfolding parse_pattern
pattern-bounded s zero = refuse-bounded 1 1 0 s 8
pattern-bounded s (suc d) = in-bounded s (parse_pattern s d) (pattern-bounded s d)

pub pattern_steady : (s : Input) (d : ℕ) → Steady s (parse_pattern s d)
pattern_steady s d = steady 1 1 s (parse_pattern s d) (pattern-bounded s d)

pub pattern_item : (s : Input) (d : ℕ) → Item s (parse_pattern s d)
pattern_item s d = item 1 s (parse_pattern s d) (pattern-bounded s d)

pub patterns_steady : (s : Input) (d : ℕ) → Steady s (row s (parse_pattern s d))
patterns_steady s d = rows s (parse_pattern s d) (pattern-bounded s d)

-- ---- depth

one_less : (s : Input) (d : ℕ) → (d ≡ 0 → ⊥) → parse_pattern s d ≡ pattern_in s (parse_pattern s (d - 1))
unfolding parse_pattern
one_less s zero h = absurd (h refl)
one_less s (suc d) h = let e : suc d - 1 ≡ d = omega arith in rw e

pub too_deep : (d : ℕ) {p p' : Parser} {r : Result (Unit {0}) Stop} → d ≡ 0 → Read (λ s. refuse_at s 8) p p' r → Read (λ s. parse_pattern s d) p p' r
unfolding parse_pattern
too_deep d e m = rw e m

pub not_too_deep : (d : ℕ) {p p' : Parser} {r : Result (Unit {0}) Stop} → (d ≡ 0 → ⊥) → Read (λ s. pattern_in s (parse_pattern s (d - 1))) p p' r → Read (λ s. parse_pattern s d) p p' r
not_too_deep d {p = p} z m = record { read = rw (one_less (read_by p) d z) m.read; same = m.same }
