-- The reader of patterns. Assumes nothing.
use Prim.Native.Nat.{ℕ, zero, suc}
use mathlib.Core.Path.{refl}
use Rattle.trees.specs.Ast.{kind_pattern_var, kind_pattern_bind, kind_pattern_const_bool, kind_pattern_const_prim, kind_pattern_term, kind_pattern_wildcard, kind_pattern_and}
use Rattle.tokens.specs.Token.{is_lparen, is_symbol, is_at, is_const, is_word}
use Rattle.tokens.specs.Input.{Input, size}
use Rattle.steps.specs.Keywords.{word-wildcard, word-true, word-false, word_and}
use Rattle.steps.specs.Outcome.{Reader, plain}
use Rattle.patterns.specs.Pattern.{const_int, compound, pattern_in, parse_pattern}
use Rattle.grammar.proofs.Laws.{least}
use Rattle.grammar.proofs.Rows.{item_on}
use Rattle.grammar.proofs.Pattern.{exact_pattern}
use Rattle.lookahead.specs.Agree.{Agree}
use Rattle.lookahead.proofs.Combinators.{Follows, ◌⊳→◌, parents, parents→, nexts, seconds}
use Rattle.lookahead.proofs.Steps.{refuses, integer-leaves, word-leaves, rparens, ats, words, lparens, idents, constants}
use Rattle.lookahead.proofs.Rows.{Takes, rows_of}

pub pattern_takes : (s : Input) (d : ℕ) → Takes (size s) (parse_pattern s d)
unfolding least
pattern_takes s d = record { takes = λ i ts j e. item_on refl ((exact_pattern s d).sound i e).derives }

module _ {m : ℕ} {s t : Input} (a : Agree m s t) where
  compounds : {sub sub' : Reader} → Takes (size s) sub → Follows s m sub sub' → Follows s m (compound s sub) (compound t sub')
  unfolding compound
  compounds h r =
      nexts a (λ _. is_symbol)
      (seconds a (λ _. is_at)
      (parents→ a kind_pattern_bind 0 (idents a ⊳→ ats a ⊳→ r))
      (parents→ a kind_pattern_var 0 (idents a))).follows
      (nexts a (λ _. is_lparen)
      (seconds a (λ x. is_word x word_and)
      (parents→ a kind_pattern_and 0 (lparens a ⊳→ words a word_and ⊳→ rows_of a h r ⊳→ rparens a))
      (parents→ a kind_pattern_term 0 (lparens a ⊳→ (idents a).follows ⊳→ rows_of a h r ⊳→ rparens a))).follows
      (refuses a 25))

  pub patterns : (d : ℕ) → Follows s m (parse_pattern s d) (parse_pattern t d)
  unfolding parse_pattern pattern_in
  patterns zero = refuses a 8
  patterns (suc d) =
      integer-leaves a const_int
      (nexts a is_const (parents a kind_pattern_const_prim 0 (constants a).follows)
      (word-leaves a word-wildcard (plain kind_pattern_wildcard 0)
      (word-leaves a word-true (plain kind_pattern_const_bool 1)
      (word-leaves a word-false (plain kind_pattern_const_bool 0)
      (compounds (pattern_takes s d) (patterns d))))))
