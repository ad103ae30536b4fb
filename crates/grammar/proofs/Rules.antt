-- The readers of if-lets and rules are exact. Assumes nothing.
use Prim.Native.Nat.{ℕ, ◌+◌, ◌<◌, ◌≤◌, max}
use native.Mathlib.Omega.{arith}
use mathlib.Core.Path.{◌≡◌, refl}
use mathlib.Core.Bool.{Bool, true, false}
use lib.Dec.{ltb, eqb}
use borrow.Author.Tests.{ltb-true, ltb-false, eqb-true, eqb-false, lt-ltb, le-ltb, eq-eqb}
use Rattle.trees.specs.Choice.{pick, choose}
use Rattle.trees.specs.Tree.{Trees, node, ∅, ◌▸◌, ◌⧺◌, count, head}
use Rattle.trees.proofs.Laws.{⧺-assoc}
use Rattle.trees.specs.Ast.{kind_if_let, kind_rule, kind_priority, kind_pattern_wildcard}
use Rattle.words.specs.Bytes.{same_bytes}
use Rattle.tokens.specs.Token.{is_lparen, is_int, is_word}
use Rattle.tokens.specs.Input.{Input, peek, pos_at, size}
use Rattle.steps.specs.Keywords.{word_if, word_if_let}
use Rattle.steps.specs.Outcome.{Refusal}
use Rattle.steps.specs.Outcome.{accept, refuse, refusal, many}
use Rattle.exprs.specs.Expr.{parse_iflet, parse_iflet_if, parse_iflet_or_expr, no_iflet}
use Rattle.parser.specs.Defs.{rule_name, is_i64, rule_priority, rule_flags, rule_parts, parse_rule}
use Rattle.grammar.specs.Lexical.{Kind, Open, At, Word, Short, not_negative, negative, Iffy, iffy_let, iffy}
use Rattle.grammar.specs.Grammar.{RuleName, named, unnamed, RulePriority, ranked, unranked, rule, iflet, pattern, expression, list, Gram, empty, cons, i_let, i_if, r_rule}
use Rattle.grammar.specs.Depth.{deepest}
use Rattle.grammar.specs.Nesting.{b_left, b_iflet, b_right, b_let_pattern, b_let_expression, b_if, Read, Nested, Deep, inside}
use Rattle.grammar.proofs.Exact.{Exact, Tests, never, Nowhere, after, first, second, if_so, if_not, Among, in_item, past_item, none, token, then, up, over, holds, fails, Many, done, next, exact_iff, exact_to, exact_many, clash, same, Ground, plain, ground_to, no_refusal, same_ground}
use Rattle.grammar.proofs.Known.{Known, known, refuses_after, nothings, ◌⊳⊳◌, ◌⊳·◌, parents, flags, nexts, seconds, ◌⊳↓◌, ◌⊳⇊◌, nexts↓, seconds↓, Inner, inner}
use Rattle.grammar.proofs.Lexemes.{opens, symbols, integers, refuseds, words, one_word, lparen, rparen, word, rule-ident}
use Rattle.grammar.proofs.Laws.{least, deepest_⧺, begins, no_at, no_refused}
use Rattle.grammar.proofs.Rows.{item_on, no_items, one_more}
use Rattle.grammar.proofs.Pattern.{finished, exact_pattern}
use Rattle.grammar.proofs.Expr.{exact_expr}
use Rattle.grammar.proofs.Options.{is_true, is_false}

-- ---- the name and the priority

-- a name is no name where the lexer refuses the token behind it, which begins no pattern and is no priority
pub data Called (s : Input) (i : ℕ) : Trees → ℕ → Type 0 where
  called : {a f : ℕ} {ts : Trees} → RuleName s i a ts f → (a ≡ i + 1 → Kind s 6 a → ⊥) → Called s i ts a

pub data Weighed (s : Input) (i : ℕ) : Trees → ℕ → Type 0 where
  weighed : {a f : ℕ} {ts : Trees} → RulePriority s i a ts f → Weighed s i ts a

module _ (s : Input) where
  abbrev name-shape : Known s Nowhere (rule_name s)
  unfolding rule_name
  name-shape = nexts (symbols s) (seconds (refuseds s) (refuses_after s 3 23 (omega arith) (omega arith) (λ _. refl)) (known (rule-ident s))) nothings

  name-there : {i j : ℕ} {ts : Trees} → name-shape.Means i ts j → Called s i ts j
  unfolding rule_name
  name-there (holds k (holds x y)) = absurd (never y)
  name-there (holds k (fails x (token h))) = called (named h) (λ _. x)
  name-there (fails n none) = called (unnamed n) (λ e. absurd (omega arith))

  name_back : {i j : ℕ} {ts : Trees} → Called s i ts j → name-shape.Means i ts j
  unfolding rule_name
  name_back (called (named h) x) = holds h.symbol (fails (x refl) (token h))
  name_back (called (unnamed n) x) = fails n none

  exact_name : Exact s Nowhere (rule_name s) (Called s)
  exact_name = exact_iff name-shape.exact (λ i ts j r. name-there r) (λ i ts j r. name_back r)

  short_tests : (i : ℕ) → Tests (is_i64 (peek s i).word1 (peek s i).word2) (Short s i)
  unfolding is_i64
  short_tests i = go (ltb (peek s i).word2 9223372036854775808) refl
    where
      go : (b : Bool) → ltb (peek s i).word2 9223372036854775808 ≡ b → Tests (pick b (eqb (peek s i).word1 0) (eqb (peek s i).word1 18446744073709551615)) (Short s i)
      go true p = record { yes = λ e. not_negative (eqb-true _ 0 e) (ltb-true _ _ p); no = λ e h. positive e (ltb-true _ _ p) h }
        where
          positive : eqb (peek s i).word1 0 ≡ false → (peek s i).word2 < 9223372036854775808 → Short s i → ⊥
          positive e l (not_negative a b) = eqb-false _ 0 e a
          positive e l (negative a b) = omega arith
      go false p = record { yes = λ e. negative (eqb-true _ 18446744073709551615 e) (ltb-false _ _ p); no = λ e h. below e (ltb-false _ _ p) h }
        where
          below : eqb (peek s i).word1 18446744073709551615 ≡ false → 9223372036854775808 ≤ (peek s i).word2 → Short s i → ⊥
          below e l (not_negative a b) = omega arith
          below e l (negative a b) = eqb-false _ 18446744073709551615 e a

  priority-there : (place i : ℕ) {ts : Trees} {j : ℕ} (a b : Bool) → is_int (peek s i) ≡ a → is_i64 (peek s i).word1 (peek s i).word2 ≡ b
      → choose a (λ _. pick b (accept (node (head kind_priority 0 0 (peek s i).word2 0) ∅ ▸ ∅) (i + 1)) (refuse (refusal 24 place (i + 1)))) (λ _. accept ∅ i) ≡ accept ts j → Weighed s i ts j
  priority-there place i true true p q e = same (Weighed s i) e (weighed (ranked (((integers s).at i).yes p) ((short_tests i).yes q)))
  priority-there place i true false p q e = absurd (clash e)
  priority-there place i false b p q e = same (Weighed s i) e (weighed (unranked (((integers s).at i).no p)))

  short-true : (i : ℕ) → Short s i → is_i64 (peek s i).word1 (peek s i).word2 ≡ true
  unfolding is_i64
  short-true i (not_negative a b) = rw (lt-ltb _ _ b, eq-eqb _ _ a)
  short-true i (negative a b) = rw (le-ltb _ _ b, eq-eqb _ _ a)

  priority-back : (place i : ℕ) {ts : Trees} {j : ℕ} → Weighed s i ts j → rule_priority s place i ≡ accept ts j
  unfolding rule_priority
  priority-back place i (weighed (ranked k h)) = rw (is_true (integers s) k, short-true i h)
  priority-back place i (weighed (unranked n)) = rw (is_false (integers s) n)

  priority-ground : (start i : ℕ) {e : Refusal} (a b : Bool)
      → choose a (λ _. pick b (accept (node (head kind_priority 0 0 (peek s i).word2 0) ∅ ▸ ∅) (i + 1)) (refuse (refusal 24 (pos_at s start) (i + 1)))) (λ _. accept ∅ i) ≡ refuse e → Ground s (Nowhere i) e
  priority-ground start i true true z = absurd (no_refusal z)
  priority-ground start i true false z = same_ground z (plain start (omega arith) (omega arith) (λ q. absurd (omega arith)) refl)
  priority-ground start i false b z = absurd (no_refusal z)

  exact_priority : (start : ℕ) → Exact s Nowhere (rule_priority s (pos_at s start)) (Weighed s)
  unfolding rule_priority
  exact_priority start =
      record { sound = λ i e. priority-there (pos_at s start) i (is_int (peek s i)) (is_i64 (peek s i).word1 (peek s i).word2) refl refl e; complete = λ i r. priority-back (pos_at s start) i r; ground = λ i e z. priority-ground start i (is_int (peek s i)) (is_i64 (peek s i).word1 (peek s i).word2) z }

  -- 1 named, 2 has priority
  rule-flags : {i a b f g : ℕ} {n q : Trees} → RuleName s i a n f → RulePriority s a b q g → rule_flags s i ≡ f + g
  unfolding rule_flags
  rule-flags (named h) (ranked k x) = rw (is_true (symbols s) h.symbol, is_true (integers s) k)
  rule-flags (named h) (unranked n) = rw (is_true (symbols s) h.symbol, is_false (integers s) n)
  rule-flags {i} (unnamed m) (ranked k x) = let z : i + 0 ≡ i = omega arith in rw (is_false (symbols s) m, z, is_true (integers s) k)
  rule-flags {i} (unnamed m) (unranked n) = let z : i + 0 ≡ i = omega arith in rw (is_false (symbols s) m, z, is_false (integers s) n)

  name_flat : {i a f : ℕ} {ts : Trees} → RuleName s i a ts f → deepest ts ≡ 0
  unfolding deepest
  name_flat (named h) = omega arith
  name_flat (unnamed n) = omega arith

  priority_flat : {i a f : ℕ} {ts : Trees} → RulePriority s i a ts f → deepest ts ≡ 0
  unfolding deepest
  priority_flat (ranked k h) = omega arith
  priority_flat (unranked n) = omega arith

-- ---- if-lets

-- an if-let, or an expression that does not begin as one
data Either (s : Input) (i : ℕ) (ts : Trees) (j : ℕ) : Type 0 where
  an_iflet : Read s iflet 64 i ts j → Either s i ts j
  an_expression : (Iffy s i → ⊥) → Read s expression 64 i ts j → Either s i ts j

-- where the depth is met in either, and in if-lets after finished ones
data EitherDeep (s : Input) (i k : ℕ) : Type 0 where
  deep-iflet : Deep s iflet 64 i k → EitherDeep s i k
  deep-expression : (Iffy s i → ⊥) → Nested s expression 64 i k → EitherDeep s i k

iffy_of : {s : Input} {i j : ℕ} {ts : Trees} → Gram s iflet i j ts → Iffy s i
iffy_of (i_let o w p e c) = iffy_let o w
iffy_of (i_if o w e c) = iffy o w

record Iflets (s : Input) (i : ℕ) (ts : Trees) (j : ℕ) : Type 0 where
  derives : Gram s (list iflet) i j ts
  shallow : deepest ts ≤ 64
  ends : Iffy s j → ⊥

data IfletsDeep (s : Input) (i k : ℕ) : Type 0 where
  deep_iflets : {j : ℕ} {ts : Trees} → Read s (list iflet) 64 i ts j → Deep s iflet 64 j k → IfletsDeep s i k

module _ (s : Input) where
  not_iffy : {i : ℕ} → (Word s word_if_let (i + 1) → ⊥) → (Word s word_if (i + 1) → ⊥) → Iffy s i → ⊥
  not_iffy n m (iffy_let o w) = n w
  not_iffy n m (iffy o w) = m w

  not_open : {i : ℕ} → (Open s i → ⊥) → Iffy s i → ⊥
  not_open n (iffy_let o w) = n o
  not_open n (iffy o w) = n o

  no_iflet_tests : (i : ℕ) → Tests (no_iflet s i) (Iffy s i → ⊥)
  unfolding no_iflet
  no_iflet_tests i = go (is_lparen (peek s i)) (is_word s.text word_if_let (peek s (i + 1))) (is_word s.text word_if (peek s (i + 1))) refl refl refl
    where
      untrue : false ≡ true → ⊥
      untrue e = let z : ◌≡◌ {A = ℕ} 0 1 = cc in omega arith

      go : (a b c : Bool) → is_lparen (peek s i) ≡ a → is_word s.text word_if_let (peek s (i + 1)) ≡ b → is_word s.text word_if (peek s (i + 1)) ≡ c → Tests (pick a (pick b false (pick c false true)) true) (Iffy s i → ⊥)
      go true true c p q r = record { yes = λ e. absurd (untrue e); no = λ e n. n (iffy_let (((opens s).at i).yes p) (((words s word_if_let).at (i + 1)).yes q)) }
      go true false true p q r = record { yes = λ e. absurd (untrue e); no = λ e n. n (iffy (((opens s).at i).yes p) (((words s word_if).at (i + 1)).yes r)) }
      go true false false p q r = record { yes = λ e. not_iffy (((words s word_if_let).at (i + 1)).no q) (((words s word_if).at (i + 1)).no r); no = λ e n. let z : ◌≡◌ {A = ℕ} 0 1 = cc in omega arith }
      go false b c p q r = record { yes = λ e. not_open (((opens s).at i).no p); no = λ e n. let z : ◌≡◌ {A = ℕ} 0 1 = cc in omega arith }

  abbrev either_shape : Inner s (parse_iflet_or_expr s)
  unfolding parse_iflet_or_expr parse_iflet parse_iflet_if
  either_shape =
      inner (nexts↓ (opens s)
      (seconds↓ (words s word_if_let)
      (known (lparen s) ⊳· word s word_if_let ⊳↓ parents s kind_if_let 0 (known (exact_pattern s 64) ⊳⇊ known (exact_expr s 64)) ⊳· rparen s)
      (seconds↓ (words s word_if)
      (known (lparen s) ⊳· word s word_if ⊳↓ parents s kind_if_let 0 (parents s kind_pattern_wildcard 0 nothings ⊳↓ known (exact_expr s 64)) ⊳· rparen s)
      (known (exact_expr s 64))))
      (known (exact_expr s 64)))

  either_there : {i j : ℕ} {ts : Trees} → either_shape.reads.Means i ts j → Either s i ts j
  unfolding parse_iflet_or_expr parse_iflet parse_iflet_if deepest ◌⧺◌
  either_there (holds k (holds v (up (then (up (token o) w) (over (then {us = p} {vs = e} x y))) c))) =
      an_iflet (record { derives = i_let o w x.derives y.derives c; shallow = omega (arith, deepest_⧺ p e, x.shallow, y.shallow) })
  either_there (holds k (fails n (holds v (up (then (up (token o) w) (over (then (over none) y))) c)))) =
      an_iflet (record { derives = i_if o w y.derives c; shallow = omega (arith, y.shallow) })
  either_there (holds k (fails n (fails m r))) = an_expression (not_iffy n m) r
  either_there (fails n r) = an_expression (not_open n) r

  iflet-back : {i j : ℕ} {ts : Trees} → Gram s iflet i j ts → deepest ts ≤ 64 → either_shape.reads.Means i ts j
  unfolding parse_iflet_or_expr parse_iflet parse_iflet_if deepest ◌⧺◌ same_bytes least
  iflet-back (i_let {p = p} {e = u} o w x e c) m =
      let z = deepest_⧺ p u in
      holds o (holds w (up (then (up (token o) w) (over (then (record { derives = x; shallow = omega arith; stops = λ _. no_at (begins e refl) }) (record { derives = e; shallow = omega arith })))) c))
  iflet-back (i_if o w e c) m = holds o (fails (λ z. one_word w z refl) (holds w (up (then (up (token o) w) (over (then (over none) (record { derives = e; shallow = omega arith })))) c)))

  expr-back : {i j : ℕ} {ts : Trees} → (Iffy s i → ⊥) → Read s expression 64 i ts j → either_shape.reads.Means i ts j
  unfolding parse_iflet_or_expr parse_iflet parse_iflet_if
  expr-back {i} {j} {ts} n r = go (is_lparen (peek s i)) (is_word s.text word_if_let (peek s (i + 1))) (is_word s.text word_if (peek s (i + 1))) refl refl refl
    where
      go : (a b c : Bool) → is_lparen (peek s i) ≡ a → is_word s.text word_if_let (peek s (i + 1)) ≡ b → is_word s.text word_if (peek s (i + 1)) ≡ c → either_shape.reads.Means i ts j
      go true true c p q w = absurd (n (iffy_let (((opens s).at i).yes p) (((words s word_if_let).at (i + 1)).yes q)))
      go true false true p q w = absurd (n (iffy (((opens s).at i).yes p) (((words s word_if).at (i + 1)).yes w)))
      go true false false p q w = holds (((opens s).at i).yes p) (fails (((words s word_if_let).at (i + 1)).no q) (fails (((words s word_if).at (i + 1)).no w) r))
      go false b c p q w = fails (((opens s).at i).no p) r

  either_back : {i j : ℕ} {ts : Trees} → Either s i ts j → either_shape.reads.Means i ts j
  either_back (an_iflet r) = iflet-back r.derives r.shallow
  either_back (an_expression n r) = expr-back n r

  either_deep : {i k : ℕ} → either_shape.Reaches i k → EitherDeep s i k
  unfolding parse_iflet_or_expr parse_iflet parse_iflet_if
  either_deep (if_so o (if_so v (after (up (token p) w) (first n)))) = deep-iflet (inside (b_let_pattern p w) n)
  either_deep (if_so o (if_so v (after (up (token p) w) (second (after r n))))) = deep-iflet (inside (b_let_expression p w (finished r)) n)
  either_deep (if_so o (if_not m (if_so v (after (up (token p) w) (after (over none) n))))) = deep-iflet (inside (b_if p w) n)
  either_deep (if_so o (if_not m (if_not l n))) = deep-expression (not_iffy m l) n
  either_deep (if_not m n) = deep-expression (not_open m) n

  exact_either : Exact s (EitherDeep s) (parse_iflet_or_expr s) (Either s)
  exact_either = exact_to (λ i k x. either_deep x) (exact_iff either_shape.reads.exact (λ i ts j r. either_there r) (λ i ts j r. either_back r))

  either_on : (i : ℕ) (ts : Trees) (j : ℕ) → Either s i ts j → (i < j) × (i < size s)
  unfolding least
  either_on i ts j (an_iflet r) = item_on refl r.derives
  either_on i ts j (an_expression n r) = item_on refl r.derives

  iflets_there : {k i j : ℕ} {ts : Trees} → Many (λ i. Iffy s i → ⊥) (λ _. Either s) k i ts j → Iflets s i ts j
  unfolding deepest
  iflets_there (done n) = record { derives = empty; shallow = omega arith; ends = n }
  iflets_there (next {ts = ts} {us = us} n (an_iflet r) rs) =
      let a = iflets_there rs in record { derives = cons r.derives a.derives; shallow = omega (arith, deepest_⧺ ts us, r.shallow, a.shallow); ends = a.ends }
  iflets_there (next n (an_expression m r) rs) = absurd (n m)

  iflets_back : {i j : ℕ} {ts : Trees} (k : ℕ) → Gram s (list iflet) i j ts → deepest ts ≤ 64 → (Iffy s j → ⊥) → Many (λ i. Iffy s i → ⊥) (λ _. Either s) k i ts j
  iflets_back k empty h n = done n
  iflets_back k (cons {t = t} {ts = ts} p ps) h n =
      let z = deepest_⧺ t ts in next (λ m. m (iffy_of p)) (an_iflet (record { derives = p; shallow = omega arith })) (iflets_back (k + count t) ps (omega arith) n)

  past_iflet : {i j k : ℕ} {ts : Trees} → Read s iflet 64 i ts j → IfletsDeep s j k → IfletsDeep s i k
  past_iflet r (deep_iflets q x) = deep_iflets (one_more r q) x

  iflets_deep : {c i k : ℕ} → Among (λ i. Iffy s i → ⊥) (λ _. Either s) (EitherDeep s) c i k → IfletsDeep s i k
  iflets_deep (in_item n (deep-iflet x)) = deep_iflets no_items x
  iflets_deep (in_item n (deep-expression m x)) = absurd (n m)
  iflets_deep (past_item n (an_iflet r) y) = past_iflet r (iflets_deep y)
  iflets_deep (past_item n (an_expression m r) y) = absurd (n m)

  exact_iflets : Exact s (IfletsDeep s) (many (size s) (no_iflet s) (parse_iflet_or_expr s)) (Iflets s)
  exact_iflets =
      exact_iff (exact_to (λ i k y. iflets_deep y) (exact_many (size s) no_iflet_tests exact_either either_on))
      (λ i ts j r. iflets_there r) (λ i ts j r. iflets_back 0 r.derives r.shallow r.ends)

  -- ---- rules

  abbrev parts_shape : (start : ℕ) → Inner s (rule_parts s (pos_at s start))
  unfolding rule_parts
  parts_shape start = inner (known (exact_name s) ⊳⊳ known (exact_priority s start) ⊳↓ known (exact_pattern s 64) ⊳⇊ known exact_iflets ⊳⇊ known exact_either)

  in-iflet : {i a b c j k f g : ℕ} {n q p ts : Trees} → RuleName s i a n f → RulePriority s a b q g → Read s pattern 64 b p c → Read s (list iflet) 64 c ts j → Deep s iflet 64 j k → Deep s rule 64 i k
  in-iflet x y p ps (inside b n) = inside (b_iflet x y p ps b) n

  parts_deep : {i k : ℕ} → (parts_shape 0).Reaches i k → Deep s rule 64 i k
  unfolding rule_parts
  parts_deep (first (first (after (then (called x z) (weighed y)) n))) = inside (b_left x y) n
  parts_deep (first (second (after (then (then (called x z) (weighed y)) r) (deep_iflets ps d)))) = in-iflet x y (finished r) ps d
  parts_deep (second (after (then (then (then (called x z) (weighed y)) r) rs) (deep-iflet d))) = in-iflet x y (finished r) (record { derives = rs.derives; shallow = rs.shallow }) d
  parts_deep (second (after (then (then (then (called x z) (weighed y)) r) rs) (deep-expression m n))) = inside (b_right x y (finished r) (record { derives = rs.derives; shallow = rs.shallow }) m) n

  -- 24's place changes nothing in what is accepted
  parts_anywhere : Exact s (Deep s rule 64) (λ i. rule_parts s (pos_at s i) i) (parts_shape 0).reads.Means
  unfolding rule_parts
  parts_anywhere = record { sound = λ i e. (parts_shape i).reads.exact.sound i e; complete = λ i r. (parts_shape i).reads.exact.complete i r; ground = λ i e z. ground_to (λ k x. parts_deep x) ((parts_shape i).reads.exact.ground i e z) }

  abbrev rule-shape : Known s (Deep s rule 64) (parse_rule s)
  unfolding parse_rule
  rule-shape = flags s kind_rule (rule_flags s) (known parts_anywhere)

  -- what begins a rule's second part
  after-pattern : {i k j : ℕ} {ts e : Trees} → Gram s (list iflet) i k ts → Gram s expression k j e → At s i → ⊥
  unfolding least
  after-pattern empty e = no_at (begins e refl)
  after-pattern (cons p ps) e = no_at (begins p refl)

  -- what stands behind a rule's name
  behind-name : {i b g j : ℕ} {q p : Trees} → RulePriority s i b q g → Gram s pattern b j p → Kind s 6 i → ⊥
  unfolding least
  behind-name (ranked k h) p c = omega (arith, k.is, c.is)
  behind-name (unranked n) p c = no_refused (begins p refl) c

  -- the five rows of a rule's children, one after another
  in_a_row : (n q p ts e : Trees) → (((n ⧺ q) ⧺ p) ⧺ ts) ⧺ e ≡ n ⧺ q ⧺ p ⧺ ts ⧺ e
  in_a_row n q p ts e = simp ⧺-assoc

  deepest_in_a_row : (n q p ts e : Trees) → deepest (n ⧺ q ⧺ p ⧺ ts ⧺ e) ≡ max (deepest n) (max (deepest q) (max (deepest p) (max (deepest ts) (deepest e))))
  deepest_in_a_row n q p ts e = simp deepest_⧺

  rule-there : {i j : ℕ} {ts : Trees} → rule-shape.Means i ts j → Read s rule 64 i ts j
  unfolding parse_rule rule_parts deepest
  rule-there (over (then {vs = e} (then {vs = ts} (then {vs = p} (then {us = n} {vs = q} (called x z) (weighed y)) r) rs) (an_expression m u))) =
      rw (rule-flags s x y, in_a_row n q p ts e)
      (record {
        derives = r_rule x y r.derives rs.derives u.derives m;
        shallow = omega (arith, name_flat s x, priority_flat s y, r.shallow, rs.shallow, u.shallow, deepest_in_a_row n q p ts e);
      })
  rule-there (over (then (then (then (then (called x z) (weighed y)) r) rs) (an_iflet u))) = absurd (rs.ends (iffy_of u.derives))

  rule-back : {i j : ℕ} {ts : Trees} → Gram s rule i j ts → deepest ts ≤ 64 → rule-shape.Means i ts j
  unfolding parse_rule rule_parts deepest
  rule-back (r_rule {n = n} {q = q} {p = t} {ts = ts} {e = u} x y p ps e h) m =
      let a = deepest_in_a_row n q t ts u in
      rw (← rule-flags s x y, ← in_a_row n q t ts u)
      (over (then (then (then (then (called x (λ _. behind-name y p)) (weighed y)) (record { derives = p; shallow = omega arith; stops = λ _. after-pattern ps e })) (record { derives = ps; shallow = omega arith; ends = h }))
      (an_expression h (record { derives = e; shallow = omega arith }))))

  pub exact_rule : Exact s (Deep s rule 64) (parse_rule s) (Read s rule 64)
  exact_rule = exact_iff rule-shape.exact (λ i ts j r. rule-there r) (λ i ts j r. rule-back r.derives r.shallow)
