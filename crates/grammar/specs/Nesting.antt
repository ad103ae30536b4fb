-- Where patterns and expressions begin and how deep they stand, told by what stands before them: what is begun need not be finished.
-- Each constructor is a production of Grammar.antt up to a part of it, which is not read any more; the line above it is what is read.
use Rattle.std.specs.Prelude.{ℕ, suc, ◌+◌, ◌≤◌}
use Rattle.trees.specs.Tree.{Trees}
use Rattle.tokens.specs.Input.{Input}
use Rattle.steps.specs.Keywords.{word_and, word_let, word_if, word_if_let, word-rule, word-extractor}
use Rattle.grammar.specs.Lexical.{Open, Close, At, Word, Name, Binder, Iffy}
use Rattle.grammar.specs.Grammar.{RuleName, RulePriority, Part, definition, extractor, rule, iflet, pattern, expression, letdef, name, list, Gram}
use Rattle.grammar.specs.Depth.{deepest}

-- a finished part x from token i up to j, nested at most n deep
pub record Read (s : Input) (x : Part) (n i : ℕ) (ts : Trees) (j : ℕ) : Type 0 where
  pub derives : Gram s x i j ts
  pub shallow : deepest ts ≤ n

-- in the part y that begins at token i, a pattern or expression x that is inside no other begins at token k; before it nothing is more than 64 deep
pub data Begins (s : Input) : Part → Part → ℕ → ℕ → Type 0 where
  -- definition*
  b_definitions : {x : Part} {i j k : ℕ} {ts : Trees} → Read s (list definition) 64 i ts j → Begins s definition x j k → Begins s (list definition) x i k
  -- '(' 'extractor'
  b_extractor : {x : Part} {i k : ℕ} → Open s i → Word s word-extractor (i + 1) → Begins s extractor x (i + 1 + 1) k → Begins s definition x i k
  -- '(' 'rule'
  b_rule : {x : Part} {i k : ℕ} → Open s i → Word s word-rule (i + 1) → Begins s rule x (i + 1 + 1) k → Begins s definition x i k
  -- '(' NAME name* ')'
  b_template : {i j : ℕ} {ts : Trees} → Open s i → Name s (i + 1) → Gram s (list name) (i + 1 + 1) j ts → Close s j → Begins s extractor pattern i (j + 1)
  -- NAME? INTEGER?
  b_left : {i a b f g : ℕ} {n q : Trees} → RuleName s i a n f → RulePriority s a b q g → Begins s rule pattern i b
  -- NAME? INTEGER? pattern iflet*
  b_iflet : {x : Part} {i a b c j k f g : ℕ} {n q p ts : Trees} → RuleName s i a n f → RulePriority s a b q g → Read s pattern 64 b p c → Read s (list iflet) 64 c ts j
      → Begins s iflet x j k → Begins s rule x i k
  -- NAME? INTEGER? pattern iflet*          and no if-let
  b_right : {i a b c k f g : ℕ} {n q p ts : Trees} → RuleName s i a n f → RulePriority s a b q g → Read s pattern 64 b p c → Read s (list iflet) 64 c ts k
      → (Iffy s k → ⊥) → Begins s rule expression i k
  -- '(' 'if-let'
  b_let_pattern : {i : ℕ} → Open s i → Word s word_if_let (i + 1) → Begins s iflet pattern i (i + 1 + 1)
  -- '(' 'if-let' pattern
  b_let_expression : {i k : ℕ} {p : Trees} → Open s i → Word s word_if_let (i + 1) → Read s pattern 64 (i + 1 + 1) p k → Begins s iflet expression i k
  -- '(' 'if'
  b_if : {i : ℕ} → Open s i → Word s word_if (i + 1) → Begins s iflet expression i (i + 1 + 1)

-- in the pattern or expression x that begins at token i, a part of it that is one too begins at token k; before it no part is more than n deep
pub data Inside (s : Input) (n : ℕ) : Part → ℕ → ℕ → Type 0 where
  -- BINDER '@'
  in-bind : {i : ℕ} → Binder s i → At s (i + 1) → Inside s n pattern i (i + 1 + 1)
  -- '(' 'and' pattern*          and no ')'
  in_and : {i k : ℕ} {ts : Trees} → Open s i → Word s word_and (i + 1) → Read s (list pattern) n (i + 1 + 1) ts k → (Close s k → ⊥) → Inside s n pattern i k
  -- '(' NAME pattern*          where NAME is not 'and', and no ')'
  in-pattern : {i k : ℕ} {ts : Trees} → Open s i → Name s (i + 1) → (Word s word_and (i + 1) → ⊥) → Read s (list pattern) n (i + 1 + 1) ts k → (Close s k → ⊥)
      → Inside s n pattern i k
  -- '(' 'let' '(' letdef* '(' NAME NAME
  in-letdef : {i j : ℕ} {ts : Trees} → Open s i → Word s word_let (i + 1) → Open s (i + 1 + 1) → Read s (list letdef) n (i + 1 + 1 + 1) ts j
      → Open s j → Name s (j + 1) → Name s (j + 1 + 1) → Inside s n expression i (j + 1 + 1 + 1)
  -- '(' 'let' '(' letdef* ')'
  in-let : {i j : ℕ} {ts : Trees} → Open s i → Word s word_let (i + 1) → Open s (i + 1 + 1) → Read s (list letdef) n (i + 1 + 1 + 1) ts j → Close s j
      → Inside s n expression i (j + 1)
  -- '(' NAME expression*          where NAME is not 'let', and no ')'
  in-expression : {i k : ℕ} {ts : Trees} → Open s i → Name s (i + 1) → (Word s word_let (i + 1) → ⊥) → Read s (list expression) n (i + 1 + 1) ts k → (Close s k → ⊥)
      → Inside s n expression i k

-- n levels further in than the pattern or expression x that begins at token i, one begins at token k, and before it none is as deep
pub data Nested (s : Input) (x : Part) : ℕ → ℕ → ℕ → Type 0 where
  here : {i : ℕ} → Nested s x 0 i i
  inward : {n i j k : ℕ} → Inside s n x i j → Nested s x n j k → Nested s x (suc n) i k

-- in the part y that begins at token i, a pattern or expression that is inside n others begins at token k
pub data Deep (s : Input) (y : Part) (n i k : ℕ) : Type 0 where
  inside : {x : Part} {j : ℕ} → Begins s y x i j → Nested s x n j k → Deep s y n i k
