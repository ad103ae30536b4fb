-- The terminals of the grammar: what the token at an index is. Each is a fact about that token alone.
use Rattle.std.specs.Prelude.{ℕ, ◌+◌, ◌<◌, ◌≤◌, ◌≡◌, List, ◌∷◌, true, length, get_or}
use Rattle.trees.specs.Tree.{Tree, Trees, node, ∅, ◌▸◌, head}
use Rattle.trees.specs.Ast as ast
use Rattle.trees.specs.Names.{spelled, without_first}
use Rattle.tokens.specs.Ident.{starts, all_go_on}
use Rattle.tokens.specs.Input.{Input, peek, pos_at}
use Rattle.steps.specs.Keywords.{word-wildcard, word-true, word-false, word_if, word_if_let}

-- the token at i is of kind k
pub record Kind (s : Input) (k i : ℕ) : Type 0 where
  pub is : (peek s i).kind ≡ k

-- '('
abbrev pub Open : Input → ℕ → Type 0
Open s = Kind s 1

-- ')'
abbrev pub Close : Input → ℕ → Type 0
Close s = Kind s 2

abbrev pub Symbol : Input → ℕ → Type 0
Symbol s = Kind s 3

-- INTEGER
abbrev pub Integer : Input → ℕ → Type 0
Integer s = Kind s 4

-- '@'
abbrev pub At : Input → ℕ → Type 0
At s = Kind s 5

abbrev pub spelling : Input → ℕ → List ℕ
spelling s i = spelled s.text (peek s i).word1

-- 'w': the symbol with these bytes
pub record Word (s : Input) (w : List ℕ) (i : ℕ) : Type 0 where
  pub symbol : Symbol s i
  pub spelt : spelling s i ≡ w

-- a letter, `_` or `$`; then letters, digits, `_ . $`
pub data Identifier : List ℕ → Type 0 where
  identifier : {c : ℕ} {cs : List ℕ} → starts c ≡ true → all_go_on cs ≡ true → Identifier (c ∷ cs)

-- NAME: a symbol that is an identifier
pub record Name (s : Input) (i : ℕ) : Type 0 where
  pub symbol : Symbol s i
  pub obeys : Identifier (spelling s i)

-- a symbol that starts with `$`
pub record Dollar (s : Input) (i : ℕ) : Type 0 where
  pub symbol : Symbol s i
  pub starts_so : get_or (spelling s i) 0 0 ≡ 36

-- CONSTANT: a name that starts with `$` and has at least one character after it
pub record Constant (s : Input) (i : ℕ) : Type 0 where
  pub named : Name s i
  pub dollar : Dollar s i
  pub longer : 1 < length (spelling s i)

-- VARIABLE: a name that does not start with `$`, and none of the words `true`, `false`
pub record Variable (s : Input) (i : ℕ) : Type 0 where
  pub named : Name s i
  pub no_dollar : Dollar s i → ⊥
  pub no_true : Word s word-true i → ⊥
  pub no_false : Word s word-false i → ⊥

-- BINDER: a variable that is not the word `_`
pub record Binder (s : Input) (i : ℕ) : Type 0 where
  pub variable : Variable s i
  pub no_wildcard : Word s word-wildcard i → ⊥

-- an integer within 64 bits with a sign, its upper half all zeros or all ones
pub data Short (s : Input) (i : ℕ) : Type 0 where
  not_negative : (peek s i).word1 ≡ 0 → (peek s i).word2 < 9223372036854775808 → Short s i
  negative : (peek s i).word1 ≡ 18446744073709551615 → 9223372036854775808 ≤ (peek s i).word2 → Short s i

-- what begins as an if-let: `(if-let` or `(if`
pub data Iffy (s : Input) (i : ℕ) : Type 0 where
  iffy_let : Open s i → Word s word_if_let (i + 1) → Iffy s i
  iffy : Open s i → Word s word_if (i + 1) → Iffy s i

-- ---- the trees of terminals

abbrev pub one : Tree → Trees
one t = t ▸ ∅

-- a node at token i; one without a position
abbrev pub tree_at : Input → ℕ → ℕ → ℕ → Trees → Tree
tree_at s i kind flags ts = node (head kind flags (pos_at s i) 0 0) ts

abbrev pub bare_tree : ℕ → Trees → Tree
bare_tree kind ts = node (head kind 0 0 0 0) ts

-- the name at token i, and the name behind its `$`
abbrev pub name_at : Input → ℕ → Tree
name_at s i = ast.ident_node (pos_at s i) (peek s i).word1

abbrev pub constant_at : Input → ℕ → Tree
constant_at s i = ast.ident_node (pos_at s i) (without_first (peek s i).word1)

-- the integer at token i
abbrev pub integer_at : Input → ℕ → ℕ → Tree
integer_at s i kind = node (head kind 0 (pos_at s i) (peek s i).word1 (peek s i).word2) ∅

-- the type at token i as a tuple field, after n others
abbrev pub type_at : Input → ℕ → ℕ → Tree
type_at s i n = node (head ast.kind_tuple_field 0 (pos_at s i) n 0) (one (name_at s i))
