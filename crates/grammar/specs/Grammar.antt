-- THE GRAMMAR of the covered definitions (document 01, 'Grammar points'): `Gram s x i j ts`, the tokens from i up to j are a part x with the trees ts.
-- One constructor for each production, under its line. Quoted words and parentheses are tokens, capitals are tokens of a class (Lexical.antt),
-- small letters are parts; `?` is at most once, `*` any number of times. No production has `pragma` or an uncovered word.
use Rattle.std.specs.Prelude.{ℕ, ◌+◌, List}
use Rattle.trees.specs.Tree.{Trees, node, ∅, ◌▸◌, ◌⧺◌, head}
use Rattle.trees.specs.Ast as ast
use Rattle.tokens.specs.Input.{Input, peek}
use Rattle.steps.specs.Keywords.{word-wildcard, word-true, word-false, word_and, word_let, word_if, word_if_let, word_type, word_decl, word_attr, word-rule, word-extractor, word_extern, word_convert, word_primitive, word_enum, word_struct, word_nodebug, word_pure, word_multi, word_partial, word-rec, word_veri, word_tag, word_chain, word-priority, word_constructor, word_infallible, word_const}
use Rattle.grammar.specs.Lexical.{Open, Close, Symbol, Integer, At, Word, Name, Constant, Variable, Binder, Short, Iffy, one, tree_at, bare_tree, name_at, constant_at, integer_at, type_at}

-- ---- what gathers flags and no part of its own

-- 'w'? with its flag f, from i up to j: where the word stands it is the modifier, and no name
pub data Optional (s : Input) (w : List ℕ) (f i : ℕ) : ℕ → ℕ → Type 0 where
  given : Word s w i → Optional s w f i (i + 1) f
  left : (Word s w i → ⊥) → Optional s w f i i 0

-- modifiers ::=  |  'extern' modifiers  |  'nodebug' modifiers          flags 1 and 2
pub data Modifiers (s : Input) : ℕ → ℕ → ℕ → ℕ → Type 0 where
  no_more : {i : ℕ} → Modifiers s i i 0 0
  an_extern : {i j e n : ℕ} → Word s word_extern i → Modifiers s (i + 1) j e n → Modifiers s i j 1 n
  a_nodebug : {i j e n : ℕ} → Word s word_nodebug i → Modifiers s (i + 1) j e n → Modifiers s i j e 2

-- NAME? of a rule, flag 1: the first symbol after `rule` is its name
pub data RuleName (s : Input) (i : ℕ) : ℕ → Trees → ℕ → Type 0 where
  named : Name s i → RuleName s i (i + 1) (one (name_at s i)) 1
  unnamed : (Symbol s i → ⊥) → RuleName s i i ∅ 0

-- INTEGER? of a rule, flag 2: the next integer is its priority, of 64 bits
pub data RulePriority (s : Input) (i : ℕ) : ℕ → Trees → ℕ → Type 0 where
  ranked : Integer s i → Short s i → RulePriority s i (i + 1) (one (node (head ast.kind_priority 0 0 (peek s i).word2 0) ∅)) 2
  unranked : (Integer s i → ⊥) → RulePriority s i i ∅ 0

-- ---- the parts

pub data Part : Type 0 where
  definition typedef typevalue variant fields field decl attr attribute extern extractor rule iflet converter pattern expression letdef name : Part
  -- tuple fields, after so many others
  types : ℕ → Part
  list : Part → Part

pub data Gram (s : Input) : Part → ℕ → ℕ → Trees → Type 0 where
  -- ---- rows
  -- x* ::=  |  x x*
  empty : {x : Part} {i : ℕ} → Gram s (list x) i i ∅
  cons : {x : Part} {i j k : ℕ} {t ts : Trees} → Gram s x i j t → Gram s (list x) j k ts → Gram s (list x) i k (t ⧺ ts)
  -- ---- definitions
  -- definition ::= '(' 'type' typedef ')'  |  '(' 'decl' decl ')'  |  '(' 'attr' attr ')'  |  '(' 'extern' extern ')'
  --             |  '(' 'extractor' extractor ')'  |  '(' 'rule' rule ')'  |  '(' 'convert' converter ')'
  d_type : {i j : ℕ} {t : Trees} → Open s i → Word s word_type (i + 1) → Gram s typedef (i + 1 + 1) j t → Close s j → Gram s definition i (j + 1) t
  d_decl : {i j : ℕ} {t : Trees} → Open s i → Word s word_decl (i + 1) → Gram s decl (i + 1 + 1) j t → Close s j → Gram s definition i (j + 1) t
  d_attr : {i j : ℕ} {t : Trees} → Open s i → Word s word_attr (i + 1) → Gram s attr (i + 1 + 1) j t → Close s j → Gram s definition i (j + 1) t
  d_extern : {i j : ℕ} {t : Trees} → Open s i → Word s word_extern (i + 1) → Gram s extern (i + 1 + 1) j t → Close s j → Gram s definition i (j + 1) t
  d_extractor : {i j : ℕ} {t : Trees} → Open s i → Word s word-extractor (i + 1) → Gram s extractor (i + 1 + 1) j t → Close s j → Gram s definition i (j + 1) t
  d_rule : {i j : ℕ} {t : Trees} → Open s i → Word s word-rule (i + 1) → Gram s rule (i + 1 + 1) j t → Close s j → Gram s definition i (j + 1) t
  d_convert : {i j : ℕ} {t : Trees} → Open s i → Word s word_convert (i + 1) → Gram s converter (i + 1 + 1) j t → Close s j → Gram s definition i (j + 1) t
  -- ---- types
  -- typedef ::= NAME modifiers typevalue
  t_type : {i j k e n : ℕ} {t : Trees} → Name s i → Modifiers s (i + 1) j e n → Gram s typevalue j k t
      → Gram s typedef i k (one (tree_at s i ast.kind_type_def (e + n) (name_at s i ▸ t)))
  -- typevalue ::= '(' 'primitive' NAME ')'  |  '(' 'enum' variant* ')'  |  '(' 'struct' fields ')'
  v_primitive : {i : ℕ} → Open s i → Word s word_primitive (i + 1) → Name s (i + 1 + 1) → Close s (i + 1 + 1 + 1)
      → Gram s typevalue i (i + 1 + 1 + 1 + 1) (one (tree_at s i ast.kind_type_value_primitive 0 (one (name_at s (i + 1 + 1)))))
  v_enum : {i j : ℕ} {ts : Trees} → Open s i → Word s word_enum (i + 1) → Gram s (list variant) (i + 1 + 1) j ts → Close s j
      → Gram s typevalue i (j + 1) (one (tree_at s i ast.kind_type_value_enum 0 ts))
  v_struct : {i j : ℕ} {t : Trees} → Open s i → Word s word_struct (i + 1) → Gram s fields (i + 1 + 1) j t → Close s j
      → Gram s typevalue i (j + 1) (one (tree_at s i ast.kind_type_value_struct 0 t))
  -- variant ::= NAME  |  '(' NAME fields ')'
  w_plain : {i : ℕ} → Name s i → Gram s variant i (i + 1) (one (tree_at s i ast.kind_variant 0 (name_at s i ▸ one (bare_tree ast.kind_fields_unit ∅))))
  w_fields : {i j : ℕ} {t : Trees} → Open s i → Name s (i + 1) → Gram s fields (i + 1 + 1) j t → Close s j
      → Gram s variant i (j + 1) (one (tree_at s i ast.kind_variant 0 (name_at s (i + 1) ▸ t)))
  -- fields ::=  |  field field*  |  NAME types 1
  f_unit : {i : ℕ} → Gram s fields i i (one (bare_tree ast.kind_fields_unit ∅))
  f_struct : {i j k : ℕ} {t ts : Trees} → Gram s field i j t → Gram s (list field) j k ts → Gram s fields i k (one (tree_at s i ast.kind_fields_struct 0 (t ⧺ ts)))
  f_tuple : {i j : ℕ} {ts : Trees} → Name s i → Gram s (types 1) (i + 1) j ts → Gram s fields i j (one (tree_at s i ast.kind_fields_tuple 0 (type_at s i 0 ▸ ts)))
  -- field ::= '(' NAME NAME ')'
  f_field : {i : ℕ} → Open s i → Name s (i + 1) → Name s (i + 1 + 1) → Close s (i + 1 + 1 + 1)
      → Gram s field i (i + 1 + 1 + 1 + 1) (one (tree_at s i ast.kind_struct_field 0 (name_at s (i + 1) ▸ one (name_at s (i + 1 + 1)))))
  -- types n ::=  |  NAME types (n + 1)
  f_end : {n i : ℕ} → Gram s (types n) i i ∅
  f_type : {n i j : ℕ} {ts : Trees} → Name s i → Gram s (types (n + 1)) (i + 1) j ts → Gram s (types n) i j (type_at s i n ▸ ts)
  -- ---- declarations
  -- decl ::= 'pure'? 'multi'? 'partial'? 'rec'? NAME '(' name* ')' NAME
  c_decl : {i a b c k j p m q r : ℕ} {ts : Trees}
      → Optional s word_pure 1 i a p → Optional s word_multi 2 a b m → Optional s word_partial 4 b c q → Optional s word-rec 8 c k r
      → Name s k → Open s (k + 1) → Gram s (list name) (k + 1 + 1) j ts → Close s j → Name s (j + 1)
      → Gram s decl i (j + 1 + 1) (one (tree_at s i ast.kind_decl (p + m + q + r) (name_at s k ▸ (ts ⧺ one (name_at s (j + 1))))))
  -- name ::= NAME
  n_name : {i : ℕ} → Name s i → Gram s name i (i + 1) (one (name_at s i))
  -- ---- attributes
  -- attr ::= 'rule'? NAME attribute*
  a_attr : {i a j f : ℕ} {ts : Trees} → Optional s word-rule 1 i a f → Name s a → Gram s (list attribute) (a + 1) j ts
      → Gram s attr i j (one (tree_at s i ast.kind_attr f (name_at s a ▸ ts)))
  -- attribute ::= '(' 'veri' 'chain' ')'  |  '(' 'veri' 'priority' ')'  |  '(' 'tag' NAME ')'
  a_chain : {i : ℕ} → Open s i → Word s word_veri (i + 1) → Word s word_chain (i + 1 + 1) → Close s (i + 1 + 1 + 1)
      → Gram s attribute i (i + 1 + 1 + 1 + 1) (one (bare_tree ast.kind_attr_kind_chain ∅))
  a_priority : {i : ℕ} → Open s i → Word s word_veri (i + 1) → Word s word-priority (i + 1 + 1) → Close s (i + 1 + 1 + 1)
      → Gram s attribute i (i + 1 + 1 + 1 + 1) (one (bare_tree ast.kind_attr_kind_priority ∅))
  a_tag : {i : ℕ} → Open s i → Word s word_tag (i + 1) → Name s (i + 1 + 1) → Close s (i + 1 + 1 + 1)
      → Gram s attribute i (i + 1 + 1 + 1 + 1) (one (bare_tree ast.kind_attr_kind_tag (one (name_at s (i + 1 + 1)))))
  -- ---- externs and extractors
  -- extern ::= 'constructor' NAME NAME  |  'extractor' 'infallible'? NAME NAME  |  'const' CONSTANT NAME
  x_constructor : {i : ℕ} → Word s word_constructor i → Name s (i + 1) → Name s (i + 1 + 1)
      → Gram s extern i (i + 1 + 1 + 1) (one (tree_at s i ast.kind_extern_constructor 0 (name_at s (i + 1) ▸ one (name_at s (i + 1 + 1)))))
  x_extractor : {i a f : ℕ} → Word s word-extractor i → Optional s word_infallible 1 (i + 1) a f → Name s a → Name s (a + 1)
      → Gram s extern i (a + 1 + 1) (one (tree_at s i ast.kind_extern_extractor f (name_at s a ▸ one (name_at s (a + 1)))))
  x_const : {i : ℕ} → Word s word_const i → Constant s (i + 1) → Name s (i + 1 + 1)
      → Gram s extern i (i + 1 + 1 + 1) (one (tree_at s (i + 1) ast.kind_extern_const 0 (constant_at s (i + 1) ▸ one (name_at s (i + 1 + 1)))))
  -- extractor ::= '(' NAME name* ')' pattern
  x_template : {i j k : ℕ} {ts p : Trees} → Open s i → Name s (i + 1) → Gram s (list name) (i + 1 + 1) j ts → Close s j → Gram s pattern (j + 1) k p
      → Gram s extractor i k (one (tree_at s i ast.kind_extractor 0 (name_at s (i + 1) ▸ (ts ⧺ p))))
  -- ---- rules
  -- rule ::= NAME? INTEGER? pattern iflet* expression          where the expression does not begin as an if-let
  r_rule : {i a b c k j f g : ℕ} {n q p ts e : Trees} → RuleName s i a n f → RulePriority s a b q g
      → Gram s pattern b c p → Gram s (list iflet) c k ts → Gram s expression k j e → (Iffy s k → ⊥)
      → Gram s rule i j (one (tree_at s i ast.kind_rule (f + g) (n ⧺ q ⧺ p ⧺ ts ⧺ e)))
  -- iflet ::= '(' 'if-let' pattern expression ')'  |  '(' 'if' expression ')'          the second with a wildcard, which takes no token
  i_let : {i j k : ℕ} {p e : Trees} → Open s i → Word s word_if_let (i + 1) → Gram s pattern (i + 1 + 1) j p → Gram s expression j k e → Close s k
      → Gram s iflet i (k + 1) (one (tree_at s (i + 1 + 1) ast.kind_if_let 0 (p ⧺ e)))
  i_if : {i k : ℕ} {e : Trees} → Open s i → Word s word_if (i + 1) → Gram s expression (i + 1 + 1) k e → Close s k
      → Gram s iflet i (k + 1) (one (tree_at s (i + 1 + 1) ast.kind_if_let 0 (tree_at s (i + 1 + 1) ast.kind_pattern_wildcard 0 ∅ ▸ e)))
  -- ---- converters
  -- converter ::= NAME NAME NAME
  k_convert : {i : ℕ} → Name s i → Name s (i + 1) → Name s (i + 1 + 1)
      → Gram s converter i (i + 1 + 1 + 1) (one (tree_at s i ast.kind_converter 0 (name_at s i ▸ name_at s (i + 1) ▸ one (name_at s (i + 1 + 1)))))
  -- ---- patterns
  -- pattern ::= INTEGER  |  CONSTANT  |  '_'  |  'true'  |  'false'  |  BINDER  |  BINDER '@' pattern
  --          |  '(' 'and' pattern* ')'  |  '(' NAME pattern* ')'          where NAME is not 'and'
  p_integer : {i : ℕ} → Integer s i → Gram s pattern i (i + 1) (one (integer_at s i ast.kind_pattern_const_int))
  p_constant : {i : ℕ} → Constant s i → Gram s pattern i (i + 1) (one (tree_at s i ast.kind_pattern_const_prim 0 (one (constant_at s i))))
  p_wildcard : {i : ℕ} → Word s word-wildcard i → Gram s pattern i (i + 1) (one (tree_at s i ast.kind_pattern_wildcard 0 ∅))
  p_true : {i : ℕ} → Word s word-true i → Gram s pattern i (i + 1) (one (tree_at s i ast.kind_pattern_const_bool 1 ∅))
  p_false : {i : ℕ} → Word s word-false i → Gram s pattern i (i + 1) (one (tree_at s i ast.kind_pattern_const_bool 0 ∅))
  p_var : {i : ℕ} → Binder s i → Gram s pattern i (i + 1) (one (tree_at s i ast.kind_pattern_var 0 (one (name_at s i))))
  p_bind : {i j : ℕ} {p : Trees} → Binder s i → At s (i + 1) → Gram s pattern (i + 1 + 1) j p
      → Gram s pattern i j (one (tree_at s i ast.kind_pattern_bind 0 (name_at s i ▸ p)))
  p_and : {i j : ℕ} {ts : Trees} → Open s i → Word s word_and (i + 1) → Gram s (list pattern) (i + 1 + 1) j ts → Close s j
      → Gram s pattern i (j + 1) (one (tree_at s i ast.kind_pattern_and 0 ts))
  p_term : {i j : ℕ} {ts : Trees} → Open s i → Name s (i + 1) → (Word s word_and (i + 1) → ⊥) → Gram s (list pattern) (i + 1 + 1) j ts → Close s j
      → Gram s pattern i (j + 1) (one (tree_at s i ast.kind_pattern_term 0 (name_at s (i + 1) ▸ ts)))
  -- ---- expressions
  -- expression ::= INTEGER  |  CONSTANT  |  'true'  |  'false'  |  VARIABLE
  --             |  '(' 'let' '(' letdef* ')' expression ')'  |  '(' NAME expression* ')'          where NAME is not 'let'
  e_integer : {i : ℕ} → Integer s i → Gram s expression i (i + 1) (one (integer_at s i ast.kind_expr_const_int))
  e_constant : {i : ℕ} → Constant s i → Gram s expression i (i + 1) (one (tree_at s i ast.kind_expr_const_prim 0 (one (constant_at s i))))
  e_true : {i : ℕ} → Word s word-true i → Gram s expression i (i + 1) (one (tree_at s i ast.kind_expr_const_bool 1 ∅))
  e_false : {i : ℕ} → Word s word-false i → Gram s expression i (i + 1) (one (tree_at s i ast.kind_expr_const_bool 0 ∅))
  e_var : {i : ℕ} → Variable s i → Gram s expression i (i + 1) (one (tree_at s i ast.kind_expr_var 0 (one (name_at s i))))
  e_let : {i j k : ℕ} {ts e : Trees} → Open s i → Word s word_let (i + 1) → Open s (i + 1 + 1) → Gram s (list letdef) (i + 1 + 1 + 1) j ts → Close s j
      → Gram s expression (j + 1) k e → Close s k → Gram s expression i (k + 1) (one (tree_at s i ast.kind_expr_let 0 (ts ⧺ e)))
  e_term : {i j : ℕ} {ts : Trees} → Open s i → Name s (i + 1) → (Word s word_let (i + 1) → ⊥) → Gram s (list expression) (i + 1 + 1) j ts → Close s j
      → Gram s expression i (j + 1) (one (tree_at s i ast.kind_expr_term 0 (name_at s (i + 1) ▸ ts)))
  -- letdef ::= '(' NAME NAME expression ')'
  l_def : {i j : ℕ} {e : Trees} → Open s i → Name s (i + 1) → Name s (i + 1 + 1) → Gram s expression (i + 1 + 1 + 1) j e → Close s j
      → Gram s letdef i (j + 1) (one (tree_at s i ast.kind_let_def 0 (name_at s (i + 1) ▸ name_at s (i + 1 + 1) ▸ e)))
