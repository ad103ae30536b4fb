-- The tests of a token are the terminals of the grammar, and names are read by them. Assumes nothing.
use Prim.Native.Nat.{ℕ, ◌+◌, ◌<◌, ◌≤◌}
use native.Mathlib.Omega.{arith}
use mathlib.Core.Path.{◌≡◌, refl, sym, ap, ◌∙◌}
use mathlib.Core.List.{List, [], ◌∷◌}
use mathlib.Core.Bool.{Bool, true, false, ◌&&◌}
use lib.ListN.{length, get_or}
use lib.Dec.{eqb, ltb}
use borrow.Author.Tests.{eqb-true, eqb-false, eq-eqb}
use Rattle.trees.specs.Names.{without_first}
use Rattle.trees.specs.Choice.{pick, choose}
use Rattle.trees.specs.Tree.{Trees, ∅}
use Rattle.trees.specs.Ast.{ident_node}
use Rattle.words.specs.Bytes.{same_bytes}
use Rattle.words.proofs.SameLaws.{same_refl, same_eq}
use Rattle.tokens.specs.Token.{is_lparen, is_rparen, is_symbol, is_int, is_at, is_refused, is_const, is_word}
use Rattle.tokens.specs.Ident.{starts, all_go_on, ident_refusal}
use Rattle.tokens.specs.Input.{Input, peek, pos_at, size}
use Rattle.tokens.proofs.TokenLaws.{kind-inside}
use Rattle.steps.specs.Outcome.{Refusal}
use Rattle.steps.specs.Outcome.{accept, refuse, refusal, unexpected, expect-lparen, expect-rparen, expect-at, expect-word, ident_at, name_by, parse_ident, const_refusal, parse_const, refused_as}
use Rattle.steps.proofs.NameLaws.{is-constant, constant-is}
use Rattle.grammar.specs.Lexical.{Kind, Open, Close, Symbol, Integer, At, Word, spelling, Identifier, identifier, Name, Dollar, Constant, one, name_at, constant_at}
use Rattle.grammar.proofs.Exact.{Reach, Exact, Tests, Judges, One, token, exact_expect, clash, same, Ground, plain, no_refusal, same_ground, unexpected-ground}

-- the token is there
pub there : {s : Input} {k i : ℕ} → Kind s k i → 0 < k → i < size s
there {s} {k} {i} h l = kind-inside s.tokens s.end i k h.is l

-- a token has one kind
pub other : {s : Input} {k l i : ℕ} → Kind s k i → Kind s l i → eqb k l ≡ false → ⊥
other {k = k} {l = l} a b e = eqb-false k l e (omega (arith, a.is, b.is))

-- ---- kinds

kind_tests : (s : Input) (k i : ℕ) → Tests (eqb (peek s i).kind k) (Kind s k i)
kind_tests s k i = record { yes = λ e. record { is = eqb-true _ k e }; no = λ e h. eqb-false _ k e h.is }

module _ (s : Input) where
  pub opens : Judges s is_lparen (Open s)
  unfolding is_lparen
  opens = record { at = λ i. kind_tests s 1 i }

  pub closes : Judges s is_rparen (Close s)
  unfolding is_rparen
  closes = record { at = λ i. kind_tests s 2 i }

  pub symbols : Judges s is_symbol (Symbol s)
  unfolding is_symbol
  symbols = record { at = λ i. kind_tests s 3 i }

  pub integers : Judges s is_int (Integer s)
  unfolding is_int
  integers = record { at = λ i. kind_tests s 4 i }

  pub ats : Judges s is_at (At s)
  unfolding is_at
  ats = record { at = λ i. kind_tests s 5 i }

  pub refuseds : Judges s is_refused (Kind s 6)
  unfolding is_refused
  refuseds = record { at = λ i. kind_tests s 6 i }

-- ---- spellings

untrue : true ≡ false → ⊥
untrue e = let z : ◌≡◌ {A = ℕ} 0 1 = cc in omega arith

same_no : (a b : List ℕ) → same_bytes a b ≡ false → a ≡ b → ⊥
same_no a b e q = untrue (sym (same_refl a) ∙ rw (← q) at e)

pub words : (s : Input) (w : List ℕ) → Judges s (is_word s.text w) (Word s w)
unfolding is_word
words s w = record { at = λ i. go i (eqb (peek s i).kind 3) refl }
  where
    go : (i : ℕ) (t : Bool) → eqb (peek s i).kind 3 ≡ t → Tests (pick t (same_bytes (spelling s i) w) false) (Word s w i)
    go i true e = record { yes = λ f. record { symbol = record { is = eqb-true _ 3 e }; spelt = same_eq (spelling s i) w f }; no = λ f h. same_no (spelling s i) w f h.spelt }
    go i false e = record { yes = λ f. absurd (untrue (sym f)); no = λ f h. eqb-false _ 3 e h.symbol.is }

pub dollars : (s : Input) → Judges s (is_const s.text) (Dollar s)
unfolding is_const
dollars s = record { at = λ i. go i (eqb (peek s i).kind 3) refl }
  where
    go : (i : ℕ) (t : Bool) → eqb (peek s i).kind 3 ≡ t → Tests (pick t (eqb (get_or (spelling s i) 0 0) 36) false) (Dollar s i)
    go i true e = record { yes = λ f. record { symbol = record { is = eqb-true _ 3 e }; starts_so = eqb-true _ 36 f }; no = λ f h. eqb-false _ 36 f h.starts_so }
    go i false e = record { yes = λ f. absurd (untrue (sym f)); no = λ f h. eqb-false _ 3 e h.symbol.is }

-- a symbol has one spelling
pub one_word : {s : Input} {i : ℕ} {v w : List ℕ} → Word s v i → Word s w i → same_bytes v w ≡ false → ⊥
one_word {v = v} {w = w} a b e = same_no v w e (sym a.spelt ∙ b.spelt)

pub no_dollar_word : {s : Input} {i c : ℕ} {w : List ℕ} → Word s (c ∷ w) i → Dollar s i → c ≡ 36
no_dollar_word {s} {i} {c} {w} a b = sym (ap (λ (l : List ℕ). get_or l 0 0) a.spelt) ∙ b.starts_so

-- ---- tokens that are expected

module _ (s : Input) where
  pub lparen : {D : Reach} → Exact s D (expect-lparen s) (One (Open s) (λ _. ∅))
  lparen = exact_expect s (opens s)

  pub rparen : {D : Reach} → Exact s D (expect-rparen s) (One (Close s) (λ _. ∅))
  rparen = exact_expect s (closes s)

  pub at_sign : {D : Reach} → Exact s D (expect-at s) (One (At s) (λ _. ∅))
  at_sign = exact_expect s (ats s)

  pub word : (w : List ℕ) {D : Reach} → Exact s D (expect-word s w) (One (Word s w) (λ _. ∅))
  word w = exact_expect s (words s w)

-- ---- names

-- a symbol that is judged to be a name just where P holds
pub record Names (s : Input) (judge : List ℕ → ℕ) (P : ℕ → Type 0) : Type 0 where
  pub yes : (i : ℕ) → Symbol s i → judge (spelling s i) ≡ 0 → P i
  pub symbol : (i : ℕ) → P i → Symbol s i
  pub obeys : (i : ℕ) → P i → judge (spelling s i) ≡ 0
  pub ground : (b : List ℕ) → (judge b ≡ 0 → ⊥) → (10 ≤ judge b) × (judge b ≤ 27)

module _ {s : Input} {judge : List ℕ → ℕ} {P : ℕ → Type 0} (range : ℕ → ℕ) (n : Names s judge P) where
  abbrev tree_from : ℕ → Trees
  tree_from i = one (ident_node (pos_at s i) (range (peek s i).word1))

  judged : (i : ℕ) {ts : Trees} {j : ℕ} (c : ℕ) → judge (spelling s i) ≡ c → Symbol s i → (b : Bool) → eqb c 0 ≡ b
      → pick b (accept (tree_from i) (i + 1)) (refuse (refusal c (pos_at s i) (i + 1))) ≡ accept ts j → One P tree_from i ts j
  judged i c p k true q e = same (One P tree_from i) e (token (n.yes i k (p ∙ eqb-true c 0 q)))
  judged i c p k false q e = absurd (clash e)

  met : (i : ℕ) {ts : Trees} {j : ℕ} (b : Bool) → is_symbol (peek s i) ≡ b
      → choose b (λ _. ident_at (peek s i).pos (range (peek s i).word1) (judge (spelling s i)) i) (λ _. refuse (unexpected (peek s i) i)) ≡ accept ts j → One P tree_from i ts j
  unfolding ident_at
  met i true p e = judged i (judge (spelling s i)) refl (((symbols s).at i).yes p) (eqb (judge (spelling s i)) 0) refl e
  met i false p e = absurd (clash e)

  judged-ground : {D : ℕ → Type 0} (i c : ℕ) {e : Refusal} → Symbol s i → ((c ≡ 0 → ⊥) → (10 ≤ c) × (c ≤ 27)) → (b : Bool) → eqb c 0 ≡ b
      → pick b (accept (tree_from i) (i + 1)) (refuse (refusal c (pos_at s i) (i + 1))) ≡ refuse e → Ground s D e
  judged-ground i c k g true q z = absurd (no_refusal z)
  judged-ground i c k g false q z = let l = g (eqb-false c 0 q) in same_ground z (plain i l.0 l.1 (λ _. k) refl)

  met_ground : {D : ℕ → Type 0} (i : ℕ) {e : Refusal} (b : Bool) → is_symbol (peek s i) ≡ b
      → choose b (λ _. ident_at (peek s i).pos (range (peek s i).word1) (judge (spelling s i)) i) (λ _. refuse (unexpected (peek s i) i)) ≡ refuse e → Ground s D e
  unfolding ident_at
  met_ground i true p z = judged-ground i (judge (spelling s i)) (((symbols s).at i).yes p) (n.ground (spelling s i)) (eqb (judge (spelling s i)) 0) refl z
  met_ground i false p z = same_ground z (unexpected-ground s i)

  symbol-true : (i : ℕ) → Symbol s i → is_symbol (peek s i) ≡ true
  unfolding is_symbol
  symbol-true i k = eq-eqb _ 3 k.is

  back : (i : ℕ) {ts : Trees} {j : ℕ} → One P tree_from i ts j → name_by s judge range i ≡ accept ts j
  unfolding name_by ident_at
  back i (token h) = rw (symbol-true i (n.symbol i h), n.obeys i h)

  pub exact_name : {D : Reach} → Exact s D (name_by s judge range) (One P tree_from)
  unfolding name_by
  exact_name = record { sound = λ i e. met i (is_symbol (peek s i)) refl e; complete = λ i x. back i x; ground = λ i e z. met_ground i (is_symbol (peek s i)) refl z }

rule_sound : (b : List ℕ) → ident_refusal b ≡ 0 → Identifier b
unfolding ident_refusal
rule_sound [] e = absurd (omega arith)
rule_sound (c ∷ cs) e = go (starts c) (all_go_on cs) refl refl e
  where
    go : (t u : Bool) → starts c ≡ t → all_go_on cs ≡ u → ◌≡◌ {A = ℕ} (pick t (pick u 0 15) 14) 0 → Identifier (c ∷ cs)
    go true true p q h = identifier p q
    go true false p q h = absurd (omega arith)
    go false u p q h = absurd (omega arith)

rule_complete : {b : List ℕ} → Identifier b → ident_refusal b ≡ 0
unfolding ident_refusal
rule_complete (identifier p q) = rw (p, q)

-- 13, 14 or 15
ident-ground : (b : List ℕ) → (ident_refusal b ≡ 0 → ⊥) → (13 ≤ ident_refusal b) × (ident_refusal b ≤ 15)
unfolding ident_refusal
ident-ground [] n = (omega arith, omega arith)
ident-ground (c ∷ cs) n = go (starts c) (all_go_on cs) n
  where
    go : (t u : Bool) → (◌≡◌ {A = ℕ} (pick t (pick u 0 15) 14) 0 → ⊥) → (13 ≤ pick t (pick u 0 15) 14) × (pick t (pick u 0 15) 14 ≤ 15)
    go true true n = absurd (n refl)
    go true false n = (omega arith, omega arith)
    go false u n = (omega arith, omega arith)

-- a number that stands for another ground where there is none
pub either_ground : (b : List ℕ) (x y : ℕ) → ((x ≡ 0 → ⊥) → (10 ≤ x) × (x ≤ 27)) → ((ident_refusal b ≡ 0 → ⊥) → (10 ≤ y) × (y ≤ 27)) → (pick (eqb (ident_refusal b) 0) x y ≡ 0 → ⊥)
    → (10 ≤ pick (eqb (ident_refusal b) 0) x y) × (pick (eqb (ident_refusal b) 0) x y ≤ 27)
either_ground b x y f g n = go (eqb (ident_refusal b) 0) refl n
  where
    go : (t : Bool) → eqb (ident_refusal b) 0 ≡ t → (pick t x y ≡ 0 → ⊥) → (10 ≤ pick t x y) × (pick t x y ≤ 27)
    go true p n = f n
    go false p n = g (eqb-false _ 0 p)

pub ident-within : (b : List ℕ) → (ident_refusal b ≡ 0 → ⊥) → (10 ≤ ident_refusal b) × (ident_refusal b ≤ 27)
ident-within b n = let l = ident-ground b n in (omega (arith, l.0), omega (arith, l.1))

ident-names : (s : Input) → Names s ident_refusal (Name s)
ident-names s = record { yes = λ i k e. record { symbol = k; obeys = rule_sound (spelling s i) e }; symbol = λ i h. h.symbol; obeys = λ i h. rule_complete h.obeys; ground = ident-within }

pub ident : (s : Input) {D : Reach} → Exact s D (parse_ident s) (One (Name s) (λ i. one (name_at s i)))
unfolding parse_ident
ident s = exact_name (λ w. w) (ident-names s)

sixteen : (u : Bool) → (◌≡◌ {A = ℕ} (pick u 0 16) 0 → ⊥) → (10 ≤ pick u 0 16) × (pick u 0 16 ≤ 27)
sixteen true n = absurd (n refl)
sixteen false n = (omega arith, omega arith)

const_names : (s : Input) → Names s const_refusal (Constant s)
unfolding const_refusal
const_names s =
    record {
      yes = λ i k e. let z = is-constant (spelling s i) e in record { named = record { symbol = k; obeys = rule_sound (spelling s i) z.identifier }; dollar = record { symbol = k; starts_so = z.dollar }; longer = omega (arith, z.longer) };
      symbol = λ i h. h.named.symbol;
      obeys = λ i h. constant-is (spelling s i) (record { identifier = rule_complete h.named.obeys; dollar = h.dollar.starts_so; longer = omega (arith, h.longer) });
      ground = λ b n. either_ground b (pick (eqb (get_or b 0 0) 36 && ltb 1 (length b)) 0 16) (ident_refusal b) (sixteen (eqb (get_or b 0 0) 36 && ltb 1 (length b))) (ident-within b) n;
    }

pub constant : (s : Input) {D : Reach} → Exact s D (parse_const s) (One (Constant s) (λ i. one (constant_at s i)))
unfolding parse_const
constant s = exact_name without_first (const_names s)

refused-zero : (b : List ℕ) → refused_as 23 b ≡ 0 → ident_refusal b ≡ 0
unfolding refused_as
refused-zero b e = go (eqb (ident_refusal b) 0) refl e
  where
    go : (t : Bool) → eqb (ident_refusal b) 0 ≡ t → ◌≡◌ {A = ℕ} (pick t 0 23) 0 → ident_refusal b ≡ 0
    go true p h = eqb-true _ 0 p
    go false p h = absurd (omega arith)

rule-names : (s : Input) → Names s (refused_as 23) (Name s)
unfolding refused_as
rule-names s = record { yes = λ i k e. record { symbol = k; obeys = rule_sound (spelling s i) (refused-zero (spelling s i) e) }; symbol = λ i h. h.symbol; obeys = λ i h. rw (rule_complete h.obeys); ground = λ b n. either_ground b 0 23 (λ z. absurd (z refl)) (λ z. (omega arith, omega arith)) n }

pub rule-ident : (s : Input) {D : Reach} → Exact s D (name_by s (refused_as 23) (λ w. w)) (One (Name s) (λ i. one (name_at s i)))
rule-ident s = exact_name (λ w. w) (rule-names s)
