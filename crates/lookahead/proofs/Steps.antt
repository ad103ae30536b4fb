-- The readers of one token. Assumes nothing.
use Prim.Native.Nat.{ℕ, ◌+◌, ◌<◌, ◌≤◌}
use native.Mathlib.Omega.{arith}
use mathlib.Core.Path.{◌≡◌, refl, sym, subst}
use mathlib.Core.List.{List}
use mathlib.Core.Bool.{Bool, true, false}
use lib.Dec.{eqb}
use borrow.Author.Tests.{eqb-true}
use Rattle.trees.specs.Choice.{pick, choose}
use Rattle.trees.specs.Tree.{Trees, node, ∅, ◌▸◌}
use Rattle.trees.specs.declared.Head.{Head}
use Rattle.trees.specs.Ast.{ident_node}
use Rattle.trees.specs.Names.{spelled, without_first}
use Rattle.tokens.specs.declared.Token.{Token}
use Rattle.tokens.specs.Token.{is_lparen, is_rparen, is_symbol, is_int, is_at, is_word}
use Rattle.tokens.specs.Ident.{ident_refusal}
use Rattle.tokens.specs.Input.{Input, peek}
use Rattle.steps.specs.Outcome.{Outcome, accept, refuse, Reader, refusal, leaf, nothing, if_next, refuse_from, refuse_at, refuse_after, unexpected, expect_at, expect-lparen, expect-rparen, expect-at, expect-word, ate, eat, ident_at, name_by, parse_ident, const_refusal, parse_const}
use Rattle.grammar.proofs.Exact.{Nowhere, One, token}
use Rattle.grammar.proofs.Lexemes.{closes, integers, ident}
use Rattle.grammar.proofs.Lexemes as lexemes
use Rattle.grammar.proofs.Options.{optional_at}
use Rattle.grammar.proofs.TokenKinds as kinds
use Rattle.grammar.proofs.TokenKinds.{Tokens}
use Rattle.lookahead.specs.Agree.{Agree}
use Rattle.lookahead.proofs.Combinators.{reach, Follows, Start, goes, stops, Begins, tokens-choose, told, looks, next-at}

pub nothings : {s : Input} {m : ℕ} → Follows s m nothing nothing
unfolding nothing reach
nothings = record { at = λ i. record { tokens = kinds.nothing; same = λ h. refl } }

-- what passes a test is a token
abbrev Passes : Input → (Token → Bool) → Type 0
Passes s test = (i : ℕ) → test (peek s i) ≡ true → Tokens s i (i + 1)

word_passes : (s : Input) (w : List ℕ) → Passes s (is_word s.text w)
word_passes s w i e = kinds.word (((lexemes.words s w).at i).yes e)

pub ate-tokens : (s : Input) (w : List ℕ) (i : ℕ) → Tokens s i (ate s w i)
ate-tokens s w i = kinds.optional (optional_at s w 1 i).optional

module _ {m : ℕ} {s t : Input} (a : Agree m s t) where
  pub refuses : (code : ℕ) → Follows s m (refuse_at s code) (refuse_at t code)
  unfolding refuse_from reach
  refuses code = looks a (λ x y i. refuse (refusal code y.pos i)) (λ i. kinds.nothing)

  -- a leaf, where a test says that its token is one
  leaves : (test : List ℕ → Token → Bool) → Passes s (test s.text) → (h : Token → Head) {f g : Reader} → Follows s m f g → Follows s m (if_next s (test s.text) (leaf s h) f) (if_next t (test t.text) (leaf t h) g)
  unfolding if_next leaf reach
  leaves test p h r =
      record {
        at = λ i. next-at a test
            (λ e. record { tokens = p i e; same = λ l. told a (λ _ y. accept (node (h y) ∅ ▸ ∅) (i + 1)) i (omega arith) })
            (r.at i);
      }

  pub integer-leaves : (h : Token → Head) {f g : Reader} → Follows s m f g → Follows s m (if_next s is_int (leaf s h) f) (if_next t is_int (leaf t h) g)
  integer-leaves = leaves (λ _. is_int) (λ i e. kinds.integer (((integers s).at i).yes e))

  pub word-leaves : (w : List ℕ) (h : Token → Head) {f g : Reader} → Follows s m f g → Follows s m (if_next s (is_word s.text w) (leaf s h) f) (if_next t (is_word t.text w) (leaf t h) g)
  word-leaves w = leaves (λ x. is_word x w) (word_passes s w)

  pub eats : (w : List ℕ) → Follows s m (eat s w) (eat t w)
  unfolding eat ate reach
  eats w = looks a (λ x y i. accept ∅ (pick (is_word x w y) (i + 1) i)) (ate-tokens s w)

  -- a token by a test
  expects : (test : List ℕ → Token → Bool) → Passes s (test s.text) → Follows s m (expect_at s.tokens s.end (test s.text)) (expect_at t.tokens t.end (test t.text))
  unfolding expect_at reach unexpected
  expects test p =
      looks a (λ x y i. choose (test x y) (λ _. accept ∅ (i + 1)) (λ _. refuse (unexpected y i)))
      (λ i. tokens-choose (test s.text (peek s i)) (accept ∅ (i + 1)) (refuse (unexpected (peek s i) i)) (p i) (λ _. kinds.nothing))

  pub rparens : Follows s m (expect-rparen s) (expect-rparen t)
  rparens = expects (λ _. is_rparen) (λ i e. kinds.close (((closes s).at i).yes e))

  pub ats : Follows s m (expect-at s) (expect-at t)
  ats = expects (λ _. is_at) (λ i e. kinds.at_sign (((lexemes.ats s).at i).yes e))

  pub words : (w : List ℕ) → Follows s m (expect-word s w) (expect-word t w)
  words w = expects (λ x. is_word x w) (word_passes s w)

  -- ---- a token of a kind, which is consumed

  start_by : {k i : ℕ} (b : Bool) → eqb (peek s i).kind k ≡ b → (o : Outcome) → i < reach o → Start s k i (choose b (λ _. o) (λ _. refuse (unexpected (peek s i) i)))
  start_by true e o h = goes e h
  start_by false e o h = stops e refl

  firsts : (k : ℕ) → 1 ≤ k → k ≤ 5 → (f : List ℕ → Token → Reader) → ((x : List ℕ) (y : Token) (i : ℕ) → reach (f x y i) ≡ i + 1)
      → Begins s k m (λ i. choose (eqb (peek s i).kind k) (λ _. f s.text (peek s i) i) (λ _. refuse (unexpected (peek s i) i)))
      (λ i. choose (eqb (peek t i).kind k) (λ _. f t.text (peek t i) i) (λ _. refuse (unexpected (peek t i) i)))
  unfolding reach unexpected
  firsts k p q f one =
      record {
        follows = looks a (λ x y i. choose (eqb y.kind k) (λ _. f x y i) (λ _. refuse (unexpected y i)))
            (λ i. tokens-choose (eqb (peek s i).kind k) (f s.text (peek s i) i) (refuse (unexpected (peek s i) i))
            (λ e. subst (Tokens s i) (sym (one s.text (peek s i) i)) (kinds.a {c = k} (record { is = eqb-true (peek s i).kind k e }) p q))
            (λ _. kinds.nothing));
        start = λ i. let l = one s.text (peek s i) i in start_by (eqb (peek s i).kind k) refl (f s.text (peek s i) i) (omega arith);
      }

  pub lparens : Begins s 1 m (expect-lparen s) (expect-lparen t)
  unfolding expect_at is_lparen reach
  lparens = firsts 1 (omega arith) (omega arith) (λ x y i. accept ∅ (i + 1)) (λ x y i. refl)

  refuses_after : (kind code : ℕ) → 1 ≤ kind → kind ≤ 5 → Begins s kind m (refuse_after s kind code) (refuse_after t kind code)
  unfolding refuse_after reach
  refuses_after kind code p q = firsts kind p q (λ x y i. refuse (refusal code y.pos (i + 1))) (λ x y i. refl)

  pub refuses_paren : (code : ℕ) → Begins s 1 m (refuse_after s 1 code) (refuse_after t 1 code)
  refuses_paren code = refuses_after 1 code (omega arith) (omega arith)

  pub refuses_symbol : (code : ℕ) → Begins s 3 m (refuse_after s 3 code) (refuse_after t 3 code)
  refuses_symbol code = refuses_after 3 code (omega arith) (omega arith)

  one_name : (pos range c i : ℕ) → reach (ident_at pos range c i) ≡ i + 1
  unfolding ident_at reach
  one_name pos range c i = go (eqb c 0)
    where
      go : (b : Bool) → reach (pick b (accept (ident_node pos range ▸ ∅) (i + 1)) (refuse (refusal c pos (i + 1)))) ≡ i + 1
      go true = refl
      go false = refl

  pub names : (judge : List ℕ → ℕ) (range : ℕ → ℕ) → Begins s 3 m (name_by s judge range) (name_by t judge range)
  unfolding name_by is_symbol
  names judge range =
      firsts 3 (omega arith) (omega arith) (λ x y i. ident_at y.pos (range y.word1) (judge (spelled x y.word1)) i)
      (λ x y i. one_name y.pos (range y.word1) (judge (spelled x y.word1)) i)

  pub idents : Begins s 3 m (parse_ident s) (parse_ident t)
  unfolding parse_ident
  idents = names ident_refusal (λ w. w)

  pub constants : Begins s 3 m (parse_const s) (parse_const t)
  unfolding parse_const
  constants = names const_refusal without_first

-- a name is one token
one_token : {P : ℕ → Type 0} {us : ℕ → Trees} {i j : ℕ} {ts : Trees} → One P us i ts j → j ≡ i + 1
one_token (token h) = refl

pub name-end : (s : Input) (i : ℕ) {ts : Trees} {j : ℕ} → parse_ident s i ≡ accept ts j → j ≡ i + 1
name-end s i e = one_token ((ident s {D = Nowhere}).sound i e)
