-- Readers: what reading a part comes to, from the index of the next token, and how readers are put together.
-- Each function of parser.rs is such a reader, under its name. A `$` alone is no constant here, as document 02 has it.
use Rattle.std.specs.Prelude.{ℕ, zero, suc, ◌+◌, List, Bool, ◌&&◌, length, get_or, eqb, ltb}
use Rattle.trees.specs.Choice.{pick, choose}
use Rattle.trees.specs.Tree.{Trees, node, ∅, ◌▸◌, ◌⧺◌, count, head}
use Rattle.trees.specs.declared.Head.{Head}
use Rattle.trees.specs.Ast.{ident_node}
use Rattle.trees.specs.Names.{spelled, without_first}
use Rattle.tokens.specs.declared.Token.{Token}
use Rattle.tokens.specs.Token.{token_at, is_lparen, is_rparen, is_symbol, is_at, is_word}
use Rattle.tokens.specs.Ident.{ident_refusal}
use Rattle.tokens.specs.Input.{Input, peek, pos_at, size}

-- document 01's number and place, and how many tokens were consumed
pub record Refusal : Type 0 where
  pub code : ℕ
  pub place : ℕ
  pub taken : ℕ

-- trees and the index of the next token, or a refusal
pub data Outcome : Type 0 where
  accept : Trees → ℕ → Outcome
  refuse : Refusal → Outcome

abbrev pub Reader : Type 0
Reader = ℕ → Outcome

abbrev pub refusal : ℕ → ℕ → ℕ → Refusal
refusal code place taken = record { code = code; place = place; taken = taken }

-- ---- one part after another

-- ts before what was read
unfoldable pub before : Trees → Outcome → Outcome
before ts (accept us j) = accept (ts ⧺ us) j
before ts (refuse e) = refuse e

unfoldable pub and_then : Outcome → Reader → Outcome
and_then (accept ts i) g = before ts (g i)
and_then (refuse e) g = refuse e

-- f, and then g
infixl 50 ◌⊳◌
unfoldable pub ◌⊳◌ : Reader → Reader → Reader
f ⊳ g = λ i. and_then (f i) g

-- what was read as the children of a node
unfoldable pub node_of : Head → Outcome → Outcome
node_of h (accept ts j) = accept (node h ts ▸ ∅) j
node_of h (refuse e) = refuse e

-- a node over what f reads, at the position of its first token
unfoldable pub parent : Input → ℕ → ℕ → Reader → Reader
parent s kind flags f = λ i. node_of (head kind flags (pos_at s i) 0 0) (f i)

-- the same where the flags go by the tokens
unfoldable pub flagged : Input → ℕ → (ℕ → ℕ) → Reader → Reader
flagged s kind flags f = λ i. node_of (head kind (flags i) (pos_at s i) 0 0) (f i)

-- a node without a position
unfoldable pub bare : ℕ → Reader → Reader
bare kind f = λ i. node_of (head kind 0 0 0 0) (f i)

-- a node without children, of one token
unfoldable pub leaf : Input → (Token → Head) → Reader
leaf s h = λ i. accept (node (h (peek s i)) ∅ ▸ ∅) (i + 1)

-- the head of a leaf without words
abbrev pub plain : ℕ → ℕ → Token → Head
plain kind flags t = head kind flags t.pos 0 0

-- nothing
unfoldable pub nothing : Reader
nothing i = accept ∅ i

-- a refusal at the next token
unfoldable pub refuse_from : List ℕ → ℕ → ℕ → Reader
refuse_from tokens end code i = refuse (refusal code (token_at tokens end i).pos i)

abbrev pub refuse_at : Input → ℕ → Reader
refuse_at s code = refuse_from s.tokens s.end code

-- f or g by the next token, by the token after it
unfoldable pub if_next : Input → (Token → Bool) → Reader → Reader → Reader
if_next s test f g = λ i. choose (test (peek s i)) (λ _. f i) (λ _. g i)

unfoldable pub if_second : Input → (Token → Bool) → Reader → Reader → Reader
if_second s test f g = λ i. choose (test (peek s (i + 1))) (λ _. f i) (λ _. g i)

-- ---- rows of items

-- what was read, and then f, which takes how many trees stand in the row, k of them before
unfoldable pub then_at : ℕ → Outcome → (ℕ → Reader) → Outcome
then_at k (accept ts i) f = before ts (f (k + count ts) i)
then_at k (refuse e) f = refuse e

-- items until the test says stop, after k trees of the row. The number before k bounds them.
unfoldable pub items_from : (ℕ → Bool) → (ℕ → Reader) → ℕ → ℕ → Reader
items_from stop f zero k i = refuse (refusal 0 0 0)
items_from stop f (suc n) k i = choose (stop i) (λ _. accept ∅ i) (λ _. then_at k (f k i) (items_from stop f n))

-- there are no more items than tokens
unfoldable pub many_at : ℕ → (ℕ → Bool) → (ℕ → Reader) → ℕ → Reader
many_at tokens stop f k i = items_from stop f (suc tokens) k i

unfoldable pub many : ℕ → (ℕ → Bool) → Reader → Reader
many tokens stop f i = many_at tokens stop (λ _. f) 0 i

-- items up to a `)`, which is left
abbrev pub row : Input → Reader → Reader
row s f = many (size s) (λ i. is_rparen (peek s i)) f

-- ---- tokens and names

-- the token t at index i, where another is expected
unfoldable pub unexpected : Token → ℕ → Refusal
unexpected t i = refusal (pick (eqb t.kind 0) 11 10) t.pos i

unfoldable pub expect_at : List ℕ → ℕ → (Token → Bool) → Reader
expect_at tokens end test i = choose (test (token_at tokens end i)) (λ _. accept ∅ (i + 1)) (λ _. refuse (unexpected (token_at tokens end i) i))

abbrev pub expect-lparen : Input → Reader
expect-lparen s = expect_at s.tokens s.end is_lparen

abbrev pub expect-rparen : Input → Reader
expect-rparen s = expect_at s.tokens s.end is_rparen

abbrev pub expect-at : Input → Reader
expect-at s = expect_at s.tokens s.end is_at

abbrev pub expect-word : Input → List ℕ → Reader
expect-word s w = expect_at s.tokens s.end (is_word s.text w)

-- a word that may stand there, eaten where it does: the index after it
unfoldable pub ate : Input → List ℕ → ℕ → ℕ
ate s w i = pick (is_word s.text w (peek s i)) (i + 1) i

unfoldable pub eat : Input → List ℕ → Reader
eat s w = λ i. accept ∅ (ate s w i)

-- a refusal at a token that has been consumed, where it is of the kind that is expected
unfoldable pub refuse_after : Input → ℕ → ℕ → Reader
refuse_after s kind code = λ i.
    choose (eqb (peek s i).kind kind)
    (λ _. refuse (refusal code (pos_at s i) (i + 1)))
    (λ _. refuse (unexpected (peek s i) i))

-- the token at index i, which stands at pos, as an Ident of this range, or the refusal c where that is not 0
unfoldable pub ident_at : ℕ → ℕ → ℕ → Reader
ident_at pos range c i = pick (eqb c 0) (accept (ident_node pos range ▸ ∅) (i + 1)) (refuse (refusal c pos (i + 1)))

-- a symbol, of which `judge` tells the refusal (0 none) and `range` the part that is the name
unfoldable pub name_by : Input → (List ℕ → ℕ) → (ℕ → ℕ) → Reader
name_by s judge range i =
    choose (is_symbol (peek s i))
    (λ _. ident_at (peek s i).pos (range (peek s i).word1) (judge (spelled s.text (peek s i).word1)) i)
    (λ _. refuse (unexpected (peek s i) i))

unfoldable pub parse_ident : Input → Reader
parse_ident s i = name_by s ident_refusal (λ w. w) i

-- a constant is an identifier that starts with `$` and has at least one byte more. The `$` is cut off
unfoldable pub const_refusal : List ℕ → ℕ
const_refusal b = pick (eqb (ident_refusal b) 0) (pick (eqb (get_or b 0 0) 36 && ltb 1 (length b)) 0 16) (ident_refusal b)

unfoldable pub parse_const : Input → Reader
parse_const s i = name_by s const_refusal without_first i

-- an identifier that is refused with another number
unfoldable pub refused_as : ℕ → List ℕ → ℕ
refused_as code b = pick (eqb (ident_refusal b) 0) 0 code

-- a pragma's name: none is known
unfoldable pub pragma_refusal : List ℕ → ℕ
pragma_refusal b = pick (eqb (ident_refusal b) 0) 17 (ident_refusal b)
