-- How far a part reads and how many records it makes: at most three for each token. Assumes nothing.
use Prim.Native.Nat.{ℕ, ◌+◌, ◌<◌, ◌≤◌}
use native.Mathlib.Omega.{arith}
use mathlib.Core.Path.{◌≡◌, refl, subst}
use mathlib.Core.List.{List}
use mathlib.Core.Bool.{Bool, true, false}
use lib.Dec.{eqb}
use borrow.Author.Tests.{eqb-true}
use Rattle.trees.specs.Choice.{pick, choose}
use Rattle.trees.specs.Tree.{Trees, node, ∅, ◌▸◌, ◌⧺◌, head}
use Rattle.trees.specs.declared.Head.{Head}
use Rattle.trees.specs.Ast.{ident_node}
use Rattle.trees.specs.Names.{spelled, without_first}
use Rattle.trees.proofs.Laws.{size_none, size-one, size-node, size_⧺}
use Rattle.tokens.specs.declared.Token.{Token}
use Rattle.tokens.specs.Token.{is_kind, is_lparen, is_rparen, is_symbol, is_int, is_at, is_word}
use Rattle.tokens.specs.Ident.{ident_refusal}
use Rattle.tokens.specs.Input.{Input, peek, size}
use Rattle.tokens.proofs.TokenLaws.{kind-inside, word-kind}
use Rattle.steps.specs.Sizes.{Fit, Sized, BoundedAt, Bounded}
use Rattle.steps.specs.Outcome.{Outcome, Refusal, accept, refuse, Reader, refusal, before, and_then, ◌⊳◌, node_of, parent, bare, leaf, nothing, refuse_from, refuse_at, flagged, ate, eat, refuse_after, refused_as, pragma_refusal, if_next, if_second, unexpected, expect_at, expect-lparen, expect-rparen, expect-at, expect-word, ident_at, name_by, parse_ident, const_refusal, parse_const}

pub plain-bounded : (u c d : ℕ) (s : Input) (f : ℕ → Outcome) → Bounded u c d s f → BoundedAt u c d s (λ _. f)
plain-bounded u c d s f h = record { sized = λ k i. h.sized i }

clash : (e : Refusal) (ts : Trees) (j : ℕ) → refuse e ≡ accept ts j → ⊥
clash e ts j h = let z : ◌≡◌ {A = ℕ} 0 1 = cc in omega arith

pub sized-refuse : (u c d : ℕ) (s : Input) (i : ℕ) (e : Refusal) → Sized u c d s i (refuse e)
sized-refuse u c d s i e = record { fit = λ ts j h. absurd (clash e ts j h) }

pub sized-accept : (u c d : ℕ) (s : Input) (i : ℕ) (us : Trees) (m : ℕ) → Fit u c d s i us m → Sized u c d s i (accept us m)
sized-accept u c d s i us m h =
    record { fit = λ ts j e. let a : us ≡ ts = cc in let b : m ≡ j = cc in subst (λ (x : Trees). Fit u c d s i x j) a (subst (λ (x : ℕ). Fit u c d s i us x) b h) }

pub nothing-bounded : (s : Input) → Bounded 0 0 0 s nothing
unfolding nothing
nothing-bounded s = record { sized = λ i. sized-accept 0 0 0 s i ∅ i (record { on = omega arith; inside = λ h. h; room = omega (arith, size_none) }) }

-- a weaker bound
pub sized_less : (u c d u' c' d' : ℕ) (s : Input) (i : ℕ) (o : Outcome) → u' ≤ u → c' + d ≤ c + d' → Sized u c d s i o → Sized u' c' d' s i o
sized_less u c d u' c' d' s i o p q h =
    record { fit = λ ts j e. let f = h.fit ts j e in record { on = omega (arith, f.on); inside = f.inside; room = omega (arith, f.room) } }

-- one part after another
module _ (u c d u' c' d' : ℕ) (s : Input) (i : ℕ) where
  after : (ts : Trees) (m : ℕ) (o : Outcome) → Fit u c d s i ts m → Sized u' c' d' s m o → Sized (u + u') (c + c') (d + d') s i (before ts o)
  unfolding before
  after ts m (accept us j) g h =
      let f = h.fit us j refl in
      sized-accept (u + u') (c + c') (d + d') s i (ts ⧺ us) j
      (record {
        on = omega (arith, f.on, g.on);
        inside = λ z. f.inside (g.inside z);
        room = omega (arith, f.room, g.room, size_⧺ ts us);
      })
  after ts m (refuse e) g h = sized-refuse (u + u') (c + c') (d + d') s i e

  sized_then : (o : Outcome) (f : Reader) → Sized u c d s i o → Bounded u' c' d' s f → Sized (u + u') (c + c') (d + d') s i (and_then o f)
  unfolding and_then
  sized_then (accept ts m) f h g = after ts m (f m) (h.fit ts m refl) (g.sized m)
  sized_then (refuse e) f h g = sized-refuse (u + u') (c + c') (d + d') s i e

pub then_bounded : (u c d u' c' d' : ℕ) (s : Input) (f g : Reader) → Bounded u c d s f → Bounded u' c' d' s g → Bounded (u + u') (c + c') (d + d') s (f ⊳ g)
unfolding ◌⊳◌
then_bounded u c d u' c' d' s f g a b = record { sized = λ i. sized_then u c d u' c' d' s i (f i) g (a.sized i) b }

-- a node takes one record more
pub sized-node : (u c d u' c' d' : ℕ) (s : Input) (i : ℕ) (h : Head) (o : Outcome) → u' ≤ u → c' + 1 + d ≤ c + d' → Sized u c d s i o → Sized u' c' d' s i (node_of h o)
unfolding node_of
sized-node u c d u' c' d' s i h (accept ts j) p q g =
    let f = g.fit ts j refl in
    sized-accept u' c' d' s i (node h ts ▸ ∅) j
    (record {
      on = omega (arith, f.on);
      inside = f.inside;
      room = omega (arith, f.room, size-one (node h ts), size-node h ts);
    })
sized-node u c d u' c' d' s i h (refuse e) p q g = sized-refuse u' c' d' s i e

pub parent-bounded : (u c d u' c' d' : ℕ) (s : Input) (kind flags : ℕ) (f : Reader) → u' ≤ u → c' + 1 + d ≤ c + d' → Bounded u c d s f → Bounded u' c' d' s (parent s kind flags f)
unfolding parent
parent-bounded u c d u' c' d' s kind flags f p q b = record { sized = λ i. sized-node u c d u' c' d' s i (head kind flags (peek s i).pos 0 0) (f i) p q (b.sized i) }

pub bare-bounded : (u c d u' c' d' : ℕ) (s : Input) (kind : ℕ) (f : Reader) → u' ≤ u → c' + 1 + d ≤ c + d' → Bounded u c d s f → Bounded u' c' d' s (bare kind f)
unfolding bare
bare-bounded u c d u' c' d' s kind f p q b = record { sized = λ i. sized-node u c d u' c' d' s i (head kind 0 0 0 0) (f i) p q (b.sized i) }

pub less_bounded : (u c d u' c' d' : ℕ) (s : Input) (f : Reader) → u' ≤ u → c' + d ≤ c + d' → Bounded u c d s f → Bounded u' c' d' s f
less_bounded u c d u' c' d' s f p q b = record { sized = λ i. sized_less u c d u' c' d' s i (f i) p q (b.sized i) }

-- a reader that makes no more records than its tokens allow; an item of a row, which also takes a token
abbrev pub Steady : Input → Reader → Type 0
Steady s f = Bounded 0 0 0 s f

abbrev pub Item : Input → Reader → Type 0
Item s f = Bounded 1 0 0 s f

pub steady : (u c : ℕ) (s : Input) (f : Reader) → Bounded u c 0 s f → Steady s f
steady u c s f b = less_bounded u c 0 0 0 0 s f (omega arith) (omega arith) b

pub item : (c : ℕ) (s : Input) (f : Reader) → Bounded 1 c 0 s f → Item s f
item c s f b = less_bounded 1 c 0 1 0 0 s f (omega arith) (omega arith) b

pub flagged-bounded : (u c d u' c' d' : ℕ) (s : Input) (kind : ℕ) (flags : ℕ → ℕ) (f : Reader) → u' ≤ u → c' + 1 + d ≤ c + d' → Bounded u c d s f → Bounded u' c' d' s (flagged s kind flags f)
unfolding flagged
flagged-bounded u c d u' c' d' s kind flags f p q b = record { sized = λ i. sized-node u c d u' c' d' s i (head kind (flags i) (peek s i).pos 0 0) (f i) p q (b.sized i) }

-- a choice
pub sized-choose : (u c d : ℕ) (s : Input) (i : ℕ) (b : Bool) (f g : Unit {0} → Outcome) → (b ≡ true → Sized u c d s i (f tt)) → (b ≡ false → Sized u c d s i (g tt)) → Sized u c d s i (choose b f g)
sized-choose u c d s i true f g p q = p refl
sized-choose u c d s i false f g p q = q refl

pub next-bounded : (u c d : ℕ) (s : Input) (test : Token → Bool) (f g : Reader) → Bounded u c d s f → Bounded u c d s g → Bounded u c d s (if_next s test f g)
unfolding if_next
next-bounded u c d s test f g a b = record { sized = λ i. sized-choose u c d s i (test (peek s i)) (λ _. f i) (λ _. g i) (λ e. a.sized i) (λ e. b.sized i) }

pub second-bounded : (u c d : ℕ) (s : Input) (test : Token → Bool) (f g : Reader) → Bounded u c d s f → Bounded u c d s g → Bounded u c d s (if_second s test f g)
unfolding if_second
second-bounded u c d s test f g a b = record { sized = λ i. sized-choose u c d s i (test (peek s (i + 1))) (λ _. f i) (λ _. g i) (λ e. a.sized i) (λ e. b.sized i) }

pub refuse-bounded : (u c d : ℕ) (s : Input) (code : ℕ) → Bounded u c d s (refuse_at s code)
unfolding refuse_from
refuse-bounded u c d s code = record { sized = λ i. sized-refuse u c d s i (refusal code (peek s i).pos i) }

-- the token i is there
pub there : (s : Input) (i k : ℕ) → (peek s i).kind ≡ k → 0 < k → i < size s
there s i k e h = kind-inside s.tokens s.end i k e h

pub record Kinded (test : Token → Bool) : Type 0 where
  pub kind : ℕ
  pub positive : 0 < kind
  pub is : (t : Token) → test t ≡ true → t.kind ≡ kind

pub kind_kinded : (k : ℕ) → 0 < k → Kinded (is_kind k)
unfolding is_kind
kind_kinded k h = record { kind = k; positive = h; is = λ t e. eqb-true t.kind k e }

pub lparen_kinded : Kinded is_lparen
unfolding is_lparen
lparen_kinded = record { kind = 1; positive = omega arith; is = λ t e. eqb-true t.kind 1 e }

pub rparen_kinded : Kinded is_rparen
unfolding is_rparen
rparen_kinded = record { kind = 2; positive = omega arith; is = λ t e. eqb-true t.kind 2 e }

pub symbol_kinded : Kinded is_symbol
unfolding is_symbol
symbol_kinded = record { kind = 3; positive = omega arith; is = λ t e. eqb-true t.kind 3 e }

pub int_kinded : Kinded is_int
unfolding is_int
int_kinded = record { kind = 4; positive = omega arith; is = λ t e. eqb-true t.kind 4 e }

pub at_kinded : Kinded is_at
unfolding is_at
at_kinded = record { kind = 5; positive = omega arith; is = λ t e. eqb-true t.kind 5 e }

pub word_kinded : (text w : List ℕ) → Kinded (is_word text w)
word_kinded text w = record { kind = 3; positive = omega arith; is = word-kind text w }

pub met_there : (s : Input) (i : ℕ) (test : Token → Bool) → Kinded test → test (peek s i) ≡ true → i < size s
met_there s i test k e = there s i k.kind (k.is (peek s i) e) k.positive

-- one token
sized-token : (s : Input) (i : ℕ) → i < size s → Sized 1 3 0 s i (accept ∅ (i + 1))
sized-token s i h = sized-accept 1 3 0 s i ∅ (i + 1) (record { on = omega arith; inside = λ z. omega arith; room = omega (arith, size_none) })

expect-bounded : (s : Input) (test : Token → Bool) → Kinded test → Bounded 1 3 0 s (expect_at s.tokens s.end test)
unfolding expect_at
expect-bounded s test k =
    record { sized = λ i. sized-choose 1 3 0 s i (test (peek s i)) (λ _. accept ∅ (i + 1)) (λ _. refuse (unexpected (peek s i) i)) (λ e. sized-token s i (met_there s i test k e)) (λ e. sized-refuse 1 3 0 s i (unexpected (peek s i) i)) }

-- a leaf, where a test says that its token is there
sized-leaf : (s : Input) (i : ℕ) (h : Head) → i < size s → Sized 1 2 0 s i (accept (node h ∅ ▸ ∅) (i + 1))
sized-leaf s i h l = sized-accept 1 2 0 s i (node h ∅ ▸ ∅) (i + 1) (record { on = omega arith; inside = λ z. omega arith; room = omega (arith, size-one (node h ∅), size-node h ∅, size_none) })

pub leaf-bounded : (c : ℕ) (s : Input) (test : Token → Bool) (h : Token → Head) (g : Reader) → c ≤ 2 → Kinded test → Bounded 1 c 0 s g → Bounded 1 c 0 s (if_next s test (leaf s h) g)
unfolding if_next leaf
leaf-bounded c s test h g z k b =
    record { sized = λ i. sized-choose 1 c 0 s i (test (peek s i)) (λ _. accept (node (h (peek s i)) ∅ ▸ ∅) (i + 1)) (λ _. g i) (λ e. sized_less 1 2 0 1 c 0 s i (accept (node (h (peek s i)) ∅ ▸ ∅) (i + 1)) (omega arith) (omega arith) (sized-leaf s i (h (peek s i)) (met_there s i test k e))) (λ e. b.sized i) }

pub lparen-bounded : (s : Input) → Bounded 1 3 0 s (expect-lparen s)
lparen-bounded s = expect-bounded s is_lparen lparen_kinded

pub rparen-bounded : (s : Input) → Bounded 1 3 0 s (expect-rparen s)
rparen-bounded s = expect-bounded s is_rparen rparen_kinded

pub word-bounded : (s : Input) (w : List ℕ) → Bounded 1 3 0 s (expect-word s w)
word-bounded s w = expect-bounded s (is_word s.text w) (word_kinded s.text w)

pub at-bounded : (s : Input) → Bounded 1 3 0 s (expect-at s)
at-bounded s = expect-bounded s is_at at_kinded

-- one name
one_name : (s : Input) (i pos range c : ℕ) → i < size s → Sized 1 2 0 s i (ident_at pos range c i)
unfolding ident_at
one_name s i pos range c h = go (eqb c 0)
  where
    go : (b : Bool) → Sized 1 2 0 s i (pick b (accept (ident_node pos range ▸ ∅) (i + 1)) (refuse (refusal c pos (i + 1))))
    go true = sized-leaf s i (head 24 0 pos range 0) h
    go false = sized-refuse 1 2 0 s i (refusal c pos (i + 1))

pub name-sized : (s : Input) (judge : List ℕ → ℕ) (range : ℕ → ℕ) (i : ℕ) → Sized 1 2 0 s i (name_by s judge range i)
unfolding name_by
name-sized s judge range i =
    sized-choose 1 2 0 s i (is_symbol (peek s i))
    (λ _. ident_at (peek s i).pos (range (peek s i).word1) (judge (spelled s.text (peek s i).word1)) i)
    (λ _. refuse (unexpected (peek s i) i))
    (λ e. one_name s i (peek s i).pos (range (peek s i).word1) (judge (spelled s.text (peek s i).word1)) (met_there s i is_symbol symbol_kinded e))
    (λ e. sized-refuse 1 2 0 s i (unexpected (peek s i) i))

pub ident-bounded : (s : Input) → Bounded 1 2 0 s (parse_ident s)
unfolding parse_ident
ident-bounded s = record { sized = name-sized s ident_refusal (λ w. w) }

pub ident_steady : (s : Input) → Steady s (parse_ident s)
ident_steady s = steady 1 2 s (parse_ident s) (ident-bounded s)

pub ident_item : (s : Input) → Item s (parse_ident s)
ident_item s = item 2 s (parse_ident s) (ident-bounded s)

pub const_bounded : (s : Input) → Bounded 1 2 0 s (parse_const s)
unfolding parse_const
const_bounded s = record { sized = name-sized s const_refusal without_first }

pub const_steady : (s : Input) → Steady s (parse_const s)
const_steady s = steady 1 2 s (parse_const s) (const_bounded s)

pub other-bounded : (s : Input) (code : ℕ) → Bounded 1 2 0 s (name_by s (refused_as code) (λ w. w))
other-bounded s code = record { sized = name-sized s (refused_as code) (λ w. w) }

pub pragma_bounded : (s : Input) → Bounded 1 2 0 s (name_by s pragma_refusal (λ w. w))
pragma_bounded s = record { sized = name-sized s pragma_refusal (λ w. w) }

sized-eat : (s : Input) (w : List ℕ) (i : ℕ) (b : Bool) → is_word s.text w (peek s i) ≡ b → Sized 0 0 0 s i (accept ∅ (pick b (i + 1) i))
sized-eat s w i true e = sized_less 1 3 0 0 0 0 s i (accept ∅ (i + 1)) (omega arith) (omega arith) (sized-token s i (met_there s i (is_word s.text w) (word_kinded s.text w) e))
sized-eat s w i false e = sized-accept 0 0 0 s i ∅ i (record { on = omega arith; inside = λ h. h; room = omega (arith, size_none) })

pub eat_steady : (s : Input) (w : List ℕ) → Steady s (eat s w)
unfolding eat ate
eat_steady s w = record { sized = λ i. sized-eat s w i (is_word s.text w (peek s i)) refl }

pub after-bounded : (u c d : ℕ) (s : Input) (kind code : ℕ) → Bounded u c d s (refuse_after s kind code)
unfolding refuse_after
after-bounded u c d s kind code =
    record { sized = λ i. sized-choose u c d s i (eqb (peek s i).kind kind) (λ _. refuse (refusal code (peek s i).pos (i + 1))) (λ _. refuse (unexpected (peek s i) i)) (λ e. sized-refuse u c d s i (refusal code (peek s i).pos (i + 1))) (λ e. sized-refuse u c d s i (unexpected (peek s i) i)) }

-- what stands in a row, each item a token at least
pub row_item : (c : ℕ) (s : Input) (f : Reader) → Bounded 1 c 0 s f → BoundedAt 1 0 0 s (λ _. f)
row_item c s f b = plain-bounded 1 0 0 s f (less_bounded 1 c 0 1 0 0 s f (omega arith) (omega arith) b)

pub ident_row : (s : Input) → BoundedAt 1 0 0 s (λ _. parse_ident s)
ident_row s = row_item 2 s (parse_ident s) (ident-bounded s)
