-- Combinators: a reader of s is followed by one of t if what it consumes are tokens and, where it consumes at most m, the other comes to the same.
-- One lemma for each way in which readers are put together. Assumes nothing.
use Prim.Native.Nat.{ℕ, ◌+◌, ◌<◌, ◌≤◌}
use native.Mathlib.Omega.{arith}
use mathlib.Core.Path.{◌≡◌, refl, sym, ap, subst, ◌∙◌}
use mathlib.Core.List.{List}
use mathlib.Core.Bool.{Bool, true, false}
use lib.Dec.{eqb, ltb}
use borrow.Author.Tests.{ltb-true, ltb-false}
use Rattle.trees.specs.Choice.{choose}
use Rattle.trees.specs.Tree.{Trees, node, ∅, ◌▸◌, head}
use Rattle.trees.specs.declared.Head.{Head}
use Rattle.tokens.specs.declared.Token.{Token}
use Rattle.tokens.specs.Input.{Input, peek}
use Rattle.steps.specs.Outcome.{Outcome, accept, refuse, Reader, before, and_then, ◌⊳◌, node_of, parent, flagged, bare, if_next, if_second, unexpected}
use Rattle.grammar.proofs.Exact.{clash}
use Rattle.grammar.proofs.TokenKinds.{Tokens, ◌⊕◌}
use Rattle.lookahead.specs.Agree.{Agree}

-- ---- what an outcome depends on

-- how many tokens are consumed
unfoldable pub reach : Outcome → ℕ
reach (accept ts j) = j
reach (refuse e) = e.taken

-- what o consumes from index i on are tokens, and where it consumes at most m, p is the same
pub record Follow (s : Input) (m i : ℕ) (o p : Outcome) : Type 0 where
  pub tokens : Tokens s i (reach o)
  pub same : reach o ≤ m → p ≡ o

pub record Follows (s : Input) (m : ℕ) (f g : Reader) : Type 0 where
  pub at : (i : ℕ) → Follow s m i (f i) (g i)

pub reach-accept : {o : Outcome} {ts : Trees} {j : ℕ} → o ≡ accept ts j → reach o ≡ j
unfolding reach
reach-accept h = ap reach h

-- a token i of kind k is consumed, and another is refused as unexpected
pub data Start (s : Input) (k i : ℕ) (o : Outcome) : Type 0 where
  goes : eqb (peek s i).kind k ≡ true → i < reach o → Start s k i o
  stops : eqb (peek s i).kind k ≡ false → o ≡ refuse (unexpected (peek s i) i) → Start s k i o

pub start-goes : {s : Input} {k i : ℕ} {o : Outcome} → eqb (peek s i).kind k ≡ true → Start s k i o → i < reach o
start-goes h (goes e l) = l
start-goes h (stops e l) = let z : ◌≡◌ {A = ℕ} 0 1 = cc in absurd (omega arith)

-- a reader that is followed and starts so at every token
pub record Begins (s : Input) (k m : ℕ) (f g : Reader) : Type 0 where
  pub follows : Follows s m f g
  pub start : (i : ℕ) → Start s k i (f i)

-- ---- one part after another

pub reach-before : (ts : Trees) (o : Outcome) → reach (before ts o) ≡ reach o
unfolding before reach
reach-before ts (accept us j) = refl
reach-before ts (refuse e) = refl

follow_then : {s : Input} {m i : ℕ} (o p : Outcome) {f g : Reader} → Follow s m i o p → Follows s m f g → Follow s m i (and_then o f) (and_then p g)
unfolding and_then reach
follow_then {s} {m} {i} (accept ts j) p {f} {g} r q =
    let z = reach-before ts (f j) in
    let w = (q.at j).tokens.on in
    record {
      tokens = r.tokens ⊕ subst (Tokens s j) (sym z) (q.at j).tokens;
      same = λ h. ap (λ (x : Outcome). and_then x g) (r.same (omega arith)) ∙ ap (before ts) ((q.at j).same (omega arith));
    }
follow_then (refuse e) p {f} {g} r q = record { tokens = r.tokens; same = λ h. ap (λ (x : Outcome). and_then x g) (r.same h) }

infixl 50 ◌⊳·◌
pub ◌⊳·◌ : {s : Input} {m : ℕ} {f f' g g' : Reader} → Follows s m f f' → Follows s m g g' → Follows s m (f ⊳ g) (f' ⊳ g')
unfolding ◌⊳◌
◌⊳·◌ {f = f} {f' = f'} r q = record { at = λ i. follow_then (f i) (f' i) (r.at i) q }

-- the parts of what is accepted
pub record Parts (o : Outcome) (f : Reader) (j : ℕ) : Type 0 where
  pub first : Trees
  pub end : ℕ
  pub second : Trees
  pub is : o ≡ accept first end
  pub rest : f end ≡ accept second j

pub parts : (o : Outcome) (f : Reader) {ts : Trees} {j : ℕ} → and_then o f ≡ accept ts j → Parts o f j
unfolding and_then before reach
parts (accept us l) f {ts} {j} e = go (f l) refl e
  where
    go : (o : Outcome) → f l ≡ o → before us o ≡ accept ts j → Parts (accept us l) f j
    go (accept vs k) c e = record { first = us; end = l; second = vs; is = refl; rest = c ∙ ap (accept vs) (ap reach e) }
    go (refuse d) c e = absurd (clash e)
parts (refuse d) f e = absurd (clash e)

start_then : {s : Input} {k m i : ℕ} (o : Outcome) {f g : Reader} → Start s k i o → Follows s m f g → Start s k i (and_then o f)
unfolding and_then reach
start_then (accept ts j) {f} (goes h l) q = goes h (omega (arith, reach-before ts (f j), (q.at j).tokens.on))
start_then (accept ts j) (stops h e) q = absurd (clash (sym e))
start_then (refuse d) (goes h l) q = goes h l
start_then (refuse d) (stops h e) q = stops h e

infixl 50 ◌⊳→◌
pub ◌⊳→◌ : {s : Input} {k m : ℕ} {f f' g g' : Reader} → Begins s k m f f' → Follows s m g g' → Begins s k m (f ⊳ g) (f' ⊳ g')
unfolding ◌⊳◌
◌⊳→◌ {f = f} r q = record { follows = r.follows ⊳· q; start = λ i. start_then (f i) (r.start i) q }

-- either of two
pub on_either : {n : ℕ} (b : Bool) (o q : Outcome) → n ≤ reach o → n ≤ reach q → n ≤ reach (choose b (λ _. o) (λ _. q))
on_either true o q x y = x
on_either false o q x y = y

pub tokens-choose : {s : Input} {i : ℕ} (b : Bool) (o q : Outcome) → (b ≡ true → Tokens s i (reach o)) → (b ≡ false → Tokens s i (reach q)) → Tokens s i (reach (choose b (λ _. o) (λ _. q)))
tokens-choose true o q x y = x refl
tokens-choose false o q x y = y refl

pub start_either : {s : Input} {k i : ℕ} (b : Bool) {o q : Outcome} → Start s k i o → Start s k i q → Start s k i (choose b (λ _. o) (λ _. q))
start_either true x y = x
start_either false x y = y

-- ---- nodes

follow_node : {s : Input} {m i : ℕ} (h h' : Head) (o p : Outcome) → ((ts : Trees) (j : ℕ) → o ≡ accept ts j → j ≤ m → h ≡ h') → Follow s m i o p → Follow s m i (node_of h o) (node_of h' p)
unfolding node_of reach
follow_node h h' (accept ts j) p e r =
    record { tokens = r.tokens; same = λ l. ap (node_of h') (r.same l) ∙ ap (λ (x : Head). accept (node x ts ▸ ∅) j) (sym (e ts j refl l)) }
follow_node h h' (refuse d) p e r = record { tokens = r.tokens; same = λ l. ap (node_of h') (r.same l) }

start-node : {s : Input} {k i : ℕ} (h : Head) (o : Outcome) → Start s k i o → Start s k i (node_of h o)
unfolding node_of reach
start-node h (accept ts j) (goes e l) = goes e l
start-node h (accept ts j) (stops e d) = absurd (clash (sym d))
start-node h (refuse d) x = x

pub bares : (kind : ℕ) {s : Input} {m : ℕ} {f g : Reader} → Follows s m f g → Follows s m (bare kind f) (bare kind g)
unfolding bare
bares kind {f = f} {g = g} r = record { at = λ i. follow_node (head kind 0 0 0 0) (head kind 0 0 0 0) (f i) (g i) (λ ts j e l. refl) (r.at i) }

-- ---- two inputs

module _ {m : ℕ} {s t : Input} (a : Agree m s t) where
  -- what is told by the text and a token
  pub told : {A : Type 0} (tell : List ℕ → Token → A) (i : ℕ) → i ≤ m → tell t.text (peek t i) ≡ tell s.text (peek s i)
  told tell i h = sym (ap (λ (x : List ℕ). tell x (peek s i)) a.text ∙ ap (tell t.text) (a.tokens i h))

  -- a reader that looks at one token
  pub looks : (f : List ℕ → Token → Reader) → ((i : ℕ) → Tokens s i (reach (f s.text (peek s i) i))) → Follows s m (λ i. f s.text (peek s i) i) (λ i. f t.text (peek t i) i)
  looks f c =
      record {
        at = λ i.
            let l = (c i).on in
            record { tokens = c i; same = λ h. told (λ x y. f x y i) i (omega arith) };
      }

  -- a node by its first token, and by a number that is the same where what f accepts is seen
  nodes : (h : ℕ → Token → Head) (x y : ℕ → ℕ) {f g : Reader} → ((i : ℕ) (ts : Trees) (j : ℕ) → i ≤ m → f i ≡ accept ts j → j ≤ m → y i ≡ x i) → Follows s m f g
      → Follows s m (λ i. node_of (h (x i) (peek s i)) (f i)) (λ i. node_of (h (y i) (peek t i)) (g i))
  nodes h x y {f} {g} e r =
      record {
        at = λ i. follow_node (h (x i) (peek s i)) (h (y i) (peek t i)) (f i) (g i)
            (λ ts j z l.
            let k : i ≤ m = omega (arith, (r.at i).tokens.on, reach-accept z) in
            ap (λ (n : ℕ). h n (peek s i)) (sym (e i ts j k z l)) ∙ ap (h (y i)) (a.tokens i k)) (r.at i);
      }

  pub flags : (kind : ℕ) {x y : ℕ → ℕ} {f g : Reader} → ((i : ℕ) (ts : Trees) (j : ℕ) → i ≤ m → f i ≡ accept ts j → j ≤ m → y i ≡ x i) → Follows s m f g → Follows s m (flagged s kind x f) (flagged t kind y g)
  unfolding flagged
  flags kind {x} {y} e r = nodes (λ n y. head kind n y.pos 0 0) x y e r

  pub parents : (kind n : ℕ) {f g : Reader} → Follows s m f g → Follows s m (parent s kind n f) (parent t kind n g)
  unfolding parent flagged
  parents kind n r = flags kind (λ i ts j k h l. refl) r

  -- a node that begins as what is inside it, by its first token
  pub nodes→ : (h : Token → Head) {k : ℕ} {f g : Reader} → Begins s k m f g → Begins s k m (λ i. node_of (h (peek s i)) (f i)) (λ i. node_of (h (peek t i)) (g i))
  nodes→ h {f = f} r =
      record {
        follows = nodes (λ _. h) (λ _. 0) (λ _. 0) (λ i ts j k e l. refl) r.follows;
        start = λ i. start-node (h (peek s i)) (f i) (r.start i);
      }

  pub parents→ : (kind n : ℕ) {k : ℕ} {f g : Reader} → Begins s k m f g → Begins s k m (parent s kind n f) (parent t kind n g)
  unfolding parent
  parents→ kind n r = nodes→ (λ y. head kind n y.pos 0 0) r

  -- ---- choices

  follow_choose : {i : ℕ} (b c : Bool) {o p q r : Outcome} → (b ≡ true → Follow s m i o p) → (b ≡ false → Follow s m i q r) → (reach (choose b (λ _. o) (λ _. q)) ≤ m → c ≡ b)
      → Follow s m i (choose b (λ _. o) (λ _. q)) (choose c (λ _. p) (λ _. r))
  follow_choose true c {p = p} {r = r} x y e =
      let z = x refl in record { tokens = z.tokens; same = λ h. ap (λ (d : Bool). choose d (λ _. p) (λ _. r)) (e h) ∙ z.same h }
  follow_choose false c {p = p} {r = r} x y e =
      let z = y refl in record { tokens = z.tokens; same = λ h. ap (λ (d : Bool). choose d (λ _. p) (λ _. r)) (e h) ∙ z.same h }

  -- by the next token
  pub next-at : (test : List ℕ → Token → Bool) {i : ℕ} {o p q r : Outcome} → (test s.text (peek s i) ≡ true → Follow s m i o p) → Follow s m i q r
      → Follow s m i (choose (test s.text (peek s i)) (λ _. o) (λ _. q)) (choose (test t.text (peek t i)) (λ _. p) (λ _. r))
  next-at test {i} {o} {p} {q} x y =
      let l = (tokens-choose (test s.text (peek s i)) o q (λ e. (x e).tokens) (λ _. y.tokens)).on in
      follow_choose (test s.text (peek s i)) (test t.text (peek t i)) x (λ _. y) (λ h. told test i (omega arith))

  pub nexts : (test : List ℕ → Token → Bool) {f f' g g' : Reader} → Follows s m f f' → Follows s m g g' → Follows s m (if_next s (test s.text) f g) (if_next t (test t.text) f' g')
  unfolding if_next
  nexts test r q = record { at = λ i. next-at test (λ _. r.at i) (q.at i) }

  -- by the token after it: where that is not seen, the next one is refused in both ways alike
  alike : (b c : Bool) (o : Outcome) → choose c (λ _. o) (λ _. o) ≡ choose b (λ _. o) (λ _. o)
  alike true true o = refl
  alike true false o = refl
  alike false true o = refl
  alike false false o = refl

  unseen : {k i : ℕ} (b c : Bool) {o p q r : Outcome} → Follow s m i o p → Follow s m i q r → Start s k i o → Start s k i q → reach (choose b (λ _. o) (λ _. q)) ≤ i → i ≤ m
      → choose c (λ _. p) (λ _. r) ≡ choose b (λ _. o) (λ _. q)
  unfolding reach unexpected
  unseen {i = i} b c {o} {p} {q} x y (goes d l) (goes e n) h z = let u = on_either {n = i + 1} b o q (omega arith) (omega arith) in absurd (omega arith)
  unseen b c x y (goes d l) (stops e n) h z = let u : ◌≡◌ {A = ℕ} 0 1 = cc in absurd (omega arith)
  unseen b c x y (stops d l) (goes e n) h z = let u : ◌≡◌ {A = ℕ} 0 1 = cc in absurd (omega arith)
  unseen {i = i} b c {o} {p} {q} {r} x y (stops d l) (stops e n) h z =
      let u : p ≡ refuse (unexpected (peek s i) i) = x.same (omega (arith, ap reach l)) ∙ l in
      let v : r ≡ refuse (unexpected (peek s i) i) = y.same (omega (arith, ap reach n)) ∙ n in
      rw (u, v, l, n) (alike b c (refuse (unexpected (peek s i) i)))

  pub second_at : (test : List ℕ → Token → Bool) {k i : ℕ} {o p q r : Outcome} → Follow s m i o p → Follow s m i q r → Start s k i o → Start s k i q
      → Follow s m i (choose (test s.text (peek s (i + 1))) (λ _. o) (λ _. q)) (choose (test t.text (peek t (i + 1))) (λ _. p) (λ _. r))
  second_at test {i = i} {o} {p} {q} {r} x y d e =
      let b = test s.text (peek s (i + 1)) in
      let l = tokens-choose b o q (λ _. x.tokens) (λ _. y.tokens) in
      record { tokens = l; same = go (ltb i (reach (choose b (λ _. o) (λ _. q)))) refl l.on }
    where
      go : (z : Bool) → ltb i (reach (choose (test s.text (peek s (i + 1))) (λ _. o) (λ _. q))) ≡ z → i ≤ reach (choose (test s.text (peek s (i + 1))) (λ _. o) (λ _. q))
          → reach (choose (test s.text (peek s (i + 1))) (λ _. o) (λ _. q)) ≤ m → choose (test t.text (peek t (i + 1))) (λ _. p) (λ _. r) ≡ choose (test s.text (peek s (i + 1))) (λ _. o) (λ _. q)
      go true w l h =
          let b = test s.text (peek s (i + 1)) in
          let n = ltb-true i (reach (choose b (λ _. o) (λ _. q))) w in
          (follow_choose b (test t.text (peek t (i + 1))) (λ _. x) (λ _. y) (λ h. told test (i + 1) (omega arith))).same h
      go false w l h =
          let b = test s.text (peek s (i + 1)) in
          let n = ltb-false i (reach (choose b (λ _. o) (λ _. q))) w in
          unseen b (test t.text (peek t (i + 1))) x y d e n (omega arith)

  pub seconds : (test : List ℕ → Token → Bool) {k : ℕ} {f f' g g' : Reader} → Begins s k m f f' → Begins s k m g g' → Begins s k m (if_second s (test s.text) f g) (if_second t (test t.text) f' g')
  unfolding if_second
  seconds test r q =
      record {
        follows = record { at = λ i. second_at test (r.follows.at i) (q.follows.at i) (r.start i) (q.start i) };
        start = λ i. start_either (test s.text (peek s (i + 1))) (r.start i) (q.start i);
      }
