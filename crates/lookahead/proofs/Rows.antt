-- Rows of items, each of which takes a token that is there: the bounds on their number, which are the sizes of two inputs, never tell. Assumes nothing.
use Prim.Native.Nat.{ℕ, zero, suc, ◌+◌, ◌<◌, ◌≤◌}
use native.Mathlib.Omega.{arith}
use mathlib.Core.Path.{◌≡◌, refl, sym, ap, subst, ◌∙◌}
use mathlib.Core.Bool.{Bool, true, false}
use borrow.Author.Tests.{eqb-true, ltb-true, lt-ltb}
use Rattle.trees.specs.Choice.{choose}
use Rattle.trees.specs.Tree.{Trees, ∅, ◌⧺◌, count}
use Rattle.trees.proofs.Laws.{⧺-none, ⧺-assoc}
use Rattle.tokens.specs.declared.Token.{Token}
use Rattle.tokens.specs.Token.{is_rparen}
use Rattle.tokens.specs.Input.{Input, peek, size}
use Rattle.steps.specs.Outcome.{Outcome, accept, refuse, Reader, before, and_then, ◌⊳◌, nothing, if_next, then_at, items_from, many_at, many, row}
use Rattle.steps.proofs.SizeLaws.{there}
use Rattle.grammar.proofs.Exact.{clash}
use Rattle.grammar.proofs.TokenKinds as kinds
use Rattle.grammar.proofs.TokenKinds.{Tokens, ◌⊕◌}
use Rattle.lookahead.specs.Agree.{Agree}
use Rattle.lookahead.proofs.Combinators.{reach, reach-accept, reach-before, Follows, Start, goes, stops, Begins, told}
use Rattle.lookahead.proofs.Steps.{nothings}

-- ---- items

-- what is accepted takes a token of the first n
pub record Takes (n : ℕ) (f : Reader) : Type 0 where
  pub takes : (i : ℕ) (ts : Trees) (j : ℕ) → f i ≡ accept ts j → (i < j) × (i < n)

pub start_takes : {s : Input} {k i : ℕ} {o : Outcome} (ts : Trees) (j : ℕ) → 0 < k → Start s k i o → o ≡ accept ts j → (i < j) × (i < size s)
start_takes {s} {k} {i} ts j h (goes e l) x = (omega (arith, reach-accept x), there s i k (eqb-true (peek s i).kind k e) h)
start_takes ts j h (stops e l) x = absurd (clash (sym l ∙ x))

pub begins_takes : {s : Input} {k m : ℕ} {f g : Reader} → 0 < k → Begins s k m f g → Takes (size s) f
begins_takes h r = record { takes = λ i ts j x. start_takes ts j h (r.start i) x }

pub next_takes : (s : Input) (test : Token → Bool) {n : ℕ} {f g : Reader} → ((i : ℕ) (ts : Trees) (j : ℕ) → test (peek s i) ≡ true → f i ≡ accept ts j → (i < j) × (i < n)) → Takes n g → Takes n (if_next s test f g)
unfolding if_next
next_takes s test {n} {f} {g} h r = record { takes = λ i ts j e. go i ts j (test (peek s i)) refl e }
  where
    go : (i : ℕ) (ts : Trees) (j : ℕ) (b : Bool) → test (peek s i) ≡ b → choose b (λ _. f i) (λ _. g i) ≡ accept ts j → (i < j) × (i < n)
    go i ts j true c e = h i ts j c e
    go i ts j false c e = r.takes i ts j e

-- ---- a row and what is read after it

-- items f until the test says stop, of n tokens, and then g; and the same of another input
pub record Rows (s : Input) (m n n' : ℕ) (stop stop' : ℕ → Bool) (f f' : ℕ → Reader) (g g' : Reader) : Type 0 where
  pub near : (i : ℕ) → i ≤ m → i < n → i < n'
  pub takes : (k : ℕ) → Takes n (f k)
  pub items : (k : ℕ) → Follows s m (f k) (f' k)
  pub last : Follows s m g g'
  pub tells : (k i : ℕ) → i ≤ m → reach (choose (stop i) (λ _. g i) (λ _. f k i)) ≤ m → stop' i ≡ stop i

before-before : (ts us : Trees) (o : Outcome) → before (ts ⧺ us) o ≡ before ts (before us o)
unfolding before
before-before ts us (accept vs j) = ap (λ (x : Trees). accept x j) (⧺-assoc ts us vs)
before-before ts us (refuse e) = refl

then_before : (ts : Trees) (o : Outcome) (g : Reader) → and_then (before ts o) g ≡ before ts (and_then o g)
unfolding before and_then
then_before ts (accept us j) g = before-before ts us (g j)
then_before ts (refuse e) g = refl

pub ⊳-assoc : (f g h : Reader) (i : ℕ) → (f ⊳ (g ⊳ h)) i ≡ (f ⊳ g ⊳ h) i
unfolding ◌⊳◌ and_then
⊳-assoc f g h i = go (f i)
  where
    go : (o : Outcome) → and_then o (λ j. and_then (g j) h) ≡ and_then (and_then o g) h
    go (accept ts j) = sym (then_before ts (g j) h)
    go (refuse e) = refl

-- the bound x from token i on is enough for n tokens
abbrev Enough : ℕ → ℕ → ℕ → Type 0
Enough n x i = (0 < x) × (n < x + i)

module _ {s : Input} {m n n' : ℕ} {stop stop' : ℕ → Bool} {f f' : ℕ → Reader} {g g' : Reader} (w : Rows s m n n' stop stop' f f' g g') where
  enough : (x k i : ℕ) (ts : Trees) (j : ℕ) → f k i ≡ accept ts j → Enough n (suc x) i → Enough n x j
  enough x k i ts j e h = let z = (w.takes k).takes i ts j e in (omega (arith, z.0, z.1, h.1), omega (arith, z.0, z.1, h.1))

  abbrev Row : ℕ → ℕ → Reader
  Row x k i = and_then (items_from stop f x k i) g

  -- what is read after an item goes on from there
  abbrev Onward : ℕ → ℕ → ℕ → Type 0
  Onward x k i = (us : Trees) (j : ℕ) → f k i ≡ accept us j → Tokens s j (reach (Row x (k + count us) j))

  tokens_item : (x k i : ℕ) (o : Outcome) → f k i ≡ o → Onward x k i → Tokens s (reach o) (reach (and_then (then_at k o (items_from stop f x)) g))
  unfolding then_at and_then reach
  tokens_item x k i (accept us j) e more =
      let z = ap reach (then_before us (items_from stop f x (k + count us) j) g) in
      let y = reach-before us (Row x (k + count us) j) in
      subst (Tokens s j) (sym (z ∙ y)) (more us j e)
  tokens_item x k i (refuse d) e more = kinds.nothing

  tokens_turn : (x k i : ℕ) (b : Bool) → Onward x k i → Tokens s i (reach (and_then (choose b (λ _. accept ∅ i) (λ _. then_at k (f k i) (items_from stop f x))) g))
  unfolding and_then
  tokens_turn x k i true more = subst (Tokens s i) (sym (reach-before ∅ (g i))) (w.last.at i).tokens
  tokens_turn x k i false more = ((w.items k).at i).tokens ⊕ tokens_item x k i (f k i) refl more

  tokens-row : (x k i : ℕ) → Enough n x i → Tokens s i (reach (Row x k i))
  unfolding items_from
  tokens-row zero k i h = absurd (omega (arith, h.0))
  tokens-row (suc x) k i h = tokens_turn x k i (stop i) (λ us j e. tokens-row x (k + count us) j (enough x k i us j e h))

  -- ---- the row of the other input

  abbrev row' : ℕ → ℕ → Reader
  row' y k i = and_then (items_from stop' f' y k i) g'

  enough' : (y k i : ℕ) (ts : Trees) (j : ℕ) → f k i ≡ accept ts j → i ≤ m → Enough n' (suc y) i → Enough n' y j
  enough' y k i ts j e l h = let z = (w.takes k).takes i ts j e in let v = w.near i l z.1 in (omega (arith, z.0, h.1), omega (arith, z.0, h.1))

  -- what is read after an item is the same
  abbrev Again : ℕ → ℕ → ℕ → ℕ → Type 0
  Again x y k i = (us : Trees) (j : ℕ) → f k i ≡ accept us j → reach (Row x (k + count us) j) ≤ m → row' y (k + count us) j ≡ Row x (k + count us) j

  same_item : (x y k i : ℕ) (o : Outcome) → f k i ≡ o → reach o ≤ m → Again x y k i → reach (and_then (then_at k o (items_from stop f x)) g) ≤ m
      → and_then (then_at k (f' k i) (items_from stop' f' y)) g' ≡ and_then (then_at k o (items_from stop f x)) g
  unfolding then_at and_then
  same_item x y k i (accept us j) e l again h =
      let z = ap reach (then_before us (items_from stop f x (k + count us) j) g) in
      let v = reach-before us (Row x (k + count us) j) in
      let q = ap reach e in
      ap (λ (o : Outcome). and_then (then_at k o (items_from stop' f' y)) g') (((w.items k).at i).same (omega arith) ∙ e)
      ∙ then_before us (items_from stop' f' y (k + count us) j) g'
      ∙ ap (before us) (again us j e (omega arith))
      ∙ sym (then_before us (items_from stop f x (k + count us) j) g)
  same_item x y k i (refuse d) e l again h =
      let q = ap reach e in ap (λ (o : Outcome). and_then (then_at k o (items_from stop' f' y)) g') (((w.items k).at i).same (omega arith) ∙ e)

  -- the turn that is chosen
  abbrev turn' : ℕ → ℕ → ℕ → Bool → Outcome
  turn' y k i b = and_then (choose b (λ _. accept ∅ i) (λ _. then_at k (f' k i) (items_from stop' f' y))) g'

  same_turn : (x y k i : ℕ) (b : Bool) → stop i ≡ b → i ≤ m → Onward x k i → Again x y k i → reach (and_then (choose b (λ _. accept ∅ i) (λ _. then_at k (f k i) (items_from stop f x))) g) ≤ m
      → turn' y k i (stop' i) ≡ and_then (choose b (λ _. accept ∅ i) (λ _. then_at k (f k i) (items_from stop f x))) g
  unfolding and_then
  same_turn x y k i true e l more again h =
      let z = reach-before ∅ (g i) in
      let c = ap (λ (b : Bool). reach (choose b (λ _. g i) (λ _. f k i))) e in
      ap (turn' y k i) (w.tells k i l (omega arith) ∙ e) ∙ ap (before ∅) ((w.last.at i).same (omega arith))
  same_turn x y k i false e l more again h =
      let z = (tokens_item x k i (f k i) refl more).on in
      let c = ap (λ (b : Bool). reach (choose b (λ _. g i) (λ _. f k i))) e in
      ap (turn' y k i) (w.tells k i l (omega arith) ∙ e) ∙ same_item x y k i (f k i) refl (omega arith) again h

  same_row : (x y k i : ℕ) → Enough n x i → Enough n' y i → reach (Row x k i) ≤ m → row' y k i ≡ Row x k i
  unfolding items_from
  same_row zero y k i h v l = absurd (omega (arith, h.0))
  same_row (suc x) zero k i h v l = absurd (omega (arith, v.0))
  same_row (suc x) (suc y) k i h v l =
      let z = (tokens-row (suc x) k i h).on in
      let d : i ≤ m = omega arith in
      same_turn x y k i (stop i) refl d (λ us j e. tokens-row x (k + count us) j (enough x k i us j e h))
      (λ us j e c. same_row x y (k + count us) j (enough x k i us j e h) (enough' y k i us j e d v) c) l

  pub rows_then : (k : ℕ) → Follows s m (many_at n stop f k ⊳ g) (many_at n' stop' f' k ⊳ g')
  unfolding many_at ◌⊳◌
  rows_then k =
      record {
        at = λ i. record {
          tokens = tokens-row (suc n) k i (omega arith, omega arith);
          same = same_row (suc n) (suc n') k i (omega arith, omega arith) (omega arith, omega arith);
        };
      }

-- ---- a row alone

-- the same readers in other words
pub follows_as : {s : Input} {m : ℕ} {f f' g g' : Reader} → ((i : ℕ) → f i ≡ g i) → ((i : ℕ) → f' i ≡ g' i) → Follows s m f f' → Follows s m g g'
follows_as {s} d e r =
    record {
      at = λ i.
          let z = ap reach (d i) in
          record { tokens = subst (Tokens s i) z (r.at i).tokens; same = λ h. sym (e i) ∙ (r.at i).same (omega arith) ∙ d i };
    }

then_nothing : (o : Outcome) → and_then o nothing ≡ o
unfolding and_then nothing before
then_nothing (accept ts j) = ap (λ (x : Trees). accept x j) (⧺-none ts)
then_nothing (refuse e) = refl

pub rows : {s : Input} {m n n' : ℕ} {stop stop' : ℕ → Bool} {f f' : ℕ → Reader} (k : ℕ) → Rows s m n n' stop stop' f f' nothing nothing → Follows s m (many_at n stop f k) (many_at n' stop' f' k)
unfolding ◌⊳◌
rows {n = n} {n' = n'} {stop = stop} {stop' = stop'} {f = f} {f' = f'} k w =
    follows_as (λ i. then_nothing (many_at n stop f k i)) (λ i. then_nothing (many_at n' stop' f' k i)) (rows_then w k)

module _ {m : ℕ} {s t : Input} (a : Agree m s t) where
  pub below : (i : ℕ) → i ≤ m → i < size s → i < size t
  below i h l = ltb-true i (size t) (sym (a.ends i h) ∙ lt-ltb i (size s) l)

  -- up to a `)`
  pub rows_at : {f f' : ℕ → Reader} → ((k : ℕ) → Takes (size s) (f k)) → ((k : ℕ) → Follows s m (f k) (f' k)) → Follows s m (many_at (size s) (λ i. is_rparen (peek s i)) f 0) (many_at (size t) (λ i. is_rparen (peek t i)) f' 0)
  rows_at h r = rows 0 (record { near = below; takes = h; items = r; last = nothings; tells = λ k i l _. told a (λ _. is_rparen) i l })

  pub rows_of : {f f' : Reader} → Takes (size s) f → Follows s m f f' → Follows s m (row s f) (row t f')
  unfolding many
  rows_of h r = rows_at (λ _. h) (λ _. r)
