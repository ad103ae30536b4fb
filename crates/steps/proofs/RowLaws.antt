-- Rows of items: the bound on their number never runs out, and a loop over them. Only this file speaks of that bound. Assumes nothing.
use Prim.Native.Nat.{ℕ, zero, suc, ◌+◌, ◌<◌, ◌≤◌}
use native.Mathlib.Omega.{arith}
use mathlib.Core.Path.{◌≡◌, refl, sym, ap, subst, ◌∙◌}
use mathlib.Core.List.{List}
use mathlib.Core.Bool.{Bool, true, false}
use Rattle.std.specs.Prelude.{Result, Ok, Err}
use Rattle.trees.specs.Choice.{choose}
use Rattle.trees.specs.Tree.{Trees, ∅, ◌⧺◌, count}
use Rattle.trees.proofs.Laws.{size_⧺}
use Rattle.tokens.specs.Token.{is_rparen}
use Rattle.tokens.specs.Input.{Input, peek, size}
use Rattle.steps.specs.declared.State.{State}
use Rattle.steps.specs.declared.Stop.{Stop}
use Rattle.steps.specs.Outcome.{Outcome, accept, refuse, Reader, refusal, before, nothing, then_at, items_from, many_at, many, row, parse_ident}
use Rattle.steps.specs.Sizes.{Fit, Sized, BoundedAt}
use Rattle.steps.specs.Met.{Met, Chained}
use Rattle.steps.proofs.MetLaws.{begun, chain_at, stop_at}
use Rattle.steps.proofs.SizeLaws.{Steady, Item, ident_item, plain-bounded, nothing-bounded, sized-refuse, sized-accept, sized-choose}

-- ---- the bound

same_then : (k : ℕ) (o : Outcome) (f g : ℕ → ℕ → Outcome) → ((ts : Trees) (j : ℕ) → o ≡ accept ts j → f (k + count ts) j ≡ g (k + count ts) j) → then_at k o f ≡ then_at k o g
unfolding then_at
same_then k (accept ts j) f g h = ap (before ts) (h ts j refl)
same_then k (refuse e) f g h = refl

turn : (stop : ℕ → Bool) (f : ℕ → ℕ → Outcome) (n k i : ℕ) → items_from stop f (suc n) k i ≡ choose (stop i) (λ _. accept ∅ i) (λ _. then_at k (f k i) (items_from stop f n))
unfolding items_from
turn stop f n k i = refl

same_turn : (stop : ℕ → Bool) (f : ℕ → ℕ → Outcome) (a b k i : ℕ) → then_at k (f k i) (items_from stop f a) ≡ then_at k (f k i) (items_from stop f b) → items_from stop f (suc a) k i ≡ items_from stop f (suc b) k i
same_turn stop f a b k i e = turn stop f a k i ∙ ap (λ (o : Outcome). choose (stop i) (λ _. accept ∅ i) (λ _. o)) e ∙ sym (turn stop f b k i)

sized-none : (s : Input) (i : ℕ) → Sized 0 0 0 s i (accept ∅ i)
unfolding nothing
sized-none s i = (nothing-bounded s).sized i

-- an item and what follows it
after_item : (s : Input) (i c : ℕ) (ts : Trees) (m : ℕ) (o : Outcome) → Fit 1 c 0 s i ts m → Sized 0 0 0 s m o → Sized 0 0 0 s i (before ts o)
unfolding before
after_item s i c ts m (accept us j) g h =
    let f = h.fit us j refl in
    sized-accept 0 0 0 s i (ts ⧺ us) j
    (record {
      on = omega (arith, f.on, g.on);
      inside = λ z. f.inside (g.inside z);
      room = omega (arith, f.room, g.room, size_⧺ ts us);
    })
after_item s i c ts m (refuse e) g h = sized-refuse 0 0 0 s i e

row-after : (s : Input) (k i c d : ℕ) (o : Outcome) (f : ℕ → ℕ → Outcome) → Sized 1 c d s i o → d ≡ 0 → ((m j : ℕ) → Sized 0 0 0 s j (f m j)) → Sized 0 0 0 s i (then_at k o f)
unfolding then_at
row-after s k i c d (accept ts m) f h z g = after_item s i c ts m (f (k + count ts) m) (subst (λ (x : ℕ). Fit 1 c x s i ts m) z (h.fit ts m refl)) (g (k + count ts) m)
row-after s k i c d (refuse e) f h z g = sized-refuse 0 0 0 s i e

same_rest : (o : Outcome) (f : ℕ → ℕ → Outcome) (k m : ℕ) → ((a b j : ℕ) → f a j ≡ f b j) → then_at k o f ≡ then_at m o f
unfolding then_at
same_rest (accept ts j) f k m h = ap (before ts) (h (k + count ts) (m + count ts) j)
same_rest (refuse e) f k m h = refl

module _ (stop : ℕ → Bool) (f : ℕ → ℕ → Outcome) (s : Input) (c d : ℕ) (g : BoundedAt 1 c d s f) where
  enough : (a b k i : ℕ) → i ≤ size s → size s < a + i → size s < b + i → items_from stop f a k i ≡ items_from stop f b k i
  enough zero b k i h p q = absurd (omega arith)
  enough (suc a) zero k i h p q = absurd (omega arith)
  enough (suc a) (suc b) k i h p q =
      same_turn stop f a b k i
      (same_then k (f k i) (items_from stop f a) (items_from stop f b)
      (λ ts j e. let w = (g.sized k i).fit ts j e in enough a b (k + count ts) j (w.inside h) (omega (arith, w.on)) (omega (arith, w.on))))

  -- a row with no bound: nothing where it stops, and else an item and the row after it
  pub row_law : (k i : ℕ) → i ≤ size s → many_at (size s) stop f k i ≡ choose (stop i) (λ _. accept ∅ i) (λ _. then_at k (f k i) (many_at (size s) stop f))
  unfolding many_at
  row_law k i h =
      turn stop f (size s) k i
      ∙ ap (λ (o : Outcome). choose (stop i) (λ _. accept ∅ i) (λ _. o))
      (same_then k (f k i) (items_from stop f (size s)) (items_from stop f (suc (size s)))
      (λ ts j e. let w = (g.sized k i).fit ts j e in enough (size s) (suc (size s)) (k + count ts) j (w.inside h) (omega (arith, w.on)) (omega (arith, w.on))))

  -- ---- how far a row reads
  row_sized : (n k i : ℕ) → d ≡ 0 → Sized 0 0 0 s i (items_from stop f n k i)
  unfolding items_from
  row_sized zero k i z = sized-refuse 0 0 0 s i (refusal 0 0 0)
  row_sized (suc n) k i z =
      sized-choose 0 0 0 s i (stop i) (λ _. accept ∅ i) (λ _. then_at k (f k i) (items_from stop f n)) (λ e. sized-none s i)
      (λ e. row-after s k i c d (f k i) (items_from stop f n) (g.sized k i) z (λ m j. row_sized n m j z))

  pub row-bounded : d ≡ 0 → BoundedAt 0 0 0 s (many_at (size s) stop f)
  unfolding many_at
  row-bounded z = record { sized = λ k i. row_sized (suc (size s)) k i z }

-- ---- a loop over items

-- whatever reads the rest of the row from q, by so many turns, reads the whole of it from p; a turn for each token is left
pub record Going (s : Input) (stop : ℕ → Bool) (f : ℕ → ℕ → Outcome) (p : State) (l : List ℕ) (q : State) (l₁ : List ℕ) : Type 0 where
  pub turns : ℕ
  pub enough : size s + p.next ≤ turns + q.next
  pub onward : (l₂ : List ℕ) (r : Result State Stop) → Chained (items_from stop f (suc turns) q.items) q l₁ l₂ r → Chained (many_at (size s) stop f p.items) p l l₂ r

pub going_start : (s : Input) (stop : ℕ → Bool) (f : ℕ → ℕ → Outcome) (p : State) (l : List ℕ) → Going s stop f p l p l
unfolding many_at
going_start s stop f p l = record { turns = size s; enough = omega arith; onward = λ l₂ r h. record { met = h.met } }

one_turn : (stop : ℕ → Bool) (f : ℕ → ℕ → Outcome) (n : ℕ) (q : State) (l₁ l₂ : List ℕ) (r : Result State Stop) → stop q.next ≡ false → Met (then_at q.items (f q.items q.next) (items_from stop f n)) q.count q.items l₁ l₂ r → Chained (items_from stop f (suc n) q.items) q l₁ l₂ r
one_turn stop f n q l₁ l₂ r t m = record { met = rw (turn stop f n q.items q.next, t) m }

module _ {s : Input} {stop : ℕ → Bool} {f : ℕ → ℕ → Outcome} {p q : State} {l l₁ : List ℕ} (w : Going s stop f p l q l₁) (t : stop q.next ≡ false) where
  pub going_on : {q₂ : State} {l₂ : List ℕ} → p.next ≤ q.next → q.next < q₂.next → q₂.next ≤ size s → Chained (f q.items) q l₁ l₂ (Ok q₂) → Going s stop f p l q₂ l₂
  going_on {q₂ = q₂} {l₂ = l₂} z a b h = go w.turns refl
    where
      go : (n : ℕ) → w.turns ≡ n → Going s stop f p l q₂ l₂
      go zero e = absurd (omega (arith, w.enough, e))
      go (suc n) e =
          record {
            turns = n;
            enough = omega (arith, w.enough, e);
            onward = λ l₃ r m. w.onward l₃ r (rw e (one_turn stop f (suc n) q l₁ l₃ r t (chain_at (f q.items q.next) (items_from stop f (suc n)) q.count q.items l₁ l₂ l₃ q₂ r h.met m.met)));
          }

  pub going_stop : {e : Stop} {l₂ : List ℕ} → Chained (f q.items) q l₁ l₂ (Err e) → Chained (many_at (size s) stop f p.items) p l l₂ (Err e)
  going_stop {e = e} {l₂ = l₂} h = w.onward l₂ (Err e) (one_turn stop f w.turns q l₁ l₂ (Err e) t (stop_at (f q.items q.next) (items_from stop f w.turns) q.count q.items l₁ l₂ e h.met))

pub going_end : {s : Input} {stop : ℕ → Bool} {f : ℕ → ℕ → Outcome} {p q : State} {l l₁ : List ℕ} → Going s stop f p l q l₁ → stop q.next ≡ true → Chained (many_at (size s) stop f p.items) p l l₁ (Ok q)
going_end {s = s} {stop = stop} {f = f} {p = p} {q = q} {l = l} {l₁ = l₁} w t = w.onward l₁ (Ok q) (record { met = rw (turn stop f w.turns q.items q.next, t) (begun q.next q.count q.items l₁) })

-- ---- a row whose items do not depend on how many stand before

same_row : (stop : ℕ → Bool) (f : ℕ → Outcome) (n k m i : ℕ) → items_from stop (λ _. f) n k i ≡ items_from stop (λ _. f) n m i
unfolding items_from
same_row stop f zero k m i = refl
same_row stop f (suc n) k m i = ap (λ (o : Outcome). choose (stop i) (λ _. accept ∅ i) (λ _. o)) (same_rest (f i) (items_from stop (λ _. f) n) k m (λ a b j. same_row stop f n a b j))

pub plain_row : (s : Input) (stop : ℕ → Bool) (f : Reader) {p : State} {r : Result State Stop} {l l' : List ℕ} → Chained (many_at (size s) stop (λ _. f) p.items) p l l' r → Chained (many (size s) stop f) p l l' r
unfolding many many_at
plain_row s stop f {p = p} h = record { met = rw (same_row stop f (suc (size s)) 0 p.items p.next) h.met }

pub row_steady : (s : Input) (stop : ℕ → Bool) (f : Reader) → Item s f → Steady s (many (size s) stop f)
unfolding many
row_steady s stop f g = record { sized = λ i. (row-bounded stop (λ _. f) s 0 0 (plain-bounded 1 0 0 s f g) refl).sized 0 i }

pub idents_steady : (s : Input) → Steady s (row s (parse_ident s))
idents_steady s = row_steady s (λ i. is_rparen (peek s i)) (parse_ident s) (ident_item s)
