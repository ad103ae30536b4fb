-- How promises are put together as readers are: laws that serve every parse function. Assumes nothing.
use Prim.Native.Nat.{ℕ, ◌+◌, ◌<◌, ◌≤◌}
use native.Mathlib.Omega.{arith}
use mathlib.Core.Path.{◌≡◌, refl, sym, ap, subst, ◌∙◌}
use mathlib.Core.List.{List}
use mathlib.Core.Bool.{Bool, true, false}
use borrow.Author.Tests.{eq-eqb, ne_eqb}
use Rattle.std.specs.Prelude.{Result, Ok, Err}
use Rattle.std.specs.Result.{IfOk, IsErr, IsErrAnd}
use Rattle.std.proofs.lemmas.Result.{err_from_is_err_and, IfOk-weaker}
use Rattle.trees.specs.Tree.{Trees, node, ∅, ◌▸◌, count, head, record_of, records_all}
use Rattle.trees.specs.declared.Head.{Head}
use Rattle.trees.proofs.Laws.{size_none, size-one, size-node, size_⧺, count_none, count-one, count_⧺, count-size}
use Rattle.records.specs.Slots.{put, writes}
use Rattle.records.proofs.Laws.{writes-none, writes_⧺, writes-node}
use Rattle.tokens.specs.declared.Token.{Token}
use Rattle.tokens.specs.Token.{is_at}
use Rattle.tokens.specs.Input.{Input, peek, pos_at, size}
use Rattle.steps.specs.declared.State.{State}
use Rattle.steps.specs.declared.Stop.{Stop}
use Rattle.steps.specs.Outcome.{Outcome, accept, refuse, Reader, before, and_then, ◌⊳◌, then_at, node_of, parent, bare, leaf, nothing, flagged, if_next, if_second}
use Rattle.steps.specs.Sizes.{Sized, Bounded}
use Rattle.steps.specs.Met.{state, Taken, Met, Chained, Moved, inside, Closed, Leafed, Ready, Within}

-- ---- outcomes

pub begun : (i n k : ℕ) (l : List ℕ) → Met (accept ∅ i) n k l l (Ok (state i n k))
unfolding Met
begun i n k l = record { ends = refl; counted = omega (arith, size_none); rows = omega (arith, count_none); wrote = sym (writes-none l n) }

joined : (ts : Trees) (j n k : ℕ) (l l₁ l₂ : List ℕ) (q : State) (o : Outcome) (r : Result State Stop) → Taken ts j n k l l₁ q → Met o q.count q.items l₁ l₂ r → Met (before ts o) n k l l₂ r
unfolding Met before
joined ts j n k l l₁ l₂ q (accept us x) (Ok r) h g =
    record {
      ends = g.ends;
      counted = omega (arith, g.counted, h.counted, size_⧺ ts us);
      rows = omega (arith, g.rows, h.rows, count_⧺ ts us);
      wrote = g.wrote ∙ ap (λ (y : List ℕ). writes y q.count (records_all us)) h.wrote ∙ ap (λ (y : ℕ). writes (writes l n (records_all ts)) y (records_all us)) h.counted ∙ sym (writes_⧺ ts us l n);
    }
joined ts j n k l l₁ l₂ q (accept us x) (Err d) h g = absurd g
joined ts j n k l l₁ l₂ q (refuse e) (Ok r) h g = absurd g
joined ts j n k l l₁ l₂ q (refuse e) (Err d) h g = g

pub chain_at : (o : Outcome) (f : ℕ → Reader) (n k : ℕ) (l l₁ l₂ : List ℕ) (q : State) (r : Result State Stop) → Met o n k l l₁ (Ok q) → Met (f q.items q.next) q.count q.items l₁ l₂ r → Met (then_at k o f) n k l l₂ r
unfolding Met then_at
chain_at (accept ts j) f n k l l₁ l₂ q r h m =
    joined ts j n k l l₁ l₂ q (f (k + count ts) j) r h
    (subst (λ (x : ℕ). Met (f x j) q.count q.items l₁ l₂ r) h.rows (subst (λ (x : ℕ). Met (f q.items x) q.count q.items l₁ l₂ r) h.ends m))
chain_at (refuse e) f n k l l₁ l₂ q r h m = absurd h

pub stop_at : (o : Outcome) (f : ℕ → Reader) (n k : ℕ) (l l₁ : List ℕ) (d : Stop) → Met o n k l l₁ (Err d) → Met (then_at k o f) n k l l₁ (Err d)
unfolding Met then_at
stop_at (accept ts j) f n k l l₁ d h = absurd h
stop_at (refuse e) f n k l l₁ d h = h

chain_met : (o : Outcome) (g : Reader) (n k : ℕ) (l l₁ l₂ : List ℕ) (q : State) (r : Result State Stop) → Met o n k l l₁ (Ok q) → Met (g q.next) q.count q.items l₁ l₂ r → Met (and_then o g) n k l l₂ r
unfolding Met and_then
chain_met (accept ts j) g n k l l₁ l₂ q r h m = joined ts j n k l l₁ l₂ q (g j) r h (subst (λ (x : ℕ). Met (g x) q.count q.items l₁ l₂ r) h.ends m)
chain_met (refuse e) g n k l l₁ l₂ q r h m = absurd h

stop_met : (o : Outcome) (g : Reader) (n k : ℕ) (l l₁ : List ℕ) (d : Stop) → Met o n k l l₁ (Err d) → Met (and_then o g) n k l l₁ (Err d)
unfolding Met and_then
stop_met (accept ts j) g n k l l₁ d h = absurd h
stop_met (refuse e) g n k l l₁ d h = h

pub closed_met : (o : Outcome) (h : Head) (n k : ℕ) (l l₁ l₂ : List ℕ) (q : State) → Met o (n + 1) 0 l l₁ (Ok q) → l₂ ≡ put l₁ n (record_of h q.items) → Met (node_of h o) n k l l₂ (Ok (state q.next q.count (k + 1)))
unfolding Met node_of
closed_met (accept ts j) h n k l l₁ l₂ q y z =
    record {
      ends = y.ends;
      counted = omega (arith, y.counted, size-one (node h ts), size-node h ts);
      rows = omega (arith, count-one (node h ts));
      wrote = z ∙ ap (λ (v : List ℕ). put v n (record_of h q.items)) y.wrote ∙ rw (kids (count ts) q.items y.rows) (writes-node h ts l n);
    }
  where
    kids : (a b : ℕ) → b ≡ 0 + a → b ≡ a
    kids a b v = omega arith
closed_met (refuse f) h n k l l₁ l₂ q y z = absurd y

pub node_stop : (o : Outcome) (h : Head) (n k : ℕ) (l l₁ : List ℕ) (d : Stop) → Met o (n + 1) 0 l l₁ (Err d) → Met (node_of h o) n k l l₁ (Err d)
unfolding Met node_of
node_stop (accept ts j) h n k l l₁ d y = absurd y
node_stop (refuse f) h n k l l₁ d y = y

-- ---- readers

-- one part after another
infixl 50 ◌▷◌
pub ◌▷◌ : {f g : Reader} {p q : State} {r : Result State Stop} {l l₁ l₂ : List ℕ} → Chained f p l l₁ (Ok q) → Chained g q l₁ l₂ r → Chained (f ⊳ g) p l l₂ r
unfolding ◌⊳◌
◌▷◌ {f = f} {g = g} {p = p} {q = q} {r = r} {l = l} {l₁ = l₁} {l₂ = l₂} a b = record { met = chain_met (f p.next) g p.count p.items l l₁ l₂ q r a.met b.met }

-- what stops a part stops what comes after it
pub stop : {f : Reader} (g : Reader) {p : State} {d : Stop} {l l₁ : List ℕ} → Chained f p l l₁ (Err d) → Chained (f ⊳ g) p l l₁ (Err d)
unfolding ◌⊳◌
stop {f = f} g {p = p} {d = d} {l = l} {l₁ = l₁} a = record { met = stop_met (f p.next) g p.count p.items l l₁ d a.met }

-- a part that reads no tree
pub moved : {f : Reader} {p : State} {r : Result State Stop} {l : List ℕ} → Moved f p r → Chained f p l l r
moved {f = f} {p = p} {r = r} {l = l} m = m.same l

-- nothing
pub nothing_read : (p : State) (l : List ℕ) → Chained nothing p l l (Ok p)
unfolding nothing
nothing_read p l = record { met = begun p.next p.count p.items l }

-- where a `?` returns
pub exit : {f : Reader} {p : State} {d : Stop} {r : Result State Stop} {l l₁ : List ℕ} → IsErr r × IsErrAnd r (λ e. e ≡ d) → Chained f p l l₁ (Err d) → Chained f p l l₁ r
exit {f = f} {p = p} {d = d} {r = r} {l = l} {l₁ = l₁} h m = let e = err_from_is_err_and r h.1 in rw (e.1, e.2) m

-- a node over its children, begun where they begin
module _ (f : Reader) (h : Head) (p q₀ : State) (l l₁ : List ℕ) where
  pub node_over : (l₂ : List ℕ) (q r : State) → Closed h p q l₁ l₂ r → q₀ ≡ inside p → Chained f q₀ l l₁ (Ok q) → Met (node_of h (f p.next)) p.count p.items l l₂ (Ok r)
  node_over l₂ q r c e m =
      let b : Chained f (inside p) l l₁ (Ok q) = subst (λ (x : State). Chained f x l l₁ (Ok q)) e m in
      rw c.one (closed_met (f p.next) h p.count p.items l l₁ l₂ q b.met c.wrote)

  pub node_none : (d : Stop) → q₀ ≡ inside p → Chained f q₀ l l₁ (Err d) → Met (node_of h (f p.next)) p.count p.items l l₁ (Err d)
  node_none d e m =
      let b : Chained f (inside p) l l₁ (Err d) = subst (λ (x : State). Chained f x l l₁ (Err d)) e m in
      node_stop (f p.next) h p.count p.items l l₁ d b.met

pub node_read : (s : Input) {kind flags : ℕ} {f : Reader} {p q₀ q r : State} {l l₁ l₂ : List ℕ} → Closed (head kind flags (pos_at s p.next) 0 0) p q l₁ l₂ r → q₀ ≡ inside p → Chained f q₀ l l₁ (Ok q) → Chained (parent s kind flags f) p l l₂ (Ok r)
unfolding parent
node_read s {kind = kind} {flags = flags} {f = f} {p = p} {q₀ = q₀} {q = q} {r = r} {l = l} {l₁ = l₁} {l₂ = l₂} c e m = record { met = node_over f (head kind flags (pos_at s p.next) 0 0) p q₀ l l₁ l₂ q r c e m }

pub node_stopped : (s : Input) (kind flags : ℕ) {f : Reader} {p q₀ : State} {d : Stop} {l l₁ : List ℕ} → q₀ ≡ inside p → Chained f q₀ l l₁ (Err d) → Chained (parent s kind flags f) p l l₁ (Err d)
unfolding parent
node_stopped s kind flags {f = f} {p = p} {q₀ = q₀} {d = d} {l = l} {l₁ = l₁} e m = record { met = node_none f (head kind flags (pos_at s p.next) 0 0) p q₀ l l₁ d e m }

-- a node by its first token
pub closed_of : (s : Input) {kind flags : ℕ} {p q r : State} {l l' : List ℕ} {t : Token} → t ≡ peek s p.next → Closed (head kind flags t.pos 0 0) p q l l' r → Closed (head kind flags (pos_at s p.next) 0 0) p q l l' r
closed_of s {kind = kind} {flags = flags} {p = p} {q = q} {r = r} {l = l} {l' = l'} {t = t} e c = subst (λ (x : Token). Closed (head kind flags x.pos 0 0) p q l l' r) e c

pub next_inside : (s : Input) (p q : State) (t : Token) → t ≡ peek s p.next → q ≡ inside p → t ≡ peek s q.next
next_inside s p q t a e = a ∙ sym (ap (λ (x : State). peek s x.next) e)

-- a node without a position
pub bare_read : {kind : ℕ} {f : Reader} {p q₀ q r : State} {l l₁ l₂ : List ℕ} → Closed (head kind 0 0 0 0) p q l₁ l₂ r → q₀ ≡ inside p → Chained f q₀ l l₁ (Ok q) → Chained (bare kind f) p l l₂ (Ok r)
unfolding bare
bare_read {kind = kind} {f = f} {p = p} {q₀ = q₀} {q = q} {r = r} {l = l} {l₁ = l₁} {l₂ = l₂} c e m = record { met = node_over f (head kind 0 0 0 0) p q₀ l l₁ l₂ q r c e m }

pub bare_stopped : (kind : ℕ) {f : Reader} {p q₀ : State} {d : Stop} {l l₁ : List ℕ} → q₀ ≡ inside p → Chained f q₀ l l₁ (Err d) → Chained (bare kind f) p l l₁ (Err d)
unfolding bare
bare_stopped kind {f = f} {p = p} {q₀ = q₀} {d = d} {l = l} {l₁ = l₁} e m = record { met = node_none f (head kind 0 0 0 0) p q₀ l l₁ d e m }

-- a node whose flags go by the tokens
pub flagged_read : (s : Input) {kind x : ℕ} (flags : ℕ → ℕ) {f : Reader} {p q₀ q r : State} {l l₁ l₂ : List ℕ} → Closed (head kind x (pos_at s p.next) 0 0) p q l₁ l₂ r → x ≡ flags p.next → q₀ ≡ inside p → Chained f q₀ l l₁ (Ok q) → Chained (flagged s kind flags f) p l l₂ (Ok r)
unfolding flagged
flagged_read s {kind = kind} {x = x} flags {f = f} {p = p} {q₀ = q₀} {q = q} {r = r} {l = l} {l₁ = l₁} {l₂ = l₂} c y e m =
    let z : Closed (head kind (flags p.next) (pos_at s p.next) 0 0) p q l₁ l₂ r = subst (λ (v : ℕ). Closed (head kind v (pos_at s p.next) 0 0) p q l₁ l₂ r) y c in
    record { met = node_over f (head kind (flags p.next) (pos_at s p.next) 0 0) p q₀ l l₁ l₂ q r z e m }

pub flagged_stopped : (s : Input) (kind : ℕ) (flags : ℕ → ℕ) {f : Reader} {p q₀ : State} {d : Stop} {l l₁ : List ℕ} → q₀ ≡ inside p → Chained f q₀ l l₁ (Err d) → Chained (flagged s kind flags f) p l l₁ (Err d)
unfolding flagged
flagged_stopped s kind flags {f = f} {p = p} {q₀ = q₀} {d = d} {l = l} {l₁ = l₁} e m = record { met = node_none f (head kind (flags p.next) (pos_at s p.next) 0 0) p q₀ l l₁ d e m }

-- a leaf
pub leaf_met : {h : Head} {p r : State} {l l' : List ℕ} → Leafed h p l l' r → Met (accept (node h ∅ ▸ ∅) (p.next + 1)) p.count p.items l l' (Ok r)
unfolding Met
leaf_met {h = h} {p = p} {r = r} {l = l} {l' = l'} c =
    rw c.one
    (record {
      ends = refl;
      counted = omega (arith, size-one (node h ∅), size-node h ∅, size_none);
      rows = omega (arith, count-one (node h ∅));
      wrote = c.wrote ∙ ap (λ (v : List ℕ). put v p.count (record_of h 0)) (sym (writes-none l (p.count + 1))) ∙ ap (λ (x : ℕ). put (writes l (p.count + 1) (records_all ∅)) p.count (record_of h x)) (sym count_none) ∙ writes-node h ∅ l p.count;
    })

pub leaf_read : (s : Input) (h : Token → Head) {p r : State} {l l' : List ℕ} {t : Token} → t ≡ peek s p.next → Leafed (h t) p l l' r → Chained (leaf s h) p l l' (Ok r)
unfolding leaf
leaf_read s h {p = p} {r = r} {l = l} {l' = l'} {t = t} e c =
    let z : Leafed (h (peek s p.next)) p l l' r = subst (λ (x : Token). Leafed (h x) p l l' r) e c in
    record { met = leaf_met z }

-- a choice by the next token, or by the one after it
module _ (s : Input) (test : Token → Bool) {p : State} {r : Result State Stop} {t : Token} {b : Bool} {l l' : List ℕ} where
  pub next_yes : {f : Reader} (g : Reader) → t ≡ peek s p.next → b ≡ test t → b ≡ true → Chained f p l l' r → Chained (if_next s test f g) p l l' r
  unfolding if_next
  next_yes {f = f} g a e c m = record { met = rw (← a, ← e, c) m.met }

  pub next_no : (f : Reader) {g : Reader} → t ≡ peek s p.next → b ≡ test t → b ≡ false → Chained g p l l' r → Chained (if_next s test f g) p l l' r
  unfolding if_next
  next_no f {g = g} a e c m = record { met = rw (← a, ← e, c) m.met }

  pub second_yes : {f : Reader} (g : Reader) → t ≡ peek s (p.next + 1) → b ≡ test t → b ≡ true → Chained f p l l' r → Chained (if_second s test f g) p l l' r
  unfolding if_second
  second_yes {f = f} g a e c m = record { met = rw (← a, ← e, c) m.met }

  pub second_no : (f : Reader) {g : Reader} → t ≡ peek s (p.next + 1) → b ≡ test t → b ≡ false → Chained g p l l' r → Chained (if_second s test f g) p l l' r
  unfolding if_second
  second_no f {g = g} a e c m = record { met = rw (← a, ← e, c) m.met }

-- the same by the kind of the second token
module _ (s : Input) {x : ℕ} {p : State} {r : Result State Stop} {l l' : List ℕ} where
  pub second_at : {f : Reader} (g : Reader) → x ≡ (peek s (p.next + 1)).kind → x ≡ 5 → Chained f p l l' r → Chained (if_second s is_at f g) p l l' r
  unfolding is_at
  second_at g e h m = second_yes s is_at {t = peek s (p.next + 1)} {b = true} g refl (sym (eq-eqb (peek s (p.next + 1)).kind 5 (sym e ∙ h))) refl m

  pub second_not_at : (f : Reader) {g : Reader} → x ≡ (peek s (p.next + 1)).kind → (x ≡ 5 → ⊥) → Chained g p l l' r → Chained (if_second s is_at f g) p l l' r
  unfolding is_at
  second_not_at f e h m = second_no s is_at {t = peek s (p.next + 1)} {b = false} f refl (sym (ne_eqb (peek s (p.next + 1)).kind 5 (λ y. h (e ∙ y)))) refl m

-- ---- how far

-- a part that is bounded goes so far
within_met : (u c d : ℕ) (s : Input) (p : State) (o : Outcome) (l l' : List ℕ) (r : Result State Stop) → Sized u c d s p.next o → Met o p.count p.items l l' r → IfOk r (Within u c d s p)
unfolding Met
within_met u c d s p (accept ts j) l l' (Ok q) z m =
    let f = z.fit ts j refl in
    record {
      on = omega (arith, m.ends, f.on);
      inside = λ h. let i = f.inside h in omega (arith, m.ends, i);
      room = omega (arith, m.ends, m.counted, f.room);
      kids = omega (arith, m.ends, m.rows, f.room, count-size ts);
    }
within_met u c d s p (accept ts j) l l' (Err e) z m = absurd m
within_met u c d s p (refuse e) l l' (Ok q) z m = absurd m
within_met u c d s p (refuse e) l l' (Err x) z m = tt

pub bounded_within : {u c d : ℕ} {s : Input} {f : Reader} {p : State} {l l' : List ℕ} {r : Result State Stop} → Bounded u c d s f → Chained f p l l' r → IfOk r (Within u c d s p)
bounded_within {u = u} {c = c} {d = d} {s = s} {f = f} {p = p} {l = l} {l' = l'} {r = r} b m = within_met u c d s p (f p.next) l l' r (b.sized p.next) m.met

module _ {c : ℕ} {s : Input} {q r : State} (v : Within 1 c 0 s q r) where
  pub ready_on : {d : ℕ} → Ready d s q → Ready d s r
  ready_on a = record { few = a.few; short = a.short; here = v.inside a.here; room = omega (arith, a.room, v.room); kids = omega (arith, a.kids, v.kids); slack = a.slack }

  pub within_on : {p : State} → Within 0 0 0 s p q → Within 0 0 0 s p r
  within_on w = record { on = omega (arith, w.on, v.on); inside = λ h. v.inside (w.inside h); room = omega (arith, w.room, v.room); kids = omega (arith, w.kids, v.kids) }

  pub further : q.next < r.next
  further = omega (arith, v.on)

  pub still_inside : q.next ≤ size s → r.next ≤ size s
  still_inside h = v.inside h

pub from_start : {s : Input} {p q : State} → Within 0 0 0 s p q → p.next ≤ q.next
from_start w = omega (arith, w.on)

-- less than is known
pub within_less : (u c d u' c' d' : ℕ) (s : Input) (p : State) (r : Result State Stop) → u' ≤ u → c' + d ≤ c + d' → IfOk r (Within u c d s p) → IfOk r (Within u' c' d' s p)
within_less u c d u' c' d' s p r x y h =
    IfOk-weaker r (Within u c d s p) (Within u' c' d' s p)
    (λ q w. record { on = omega (arith, x, w.on); inside = w.inside; room = omega (arith, y, w.room); kids = omega (arith, y, w.kids) })
    h
