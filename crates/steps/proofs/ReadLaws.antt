-- How promises of a parser are put together as readers are: laws that serve every parse function. Assumes nothing.
use Prim.Native.Nat.{ℕ, ◌+◌, ◌<◌}
use native.Mathlib.Omega.{arith}
use mathlib.Core.Path.{◌≡◌, refl, sym, ap, subst, ◌∙◌}
use mathlib.Core.List.{List}
use mathlib.Core.Bool.{Bool, true, false}
use Rattle.std.specs.Prelude.{Result, Ok, Err}
use Rattle.std.specs.Result.{IfOk, IsErr, IsErrAnd}
use Rattle.std.proofs.lemmas.Result.{err_from_is_err_and}
use Rattle.trees.specs.Choice.{choose}
use Rattle.trees.specs.Names.{spelled}
use Rattle.trees.specs.Tree.{head, ∅}
use Rattle.trees.specs.declared.Head.{Head}
use Rattle.tokens.specs.declared.Token.{Token}
use Rattle.tokens.specs.Token.{is_symbol, is_at, is_word}
use Rattle.tokens.specs.Ident.{ident_refusal}
use Rattle.tokens.specs.Input.{Input, peek, pos_at, size}
use Rattle.steps.specs.declared.Parser.{Parser}
use Rattle.steps.specs.declared.Source.{Source}
use Rattle.steps.specs.declared.State.{State}
use Rattle.steps.specs.declared.Stop.{Stop}
use Rattle.steps.specs.declared.Refusal.{Refusal}
use Rattle.steps.specs.Outcome.{accept, refuse, Reader, refused_as, ident_at, name_by, ◌⊳◌, parent, bare, leaf, nothing, flagged, if_next, if_second, expect_at, unexpected, ate, eat, many, many_at}
use Rattle.steps.specs.Sizes.{Bounded}
use Rattle.steps.specs.Met.{seen, told, told_as, state, Met, SymbolAt, Chained, Moved, Ready, Within}
use Rattle.steps.specs.Read.{read_by, came_to, Same, Read, ReadAt, ReadAs, Begun, ClosedBy, LeafedBy, Begins, Went}
use Rattle.steps.proofs.MetLaws as met
use Rattle.steps.proofs.SizeLaws.{less_bounded}
use Rattle.steps.proofs.StepLaws as steps
use Rattle.steps.proofs.NameLaws as names
use Rattle.steps.proofs.RowLaws as rows

-- ---- the same tokens, the same output

pub same_then : {p q r : Parser} → Same p q → Same q r → Same p r
same_then a b = record { source = b.source ∙ a.source; loan = b.loan ∙ a.loan }

pub unmoved : {p : Parser} → Same p p
unmoved = record { source = refl; loan = refl }

-- what is read further on is read from the same tokens
read_on : (g : Input → Reader) (a b : Source) (q : State) (l l' : List ℕ) (r : Result State Stop) → b ≡ a → Chained (g (seen b)) q l l' r → Chained (g (seen a)) q l l' r
read_on g a b q l l' r e m = subst (λ (x : Source). Chained (g (seen x)) q l l' r) e m

-- ---- one part after another

infixl 50 ◌▷◌
pub ◌▷◌ : {f g : Input → Reader} {p q t : Parser} {u : Unit {0}} {r : Result (Unit {0}) Stop} → Read f p q (Ok u) → Read g q t r → Read (λ s. f s ⊳ g s) p t r
unfolding came_to
◌▷◌ {f = f} {g = g} {p = p} {q = q} {t = t} {u = u} {r = r} a b =
    record {
      read = met.◌▷◌ a.read (read_on g p.source q.source q.state q.out.now t.out.now (came_to r t.state) a.same.source b.read);
      same = same_then a.same b.same;
    }

-- what stops a part stops what comes after it
pub stop : {f : Input → Reader} (g : Input → Reader) {p q : Parser} {d : Stop} → Read f p q (Err d) → Read (λ s. f s ⊳ g s) p q (Err d)
unfolding came_to
stop {f = f} g {p = p} {q = q} {d = d} a = record { read = met.stop (g (read_by p)) a.read; same = a.same }

-- where a `?` returns
pub exit : {f : Input → Reader} {p q : Parser} {d : Stop} {r : Result (Unit {0}) Stop} → IsErr r × IsErrAnd r (λ e. e ≡ d) → Read f p q (Err d) → Read f p q r
exit {f = f} {p = p} {q = q} {d = d} {r = r} h m = let e = err_from_is_err_and r h.1 in rw (e.1, e.2) m

-- ---- from states to parsers

-- a step that leaves this state
pub stepped : {f : Input → Reader} {p t : Parser} {q : State} {u : Unit {0}} → Same p t → t.state ≡ q → Chained (f (read_by p)) p.state p.out.now t.out.now (Ok q) → Read f p t (Ok u)
unfolding came_to
stepped {f = f} {p = p} {t = t} {q = q} {u = u} e h m = record { read = rw h m; same = e }

-- the same where no record is written
pub moved : {f : Input → Reader} {p t : Parser} {q : State} {u : Unit {0}} → Same p t → t.state ≡ q → t.out.now ≡ p.out.now → Moved (f (read_by p)) p.state (Ok q) → Read f p t (Ok u)
moved {f = f} {p = p} {t = t} {q = q} {u = u} e h o m = stepped e h (subst (λ (x : List ℕ). Chained (f (read_by p)) p.state p.out.now x (Ok q)) (sym o) (m.same p.out.now))

-- a refusal
pub refused : {f : Input → Reader} {p t : Parser} {d : Stop} → Same p t → Chained (f (read_by p)) p.state p.out.now t.out.now (Err d) → Read f p t (Err d)
unfolding came_to
refused {f = f} {p = p} {t = t} {d = d} e m = record { read = m; same = e }

-- the same where the parser is as it was
pub refused_here : {f : Input → Reader} {p : Parser} {d : Stop} → Moved (f (read_by p)) p.state (Err d) → Read f p p (Err d)
refused_here {f = f} {p = p} {d = d} m = refused unmoved (m.same p.out.now)

-- ---- tokens expected

module _ (test : Input → Token → Bool) {p t : Parser} where
  pub passed : {u : Unit {0}} → t.state ≡ state (p.state.next + 1) p.state.count p.state.items → t.out.now ≡ p.out.now → Same p t → test (read_by p) (peek (read_by p) p.state.next) ≡ true → Read (λ s. expect_at s.tokens s.end (test s)) p t (Ok u)
  passed a o e h = moved e a o (steps.passed p.source.tokens.now p.source.end (test (read_by p)) p.state (state (p.state.next + 1) p.state.count p.state.items) refl h)

pub not_passed : (test : Input → Token → Bool) {p : Parser} {d : Stop} (t : Token) → t ≡ peek (read_by p) p.state.next → test (read_by p) (peek (read_by p) p.state.next) ≡ false → told d ≡ unexpected t p.state.next → Read (λ s. expect_at s.tokens s.end (test s)) p p (Err d)
not_passed test {p = p} {d = d} t a h u = refused_here (steps.not_passed p.source.tokens.now p.source.end (test (read_by p)) p.state d t a h u)

-- a word that may stand there
module _ (w : List ℕ) {p t : Parser} where
  pub eaten : {u : Unit {0}} → t.state ≡ state (p.state.next + 1) p.state.count p.state.items → t.out.now ≡ p.out.now → Same p t → is_word p.source.text.now w (peek (read_by p) p.state.next) ≡ true → Read (λ s. eat s w) p t (Ok u)
  eaten a o e h =
      let j : p.state.next + 1 ≡ ate (read_by p) w p.state.next = steps.ate_word (read_by p) w p.state.next (peek (read_by p) p.state.next) true refl (sym h) (p.state.next + 1) refl refl in
      moved e a o (steps.ate_read (read_by p) w p.state (p.state.next + 1) j)

pub not_eaten : (w : List ℕ) {p : Parser} {u : Unit {0}} → is_word p.source.text.now w (peek (read_by p) p.state.next) ≡ false → Read (λ s. eat s w) p p (Ok u)
not_eaten w {p = p} h =
    let j : p.state.next ≡ ate (read_by p) w p.state.next = steps.ate_nothing (read_by p) w p.state.next (peek (read_by p) p.state.next) false refl (sym h) refl in
    moved unmoved refl refl (steps.ate_read (read_by p) w p.state p.state.next j)

-- what is read by a reader that this parser's tokens give
pub here : (f : Input → Reader) {p p' : Parser} {r : Result (Unit {0}) Stop} → Read (λ _. f (read_by p)) p p' r → Read f p p' r
here f m = record { read = m.read; same = m.same }

-- ---- nodes

-- the children, read from where the node begins
pub children : (f : Input → Reader) (p p₁ p₂ : Parser) (r : Result (Unit {0}) Stop) → Begun p p₁ → Read f p₁ p₂ r → Chained (f (read_by p)) p₁.state p.out.now p₂.out.now (came_to r p₂.state)
children f p p₁ p₂ r b m =
    subst (λ (x : List ℕ). Chained (f (read_by p)) p₁.state x p₂.out.now (came_to r p₂.state)) b.unwritten
    (read_on f p.source p₁.source p₁.state p₁.out.now p₂.out.now (came_to r p₂.state) b.same.source m.read)

-- a head at a node's first token is the same by the parser that closes it
same_head : (kind flags : ℕ) (a b : Source) (n : State) (p q : Parser) → b ≡ a → ClosedBy (head kind flags (pos_at (seen b) n.next) 0 0) n p q → ClosedBy (head kind flags (pos_at (seen a) n.next) 0 0) n p q
same_head kind flags a b n p q e c = subst (λ (x : Source). ClosedBy (head kind flags (pos_at (seen x) n.next) 0 0) n p q) e c

module _ (kind : ℕ) {f : Input → Reader} {p p₁ p₂ : Parser} where
  -- a node over its children, by a head at its first token
  node_over : {flags : ℕ} {p₃ : Parser} {u v : Unit {0}} → Begun p p₁ → Read f p₁ p₂ (Ok u) → ClosedBy (head kind flags (pos_at (read_by p) p.state.next) 0 0) p.state p₂ p₃ → Read (λ s. parent s kind flags (f s)) p p₃ (Ok v)
  unfolding came_to
  node_over {flags = flags} {p₃ = p₃} {u = u} {v = v} b m c =
      record {
        read = met.node_read (read_by p) {kind = kind} {flags = flags} {f = f (read_by p)} {p = p.state} {q₀ = p₁.state} {q = p₂.state} {r = p₃.state} {l = p.out.now} {l₁ = p₂.out.now} {l₂ = p₃.out.now} c.closed b.inside (children f p p₁ p₂ (Ok u) b m);
        same = same_then (same_then b.same m.same) c.same;
      }

  -- closed at the position of its first token
  pub node_at : {flags : ℕ} {p₃ : Parser} {n : State} {u v : Unit {0}} → n ≡ p.state → Begun p p₁ → Read f p₁ p₂ (Ok u) → ClosedBy (head kind flags (pos_at (read_by p₂) n.next) 0 0) n p₂ p₃ → Read (λ s. parent s kind flags (f s)) p p₃ (Ok v)
  node_at {flags = flags} {p₃ = p₃} {n = n} z b m c =
      node_over b m (subst (λ (x : State). ClosedBy (head kind flags (pos_at (read_by p) x.next) 0 0) x p₂ p₃) z (same_head kind flags p.source p₂.source n p₂ p₃ (m.same.source ∙ b.same.source) c))

  -- closed by its first token
  pub node_of : {flags : ℕ} {p₃ : Parser} {n : State} {t : Token} {u v : Unit {0}} → t ≡ peek (read_by p) p.state.next → n ≡ p.state → Begun p p₁ → Read f p₁ p₂ (Ok u) → ClosedBy (head kind flags t.pos 0 0) n p₂ p₃ → Read (λ s. parent s kind flags (f s)) p p₃ (Ok v)
  node_of {flags = flags} {p₃ = p₃} {n = n} {t = t} a z b m c =
      node_over b m
      (subst (λ (x : State). ClosedBy (head kind flags (pos_at (read_by p) p.state.next) 0 0) x p₂ p₃) z
      (subst (λ (x : Token). ClosedBy (head kind flags x.pos 0 0) n p₂ p₃) a c))

  -- refused before it is closed
  pub node_stopped : (flags : ℕ) {d : Stop} → Begun p p₁ → Read f p₁ p₂ (Err d) → Read (λ s. parent s kind flags (f s)) p p₂ (Err d)
  unfolding came_to
  node_stopped flags {d = d} b m = record { read = met.node_stopped (read_by p) kind flags {f = f (read_by p)} {p = p.state} {q₀ = p₁.state} {d = d} {l = p.out.now} {l₁ = p₂.out.now} b.inside (children f p p₁ p₂ (Err d) b m); same = same_then b.same m.same }

  -- a node without a position
  pub bare_read : {p₃ : Parser} {n : State} {u v : Unit {0}} → n ≡ p.state → Begun p p₁ → Read f p₁ p₂ (Ok u) → ClosedBy (head kind 0 0 0 0) n p₂ p₃ → Read (λ s. bare kind (f s)) p p₃ (Ok v)
  unfolding came_to
  bare_read {p₃ = p₃} {n = n} {u = u} {v = v} z b m c =
      let k : ClosedBy (head kind 0 0 0 0) p.state p₂ p₃ = subst (λ (x : State). ClosedBy (head kind 0 0 0 0) x p₂ p₃) z c in
      record {
        read = met.bare_read {kind = kind} {f = f (read_by p)} {p = p.state} {q₀ = p₁.state} {q = p₂.state} {r = p₃.state} {l = p.out.now} {l₁ = p₂.out.now} {l₂ = p₃.out.now} k.closed b.inside (children f p p₁ p₂ (Ok u) b m);
        same = same_then (same_then b.same m.same) c.same;
      }

  pub bare_stopped : {d : Stop} → Begun p p₁ → Read f p₁ p₂ (Err d) → Read (λ s. bare kind (f s)) p p₂ (Err d)
  unfolding came_to
  bare_stopped {d = d} b m = record { read = met.bare_stopped kind {f = f (read_by p)} {p = p.state} {q₀ = p₁.state} {d = d} {l = p.out.now} {l₁ = p₂.out.now} b.inside (children f p p₁ p₂ (Err d) b m); same = same_then b.same m.same }

  -- a node whose flags go by the tokens
  pub flagged_read : (flags : Input → ℕ → ℕ) {x : ℕ} {p₃ : Parser} {n : State} {u v : Unit {0}} → x ≡ flags (read_by p) p.state.next → n ≡ p.state → Begun p p₁ → Read f p₁ p₂ (Ok u) → ClosedBy (head kind x (pos_at (read_by p₂) n.next) 0 0) n p₂ p₃ → Read (λ s. flagged s kind (flags s) (f s)) p p₃ (Ok v)
  unfolding came_to
  flagged_read flags {x = x} {p₃ = p₃} {n = n} {u = u} {v = v} y z b m c =
      let k : ClosedBy (head kind x (pos_at (read_by p) p.state.next) 0 0) p.state p₂ p₃ = subst (λ (w : State). ClosedBy (head kind x (pos_at (read_by p) w.next) 0 0) w p₂ p₃) z (same_head kind x p.source p₂.source n p₂ p₃ (m.same.source ∙ b.same.source) c) in
      record {
        read = met.flagged_read (read_by p) {kind = kind} {x = x} (flags (read_by p)) {f = f (read_by p)} {p = p.state} {q₀ = p₁.state} {q = p₂.state} {r = p₃.state} {l = p.out.now} {l₁ = p₂.out.now} {l₂ = p₃.out.now} k.closed y b.inside (children f p p₁ p₂ (Ok u) b m);
        same = same_then (same_then b.same m.same) c.same;
      }

  pub flagged_stopped : (flags : Input → ℕ → ℕ) {d : Stop} → Begun p p₁ → Read f p₁ p₂ (Err d) → Read (λ s. flagged s kind (flags s) (f s)) p p₂ (Err d)
  unfolding came_to
  flagged_stopped flags {d = d} b m = record { read = met.flagged_stopped (read_by p) kind (flags (read_by p)) {f = f (read_by p)} {p = p.state} {q₀ = p₁.state} {d = d} {l = p.out.now} {l₁ = p₂.out.now} b.inside (children f p p₁ p₂ (Err d) b m); same = same_then b.same m.same }

-- nothing
pub nothing_read : {p : Parser} {u : Unit {0}} → Read (λ _. nothing) p p (Ok u)
nothing_read {p = p} = stepped unmoved refl (met.nothing_read p.state p.out.now)

-- a node over nothing
pub empty_node : (kind : ℕ) {flags : ℕ} {p p₁ p₂ : Parser} {n : State} → n ≡ p.state → Begun p p₁ → ClosedBy (head kind flags (pos_at (read_by p₁) n.next) 0 0) n p₁ p₂ → Read (λ s. parent s kind flags nothing) p p₂ (Ok tt)
empty_node kind z b c = node_at kind z b (nothing_read {u = tt}) c

-- a leaf, by its token
pub leaf_read : (h : Token → Head) {p p' : Parser} {t : Token} {u : Unit {0}} → t ≡ peek (read_by p) p.state.next → LeafedBy (h t) p p' → Read (λ s. leaf s h) p p' (Ok u)
unfolding came_to
leaf_read h {p = p} {p' = p'} {t = t} {u = u} a c = record { read = met.leaf_read (read_by p) h {p = p.state} {r = p'.state} {l = p.out.now} {l' = p'.out.now} {t = t} a c.leafed; same = c.same }

-- ---- a choice by the next token, or by the one after it

module _ (test : Input → Token → Bool) {p p' : Parser} {r : Result (Unit {0}) Stop} {t : Token} {b : Bool} where
  pub next_yes : {f : Input → Reader} (g : Input → Reader) → t ≡ peek (read_by p) p.state.next → b ≡ test (read_by p) t → b ≡ true → Read f p p' r → Read (λ s. if_next s (test s) (f s) (g s)) p p' r
  next_yes {f = f} g a e c m = record { read = met.next_yes (read_by p) (test (read_by p)) (g (read_by p)) a e c m.read; same = m.same }

  pub next_no : (f : Input → Reader) {g : Input → Reader} → t ≡ peek (read_by p) p.state.next → b ≡ test (read_by p) t → b ≡ false → Read g p p' r → Read (λ s. if_next s (test s) (f s) (g s)) p p' r
  next_no f {g = g} a e c m = record { read = met.next_no (read_by p) (test (read_by p)) (f (read_by p)) a e c m.read; same = m.same }

  pub second_yes : {f : Input → Reader} (g : Input → Reader) → t ≡ peek (read_by p) (p.state.next + 1) → b ≡ test (read_by p) t → b ≡ true → Read f p p' r → Read (λ s. if_second s (test s) (f s) (g s)) p p' r
  second_yes {f = f} g a e c m = record { read = met.second_yes (read_by p) (test (read_by p)) (g (read_by p)) a e c m.read; same = m.same }

  pub second_no : (f : Input → Reader) {g : Input → Reader} → t ≡ peek (read_by p) (p.state.next + 1) → b ≡ test (read_by p) t → b ≡ false → Read g p p' r → Read (λ s. if_second s (test s) (f s) (g s)) p p' r
  second_no f {g = g} a e c m = record { read = met.second_no (read_by p) (test (read_by p)) (f (read_by p)) a e c m.read; same = m.same }

-- the same by the kind of the second token
module _ {x : ℕ} {p p' : Parser} {r : Result (Unit {0}) Stop} where
  pub second_at : {f : Input → Reader} (g : Input → Reader) → x ≡ (peek (read_by p) (p.state.next + 1)).kind → x ≡ 5 → Read f p p' r → Read (λ s. if_second s is_at (f s) (g s)) p p' r
  second_at {f = f} g e h m = record { read = met.second_at (read_by p) (g (read_by p)) e h m.read; same = m.same }

  pub second_not_at : (f : Input → Reader) {g : Input → Reader} → x ≡ (peek (read_by p) (p.state.next + 1)).kind → (x ≡ 5 → ⊥) → Read g p p' r → Read (λ s. if_second s is_at (f s) (g s)) p p' r
  second_not_at f {g = g} e h m = record { read = met.second_not_at (read_by p) (f (read_by p)) e h m.read; same = m.same }

-- ---- how far

-- a part that is bounded goes so far
pub bounded_went : (u c d : ℕ) {f : Input → Reader} {p p' : Parser} {r : Result (Unit {0}) Stop} → ((s : Input) → Bounded u c d s (f s)) → Read f p p' r → IfOk r (λ _. Went u c d p p')
unfolding came_to
bounded_went u c d {f = f} {p = p} {p' = p'} {r = r} b m = go r (met.bounded_within (b (read_by p)) m.read)
  where
    go : (x : Result (Unit {0}) Stop) → IfOk (came_to x p'.state) (Within u c d (read_by p) p.state) → IfOk x (λ _. Went u c d p p')
    go (Ok u) h = h
    go (Err d) h = tt

-- the same with no record to spare
pub bounded_on : {f : Input → Reader} {p p' : Parser} {r : Result (Unit {0}) Stop} → ((s : Input) → Bounded 1 1 0 s (f s)) → Read f p p' r → IfOk r (λ _. Went 1 0 0 p p')
bounded_on {f = f} b m = bounded_went 1 0 0 (λ s. less_bounded 1 1 0 1 0 0 s (f s) (omega arith) (omega arith) (b s)) m

-- a token further
pub token_on : {s : Input} {p q : State} → q ≡ state (p.next + 1) p.count p.items → p.next < size s → Within 0 0 0 s p q
token_on e h = rw e (record { on = omega arith; inside = λ z. omega arith; room = omega arith; kids = omega arith })

-- a row whose items do not depend on how many stand before
pub plain_row : (stop : Input → ℕ → Bool) (f : Input → Reader) {p p' : Parser} {r : Result (Unit {0}) Stop} → ReadAt (λ s. many_at (size s) (stop s) (λ _. f s)) p p' r → Read (λ s. many (size s) (stop s) (f s)) p p' r
plain_row stop f {p = p} {p' = p'} {r = r} m = record { read = rows.plain_row (read_by p) (stop (read_by p)) (f (read_by p)) m.read; same = m.same }

-- ---- names

-- a step with the same tokens and the same output
pub kept : {p t : Parser} → t.source ≡ p.source → t.out.ghost_name ≡ p.out.ghost_name → Same p t
kept a b = record { source = a; loan = b }

module _ (judge : List ℕ → ℕ) (range : ℕ → ℕ) {p : Parser} where
  pub by_name : {p' : Parser} {r : Result (Unit {0}) Stop} (t : Token) → t ≡ peek (read_by p) p.state.next → is_symbol t ≡ true → Read (λ s. ident_at t.pos (range t.word1) (judge (spelled s.text t.word1))) p p' r → Read (λ s. name_by s judge range) p p' r
  by_name {p' = p'} {r = r} t a v m = record { read = names.by_name (read_by p) judge range p.state t p.out.now p'.out.now (came_to r p'.state) a v m.read.met; same = m.same }

  pub by_other : (d : Stop) (r : Result (Unit {0}) Stop) → IsErr r × IsErrAnd r (λ e. e ≡ d) → SymbolAt (read_by p) p.state (Err d) → Read (λ s. name_by s judge range) p p r
  unfolding name_by Met SymbolAt
  by_other d r h m = exit h (refused unmoved (record { met = rw m.1 m.0 }))

-- an identifier, and its refusal told with another number
module _ (code : ℕ) {p : Parser} where
  pub name_as : {p' : Parser} {u : Unit {0}} (t : Token) → t ≡ peek (read_by p) p.state.next → is_symbol t ≡ true → Read (λ s. ident_at t.pos t.word1 (ident_refusal (spelled s.text t.word1))) p p' (Ok u) → ReadAs (λ s. name_by s (refused_as code) (λ w. w)) p p' (Ok u)
  unfolding ReadAs came_to
  name_as {p' = p'} {u = u} t a v m =
      by_name (refused_as code) (λ w. w) t a v
      (record {
        read = record { met = names.other_kept code t.pos t.word1 p.state.next p.state.count p.state.items (spelled p.source.text.now t.word1) p.out.now p'.out.now p'.state m.read.met };
        same = m.same;
      })

  pub name_refused_as : {p' : Parser} {d : Stop} (t : Token) → 0 < code → t ≡ peek (read_by p) p.state.next → is_symbol t ≡ true → Read (λ s. ident_at t.pos t.word1 (ident_refusal (spelled s.text t.word1))) p p' (Err d) → ReadAs (λ s. name_by s (refused_as code) (λ w. w)) p p' (Err (record { code = code; place = d.place; taken = d.taken }))
  unfolding ReadAs came_to name_by
  name_refused_as {p' = p'} {d = d} t z a v m = (rw (← a, v) (names.other_refused code t.pos t.word1 p.state.next p.state.count p.state.items (spelled p.source.text.now t.word1) p.out.now p'.out.now d z m.read.met), m.same)

pub other_as : (code : ℕ) (p : Parser) (d : Stop) (r : Result (Unit {0}) Refusal) → IsErr r × IsErrAnd r (λ e. told_as e ≡ told d) → SymbolAt (read_by p) p.state (Err d) → ReadAs (λ s. name_by s (refused_as code) (λ w. w)) p p r
unfolding ReadAs name_by SymbolAt
other_as code p d r h m = let e = err_from_is_err_and r h.1 in rw e.1 (rw m.1 (ap refuse (sym (e.2 ∙ m.0))), unmoved)

-- ---- the next token, further on

-- where a node begins, its first token is next
pub next_begun : {p p₁ : Parser} {t : Token} → Begun p p₁ → t ≡ peek (read_by p) p.state.next → t ≡ peek (read_by p₁) p₁.state.next
next_begun {p = p} {p₁ = p₁} {t = t} b a = a ∙ sym (ap (λ (x : State). peek (read_by p) x.next) b.inside) ∙ sym (ap (λ (x : Source). peek (seen x) p₁.state.next) b.same.source)

-- a token that is passed is one
pub passed_next : (test : Input → Token → Bool) {p p₁ : Parser} {u : Unit {0}} → Read (λ s. expect_at s.tokens s.end (test s)) p p₁ (Ok u) → p₁.state.next ≡ p.state.next + 1
unfolding expect_at Met came_to
passed_next test {p = p} {p₁ = p₁} m = go (test (read_by p) (peek (read_by p) p.state.next)) m.read.met
  where
    go : (b : Bool) → Met (choose b (λ _. accept ∅ (p.state.next + 1)) (λ _. refuse (unexpected (peek (read_by p) p.state.next) p.state.next))) p.state.count p.state.items p.out.now p₁.out.now (Ok p₁.state) → p₁.state.next ≡ p.state.next + 1
    go true h = h.ends
    go false h = absurd h

-- behind a token that is passed, the second one is next
pub second_next : (test : Input → Token → Bool) {p p₁ : Parser} {u : Unit {0}} {t : Token} → t ≡ peek (read_by p) (p.state.next + 1) → Read (λ s. expect_at s.tokens s.end (test s)) p p₁ (Ok u) → t ≡ peek (read_by p₁) p₁.state.next
second_next test {p = p} {p₁ = p₁} a m = a ∙ ap (peek (read_by p)) (sym (passed_next test m)) ∙ sym (ap (λ (x : Source). peek (seen x) p₁.state.next) m.same.source)

-- ---- a loop over the items of a row

-- what is read so far, and that it may go on
pub record Turning (stop : Input → ℕ → Bool) (f : Input → ℕ → Reader) (p q : Parser) : Type 0 where
  pub going : rows.Going (read_by p) (stop (read_by p)) (f (read_by p)) p.state p.out.now q.state q.out.now
  pub ready : Begins 4 q
  pub within : Went 0 0 0 p q
  pub same : Same p q

pub turning_start : {stop : Input → ℕ → Bool} {f : Input → ℕ → Reader} {p : Parser} → Begins 4 p → Turning stop f p p
turning_start h = record { going = rows.going_start _ _ _ _ _; ready = h; within = record { on = omega arith; inside = λ z. z; room = omega arith; kids = omega arith }; same = unmoved }

module _ {stop : Input → ℕ → Bool} {f : Input → ℕ → Reader} {p q : Parser} (i : Turning stop f p q) where
  stops : {b : Bool} → stop (read_by q) q.state.next ≡ b → stop (read_by p) q.state.next ≡ b
  stops h = ap (λ (x : Source). stop (seen x) q.state.next) (sym i.same.source) ∙ h

  item : {q₂ : Parser} {r : Result (Unit {0}) Stop} → ReadAt f q q₂ r → Chained (f (read_by p) q.state.items) q.state q.out.now q₂.out.now (came_to r q₂.state)
  item {q₂ = q₂} {r = r} m = read_on (λ s. f s q.state.items) p.source q.source q.state q.out.now q₂.out.now (came_to r q₂.state) i.same.source m.read

  pub turning_on : {c : ℕ} {q₂ : Parser} {u : Unit {0}} → stop (read_by q) q.state.next ≡ false → ReadAt f q q₂ (Ok u) → Went 1 c 0 q q₂ → Turning stop f p q₂
  unfolding came_to
  turning_on {c = c} {q₂ = q₂} {u = u} t m v =
      let w : Within 1 c 0 (read_by p) q.state q₂.state = subst (λ (x : Source). Within 1 c 0 (seen x) q.state q₂.state) i.same.source v in
      let a : Ready 4 (read_by p) q.state = subst (λ (x : Source). Ready 4 (seen x) q.state) i.same.source i.ready in
      record {
        going = rows.going_on i.going (stops t) (met.from_start i.within) (met.further w) (met.still_inside w a.here) (item m);
        ready = subst (λ (x : Source). Ready 4 (seen x) q₂.state) (sym (m.same.source ∙ i.same.source)) (met.ready_on w a);
        within = met.within_on w i.within;
        same = same_then i.same m.same;
      }

  pub turning_stop : {q₂ : Parser} {d : Stop} → stop (read_by q) q.state.next ≡ false → ReadAt f q q₂ (Err d) → ReadAt (λ s. many_at (size s) (stop s) (f s)) p q₂ (Err d)
  unfolding came_to
  turning_stop {q₂ = q₂} {d = d} t m = record { read = rows.going_stop i.going (stops t) (item m); same = same_then i.same m.same }

  pub turning_end : {u : Unit {0}} → stop (read_by q) q.state.next ≡ true → ReadAt (λ s. many_at (size s) (stop s) (f s)) p q (Ok u)
  unfolding came_to
  turning_end t = record { read = rows.going_end i.going (stops t); same = i.same }
