-- Laws of single steps, one for each way through their code. Assumes nothing.
use Prim.Native.Nat.{ℕ, ◌+◌, ◌-◌, ◌<◌}
use native.Mathlib.Omega.{arith}
use mathlib.Core.Path.{◌≡◌, refl, sym, ap, ◌∙◌}
use mathlib.Core.List.{List, []}
use mathlib.Core.Bool.{Bool, true, false}
use mir.Val.{bool_byte}
use borrow.Author.Tests.{eq-eqb, ne_eqb}
use Rattle.std.specs.Prelude.{Ok, Err}
use Rattle.trees.specs.Choice.{pick, choose}
use Rattle.trees.specs.Tree.{∅}
use Rattle.records.specs.declared.Ground.{Ground}
use Rattle.records.specs.Grounds.{number}
use Rattle.tokens.specs.declared.Token.{Token}
use Rattle.tokens.specs.Token.{token_at, kind_at, is_kind, is_word}
use Rattle.tokens.specs.Input.{Input, peek, size}
use Rattle.tokens.proofs.TokenLaws.{kind-is}
use Rattle.steps.specs.declared.State.{State}
use Rattle.steps.specs.declared.Stop.{Stop}
use Rattle.steps.specs.Outcome.{accept, refuse, refusal, refuse_from, ate, eat, refuse_after, unexpected, expect_at}
use Rattle.steps.specs.Met.{told, state, Met, Moved, Within}
use Rattle.steps.proofs.MetLaws.{begun, bounded_within}
use Rattle.steps.proofs.SizeLaws.{eat_steady}

-- ---- tokens expected

pub end_unexpected : (t : Token) (i : ℕ) → t.kind ≡ 0 → refusal 11 t.pos i ≡ unexpected t i
unfolding unexpected
end_unexpected t i e = rw (eq-eqb t.kind 0 e)

pub token_unexpected : (t : Token) (i : ℕ) → (t.kind ≡ 0 → ⊥) → refusal 10 t.pos i ≡ unexpected t i
unfolding unexpected
token_unexpected t i e = rw (ne_eqb t.kind 0 e)

module _ (tokens : List ℕ) (end : ℕ) (test : Token → Bool) (p : State) where
  pub passed : (q : State) → q ≡ state (p.next + 1) p.count p.items → test (token_at tokens end p.next) ≡ true → Moved (expect_at tokens end test) p (Ok q)
  unfolding expect_at
  passed q h e = record { same = λ l. record { met = rw (e, h) (begun (p.next + 1) p.count p.items l) } }

  pub not_passed : (d : Stop) (t : Token) → t ≡ token_at tokens end p.next → test (token_at tokens end p.next) ≡ false → told d ≡ unexpected t p.next → Moved (expect_at tokens end test) p (Err d)
  unfolding expect_at Met
  not_passed d t h e u = record { same = λ l. record { met = rw (e, ← h) u } }

-- by the kind alone
module _ (tokens : List ℕ) (end kind x i : ℕ) where
  pub kind_yes : x ≡ kind_at tokens i → x ≡ kind → is_kind kind (token_at tokens end i) ≡ true
  unfolding is_kind
  kind_yes a b = eq-eqb (token_at tokens end i).kind kind (sym (kind-is tokens end i) ∙ sym a ∙ b)

  pub kind_no : x ≡ kind_at tokens i → (x ≡ kind → ⊥) → is_kind kind (token_at tokens end i) ≡ false
  unfolding is_kind
  kind_no a b = ne_eqb (token_at tokens end i).kind kind (λ g. b (a ∙ kind-is tokens end i ∙ g))

-- what a test of the token t has told
pub tested : (tokens : List ℕ) (end i : ℕ) (test : Token → Bool) (t : Token) (b v : Bool) → t ≡ token_at tokens end i → b ≡ test t → b ≡ v → test (token_at tokens end i) ≡ v
tested tokens end i test t b v a e c = rw (← a, ← e) c

-- ---- refusals

pub refused_here : (tokens : List ℕ) (end : ℕ) (why : Ground) (p : State) (x : ℕ) → x ≡ (token_at tokens end p.next).pos → Moved (refuse_from tokens end (number why)) p (Err (record { why = why; place = x; taken = p.next }))
unfolding refuse_from Met
refused_here tokens end why p x e = record { same = λ l. record { met = rw e refl } }

module _ (s : Input) (kind : ℕ) (why : Ground) (p : State) (t : Token) (e : t ≡ peek s p.next) where
  pub refused_after : (x : ℕ) → t.kind ≡ kind → x ≡ p.next + 1 → Moved (refuse_after s kind (number why)) p (Err (record { why = why; place = t.pos; taken = x }))
  unfolding refuse_after Met
  refused_after x h a = record { same = λ l. record { met = rw (← e, eq-eqb t.kind kind h) (ap (λ (y : ℕ). refusal (number why) t.pos y) a ∙ ap (λ (u : Token). refusal (number why) u.pos (p.next + 1)) e) } }

  pub refused_other : (d : Stop) → (t.kind ≡ kind → ⊥) → told d ≡ unexpected t p.next → Moved (refuse_after s kind (number why)) p (Err d)
  unfolding refuse_after Met
  refused_other d h a = record { same = λ l. record { met = rw (← e, ne_eqb t.kind kind h) a } }

-- ---- words that may stand there

module _ (s : Input) (w : List ℕ) (i : ℕ) (t : Token) (b : Bool) (a : t ≡ peek s i) (e : b ≡ is_word s.text w t) where
  pub ate_word : (j : ℕ) → b ≡ true → j ≡ i + 1 → j ≡ ate s w i
  unfolding ate
  ate_word j c f = rw (f, ← a, ← e, c)

  pub ate_nothing : b ≡ false → i ≡ ate s w i
  unfolding ate
  ate_nothing c = rw (← a, ← e, c)

  -- the flag of the word
  pub ate_flag : bool_byte b ≡ ate s w i - i
  unfolding ate
  ate_flag = rw (← a, ← e) (go b)
    where
      go : (v : Bool) → bool_byte v ≡ pick v (i + 1) i - i
      go true = omega arith
      go false = omega arith

pub ate_read : (s : Input) (w : List ℕ) (p : State) (x : ℕ) → x ≡ ate s w p.next → Moved (eat s w) p (Ok (state x p.count p.items))
unfolding eat
ate_read s w p x e = record { same = λ l. record { met = rw e (begun (ate s w p.next) p.count p.items l) } }

pub ate_within : (s : Input) (w : List ℕ) (p : State) (x : ℕ) → x ≡ ate s w p.next → Within 0 0 0 s p (state x p.count p.items)
ate_within s w p x e = bounded_within (eat_steady s w) ((ate_read s w p x e).same [])

-- the kind of a token after another
pub kind_second : (tokens : List ℕ) (end i j x : ℕ) → x ≡ kind_at tokens j → j ≡ i + 1 → x ≡ (token_at tokens end (i + 1)).kind
kind_second tokens end i j x a e = a ∙ rw e (kind-is tokens end (i + 1))

-- a token further
pub step_within : (s : Input) (p q : State) → q ≡ state (p.next + 1) p.count p.items → p.next < size s → Within 1 3 0 s p q
step_within s p q e h = rw e (record { on = omega arith; inside = λ z. omega arith; room = omega arith; kids = omega arith })

-- a token passed is one token
pub passed_next : (tokens : List ℕ) (end : ℕ) (test : Token → Bool) (p q : State) → Moved (expect_at tokens end test) p (Ok q) → q.next ≡ p.next + 1
unfolding expect_at Met
passed_next tokens end test p q m = go (test (token_at tokens end p.next)) (m.same []).met
  where
    go : (b : Bool) → Met (choose b (λ _. accept ∅ (p.next + 1)) (λ _. refuse (unexpected (token_at tokens end p.next) p.next))) p.count p.items [] [] (Ok q) → q.next ≡ p.next + 1
    go true h = h.ends
    go false h = absurd h

pub second_is_next : (s : Input) (p q : State) (u : Token) → u ≡ peek s (p.next + 1) → q.next ≡ p.next + 1 → u ≡ peek s q.next
second_is_next s p q u a e = a ∙ ap (peek s) (sym e)

-- what a token's kind tells
module _ (t : Token) (kind x : ℕ) (a : x ≡ t.kind) where
  pub is_kind_yes : x ≡ kind → is_kind kind t ≡ true
  unfolding is_kind
  is_kind_yes b = eq-eqb t.kind kind (sym a ∙ b)

  pub is_kind_no : (x ≡ kind → ⊥) → is_kind kind t ≡ false
  unfolding is_kind
  is_kind_no b = ne_eqb t.kind kind (λ g. b (a ∙ g))

-- what a test of the token t has told of the one that it is
pub told_by : (test : Token → Bool) (u t : Token) (b v : Bool) → t ≡ u → b ≡ test t → b ≡ v → test u ≡ v
told_by test u t b v a e c = rw (← a, ← e) c
