-- Rules: their name, their priority, their flags, and how far they read. Assumes nothing.
use Prim.Native.Nat.{ℕ, ◌+◌, ◌*◌, ◌<◌, ◌≤◌}
use native.Mathlib.Omega.{arith}
use native.Mathlib.Nat.{add-zero}
use mathlib.Core.Path.{◌≡◌, refl, sym, ap, subst, ◌∙◌}
use mathlib.Core.List.{List}
use mathlib.Core.Bool.{Bool, true, false}
use lib.Dec.{eqb}
use mir.Val.{bool_byte}
use borrow.Author.Tests.{lt-ltb, le-ltb}
use Rattle.trees.specs.Choice.{pick}
use Rattle.trees.specs.Tree.{node, ∅, ◌▸◌, head}
use Rattle.trees.specs.declared.Head.{Head}
use Rattle.trees.specs.Ast.{kind_rule, kind_priority, flag}
use Rattle.trees.proofs.Laws.{size_none, size-one, size-node}
use Rattle.tokens.specs.declared.Token.{Token}
use Rattle.tokens.specs.Token.{is_symbol, is_int, is_refused}
use Rattle.tokens.specs.Input.{Input, peek, pos_at, size}
use Rattle.steps.specs.Outcome.{accept, refuse, refusal, ◌⊳◌, nothing, refuse_after, if_second, many, name_by, refused_as}
use Rattle.std.specs.Prelude.{Result, Ok, Err}
use Rattle.steps.specs.declared.Parser.{Parser}
use Rattle.steps.specs.declared.Source.{Source}
use Rattle.steps.specs.declared.State.{State}
use Rattle.steps.specs.declared.Stop.{Stop}
use Rattle.steps.specs.Sizes.{Sized, Bounded}
use Rattle.steps.specs.Met.{seen, Met, Chained, Leafed}
use Rattle.steps.specs.Read.{read_by, came_to, Read, Begun}
use Rattle.records.specs.declared.Ground.TheVariants.{Priority}
use Rattle.steps.proofs.MetLaws.{begun, leaf_met}
use Rattle.steps.proofs.SizeLaws.{Steady, steady, sized-accept, sized-refuse, sized-choose, then_bounded, flagged-bounded, next-bounded, second-bounded, after-bounded, nothing-bounded, other-bounded, met_there, int_kinded}
use Rattle.patterns.specs.Pattern.{parse_pattern}
use Rattle.patterns.proofs.PatternLaws.{pattern-bounded}
use Rattle.exprs.specs.Expr.{parse_iflet_or_expr, no_iflet}
use Rattle.exprs.proofs.IfletLaws.{iflets_steady, either_bounded}
use Rattle.parser.specs.Defs.{rule_name, is_i64, rule_priority, rule_flags, rule_parts, parse_rule}

-- ---- integers

pub i64_low : (upper lower : ℕ) → lower < 9223372036854775808 → eqb upper 0 ≡ is_i64 upper lower
unfolding is_i64
i64_low upper lower h = rw (lt-ltb lower 9223372036854775808 h)

pub i64_high : (upper lower : ℕ) → 9223372036854775808 ≤ lower → eqb upper 18446744073709551615 ≡ is_i64 upper lower
unfolding is_i64
i64_high upper lower h = rw (le-ltb lower 9223372036854775808 h)

-- ---- a refusal at a place

-- ---- the priority

module _ (s : Input) (place : ℕ) {p : State} (t : Token) (a : Bool) (x : t ≡ peek s p.next) (y : a ≡ is_int t) where
  pub priority_none : {l : List ℕ} → a ≡ false → Chained (rule_priority s place) p l l (Ok p)
  unfolding rule_priority
  priority_none {l = l} z = record { met = rw (← x, ← y, z) (begun p.next p.count p.items l) }

  module _ (b : Bool) (z : a ≡ true) (u : b ≡ is_i64 t.word1 t.word2) where
    pub priority_refused : {l : List ℕ} {j : ℕ} → b ≡ false → j ≡ p.next + 1 → Chained (rule_priority s place) p l l (Err (record { why = Priority; place = place; taken = j }))
    unfolding rule_priority Met
    priority_refused v e = record { met = rw (← x, ← y, z, ← u, v, e) refl }

    pub priority_read : {l l' : List ℕ} {r : State} → b ≡ true → Leafed (head kind_priority 0 0 t.word2 0) p l l' r → Chained (rule_priority s place) p l l' (Ok r)
    unfolding rule_priority
    priority_read v m = record { met = rw (← x, ← y, z, ← u, v) (leaf_met m) }

-- ---- the flags

module _ (s : Input) (i : ℕ) (t : Token) (a : Bool) (x : t ≡ peek s i) (y : a ≡ is_symbol t) where
  pub named_flags : (u : Token) (b : Bool) → a ≡ true → u ≡ peek s (i + 1) → b ≡ is_int u → 1 + 2 * bool_byte b ≡ rule_flags s i
  unfolding rule_flags
  named_flags u b z v w = rw (← x, ← y, z, ← v, ← w) (go b)
    where
      go : (k : Bool) → 1 + 2 * bool_byte k ≡ 1 + flag k 2
      go true = refl
      go false = refl

  pub unnamed_flags : (b : Bool) → a ≡ false → b ≡ is_int t → 2 * bool_byte b ≡ rule_flags s i
  unfolding rule_flags
  unnamed_flags b z w = rw (← x, ← y, z, add-zero, ← x, ← w) (go b)
    where
      go : (k : Bool) → 2 * bool_byte k ≡ 0 + flag k 2
      go true = refl
      go false = refl

-- ---- how far

priority-sized : (s : Input) (i place : ℕ) (h : Head) (b : Bool) → i < size s → Sized 0 0 0 s i (pick b (accept (node h ∅ ▸ ∅) (i + 1)) (refuse (refusal 24 place (i + 1))))
priority-sized s i place h true l = sized-accept 0 0 0 s i (node h ∅ ▸ ∅) (i + 1) (record { on = omega arith; inside = λ z. omega arith; room = omega (arith, size-one (node h ∅), size-node h ∅, size_none) })
priority-sized s i place h false l = sized-refuse 0 0 0 s i (refusal 24 place (i + 1))

module _ (s : Input) where
  pub name-bounded : Bounded 0 0 0 s (rule_name s)
  unfolding rule_name
  name-bounded =
      next-bounded 0 0 0 s is_symbol (if_second s is_refused (refuse_after s 3 23) (name_by s (refused_as 23) (λ w. w))) nothing
      (second-bounded 0 0 0 s is_refused (refuse_after s 3 23) (name_by s (refused_as 23) (λ w. w)) (after-bounded 0 0 0 s 3 23) (steady 1 2 s (name_by s (refused_as 23) (λ w. w)) (other-bounded s 23))) (nothing-bounded s)

  pub rule_name_steady : Steady s (rule_name s)
  rule_name_steady = name-bounded

  pub priority-bounded : (place : ℕ) → Bounded 0 0 0 s (rule_priority s place)
  unfolding rule_priority
  priority-bounded place =
      record {
        sized = λ i.
            let h = head kind_priority 0 0 (peek s i).word2 0 in
            sized-choose 0 0 0 s i (is_int (peek s i))
            (λ _. pick (is_i64 (peek s i).word1 (peek s i).word2) (accept (node h ∅ ▸ ∅) (i + 1)) (refuse (refusal 24 place (i + 1)))) (λ _. accept ∅ i)
            (λ e. priority-sized s i place h (is_i64 (peek s i).word1 (peek s i).word2) (met_there s i is_int int_kinded e))
            (λ e. sized-accept 0 0 0 s i ∅ i (record { on = omega arith; inside = λ z. z; room = omega (arith, size_none) }));
      }

  pub head-bounded : (place : ℕ) → Bounded 0 0 0 s (rule_name s ⊳ rule_priority s place)
  head-bounded place = then_bounded 0 0 0 0 0 0 s (rule_name s) (rule_priority s place) name-bounded (priority-bounded place)

  pub rule_head_steady : (place : ℕ) → Steady s (rule_name s ⊳ rule_priority s place)
  rule_head_steady place = head-bounded place

  pub parts_bounded : (place : ℕ) → Bounded 2 2 0 s (rule_parts s place)
  unfolding rule_parts
  parts_bounded place =
      then_bounded 1 1 0 1 1 0 s (rule_name s ⊳ rule_priority s place ⊳ parse_pattern s 64 ⊳ many (size s) (no_iflet s) (parse_iflet_or_expr s)) (parse_iflet_or_expr s)
      (then_bounded 1 1 0 0 0 0 s (rule_name s ⊳ rule_priority s place ⊳ parse_pattern s 64) (many (size s) (no_iflet s) (parse_iflet_or_expr s))
      (then_bounded 0 0 0 1 1 0 s (rule_name s ⊳ rule_priority s place) (parse_pattern s 64) (head-bounded place) (pattern-bounded s 64)) (iflets_steady s)) (either_bounded s)

  pub rule_parts_steady : (place : ℕ) → Steady s (rule_parts s place)
  rule_parts_steady place = steady 2 2 s (rule_parts s place) (parts_bounded place)

  pub rule-bounded : Bounded 1 1 0 s (parse_rule s)
  unfolding parse_rule
  rule-bounded =
      flagged-bounded 2 2 0 1 1 0 s kind_rule (rule_flags s) (λ i. rule_parts s (pos_at s i) i) (omega arith) (omega arith)
      (record { sized = λ i. (parts_bounded (pos_at s i)).sized i })

-- ---- the rule

pub parts_at : (x : ℕ) {p p₁ p₂ : Parser} {r : Result (Unit {0}) Stop} → x ≡ pos_at (read_by p) p.state.next → Begun p p₁ → Read (λ s. rule_parts s x) p₁ p₂ r → Read (λ s i. rule_parts s (pos_at s i) i) p₁ p₂ r
parts_at x {p = p} {p₁ = p₁} {p₂ = p₂} {r = r} e b m =
    let here : x ≡ pos_at (read_by p₁) p₁.state.next = e ∙ ap (λ (y : State). pos_at (read_by p) y.next) (sym b.inside) ∙ ap (λ (y : Source). pos_at (seen y) p₁.state.next) (sym b.same.source) in
    record { read = record { met = subst (λ (y : ℕ). Met (rule_parts (read_by p₁) y p₁.state.next) p₁.state.count p₁.state.items p₁.out.now p₂.out.now (came_to r p₂.state)) here m.read.met }; same = m.same }
