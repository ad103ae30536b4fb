-- A type's modifiers: how far they reach, and one law for each way through the code. Assumes nothing.
use Prim.Native.Nat.{ℕ, zero, suc, ◌+◌, ◌<◌, ◌≤◌}
use native.Mathlib.Omega.{arith}
use mathlib.Core.Path.{◌≡◌, refl, sym, ap, subst, ◌∙◌}
use mathlib.Core.Bool.{Bool, true, false}
use Rattle.trees.specs.Choice.{choose}
use Rattle.trees.specs.Tree.{∅}
use Rattle.trees.proofs.Laws.{size_none}
use Rattle.tokens.specs.declared.Token.{Token}
use Rattle.tokens.specs.Token.{is_symbol, is_word}
use Rattle.tokens.specs.Input.{Input, peek, pos_at, size}
use Rattle.steps.specs.Keywords.{word_extern, word_nodebug}
use Rattle.steps.specs.Outcome.{accept, refuse, refusal}
use Rattle.std.specs.Prelude.{Result, Ok, Err, Option, Some, None}
use Rattle.steps.specs.declared.Parser.{Parser}
use Rattle.steps.specs.declared.Source.{Source}
use Rattle.steps.specs.declared.State.{State}
use Rattle.steps.specs.declared.Stop.{Stop}
use Rattle.steps.specs.Met.{seen, state, Met}
use Rattle.steps.specs.Read.{read_by, came_to, Same, Read}
use Rattle.records.specs.declared.Ground.TheVariants.{TypeModifier}
use Rattle.steps.proofs.MetLaws.{begun}
use Rattle.steps.proofs.ReadLaws.{same_then, unmoved, moved, refused_here}
use Rattle.steps.proofs.SizeLaws.{Steady, sized-accept, sized-refuse, sized-choose, met_there, word_kinded}
use Rattle.parser.specs.Types.{modifier_flags, modifiers_end, parse_modifiers}
use Rattle.parser.specs.declared.types.Modifiers.{Modifiers}
use Rattle.parser.specs.Modified.{external_of, nodebug_of, flags_of, Turned, TurnedTo, Modified, no_modifier}

-- ---- how far

pub record Reach (s : Input) (i j : ℕ) : Type 0 where
  pub on : i ≤ j
  pub inside : i ≤ size s → j ≤ size s

reach-choose : (s : Input) (i : ℕ) (b : Bool) (x y : Unit {0} → ℕ) → (b ≡ true → Reach s i (x tt)) → (b ≡ false → Reach s i (y tt)) → Reach s i (choose b x y)
reach-choose s i true x y p q = p refl
reach-choose s i false x y p q = q refl

one_on : (s : Input) (i j : ℕ) → i < size s → Reach s (i + 1) j → Reach s i j
one_on s i j h r = record { on = omega (arith, r.on); inside = λ z. r.inside (omega arith) }

pub end-reach : (s : Input) (f i : ℕ) → Reach s i (modifiers_end s f i)
unfolding modifiers_end
end-reach s zero i = record { on = omega arith; inside = λ z. z }
end-reach s (suc f) i =
    reach-choose s i (is_word s.text word_extern (peek s i)) (λ _. modifiers_end s f (i + 1))
    (λ _. choose (is_word s.text word_nodebug (peek s i)) (λ _. modifiers_end s f (i + 1)) (λ _. i))
    (λ e. one_on s i (modifiers_end s f (i + 1)) (met_there s i (is_word s.text word_extern) (word_kinded s.text word_extern) e) (end-reach s f (i + 1)))
    (λ e. reach-choose s i (is_word s.text word_nodebug (peek s i)) (λ _. modifiers_end s f (i + 1)) (λ _. i)
    (λ g. one_on s i (modifiers_end s f (i + 1)) (met_there s i (is_word s.text word_nodebug) (word_kinded s.text word_nodebug) g) (end-reach s f (i + 1)))
    (λ g. record { on = omega arith; inside = λ z. z }))

pub modifiers_steady : (s : Input) → Steady s (parse_modifiers s)
unfolding parse_modifiers
modifiers_steady s =
    record {
      sized = λ i.
          let j = modifiers_end s (size s) i in
          sized-choose 0 0 0 s i (is_symbol (peek s j)) (λ _. refuse (refusal 18 (pos_at s (j + 1)) (j + 1))) (λ _. accept ∅ j)
          (λ e. sized-refuse 0 0 0 s i (refusal 18 (pos_at s (j + 1)) (j + 1)))
          (λ e. let r = end-reach s (size s) i in sized-accept 0 0 0 s i ∅ j (record { on = omega (arith, r.on); inside = r.inside; room = omega (arith, size_none, r.on) }));
    }

-- ---- one turn

module _ (s : Input) (e n i f : ℕ) where
  flags_extern : is_word s.text word_extern (peek s i) ≡ true → modifier_flags s (suc f) e n i ≡ modifier_flags s f 1 n (i + 1)
  unfolding modifier_flags
  flags_extern x = rw x

  flags_nodebug : is_word s.text word_extern (peek s i) ≡ false → is_word s.text word_nodebug (peek s i) ≡ true → modifier_flags s (suc f) e n i ≡ modifier_flags s f e 2 (i + 1)
  unfolding modifier_flags
  flags_nodebug x y = rw (x, y)

  flags-none : is_word s.text word_extern (peek s i) ≡ false → is_word s.text word_nodebug (peek s i) ≡ false → modifier_flags s (suc f) e n i ≡ e + n
  unfolding modifier_flags
  flags-none x y = rw (x, y)

module _ (s : Input) (i f : ℕ) where
  ends_extern : is_word s.text word_extern (peek s i) ≡ true → modifiers_end s (suc f) i ≡ modifiers_end s f (i + 1)
  unfolding modifiers_end
  ends_extern x = rw x

  ends_nodebug : is_word s.text word_extern (peek s i) ≡ false → is_word s.text word_nodebug (peek s i) ≡ true → modifiers_end s (suc f) i ≡ modifiers_end s f (i + 1)
  unfolding modifiers_end
  ends_nodebug x y = rw (x, y)

  ends-none : is_word s.text word_extern (peek s i) ≡ false → is_word s.text word_nodebug (peek s i) ≡ false → modifiers_end s (suc f) i ≡ i
  unfolding modifiers_end
  ends-none x y = rw (x, y)

flags-zero : (s : Input) (e n i : ℕ) → modifier_flags s zero e n i ≡ e + n
unfolding modifier_flags
flags-zero s e n i = refl

ends-zero : (s : Input) (i : ℕ) → modifiers_end s zero i ≡ i
unfolding modifiers_end
ends-zero s i = refl

module _ (s : Input) (i : ℕ) (m : Modifiers) (t : Token) (r : Bool) (a : t ≡ peek s i) (p : r ≡ is_word s.text word_extern t) where
  is_extern : {v : Bool} → r ≡ v → is_word s.text word_extern (peek s i) ≡ v
  is_extern q = ap (is_word s.text word_extern) (sym a) ∙ sym p ∙ q

  is_nodebug : {z v : Bool} → z ≡ is_word s.text word_nodebug t → z ≡ v → is_word s.text word_nodebug (peek s i) ≡ v
  is_nodebug u q = ap (is_word s.text word_nodebug) (sym a) ∙ sym u ∙ q

  pub turned_extern : r ≡ true → TurnedTo s m i (Some (record { external = true; nodebug = m.nodebug }))
  unfolding TurnedTo
  turned_extern q = (
    record { flags = λ f. flags_extern s (external_of m) (nodebug_of m) i f (is_extern q); ends = λ f. ends_extern s i f (is_extern q) },
    met_there s i (is_word s.text word_extern) (word_kinded s.text word_extern) (is_extern q),
  )

  pub turned_nodebug : (z : Bool) → r ≡ false → z ≡ is_word s.text word_nodebug t → z ≡ true → TurnedTo s m i (Some (record { external = m.external; nodebug = true }))
  unfolding TurnedTo
  turned_nodebug z q u v = (
    record { flags = λ f. flags_nodebug s (external_of m) (nodebug_of m) i f (is_extern q) (is_nodebug u v); ends = λ f. ends_nodebug s i f (is_extern q) (is_nodebug u v) },
    met_there s i (is_word s.text word_nodebug) (word_kinded s.text word_nodebug) (is_nodebug u v),
  )

  pub turned_none : (z : Bool) → r ≡ false → z ≡ is_word s.text word_nodebug t → z ≡ false → TurnedTo s m i None
  unfolding TurnedTo
  turned_none z q u v = record { flags = λ f. flags-none s (external_of m) (nodebug_of m) i f (is_extern q) (is_nodebug u v); ends = λ f. ends-none s i f (is_extern q) (is_nodebug u v) }

-- ---- the loop

-- what is passed so far, from p on
pub record Passing (p q : Parser) (m : Modifiers) : Type 0 where
  pub fuel : ℕ
  pub total : fuel + q.state.next ≡ size (read_by p) + p.state.next
  pub flags : modifier_flags (read_by p) (size (read_by p)) 0 0 p.state.next ≡ modifier_flags (read_by p) fuel (external_of m) (nodebug_of m) q.state.next
  pub ends : modifiers_end (read_by p) (size (read_by p)) p.state.next ≡ modifiers_end (read_by p) fuel q.state.next
  pub counts : q.state ≡ state q.state.next p.state.count p.state.items
  pub unwritten : q.out.now ≡ p.out.now
  pub same : Same p q

pub passing_start : {p : Parser} → Passing p p (record { external = false; nodebug = false })
passing_start {p = p} = record { fuel = size (read_by p); total = refl; flags = refl; ends = refl; counts = refl; unwritten = refl; same = unmoved }

-- what a turn tells is told of the tokens that were there at first
turned_from : (a b : Source) (m : Modifiers) (i : ℕ) (r : Option Modifiers) → b ≡ a → TurnedTo (seen b) m i r → TurnedTo (seen a) m i r
turned_from a b m i r e t = subst (λ (x : Source). TurnedTo (seen x) m i r) e t

pub turned_there : (p : Parser) (m m' : Modifiers) → TurnedTo (read_by p) m p.state.next (Some m') → p.state.next < size (read_by p)
unfolding TurnedTo
turned_there p m m' t = t.1

pub passing_there : {p q : Parser} {m : Modifiers} (m' : Modifiers) → Passing p q m → TurnedTo (read_by q) m q.state.next (Some m') → q.state.next < size (read_by p)
passing_there {p = p} {q = q} {m = m} m' w t = subst (λ (x : Source). q.state.next < size (seen x)) w.same.source (turned_there q m m' t)

pub passing_on : {p q q' : Parser} {m m' : Modifiers} → Passing p q m → TurnedTo (read_by q) m q.state.next (Some m') → q'.state ≡ state (q.state.next + 1) q.state.count q.state.items → q'.out.now ≡ q.out.now → Same q q' → Passing p q' m'
unfolding TurnedTo
passing_on {p = p} {q = q} {q' = q'} {m = m} {m' = m'} w t e o z = go w.fuel w.total w.flags w.ends (turned_from p.source q.source m q.state.next (Some m') w.same.source t)
  where
    go : (f : ℕ) → f + q.state.next ≡ size (read_by p) + p.state.next → modifier_flags (read_by p) (size (read_by p)) 0 0 p.state.next ≡ modifier_flags (read_by p) f (external_of m) (nodebug_of m) q.state.next → modifiers_end (read_by p) (size (read_by p)) p.state.next ≡ modifiers_end (read_by p) f q.state.next → Turned (read_by p) m q.state.next true m' × (q.state.next < size (read_by p)) → Passing p q' m'
    go zero a b c h = absurd (omega (arith, a, h.1))
    go (suc f) a b c h =
        let n : q'.state.next ≡ q.state.next + 1 = ap (λ (x : State). x.next) e in
        record {
          fuel = f;
          total = omega (arith, a, n);
          flags = b ∙ h.0.flags f ∙ ap (modifier_flags (read_by p) f (external_of m') (nodebug_of m')) (sym n);
          ends = c ∙ h.0.ends f ∙ ap (modifiers_end (read_by p) f) (sym n);
          counts = e ∙ ap (λ (x : State). state (q.state.next + 1) x.count x.items) w.counts ∙ ap (λ (x : ℕ). state x p.state.count p.state.items) (sym n);
          unwritten = o ∙ w.unwritten;
          same = same_then w.same z;
        }

pub passing_stop : {p q : Parser} {m : Modifiers} {x : ℕ} → Passing p q m → TurnedTo (read_by q) m q.state.next None → x ≡ flags_of m → Modified p q x
unfolding TurnedTo
passing_stop {p = p} {q = q} {m = m} {x = x} w t e = go w.fuel w.total w.flags w.ends (turned_from p.source q.source m q.state.next None w.same.source t)
  where
    finish : modifier_flags (read_by p) (size (read_by p)) 0 0 p.state.next ≡ flags_of m → modifiers_end (read_by p) (size (read_by p)) p.state.next ≡ q.state.next → Modified p q x
    finish b c =
        let r = end-reach (read_by p) (size (read_by p)) p.state.next in
        let s : q.state ≡ state (modifiers_end (read_by p) (size (read_by p)) p.state.next) p.state.count p.state.items = w.counts ∙ ap (λ (y : ℕ). state y p.state.count p.state.items) (sym c) in
        record {
          flags = e ∙ sym b;
          ends = s;
          unwritten = w.unwritten;
          same = w.same;
          within = rw s (record { on = omega (arith, r.on); inside = r.inside; room = omega (arith, r.on); kids = omega (arith, r.on) });
        }

    go : (f : ℕ) → f + q.state.next ≡ size (read_by p) + p.state.next → modifier_flags (read_by p) (size (read_by p)) 0 0 p.state.next ≡ modifier_flags (read_by p) f (external_of m) (nodebug_of m) q.state.next → modifiers_end (read_by p) (size (read_by p)) p.state.next ≡ modifiers_end (read_by p) f q.state.next → Turned (read_by p) m q.state.next false m → Modified p q x
    go zero a b c h = finish (b ∙ flags-zero (read_by p) (external_of m) (nodebug_of m) q.state.next) (c ∙ ends-zero (read_by p) q.state.next)
    go (suc f) a b c h = finish (b ∙ h.flags f) (c ∙ h.ends f)

-- ---- behind them

pub symbol_behind : {p : Parser} (t : Token) (r : Bool) (x j : ℕ) → t ≡ peek (read_by p) p.state.next → r ≡ is_symbol t → r ≡ true → x ≡ pos_at (read_by p) (p.state.next + 1) → j ≡ p.state.next + 1 → Read no_modifier p p (Err (record { why = TypeModifier; place = x; taken = j }))
unfolding no_modifier Met
symbol_behind {p = p} t r x j a b c d e = refused_here (record { same = λ l. record { met = rw (← a, ← b, c, d, e) refl } })

pub none_behind : {p : Parser} {u : Unit {0}} (t : Token) (r : Bool) → t ≡ peek (read_by p) p.state.next → r ≡ is_symbol t → r ≡ false → Read no_modifier p p (Ok u)
unfolding no_modifier
none_behind {p = p} t r a b c = moved unmoved refl refl (record { same = λ l. record { met = rw (← a, ← b, c) (begun p.state.next p.state.count p.state.items l) } })

-- the modifiers, and what may stand behind them
pub modifiers_then : {p q : Parser} {x : ℕ} {r : Result (Unit {0}) Stop} → Modified p q x → Read no_modifier q q r → Read parse_modifiers p q r
unfolding parse_modifiers no_modifier
modifiers_then {p = p} {q = q} {x = x} {r = r} m n =
    record {
      read = record { met = rw (← m.unwritten) (here n.read.met) };
      same = m.same;
    }
  where
    here : Met (no_modifier (read_by q) q.state.next) q.state.count q.state.items q.out.now q.out.now (came_to r q.state) → Met (no_modifier (read_by p) (modifiers_end (read_by p) (size (read_by p)) p.state.next)) p.state.count p.state.items q.out.now q.out.now (came_to r q.state)
    here k =
        subst (λ (y : State). Met (no_modifier (read_by p) y.next) y.count y.items q.out.now q.out.now (came_to r q.state)) m.ends
        (subst (λ (y : Source). Met (no_modifier (seen y) q.state.next) q.state.count q.state.items q.out.now q.out.now (came_to r q.state)) m.same.source k)
