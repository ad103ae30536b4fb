-- What holds of every part: how it begins, that it goes on, and that it has at most three records for each token. Assumes nothing.
use Prim.Native.Nat.{ℕ, suc, ◌+◌, ◌*◌, ◌<◌, ◌≤◌, max}
use native.Mathlib.Omega.{arith}
use mathlib.Core.Path.{◌≡◌, refl, ap}
use mathlib.Core.List.{List}
use mathlib.Core.Bool.{Bool, true, false}
use lib.Dec.{leb, eqb}
use borrow.Author.Tests.{leb-true}
use Rattle.trees.specs.Choice.{pick}
use lib.ListN.{length, length-append}
use Rattle.trees.specs.Tree.{Tree, Trees, node, ∅, ◌▸◌, ◌⧺◌, records, records_all}
use Rattle.tokens.specs.Input.{Input, size}
use Rattle.grammar.specs.Lexical.{Kind, Open, Close, Symbol, Integer, At, name_at, one}
use Rattle.grammar.specs.Grammar.{Optional, given, left, Modifiers, no_more, an_extern, a_nodebug, RuleName, named, unnamed, RulePriority, ranked, unranked, Part, definition, typedef, typevalue, variant, fields, field, decl, attr, attribute, extern, extractor, rule, iflet, converter, pattern, expression, letdef, name, types, list, Gram, empty, cons, d_type, d_decl, d_attr, d_extern, d_extractor, d_rule, d_convert, t_type, v_primitive, v_enum, v_struct, w_plain, w_fields, f_unit, f_struct, f_tuple, f_field, f_end, f_type, c_decl, n_name, a_attr, a_chain, a_priority, a_tag, x_constructor, x_extractor, x_const, x_template, r_rule, i_let, i_if, k_convert, p_integer, p_constant, p_wildcard, p_true, p_false, p_var, p_bind, p_and, p_term, e_integer, e_constant, e_true, e_false, e_var, e_let, e_term, l_def}
use Rattle.grammar.specs.Depth.{deepest}
use Rattle.grammar.proofs.Lexemes.{there, other}

-- ---- rows

pub deepest_⧺ : (ts us : Trees) → deepest (ts ⧺ us) ≡ max (deepest ts) (deepest us)
unfolding deepest ◌⧺◌
deepest_⧺ ∅ us = omega arith
deepest_⧺ (t ▸ ts) us = omega (arith, deepest_⧺ ts us)

-- how many records
unfoldable mutual
  size_of : Tree → ℕ
  size_of (node h ts) = suc (sizes ts)

  pub sizes : Trees → ℕ
  sizes ∅ = 0
  sizes (t ▸ ts) = size_of t + sizes ts

mutual
  unfolding sizes records

  size-records : (t : Tree) → length (records t) ≡ size_of t
  size-records (node h ts) = ap suc (sizes-records ts)

  pub sizes-records : (ts : Trees) → length (records_all ts) ≡ sizes ts
  sizes-records ∅ = refl
  sizes-records (t ▸ ts) = omega (arith, length-append (records t) (records_all ts), size-records t, sizes-records ts)

sizes_⧺ : (ts us : Trees) → sizes (ts ⧺ us) ≡ sizes ts + sizes us
unfolding sizes ◌⧺◌
sizes_⧺ ∅ us = omega arith
sizes_⧺ (t ▸ ts) us = omega (arith, sizes_⧺ ts us)

-- ---- how a part begins

-- how many tokens a part takes at least
unfoldable pub least : Part → ℕ
least definition = 1
least typedef = 1
least typevalue = 1
least variant = 1
least fields = 0
least field = 1
least decl = 1
least attr = 1
least attribute = 1
least extern = 1
least extractor = 1
least rule = 1
least iflet = 1
least converter = 1
least pattern = 1
least expression = 1
least letdef = 1
least name = 1
least (types n) = 0
least (list x) = 0

-- with `(`, a symbol or an integer
pub data Begins (s : Input) (i : ℕ) : Type 0 where
  by_open : Open s i → Begins s i
  by_symbol : Symbol s i → Begins s i
  by_integer : Integer s i → Begins s i

-- and so with a token of no other kind
no_kind : {s : Input} {i c : ℕ} → eqb 1 c ≡ false → eqb 3 c ≡ false → eqb 4 c ≡ false → Begins s i → Kind s c i → ⊥
no_kind e f g (by_open k) h = other k h e
no_kind e f g (by_symbol k) h = other k h f
no_kind e f g (by_integer k) h = other k h g

pub no_close : {s : Input} {i : ℕ} → Begins s i → Close s i → ⊥
no_close = no_kind refl refl refl

pub no_at : {s : Input} {i : ℕ} → Begins s i → At s i → ⊥
no_at = no_kind refl refl refl

pub no_refused : {s : Input} {i : ℕ} → Begins s i → Kind s 6 i → ⊥
no_refused = no_kind refl refl refl

pub begun-there : {s : Input} {i : ℕ} → Begins s i → i < size s
begun-there (by_open k) = there k (omega arith)
begun-there (by_symbol k) = there k (omega arith)
begun-there (by_integer k) = there k (omega arith)

optional_begins : {s : Input} {w : List ℕ} {f i a p : ℕ} → Optional s w f i a p → (a ≡ i → Begins s i) → Begins s i
optional_begins (given h) b = by_symbol h.symbol
optional_begins (left n) b = b refl

name-begins : {s : Input} {i a f : ℕ} {ts : Trees} → RuleName s i a ts f → (a ≡ i → Begins s i) → Begins s i
name-begins (named h) b = by_symbol h.symbol
name-begins (unnamed n) b = b refl

priority-begins : {s : Input} {i a f : ℕ} {ts : Trees} → RulePriority s i a ts f → (a ≡ i → Begins s i) → Begins s i
priority-begins (ranked k h) b = by_integer k
priority-begins (unranked n) b = b refl

pub begins : {s : Input} {x : Part} {i j : ℕ} {ts : Trees} → Gram s x i j ts → least x ≡ 1 → Begins s i
unfolding least
begins empty q = absurd (omega arith)
begins (cons p ps) q = absurd (omega arith)
begins (d_type o w p c) q = by_open o
begins (d_decl o w p c) q = by_open o
begins (d_attr o w p c) q = by_open o
begins (d_extern o w p c) q = by_open o
begins (d_extractor o w p c) q = by_open o
begins (d_rule o w p c) q = by_open o
begins (d_convert o w p c) q = by_open o
begins (t_type h m p) q = by_symbol h.symbol
begins (v_primitive o w h c) q = by_open o
begins (v_enum o w ps c) q = by_open o
begins (v_struct o w p c) q = by_open o
begins (w_plain h) q = by_symbol h.symbol
begins (w_fields o h p c) q = by_open o
begins f_unit q = absurd (omega arith)
begins (f_struct p ps) q = absurd (omega arith)
begins (f_tuple h ps) q = absurd (omega arith)
begins (f_field o h u c) q = by_open o
begins f_end q = absurd (omega arith)
begins (f_type h ps) q = absurd (omega arith)
begins {s} (c_decl p m f r h o ns c u) q =
    optional_begins p (λ a. optional_begins (rw a at m) (λ b. optional_begins (rw b at f) (λ d. optional_begins (rw d at r) (λ e. by_symbol (rw e at h.symbol)))))
begins (n_name h) q = by_symbol h.symbol
begins (a_attr p h ps) q = optional_begins p (λ a. by_symbol (rw a at h.symbol))
begins (a_chain o w v c) q = by_open o
begins (a_priority o w v c) q = by_open o
begins (a_tag o w h c) q = by_open o
begins (x_constructor w h u) q = by_symbol w.symbol
begins (x_extractor w p h u) q = by_symbol w.symbol
begins (x_const w h u) q = by_symbol w.symbol
begins (x_template o h ns c p) q = by_open o
begins (r_rule n k p ps e f) q = name-begins n (λ a. priority-begins (rw a at k) (λ b. rw b at (begins p refl)))
begins (i_let o w p e c) q = by_open o
begins (i_if o w e c) q = by_open o
begins (k_convert h u v) q = by_symbol h.symbol
begins (p_integer h) q = by_integer h
begins (p_constant h) q = by_symbol h.named.symbol
begins (p_wildcard h) q = by_symbol h.symbol
begins (p_true h) q = by_symbol h.symbol
begins (p_false h) q = by_symbol h.symbol
begins (p_var h) q = by_symbol h.variable.named.symbol
begins (p_bind h a p) q = by_symbol h.variable.named.symbol
begins (p_and o w ps c) q = by_open o
begins (p_term o h n ps c) q = by_open o
begins (e_integer h) q = by_integer h
begins (e_constant h) q = by_symbol h.named.symbol
begins (e_true h) q = by_symbol h.symbol
begins (e_false h) q = by_symbol h.symbol
begins (e_var h) q = by_symbol h.named.symbol
begins (e_let o w v ds c e r) q = by_open o
begins (e_term o h n ps c) q = by_open o
begins (l_def o h u e c) q = by_open o

-- ---- how far a part reads

-- what is left of three records for each token, plus 2; 0 where nothing is claimed, of a list of parts that may be empty
unfoldable pub listed : ℕ → ℕ
listed n = pick (leb 2 n) 2 0

listed-few : (n : ℕ) → listed n ≤ 2
unfolding listed
listed-few n = go (leb 2 n)
  where
    go : (b : Bool) → pick b 2 0 ≤ 2
    go true = omega arith
    go false = omega arith

listed-all : (n : ℕ) → 0 < listed n → 2 ≤ n
unfolding listed
listed-all n h = go (leb 2 n) refl h
  where
    go : (b : Bool) → leb 2 n ≡ b → 0 < pick b 2 0 → 2 ≤ n
    go true p q = leb-true 2 n p
    go false p q = absurd (omega arith)

unfoldable pub spare : Part → ℕ
spare definition = 2
spare typedef = 2
spare typevalue = 2
spare variant = 2
spare fields = 1
spare field = 2
spare decl = 2
spare attr = 2
spare attribute = 2
spare extern = 2
spare extractor = 2
spare rule = 2
spare iflet = 2
spare converter = 2
spare pattern = 3
spare expression = 3
spare letdef = 2
spare name = 2
spare (types n) = 2
spare (list x) = listed (spare x)

pub record Fit (x : Part) (i j : ℕ) (ts : Trees) : Type 0 where
  pub on : i + least x ≤ j
  pub room : 0 < spare x → sizes ts + 3 * i + spare x ≤ 3 * j + 2

optional_on : {s : Input} {w : List ℕ} {f i a p : ℕ} → Optional s w f i a p → i ≤ a
optional_on (given h) = omega arith
optional_on (left n) = omega arith

modifiers_on : {s : Input} {i j e n : ℕ} → Modifiers s i j e n → i ≤ j
modifiers_on no_more = omega arith
modifiers_on (an_extern w m) = omega (arith, modifiers_on m)
modifiers_on (a_nodebug w m) = omega (arith, modifiers_on m)

name-on : {s : Input} {i a f : ℕ} {ts : Trees} → RuleName s i a ts f → sizes ts + 3 * i ≤ 3 * a
unfolding sizes
name-on (named h) = omega arith
name-on (unnamed n) = omega arith

priority-on : {s : Input} {i a f : ℕ} {ts : Trees} → RulePriority s i a ts f → sizes ts + 3 * i ≤ 3 * a
unfolding sizes
priority-on (ranked k h) = omega arith
priority-on (unranked n) = omega arith

pub fit : {s : Input} {x : Part} {i j : ℕ} {ts : Trees} → Gram s x i j ts → Fit x i j ts
unfolding least spare sizes listed
fit (empty {x = x}) = record { on = omega arith; room = λ q. omega (arith, listed-few (spare x)) }
fit (cons {x = x} {t = t} {ts = ts} p ps) = let f = fit p in let g = fit ps in record { on = omega (arith, f.on, g.on); room = λ q. let l = listed-all (spare x) q in omega (arith, f.room (omega arith), g.room q, sizes_⧺ t ts) }
fit (d_type o w p c) = let f = fit p in record { on = omega (arith, f.on); room = λ _. omega (arith, f.room (omega arith), f.on) }
fit (d_decl o w p c) = let f = fit p in record { on = omega (arith, f.on); room = λ _. omega (arith, f.room (omega arith), f.on) }
fit (d_attr o w p c) = let f = fit p in record { on = omega (arith, f.on); room = λ _. omega (arith, f.room (omega arith), f.on) }
fit (d_extern o w p c) = let f = fit p in record { on = omega (arith, f.on); room = λ _. omega (arith, f.room (omega arith), f.on) }
fit (d_extractor o w p c) = let f = fit p in record { on = omega (arith, f.on); room = λ _. omega (arith, f.room (omega arith), f.on) }
fit (d_rule o w p c) = let f = fit p in record { on = omega (arith, f.on); room = λ _. omega (arith, f.room (omega arith), f.on) }
fit (d_convert o w p c) = let f = fit p in record { on = omega (arith, f.on); room = λ _. omega (arith, f.room (omega arith), f.on) }
fit (t_type h m p) = let f = fit p in record { on = omega (arith, f.on, modifiers_on m); room = λ _. omega (arith, f.room (omega arith), f.on, modifiers_on m) }
fit (v_primitive o w h c) = record { on = omega arith; room = λ _. omega arith }
fit (v_enum o w ps c) = let f = fit ps in record { on = omega (arith, f.on); room = λ _. omega (arith, f.room (omega arith), f.on) }
fit (v_struct o w p c) = let f = fit p in record { on = omega (arith, f.on); room = λ _. omega (arith, f.room (omega arith), f.on) }
fit (w_plain h) = record { on = omega arith; room = λ _. omega arith }
fit (w_fields o h p c) = let f = fit p in record { on = omega (arith, f.on); room = λ _. omega (arith, f.room (omega arith), f.on) }
fit f_unit = record { on = omega arith; room = λ _. omega arith }
fit (f_struct {t = t} {ts = ts} p ps) = let f = fit p in let g = fit ps in record { on = omega (arith, f.on, g.on); room = λ _. omega (arith, f.on, f.room (omega arith), g.room (omega arith), sizes_⧺ t ts) }
fit (f_tuple h ps) = let f = fit ps in record { on = omega (arith, f.on); room = λ _. omega (arith, f.room (omega arith)) }
fit (f_field o h u c) = record { on = omega arith; room = λ _. omega arith }
fit f_end = record { on = omega arith; room = λ _. omega arith }
fit (f_type h ps) = let f = fit ps in record { on = omega (arith, f.on); room = λ _. omega (arith, f.room (omega arith), f.on) }
fit {s} (c_decl {j = j} {ts = ts} p m q r h o ns c u) =
    let f = fit ns in record { on = omega (arith, f.on, optional_on p, optional_on m, optional_on q, optional_on r); room = λ _. omega (arith, f.room (omega arith), optional_on p, optional_on m, optional_on q, optional_on r, sizes_⧺ ts (one (name_at s (j + 1)))) }
fit (n_name h) = record { on = omega arith; room = λ _. omega arith }
fit (a_attr p h ps) = let f = fit ps in record { on = omega (arith, f.on, optional_on p); room = λ _. omega (arith, f.room (omega arith), f.on, optional_on p) }
fit (a_chain o w v c) = record { on = omega arith; room = λ _. omega arith }
fit (a_priority o w v c) = record { on = omega arith; room = λ _. omega arith }
fit (a_tag o w h c) = record { on = omega arith; room = λ _. omega arith }
fit (x_constructor w h u) = record { on = omega arith; room = λ _. omega arith }
fit (x_extractor w p h u) = record { on = omega (arith, optional_on p); room = λ _. omega (arith, optional_on p) }
fit (x_const w h u) = record { on = omega arith; room = λ _. omega arith }
fit (x_template {ts = ts} {p = t} o h ns c p) = let f = fit ns in let g = fit p in record { on = omega (arith, f.on, g.on); room = λ _. omega (arith, f.room (omega arith), g.room (omega arith), sizes_⧺ ts t) }
fit (r_rule {n = n} {q = q} {p = t} {ts = ts} {e = u} x y p ps e h) =
    let f = fit p in let g = fit ps in let l = fit e in
    record {
      on = omega (arith, name-on x, priority-on y, f.on, g.on, l.on);
      room = λ _. omega (arith, name-on x, priority-on y, f.room (omega arith), g.room (omega arith), l.room (omega arith), sizes_⧺ n (q ⧺ t ⧺ ts ⧺ u), sizes_⧺ q (t ⧺ ts ⧺ u), sizes_⧺ t (ts ⧺ u), sizes_⧺ ts u);
    }
fit (i_let {p = t} {e = u} o w p e c) = let f = fit p in let g = fit e in record { on = omega (arith, f.on, g.on); room = λ _. omega (arith, f.room (omega arith), g.room (omega arith), sizes_⧺ t u) }
fit (i_if o w e c) = let f = fit e in record { on = omega (arith, f.on); room = λ _. omega (arith, f.room (omega arith), f.on) }
fit (k_convert h u v) = record { on = omega arith; room = λ _. omega arith }
fit (p_integer h) = record { on = omega arith; room = λ _. omega arith }
fit (p_constant h) = record { on = omega arith; room = λ _. omega arith }
fit (p_wildcard h) = record { on = omega arith; room = λ _. omega arith }
fit (p_true h) = record { on = omega arith; room = λ _. omega arith }
fit (p_false h) = record { on = omega arith; room = λ _. omega arith }
fit (p_var h) = record { on = omega arith; room = λ _. omega arith }
fit (p_bind h a p) = let f = fit p in record { on = omega (arith, f.on); room = λ _. omega (arith, f.room (omega arith), f.on) }
fit (p_and o w ps c) = let f = fit ps in record { on = omega (arith, f.on); room = λ _. omega (arith, f.room (omega arith), f.on) }
fit (p_term o h n ps c) = let f = fit ps in record { on = omega (arith, f.on); room = λ _. omega (arith, f.room (omega arith), f.on) }
fit (e_integer h) = record { on = omega arith; room = λ _. omega arith }
fit (e_constant h) = record { on = omega arith; room = λ _. omega arith }
fit (e_true h) = record { on = omega arith; room = λ _. omega arith }
fit (e_false h) = record { on = omega arith; room = λ _. omega arith }
fit (e_var h) = record { on = omega arith; room = λ _. omega arith }
fit (e_let {ts = ts} {e = u} o w v ds c e r) = let f = fit ds in let g = fit e in record { on = omega (arith, f.on, g.on); room = λ _. omega (arith, f.room (omega arith), g.room (omega arith), sizes_⧺ ts u) }
fit (e_term o h n ps c) = let f = fit ps in record { on = omega (arith, f.on); room = λ _. omega (arith, f.room (omega arith), f.on) }
fit (l_def o h u e c) = let f = fit e in record { on = omega (arith, f.on); room = λ _. omega (arith, f.room (omega arith), f.on) }
