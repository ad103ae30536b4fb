-- Every part of the grammar has trees of the sort that stands for it, with no MacroArg and no empty name among them and all fields within
-- their widths: by induction on its derivation. Assumes nothing.
use Prim.Native.Nat.{ℕ, ◌+◌, ◌*◌, ◌/◌, ◌%◌, ◌≤◌, ◌<◌}
use native.Mathlib.Omega.{arith}
use native.Mathlib.Numerals.{add-one}
use mathlib.Core.Path.{refl}
use mathlib.Core.List.{List, [], ◌∷◌}
use lib.ListN.{length}
use borrow.Author.Tests.{le-leb, lt-ltb, eq-eqb}
use Rattle.trees.specs.Tree.{Tree, Trees, ∅, ◌▸◌, ◌⧺◌, head}
use Rattle.trees.specs.Ast as ast
use Rattle.trees.specs.Names.{Nonempty}
use Rattle.trees.proofs.Laws.{rest_nonempty}
use Rattle.tokens.specs.Input.{Input, peek, pos_at, size}
use Rattle.grammar.specs.Lexical.{Name, Constant, name_at, constant_at, type_at, tree_at}
use Rattle.grammar.specs.Grammar.{Optional, given, left, Modifiers, no_more, an_extern, a_nodebug, RuleName, named, unnamed, RulePriority, ranked, unranked, Part, definition, typedef, typevalue, variant, fields, field, decl, attr, attribute, extern, extractor, rule, iflet, converter, pattern, expression, letdef, name, types, list, Gram, empty, cons, d_type, d_decl, d_attr, d_extern, d_extractor, d_rule, d_convert, t_type, v_primitive, v_enum, v_struct, w_plain, w_fields, f_unit, f_struct, f_tuple, f_field, f_end, f_type, c_decl, n_name, a_attr, a_chain, a_priority, a_tag, x_constructor, x_extractor, x_const, x_template, r_rule, i_let, i_if, k_convert, p_integer, p_constant, p_wildcard, p_true, p_false, p_var, p_bind, p_and, p_term, e_integer, e_constant, e_true, e_false, e_var, e_let, e_term, l_def}
use Rattle.grammar.specs.Meaning.{GoodList}
use Rattle.grammar.proofs.Lexemes.{there}
use Rattle.forms.specs.Tests.{◌and◌}
use Rattle.forms.specs.Kinds as kinds
use Rattle.forms.specs.Kinds.{rows, find, row_for}
use Rattle.forms.specs.Forms.{placed, one, leading, position_ok, words_ok}
use Rattle.closed.proofs.Rows as made
use Rattle.closed.proofs.Rows.{Narrow, Fits, Row, end, next, Several, Run, stop, step, row_then, one_more, several_more, in_place, headed, fits_fixed, fits_spread, fits_last}
use Rattle.closed.proofs.Lent.{Lent}
use Rattle.closed.proofs.Symbols.{Inside, inside, name_nonempty, cut_inside}
use Rattle.closed.proofs.Widths.{low-range, at, bare, both_words}

-- ---- what trees a part has

pub data Manner : Type 0 where
  -- one of a sort; any number of a sort; TupleFields from a place on; nothing is said
  single several tupled : ℕ → Manner
  unsaid : Manner

unfoldable pub listed : Manner → Manner
listed (single k) = several k
listed (several k) = several k
listed (tupled n) = unsaid
listed unsaid = unsaid

unfoldable pub manner : Part → Manner
manner definition = single kinds.definition
manner typedef = single kinds.definition
manner typevalue = single kinds.type_value
manner variant = single kinds.variant
manner fields = single kinds.fields
manner field = single kinds.struct_field
manner decl = single kinds.definition
manner attr = single kinds.definition
manner attribute = single kinds.attr_kind
manner extern = single kinds.definition
manner extractor = single kinds.definition
manner rule = single kinds.definition
manner iflet = single kinds.if_let
manner converter = single kinds.definition
manner pattern = single kinds.pattern
manner expression = single kinds.expression
manner letdef = single kinds.let_def
manner name = single kinds.name
manner (types n) = tupled n
manner (list x) = listed (manner x)

-- of the trees of a part that begins at token i; a TupleField's place is not above its token's index
unfoldable pub Holds : Input → Manner → ℕ → Trees → Type 0
Holds s (single k) i ts = Row s (k ∷ []) ts
Holds s (several k) i ts = Several s k ts
Holds s (tupled n) i ts = n ≤ i → Run s kinds.tuple_field n ts
Holds s unsaid i ts = Unit {0}

none-listed : (s : Input) (m : Manner) (i : ℕ) → Holds s (listed m) i ∅
unfolding Holds listed
none-listed s (single k) i = made.no_more
none-listed s (several k) i = made.no_more
none-listed s (tupled n) i = tt
none-listed s unsaid i = tt

more-listed : (s : Input) (m : Manner) (i j : ℕ) (xs ys : Trees) → Holds s m i xs → Holds s (listed m) j ys → Holds s (listed m) i (xs ⧺ ys)
unfolding Holds listed
more-listed s (single k) i j xs ys p q = one_more p q
more-listed s (several k) i j xs ys p q = several_more p q
more-listed s (tupled n) i j xs ys p q = tt
more-listed s unsaid i j xs ys p q = tt

-- ---- names, types, flags

module _ {s : Input} (g : GoodList s) where
  ident : (i a : ℕ) → Inside (length s.text) a → Nonempty a → Fits s kinds.name (ast.ident_node (pos_at s i) a)
  unfolding headed row_for find rows placed position_ok words_ok leading one ◌and◌
  ident i a h n =
      fits_fixed {h = head 24 0 (pos_at s i) a 0} (λ l. record { pos = (at s i {k = 24} {f = 0} l).pos; word1 = low-range (length s.text) a g.limited.short h; word2 = omega arith })
      (rw (le-leb (a / 4294967296 + a % 4294967296) (length s.text) h, lt-ltb 0 (a % 4294967296) n)) (omega arith) refl end

  named-fits : {i : ℕ} → Name s i → Fits s kinds.name (name_at s i)
  named-fits {i} h = ident i _ (inside g h.symbol) (name_nonempty s.text _ h.obeys)

  constant-fits : {i : ℕ} → Constant s i → Fits s kinds.name (constant_at s i)
  constant-fits {i} h = ident i _ (cut_inside s.text (peek s i).word1 h.longer (inside g h.named.symbol)) (rest_nonempty s.text (peek s i).word1 h.longer)

  type_fits : {i : ℕ} (n : ℕ) → n ≤ i → Name s i → Fits s (placed kinds.tuple_field n) (type_at s i n)
  unfolding headed row_for find rows placed position_ok words_ok leading one ◌and◌
  type_fits {i} n b h =
      let l : i < size s = there h.symbol (omega arith) in
      fits_fixed {h = head 10 0 (pos_at s i) n 0} (λ d. record { pos = (at s i {k = 10} {f = 0} d).pos; word1 = omega (arith, g.limited.few); word2 = omega arith })
      (rw (lt-ltb 0 (10 + 256 * n) (omega arith), eq-eqb (10 + 256 * n) (10 + 256 * n) refl)) (omega arith) refl (next (named-fits h) end)

optional_low : {s : Input} {w : List ℕ} {f i a p : ℕ} → Optional s w f i a p → p ≤ f
optional_low (given h) = omega arith
optional_low (left n) = omega arith

modifiers_low : {s : Input} {i j e n : ℕ} → Modifiers s i j e n → (e ≤ 1) × (n ≤ 2)
modifiers_low no_more = (omega arith, omega arith)
modifiers_low (an_extern w m) = (omega arith, (modifiers_low m).1)
modifiers_low (a_nodebug w m) = ((modifiers_low m).0, omega arith)

-- ---- rules, by their flags

second : (s : Input) (i : ℕ) {k f : ℕ} → Lent s → Narrow (head k f 0 (peek s i).word2 0)
second s i l = record { pos = omega arith; word1 = (both_words s i {k = 33} {f = 0} l).word2; word2 = omega arith }

rule_fits : {s : Input} {i a b f k : ℕ} {n q p ts e : Trees} → GoodList s → RuleName s i a n f → RulePriority s a b q k
    → Row s (kinds.pattern ∷ []) p → Several s kinds.if_let ts → Row s (kinds.expression ∷ []) e
    → Fits s kinds.definition (tree_at s i ast.kind_rule (f + k) (n ⧺ q ⧺ p ⧺ ts ⧺ e))
unfolding headed row_for find rows placed position_ok words_ok leading one ◌and◌ ◌⧺◌
rule_fits {s} {i} {a} g (named h) (ranked k l) (next x end) ps e = fits_last (at s i) refl (omega arith) (next (named-fits g h) (next (fits_fixed (second s a) refl (omega arith) refl end) (next x end))) (in_place refl 0 ps) e
rule_fits {s} {i} {a} g (named h) (unranked l) (next x end) ps e = fits_last (at s i) refl (omega arith) (next (named-fits g h) (next x end)) (in_place refl 0 ps) e
rule_fits {s} {i} {a} g (unnamed h) (ranked k l) (next x end) ps e = fits_last (at s i) refl (omega arith) (next (fits_fixed (second s a) refl (omega arith) refl end) (next x end)) (in_place refl 0 ps) e
rule_fits {s} {i} {a} g (unnamed h) (unranked l) (next x end) ps e = fits_last (at s i) refl (omega arith) (next x end) (in_place refl 0 ps) e

-- ---- the induction

-- a row of one
only : {s : Input} {k : ℕ} {x : Tree} → Fits s k x → Row s (k ∷ []) (x ▸ ∅)
only f = next f end

pub parts : {s : Input} {x : Part} {i j : ℕ} {ts : Trees} → GoodList s → Gram s x i j ts → Holds s (manner x) i ts
unfolding manner listed Holds headed row_for find rows placed position_ok words_ok leading one ◌and◌ ◌⧺◌
parts {s} g (empty {x = x} {i = i}) = none-listed s (manner x) i
parts {s} g (cons {x = x} {i = i} {j = j} {t = t} {ts = ts} p ps) = more-listed s (manner x) i j t ts (parts g p) (parts g ps)
parts g (d_type o w p c) = parts g p
parts g (d_decl o w p c) = parts g p
parts g (d_attr o w p c) = parts g p
parts g (d_extern o w p c) = parts g p
parts g (d_extractor o w p c) = parts g p
parts g (d_rule o w p c) = parts g p
parts g (d_convert o w p c) = parts g p
parts {s} g (t_type {i = i} h m p) = let l = modifiers_low m in only (fits_fixed (at s i) refl (omega arith) refl (next (named-fits g h) (parts g p)))
parts {s} g (v_primitive {i = i} o w h c) = only (fits_fixed (at s i) refl (omega arith) refl (only (named-fits g h)))
parts {s} g (v_enum {i = i} o w ps c) = only (fits_spread (at s i) refl (omega arith) refl end (in_place refl 0 (parts g ps)))
parts {s} g (v_struct {i = i} o w p c) = only (fits_fixed (at s i) refl (omega arith) refl (parts g p))
parts {s} g (w_plain {i = i} h) = only (fits_fixed (at s i) refl (omega arith) refl (next (named-fits g h) (only (fits_fixed bare refl (omega arith) refl end))))
parts {s} g (w_fields {i = i} o h p c) = only (fits_fixed (at s i) refl (omega arith) refl (next (named-fits g h) (parts g p)))
parts g f_unit = only (fits_fixed bare refl (omega arith) refl end)
parts {s} g (f_struct {i = i} p ps) = only (fits_spread (at s i) refl (omega arith) refl end (in_place refl 0 (one_more (parts g p) (parts g ps))))
parts {s} g (f_tuple {i = i} h ps) = only (fits_spread (at s i) refl (omega arith) refl end (step (type_fits g 0 (omega arith) h) (parts g ps (omega arith))))
parts {s} g (f_field {i = i} o h u c) = only (fits_fixed (at s i) refl (omega arith) refl (next (named-fits g h) (only (named-fits g u))))
parts g f_end = λ b. stop
parts g (f_type {n = n} h ps) = λ b. step (type_fits g n b h) (rw (add-one n) at (parts g ps (omega arith)))
parts {s} g (c_decl {i = i} p m q r h o ns c u) =
    only (fits_last (at s i) refl (omega (arith, optional_low p, optional_low m, optional_low q, optional_low r)) (only (named-fits g h)) (in_place refl 0 (parts g ns)) (only (named-fits g u)))
parts g (n_name h) = only (named-fits g h)
parts {s} g (a_attr {i = i} p h ps) = only (fits_spread (at s i) refl (omega (arith, optional_low p)) refl (only (named-fits g h)) (in_place refl 0 (parts g ps)))
parts g (a_chain o w v c) = only (fits_fixed bare refl (omega arith) refl end)
parts g (a_priority o w v c) = only (fits_fixed bare refl (omega arith) refl end)
parts g (a_tag o w h c) = only (fits_fixed bare refl (omega arith) refl (only (named-fits g h)))
parts {s} g (x_constructor {i = i} w h u) = only (fits_fixed (at s i) refl (omega arith) refl (next (named-fits g h) (only (named-fits g u))))
parts {s} g (x_extractor {i = i} w p h u) = only (fits_fixed (at s i) refl (omega (arith, optional_low p)) refl (next (named-fits g h) (only (named-fits g u))))
parts {s} g (x_const {i = i} w h u) = only (fits_fixed (at s (i + 1)) refl (omega arith) refl (next (constant-fits g h) (only (named-fits g u))))
parts {s} g (x_template {i = i} o h ns c p) = only (fits_last (at s i) refl (omega arith) (only (named-fits g h)) (in_place refl 0 (parts g ns)) (parts g p))
parts g (r_rule n k p ps e f) = only (rule_fits g n k (parts g p) (parts g ps) (parts g e))
parts {s} g (i_let {i = i} o w p e c) = only (fits_fixed (at s (i + 1 + 1)) refl (omega arith) refl (row_then (parts g p) (parts g e)))
parts {s} g (i_if {i = i} o w e c) = only (fits_fixed (at s (i + 1 + 1)) refl (omega arith) refl (next (fits_fixed (at s (i + 1 + 1)) refl (omega arith) refl end) (parts g e)))
parts {s} g (k_convert {i = i} h u v) = only (fits_fixed (at s i) refl (omega arith) refl (next (named-fits g h) (next (named-fits g u) (only (named-fits g v)))))
parts {s} g (p_integer {i = i} h) = only (fits_fixed (both_words s i) refl (omega arith) refl end)
parts {s} g (p_constant {i = i} h) = only (fits_fixed (at s i) refl (omega arith) refl (only (constant-fits g h)))
parts {s} g (p_wildcard {i = i} h) = only (fits_fixed (at s i) refl (omega arith) refl end)
parts {s} g (p_true {i = i} h) = only (fits_fixed (at s i) refl (omega arith) refl end)
parts {s} g (p_false {i = i} h) = only (fits_fixed (at s i) refl (omega arith) refl end)
parts {s} g (p_var {i = i} h) = only (fits_fixed (at s i) refl (omega arith) refl (only (named-fits g h.variable.named)))
parts {s} g (p_bind {i = i} h a p) = only (fits_fixed (at s i) refl (omega arith) refl (next (named-fits g h.variable.named) (parts g p)))
parts {s} g (p_and {i = i} o w ps c) = only (fits_spread (at s i) refl (omega arith) refl end (in_place refl 0 (parts g ps)))
parts {s} g (p_term {i = i} o h n ps c) = only (fits_spread (at s i) refl (omega arith) refl (only (named-fits g h)) (in_place refl 0 (parts g ps)))
parts {s} g (e_integer {i = i} h) = only (fits_fixed (both_words s i) refl (omega arith) refl end)
parts {s} g (e_constant {i = i} h) = only (fits_fixed (at s i) refl (omega arith) refl (only (constant-fits g h)))
parts {s} g (e_true {i = i} h) = only (fits_fixed (at s i) refl (omega arith) refl end)
parts {s} g (e_false {i = i} h) = only (fits_fixed (at s i) refl (omega arith) refl end)
parts {s} g (e_var {i = i} h) = only (fits_fixed (at s i) refl (omega arith) refl (only (named-fits g h.named)))
parts {s} g (e_let {i = i} o w v ds c e r) = only (fits_last (at s i) refl (omega arith) end (in_place refl 0 (parts g ds)) (parts g e))
parts {s} g (e_term {i = i} o h n ps c) = only (fits_spread (at s i) refl (omega arith) refl (only (named-fits g h)) (in_place refl 0 (parts g ps)))
parts {s} g (l_def {i = i} o h u e c) = only (fits_fixed (at s i) refl (omega arith) refl (next (named-fits g h) (next (named-fits g u) (parts g e))))
