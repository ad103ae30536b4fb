-- The readers of definitions are exact, and so is the reader of the whole list. Assumes nothing.
use Prim.Native.Nat.{ℕ, ◌+◌, ◌-◌, ◌≤◌}
use native.Mathlib.Omega.{arith}
use mathlib.Core.Path.{◌≡◌, refl}
use mathlib.Core.List.{List}
use mathlib.Core.Bool.{Bool, true, false}
use lib.Dec.{leb, eqb}
use borrow.Author.Tests.{leb-true, leb-false, eqb-false}
use Rattle.trees.specs.Choice.{pick}
use Rattle.trees.specs.Tree.{node, head, ◌▸◌, Trees, ∅, ◌⧺◌, count}
use Rattle.trees.specs.Ast.{kind_decl, kind_attr, kind_attr_kind_chain, kind_attr_kind_priority, kind_attr_kind_tag, kind_extern_constructor, kind_extern_extractor, kind_extern_const, kind_extractor, kind_converter}
use Rattle.words.specs.Bytes.{same_bytes}
use Rattle.tokens.specs.declared.Token.{Token}
use Rattle.tokens.specs.Ident.{ident_refusal}
use Rattle.tokens.specs.Input.{pos_at, Input, peek, size}
use Rattle.steps.specs.Keywords.{word_pragma, word_type, word_decl, word_attr, word-rule, word-extractor, word_extern, word_convert, word_pure, word_multi, word_partial, word-rec, word_veri, word_tag, word_chain, word-priority, word_constructor, word_infallible, word_const}
use Rattle.steps.specs.Outcome.{Reader, accept, ate, row, pragma_refusal}
use Rattle.parser.specs.Defs as defs
use Rattle.parser.specs.Defs.{decl_flags, decl_modifiers, decl_names, parse_decl, parse_attr_kind_veri, parse_attr_kind, parse_attr, parse_extern, etor_head, parse_etor, parse_converter, parse_pragma, is_uncovered, other_def, rest_def, parse_def, parse_defs}
use Rattle.grammar.specs.Lexical.{Name, Open, Close, Word, one, name_at, spelling}
use Rattle.grammar.specs.Grammar.{name, Optional, rule, definition, decl, attr, attribute, extern, converter, list, Gram, empty, cons, d_type, d_decl, d_attr, d_extern, d_extractor, d_rule, d_convert, c_decl, a_attr, a_chain, a_priority, a_tag, x_constructor, x_extractor, x_const, x_template, k_convert}
use Rattle.grammar.specs.Depth.{deepest}
use Rattle.grammar.specs.Nesting.{b_definitions, b_extractor, b_rule, b_template, Read, Deep, inside}
use Rattle.grammar.proofs.Exact.{never, Exact, Tests, Nowhere, after, if_so, if_not, Among, in_item, past_item, Judges, One, token, then, up, over, holds, fails, Many, done, next, exact_iff, exact_to, exact_many, same, no_refusal}
use Rattle.grammar.proofs.Known.{Known, known, refuses, refuses_after, ◌⊳⊳◌, ◌⊳·◌, parents, flags, bares, nexts, seconds, quiet, ◌⊳↓◌, seconds↓, Inner, inner}
use Rattle.grammar.proofs.Lexemes.{there, other, words, one_word, lparen, rparen, word, ident, constant, exact_name, ident-within, either_ground}
use Rattle.grammar.proofs.Laws.{least, deepest_⧺}
use Rattle.grammar.proofs.Rows.{Shut, item_on, no_items, one_more, exact_row}
use Rattle.grammar.proofs.Pattern.{exact_pattern}
use Rattle.grammar.proofs.Options.{optional_at, ate-is, flag_is, eats, exact_eat}
use Rattle.grammar.proofs.Types.{names, exact_typedef}
use Rattle.grammar.proofs.Rules.{exact_rule}

-- ---- declarations

data DeclModifiers (s : Input) (i : ℕ) : Trees → ℕ → Type 0 where
  modifiers : {a b c k p m q r : ℕ} → Optional s word_pure 1 i a p → Optional s word_multi 2 a b m → Optional s word_partial 4 b c q → Optional s word-rec 8 c k r → DeclModifiers s i ∅ k

decl_flags_lem : {s : Input} {i a b c k p m q r : ℕ} → Optional s word_pure 1 i a p → Optional s word_multi 2 a b m → Optional s word_partial 4 b c q → Optional s word-rec 8 c k r → decl_flags s i ≡ p + m + q + r
unfolding decl_flags
decl_flags_lem x y z w = rw (ate-is x, ate-is y, ate-is z, ate-is w) (omega (arith, flag_is x, flag_is y, flag_is z, flag_is w))

module _ (s : Input) where
  exact_decl_modifiers : Exact s Nowhere (decl_modifiers s) (DeclModifiers s)
  unfolding decl_modifiers
  exact_decl_modifiers =
      record {
        sound = λ i e. same (DeclModifiers s i) e (modifiers (optional_at s word_pure 1 _).optional (optional_at s word_multi 2 _).optional (optional_at s word_partial 4 _).optional (optional_at s word-rec 8 _).optional);
        complete = λ i r. back i r;
        ground = λ i e z. absurd (no_refusal z);
      }
    where
      back : (i : ℕ) {ts : Trees} {j : ℕ} → DeclModifiers s i ts j → accept ∅ (ate s word-rec (ate s word_partial (ate s word_multi (ate s word_pure i)))) ≡ accept ts j
      back i (modifiers x y z w) = rw (ate-is x, ate-is y, ate-is z, ate-is w)

  abbrev decl_shape : Known s Nowhere (parse_decl s)
  unfolding parse_decl decl_names
  decl_shape = flags s kind_decl (decl_flags s) (known exact_decl_modifiers ⊳⊳ (known (ident s) ⊳· lparen s ⊳⊳ known (names s 64) ⊳· rparen s ⊳⊳ known (ident s)))

  decl_read : {i a b c d p m q r n l j : ℕ} {us ts vs : Trees}
      → Optional s word_pure 1 i a p → Optional s word_multi 2 a b m → Optional s word_partial 4 b c q → Optional s word-rec 8 c d r
      → One (Name s) (λ k. one (name_at s k)) d us n → Open s n → Shut s (list name) 64 (n + 1) ts l → Close s l → One (Name s) (λ k. one (name_at s k)) (l + 1) vs j
      → Read s decl 64 i (node (head kind_decl (decl_flags s i) (pos_at s i) 0 0) ((us ⧺ ts) ⧺ vs) ▸ ∅) j
  unfolding deepest ◌⧺◌
  decl_read {l = l} {ts = ts} x y z w (token h) o ns c (token u) =
      rw (decl_flags_lem x y z w) (record { derives = c_decl x y z w h o ns.derives c u; shallow = omega (arith, ns.shallow, deepest_⧺ ts (one (name_at s (l + 1)))) })

  decl_there : {i j : ℕ} {ts : Trees} → decl_shape.Means i ts j → Read s decl 64 i ts j
  unfolding parse_decl decl_names deepest ◌⧺◌
  decl_there (over (then (modifiers x y z w) (then (up (then (up t o) ns) c) u))) = decl_read x y z w t o ns c u

  decl_back : {i j : ℕ} {ts : Trees} → Gram s decl i j ts → deepest ts ≤ 64 → decl_shape.Means i ts j
  unfolding parse_decl decl_names deepest ◌⧺◌
  decl_back (c_decl {j = j} {ts = ts} x y z w h o ns c u) m =
      let a = deepest_⧺ ts (one (name_at s (j + 1))) in
      rw (← decl_flags_lem x y z w) (over (then (modifiers x y z w) (then (up (then (up (token h) o) (record { derives = ns; shallow = omega arith; shuts = c })) c) (token u))))

  exact_decl : Exact s Nowhere (parse_decl s) (Read s decl 64)
  exact_decl = exact_iff decl_shape.exact (λ i ts j r. decl_there r) (λ i ts j r. decl_back r.derives r.shallow)

  -- ---- attributes

  abbrev attribute_shape : Known s Nowhere (parse_attr_kind s)
  unfolding parse_attr_kind parse_attr_kind_veri
  attribute_shape =
      seconds (words s word_veri)
      (known (lparen s) ⊳· word s word_veri
      ⊳⊳ nexts (words s word_chain) (bares kind_attr_kind_chain (known (word s word_chain)))
      (nexts (words s word-priority) (bares kind_attr_kind_priority (known (word s word-priority))) (refuses_after s 3 21 (omega arith) (omega arith) (λ _. refl))) ⊳· rparen s)
      (seconds (words s word_tag)
      (known (lparen s) ⊳· word s word_tag ⊳⊳ bares kind_attr_kind_tag (known (ident s)) ⊳· rparen s)
      (known (lparen s) ⊳⊳ refuses_after s 3 20 (omega arith) (omega arith) (λ _. refl)))

  attribute_there : {i j : ℕ} {ts : Trees} → attribute_shape.Means i ts j → Read s attribute 64 i ts j
  unfolding parse_attr_kind parse_attr_kind_veri deepest ◌⧺◌
  attribute_there (holds v (up (then (up (token o) w) (holds x (over (token y)))) c)) = record { derives = a_chain o w y c; shallow = omega arith }
  attribute_there (holds v (up (then (up (token o) w) (fails n (holds x (over (token y))))) c)) = record { derives = a_priority o w y c; shallow = omega arith }
  attribute_there (fails n (holds v (up (then (up (token o) w) (over (token h))) c))) = record { derives = a_tag o w h c; shallow = omega arith }
  attribute_there (fails n (fails m (then _ y))) = absurd (never y)
  attribute_there {i = i} (holds v (up {m = m} (then {vs = vs} (up (token o) w) (fails n (fails _ x30))) c)) = elim x30 [ ]

  attribute_back : {i j : ℕ} {ts : Trees} → Gram s attribute i j ts → attribute_shape.Means i ts j
  unfolding parse_attr_kind parse_attr_kind_veri ◌⧺◌ same_bytes
  attribute_back (a_chain o w v c) = holds w (up (then (up (token o) w) (holds v (over (token v)))) c)
  attribute_back (a_priority o w v c) = holds w (up (then (up (token o) w) (fails (λ z. one_word v z refl) (holds v (over (token v))))) c)
  attribute_back (a_tag o w h c) = fails (λ z. one_word w z refl) (holds w (up (then (up (token o) w) (over (token h))) c))

  attributes : Exact s Nowhere (row s (parse_attr_kind s)) (Shut s (list attribute) 64)
  unfolding least
  attributes = exact_row refl (exact_iff attribute_shape.exact (λ i ts j r. attribute_there r) (λ i ts j r. attribute_back r.derives))

  one-flag : {w : List ℕ} {i a p : ℕ} → Optional s w 1 i a p → ate s w i - i ≡ p
  one-flag x = rw (ate-is x) (omega (arith, flag_is x))

  abbrev attr_shape : Known s Nowhere (parse_attr s)
  unfolding parse_attr
  attr_shape = flags s kind_attr (λ i. ate s word-rule i - i) (known (exact_eat s word-rule) ⊳⊳ known (ident s) ⊳⊳ known attributes)

  attr_read : {i a f m j : ℕ} {us vs : Trees} → Optional s word-rule 1 i a f → One (Name s) (λ k. one (name_at s k)) a us m → Shut s (list attribute) 64 m vs j
      → Shut s attr 64 i (node (head kind_attr (ate s word-rule i - i) (pos_at s i) 0 0) (us ⧺ vs) ▸ ∅) j
  unfolding deepest ◌⧺◌
  attr_read x (token h) r = rw (one-flag x) (record { derives = a_attr x h r.derives; shallow = omega (arith, r.shallow); shuts = r.shuts })

  attr_there : {i j : ℕ} {ts : Trees} → attr_shape.Means i ts j → Shut s attr 64 i ts j
  unfolding parse_attr deepest ◌⧺◌
  attr_there (over (then (then (eats x) t) r)) = attr_read x t r

  attr_back : {i j : ℕ} {ts : Trees} → Gram s attr i j ts → deepest ts ≤ 64 → Close s j → attr_shape.Means i ts j
  unfolding parse_attr deepest ◌⧺◌
  attr_back (a_attr x h ps) m c = rw (← one-flag x) (over (then (then (eats x) (token h)) (record { derives = ps; shallow = omega arith; shuts = c })))

  exact_attr : Exact s Nowhere (parse_attr s) (Shut s attr 64)
  exact_attr = exact_iff attr_shape.exact (λ i ts j r. attr_there r) (λ i ts j r. attr_back r.derives r.shallow r.shuts)

  -- ---- externs

  abbrev extern_shape : Known s Nowhere (parse_extern s)
  unfolding parse_extern
  extern_shape =
      nexts (words s word_constructor) (parents s kind_extern_constructor 0 (known (word s word_constructor) ⊳⊳ known (ident s) ⊳⊳ known (ident s)))
      (nexts (words s word-extractor)
      (flags s kind_extern_extractor (λ i. ate s word_infallible (i + 1) - (i + 1)) (known (word s word-extractor) ⊳⊳ known (exact_eat s word_infallible) ⊳⊳ known (ident s) ⊳⊳ known (ident s)))
      (nexts (words s word_const) (known (word s word_const) ⊳⊳ parents s kind_extern_const 0 (known (constant s) ⊳⊳ known (ident s)))
      (refuses s 22 (omega arith) (omega arith) (λ z. omega arith))))

  extractor_read : {i a f m j : ℕ} {us vs : Trees} → Word s word-extractor i → Optional s word_infallible 1 (i + 1) a f
      → One (Name s) (λ k. one (name_at s k)) a us m → One (Name s) (λ k. one (name_at s k)) m vs j
      → Read s extern 64 i (node (head kind_extern_extractor (ate s word_infallible (i + 1) - (i + 1)) (pos_at s i) 0 0) (us ⧺ vs) ▸ ∅) j
  unfolding deepest ◌⧺◌
  extractor_read w x (token h) (token u) = rw (one-flag x) (record { derives = x_extractor w x h u; shallow = omega arith })

  extern_there : {i j : ℕ} {ts : Trees} → extern_shape.Means i ts j → Read s extern 64 i ts j
  unfolding parse_extern deepest ◌⧺◌
  extern_there (holds v (over (then (then (token w) (token h)) (token u)))) = record { derives = x_constructor w h u; shallow = omega arith }
  extern_there (fails a (holds v (over (then (then (then (token w) (eats x)) t) u)))) = extractor_read w x t u
  extern_there (fails a (fails b (holds v (then (token w) (over (then (token h) (token u))))))) = record { derives = x_const w h u; shallow = omega arith }
  extern_there {i = i} {j = j} {ts = ts} (fails a (fails b (fails _ x12))) = elim x12 [ ]

  extern_back : {i j : ℕ} {ts : Trees} → Gram s extern i j ts → extern_shape.Means i ts j
  unfolding parse_extern ◌⧺◌ same_bytes
  extern_back (x_constructor w h u) = holds w (over (then (then (token w) (token h)) (token u)))
  extern_back (x_extractor w x h u) = rw (← one-flag x) (fails (λ z. one_word w z refl) (holds w (over (then (then (then (token w) (eats x)) (token h)) (token u)))))
  extern_back (x_const w h u) = fails (λ z. one_word w z refl) (fails (λ z. one_word w z refl) (holds w (then (token w) (over (then (token h) (token u))))))

  exact_extern : Exact s Nowhere (parse_extern s) (Read s extern 64)
  exact_extern = exact_iff extern_shape.exact (λ i ts j r. extern_there r) (λ i ts j r. extern_back r.derives)

  -- ---- converters

  abbrev convert_shape : Known s Nowhere (parse_converter s)
  unfolding parse_converter
  convert_shape = parents s kind_converter 0 (known (ident s) ⊳⊳ known (ident s) ⊳⊳ known (ident s))

  convert_there : {i j : ℕ} {ts : Trees} → convert_shape.Means i ts j → Read s converter 64 i ts j
  unfolding parse_converter deepest ◌⧺◌
  convert_there (over (then (then (token h) (token u)) (token v))) = record { derives = k_convert h u v; shallow = omega arith }

  convert_back : {i j : ℕ} {ts : Trees} → Gram s converter i j ts → convert_shape.Means i ts j
  unfolding parse_converter ◌⧺◌
  convert_back (k_convert h u v) = over (then (then (token h) (token u)) (token v))

  exact_converter : Exact s Nowhere (parse_converter s) (Read s converter 64)
  exact_converter = exact_iff convert_shape.exact (λ i ts j r. convert_there r) (λ i ts j r. convert_back r.derives)

  -- ---- no pragma

  no_pragma : (b : List ℕ) → pragma_refusal b ≡ 0 → ⊥
  unfolding pragma_refusal
  no_pragma b e = go (eqb (ident_refusal b) 0) refl e
    where
      go : (t : Bool) → eqb (ident_refusal b) 0 ≡ t → pick t 17 (ident_refusal b) ≡ 0 → ⊥
      go true p h = omega arith
      go false p h = eqb-false _ 0 p h

  pragma_ground : (b : List ℕ) → (pragma_refusal b ≡ 0 → ⊥) → (10 ≤ pragma_refusal b) × (pragma_refusal b ≤ 27)
  unfolding pragma_refusal
  pragma_ground b n = either_ground b 17 (ident_refusal b) (λ z. (omega arith, omega arith)) (ident-within b) n

  exact_pragma : Exact s Nowhere (parse_pragma s) (One (λ _. ⊥) (λ i. one (name_at s i)))
  unfolding parse_pragma
  exact_pragma = exact_name (λ w. w) (record { yes = λ i k e. no_pragma (spelling s i) e; symbol = λ i h. absurd h; obeys = λ i h. absurd h; ground = λ b n. pragma_ground b n })

  -- ---- definitions

  -- a test that only refusals depend on
  by_test : (test : Token → Bool) → Judges s test (λ i. test (peek s i) ≡ true)
  by_test test = record { at = λ i. record { yes = λ e. e; no = λ e h. let z : ◌≡◌ {A = ℕ} 0 1 = cc in omega arith } }

  abbrev worded : (w : List ℕ) {f : Reader} → Known s Nowhere f → Known s Nowhere (defs.worded s w f)
  worded w r = known (lparen s) ⊳· word s w ⊳⊳ r ⊳· rparen s

  abbrev def_shape : Inner s (parse_def s)
  unfolding parse_def rest_def other_def parse_etor etor_head
  def_shape =
      inner (seconds↓ (words s word_pragma) (quiet (worded word_pragma (known exact_pragma)))
      (seconds↓ (words s word_type) (quiet (worded word_type (known (exact_typedef s 64))))
      (seconds↓ (words s word_decl) (quiet (worded word_decl (known exact_decl)))
      (seconds↓ (words s word_attr) (quiet (worded word_attr (known exact_attr)))
      (seconds↓ (words s word-rule) (known (lparen s) ⊳· word s word-rule ⊳↓ known (exact_rule s) ⊳· rparen s)
      (seconds↓ (words s word-extractor)
      (known (lparen s) ⊳· word s word-extractor
      ⊳↓ parents s kind_extractor 0 (known (lparen s) ⊳⊳ known (ident s) ⊳⊳ known (names s 64) ⊳· rparen s ⊳↓ known (exact_pattern s 64)) ⊳· rparen s)
      (quiet (seconds (words s word_extern) (worded word_extern (known exact_extern))
      (seconds (words s word_convert) (worded word_convert (known exact_converter))
      (seconds (by_test (is_uncovered s.text)) (known (lparen s) ⊳⊳ refuses_after s 3 27 (omega arith) (omega arith) (λ _. refl))
      (known (lparen s) ⊳⊳ refuses_after s 3 12 (omega arith) (omega arith) (λ _. refl))))))))))))

  def_there : {i j : ℕ} {ts : Trees} → def_shape.reads.Means i ts j → Read s definition 64 i ts j
  unfolding parse_def rest_def other_def parse_etor etor_head deepest ◌⧺◌
  def_there (holds v (up (then (up (token o) w) (token h)) c)) = absurd h
  def_there (fails _ (holds v (up (then (up (token o) w) r) c))) = record { derives = d_type o w r.derives c; shallow = r.shallow }
  def_there (fails _ (fails _ (holds v (up (then (up (token o) w) r) c)))) = record { derives = d_decl o w r.derives c; shallow = r.shallow }
  def_there (fails _ (fails _ (fails _ (holds v (up (then (up (token o) w) r) c))))) = record { derives = d_attr o w r.derives c; shallow = r.shallow }
  def_there (fails _ (fails _ (fails _ (fails _ (holds v (up (then (up (token o) w) r) c)))))) = record { derives = d_rule o w r.derives c; shallow = r.shallow }
  def_there (fails _ (fails _ (fails _ (fails _ (fails _ (holds v (up (then (up (token o) w) (over (then {vs = p} (up (then {vs = ts} (then (token q) (token h)) ns) z) r))) c))))))) =
      record { derives = d_extractor o w (x_template q h ns.derives z r.derives) c; shallow = omega (arith, ns.shallow, r.shallow, deepest_⧺ ts p) }
  def_there (fails _ (fails _ (fails _ (fails _ (fails _ (fails _ (holds v (up (then (up (token o) w) r) c)))))))) = record { derives = d_extern o w r.derives c; shallow = r.shallow }
  def_there (fails _ (fails _ (fails _ (fails _ (fails _ (fails _ (fails _ (holds v (up (then (up (token o) w) r) c))))))))) = record { derives = d_convert o w r.derives c; shallow = r.shallow }
  def_there (fails _ (fails _ (fails _ (fails _ (fails _ (fails _ (fails _ (fails _ (holds v (then _ y)))))))))) = absurd (never y)
  def_there (fails _ (fails _ (fails _ (fails _ (fails _ (fails _ (fails _ (fails _ (fails _ (then _ y)))))))))) = absurd (never y)

  def_back : {i j : ℕ} {ts : Trees} → Gram s definition i j ts → deepest ts ≤ 64 → def_shape.reads.Means i ts j
  unfolding parse_def rest_def other_def parse_etor etor_head deepest ◌⧺◌ same_bytes
  def_back (d_type o w p c) m = fails (λ z. one_word w z refl) (holds w (up (then (up (token o) w) (record { derives = p; shallow = m })) c))
  def_back (d_decl o w p c) m = fails (λ z. one_word w z refl) (fails (λ z. one_word w z refl) (holds w (up (then (up (token o) w) (record { derives = p; shallow = m })) c)))
  def_back (d_attr o w p c) m =
      fails (λ z. one_word w z refl) (fails (λ z. one_word w z refl) (fails (λ z. one_word w z refl)
      (holds w (up (then (up (token o) w) (record { derives = p; shallow = m; shuts = c })) c))))
  def_back (d_rule o w p c) m =
      fails (λ z. one_word w z refl) (fails (λ z. one_word w z refl) (fails (λ z. one_word w z refl) (fails (λ z. one_word w z refl)
      (holds w (up (then (up (token o) w) (record { derives = p; shallow = m })) c)))))
  def_back (d_extractor o w (x_template {ts = ts} {p = t} q h ns z p) c) m =
      let a = deepest_⧺ ts t in
      fails (λ z. one_word w z refl) (fails (λ z. one_word w z refl) (fails (λ z. one_word w z refl) (fails (λ z. one_word w z refl) (fails (λ z. one_word w z refl)
      (holds w (up (then (up (token o) w) (over (then (up (then (then (token q) (token h)) (record { derives = ns; shallow = omega arith; shuts = z })) z)
      (record { derives = p; shallow = omega arith; stops = λ _ y. other c y refl })))) c))))))
  def_back (d_extern o w p c) m =
      fails (λ z. one_word w z refl) (fails (λ z. one_word w z refl) (fails (λ z. one_word w z refl) (fails (λ z. one_word w z refl) (fails (λ z. one_word w z refl) (fails (λ z. one_word w z refl)
      (holds w (up (then (up (token o) w) (record { derives = p; shallow = m })) c)))))))
  def_back (d_convert o w p c) m =
      fails (λ z. one_word w z refl) (fails (λ z. one_word w z refl) (fails (λ z. one_word w z refl) (fails (λ z. one_word w z refl) (fails (λ z. one_word w z refl) (fails (λ z. one_word w z refl) (fails (λ z. one_word w z refl)
      (holds w (up (then (up (token o) w) (record { derives = p; shallow = m })) c))))))))

  in-rule : {i k : ℕ} → Open s i → Word s word-rule (i + 1) → Deep s rule 64 (i + 1 + 1) k → Deep s definition 64 i k
  in-rule o w (inside b n) = inside (b_rule o w b) n

  def_deep : {i k : ℕ} → def_shape.Reaches i k → Deep s definition 64 i k
  unfolding parse_def rest_def other_def parse_etor etor_head
  def_deep (if_not _ (if_not _ (if_not _ (if_not _ (if_so v (after (up (token o) w) d)))))) = in-rule o w d
  def_deep (if_not _ (if_not _ (if_not _ (if_not _ (if_not _ (if_so v (after (up (token o) w) (after (up (then (then (token q) (token h)) ns) c) n)))))))) =
      inside (b_extractor o w (b_template q h ns.derives c)) n
  def_deep {i = i} {k = k} (if_so _ x'') = elim x'' [ ]
  def_deep {i = i} {k = k} (if_not _ (if_so _ x5)) = elim x5 [ ]
  def_deep {i = i} {k = k} (if_not _ (if_not _ (if_so _ x8))) = elim x8 [ ]
  def_deep {i = i} {k = k} (if_not _ (if_not _ (if_not _ (if_so _ x11)))) = elim x11 [ ]
  def_deep {i = i} {k = k} (if_not _ (if_not _ (if_not _ (if_not _ (if_not _ (if_not _ x16)))))) = elim x16 [ ]

  exact_def : Exact s (Deep s definition 64) (parse_def s) (Read s definition 64)
  exact_def = exact_to (λ i k x. def_deep x) (exact_iff def_shape.reads.exact (λ i ts j r. def_there r) (λ i ts j r. def_back r.derives r.shallow))

  -- ---- the whole list

  pub record Whole (i : ℕ) (ts : Trees) (j : ℕ) : Type 0 where
    pub derives : Gram s (list definition) i j ts
    pub shallow : deepest ts ≤ 64
    pub whole : size s ≤ j

  end_tests : (i : ℕ) → Tests (leb (size s) i) (size s ≤ i)
  end_tests i = record { yes = λ e. leb-true (size s) i e; no = λ e h. omega (arith, leb-false (size s) i e) }

  defs-there : {k i j : ℕ} {ts : Trees} → Many (λ i. size s ≤ i) (λ _. Read s definition 64) k i ts j → Whole i ts j
  unfolding deepest
  defs-there (done e) = record { derives = empty; shallow = omega arith; whole = e }
  defs-there (next {ts = ts} {us = us} n r rs) =
      let a = defs-there rs in record { derives = cons r.derives a.derives; shallow = omega (arith, deepest_⧺ ts us, r.shallow, a.shallow); whole = a.whole }

  not_end : {i j : ℕ} {ts : Trees} → Gram s definition i j ts → size s ≤ i → ⊥
  unfolding least
  not_end p h = omega (arith, (item_on refl p).1)

  defs-back : {i j : ℕ} {ts : Trees} (k : ℕ) → Gram s (list definition) i j ts → deepest ts ≤ 64 → size s ≤ j → Many (λ i. size s ≤ i) (λ _. Read s definition 64) k i ts j
  defs-back k empty h e = done e
  defs-back k (cons {t = t} {ts = ts} p ps) h e =
      let z = deepest_⧺ t ts in next (not_end p) (record { derives = p; shallow = omega arith }) (defs-back (k + count t) ps (omega arith) e)

  past_def : {i j k : ℕ} {ts : Trees} → Read s definition 64 i ts j → Deep s (list definition) 64 j k → Deep s (list definition) 64 i k
  past_def r (inside (b_definitions q b) n) = inside (b_definitions (one_more r q) b) n

  first_def : {i k : ℕ} → Deep s definition 64 i k → Deep s (list definition) 64 i k
  first_def (inside b n) = inside (b_definitions no_items b) n

  defs-deep : {c i k : ℕ} → Among (λ i. size s ≤ i) (λ _. Read s definition 64) (Deep s definition 64) c i k → Deep s (list definition) 64 i k
  defs-deep (in_item n x) = first_def x
  defs-deep (past_item n r y) = past_def r (defs-deep y)

  pub exact_defs : Exact s (Deep s (list definition) 64) (parse_defs s) Whole
  unfolding parse_defs least
  exact_defs =
      exact_iff (exact_to (λ i k y. defs-deep y) (exact_many (size s) end_tests exact_def (λ i ts j r. item_on refl r.derives)))
      (λ i ts j r. defs-there r) (λ i ts j r. defs-back 0 r.derives r.shallow r.whole)

  def_within : {i j : ℕ} {ts : Trees} → Gram s definition i j ts → j ≤ size s
  def_within (d_type o w p c) = omega (arith, there c (omega arith))
  def_within (d_decl o w p c) = omega (arith, there c (omega arith))
  def_within (d_attr o w p c) = omega (arith, there c (omega arith))
  def_within (d_extern o w p c) = omega (arith, there c (omega arith))
  def_within (d_extractor o w p c) = omega (arith, there c (omega arith))
  def_within (d_rule o w p c) = omega (arith, there c (omega arith))
  def_within (d_convert o w p c) = omega (arith, there c (omega arith))

  -- definitions end within the tokens
  pub defs-within : {i j : ℕ} {ts : Trees} → Gram s (list definition) i j ts → i ≤ size s → j ≤ size s
  defs-within empty h = h
  defs-within (cons p ps) h = defs-within ps (def_within p)
