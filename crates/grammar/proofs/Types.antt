-- The readers of types, and of names in rows, are exact. Assumes nothing.
use Prim.Native.Nat.{ℕ, ◌+◌, ◌<◌, ◌≤◌}
use native.Mathlib.Omega.{arith}
use mathlib.Core.Path.{refl}
use Rattle.trees.specs.Tree.{Trees, ◌⧺◌, count, head}
use Rattle.trees.specs.Ast.{kind_type_def, kind_type_value_primitive, kind_type_value_enum, kind_type_value_struct, kind_variant, kind_fields_unit, kind_fields_struct, kind_fields_tuple, kind_struct_field, kind_tuple_field}
use Rattle.words.specs.Bytes.{same_bytes}
use Rattle.tokens.specs.Token.{is_rparen}
use Rattle.tokens.specs.Input.{Input, peek, pos_at, size}
use Rattle.steps.specs.Keywords.{word_primitive, word_enum, word_struct}
use Rattle.steps.specs.Outcome.{row, many_at, parse_ident}
use Rattle.parser.specs.Types.{parse_struct_field, parse_struct_fields, parse_tuple_field, parse_tuple_fields, parse_fields, parse_type_variant, parse_typevalue, modifier_flags, parse_type}
use Rattle.grammar.specs.Lexical.{Open, Close, Symbol, Name, one, tree_at, name_at}
use Rattle.grammar.specs.Grammar.{typedef, typevalue, variant, fields, field, name, types, list, Gram, empty, cons, t_type, v_primitive, v_enum, v_struct, w_plain, w_fields, f_unit, f_struct, f_tuple, f_field, f_end, f_type, n_name}
use Rattle.grammar.specs.Depth.{deepest}
use Rattle.grammar.specs.Nesting.{Read}
use Rattle.grammar.proofs.Exact.{Rel, Exact, One, token, none, then, up, Over, over, holds, fails, Many, done, next, Among, in_item, past_item, Nowhere, nowhere, exact_iff, exact_to, exact_node, exact_many_at}
use Rattle.grammar.proofs.Known.{Known, known, refuses_after, nothings, ◌⊳⊳◌, ◌⊳·◌, parents, flags, bares, nexts, seconds}
use Rattle.grammar.proofs.Lexemes.{there, other, opens, closes, symbols, words, one_word, lparen, rparen, word, ident}
use Rattle.grammar.proofs.Laws.{least}
use Rattle.grammar.proofs.Rows.{Shut, exact_row}
use Rattle.grammar.proofs.Options.{passed, exact_modifiers, type_flags}

module _ (s : Input) (d : ℕ) where
  -- ---- names
  name-there : {i j : ℕ} {ts : Trees} → One (Name s) (λ i. one (name_at s i)) i ts j → Read s name d i ts j
  unfolding deepest
  name-there (token h) = record { derives = n_name h; shallow = omega arith }

  name_back : {i j : ℕ} {ts : Trees} → Gram s name i j ts → One (Name s) (λ i. one (name_at s i)) i ts j
  name_back (n_name h) = token h

  pub names : Exact s Nowhere (row s (parse_ident s)) (Shut s (list name) d)
  unfolding least
  names = exact_row refl (exact_iff (ident s) (λ i ts j r. name-there r) (λ i ts j r. name_back r.derives))

  -- ---- fields
  abbrev field_shape : Known s Nowhere (parse_struct_field s)
  unfolding parse_struct_field
  field_shape = parents s kind_struct_field 0 (known (lparen s) ⊳⊳ known (ident s) ⊳⊳ known (ident s) ⊳· rparen s)

  field_there : {i j : ℕ} {ts : Trees} → field_shape.Means i ts j → Read s field d i ts j
  unfolding parse_struct_field deepest ◌⧺◌
  field_there (over (up (then (then (token o) (token h)) (token u)) c)) = record { derives = f_field o h u c; shallow = omega arith }

  field_back : {i j : ℕ} {ts : Trees} → Gram s field i j ts → field_shape.Means i ts j
  unfolding parse_struct_field ◌⧺◌
  field_back (f_field o h u c) = over (up (then (then (token o) (token h)) (token u)) c)

  struct_fields : Exact s Nowhere (row s (parse_struct_field s)) (Shut s (list field) d)
  unfolding least
  struct_fields = exact_row refl (exact_iff field_shape.exact (λ i ts j r. field_there r) (λ i ts j r. field_back r.derives))

  -- a tuple field, after k others
  abbrev TypeAt : ℕ → Rel
  TypeAt k = Over (λ i. head kind_tuple_field 0 (pos_at s i) k 0) (One (Name s) (λ i. one (name_at s i)))

  exact_type_at : (k : ℕ) → Exact s Nowhere (parse_tuple_field s k) (TypeAt k)
  unfolding parse_tuple_field
  exact_type_at k = exact_node (λ i. head kind_tuple_field 0 (pos_at s i) k 0) (ident s)

  type_on : (k i : ℕ) (ts : Trees) (j : ℕ) → TypeAt k i ts j → (i < j) × (i < size s)
  type_on k i ts j (over (token h)) = (omega arith, there h.symbol (omega arith))

  no_types : {c i k : ℕ} → Among (Close s) TypeAt Nowhere c i k → Nowhere i k
  no_types (in_item n y) = y
  no_types (past_item n r y) = absurd (nowhere (no_types y))

  types-there : {k i j : ℕ} {ts : Trees} → Many (Close s) TypeAt k i ts j → Shut s (types k) d i ts j
  unfolding deepest ◌⧺◌ count
  types-there (done c) = record { derives = f_end; shallow = omega arith; shuts = c }
  types-there (next n (over (token h)) rs) = let a = types-there rs in record { derives = f_type h a.derives; shallow = omega (arith, a.shallow); shuts = a.shuts }

  types-back : {k i j : ℕ} {ts : Trees} → Gram s (types k) i j ts → Close s j → Many (Close s) TypeAt k i ts j
  unfolding ◌⧺◌ count
  types-back f_end c = done c
  types-back (f_type h ps) c = next (λ z. other z h.symbol refl) (over (token h)) (types-back ps c)

  tuple_fields : Exact s Nowhere (many_at (size s) (λ i. is_rparen (peek s i)) (parse_tuple_field s) 0) (Shut s (types 0) d)
  tuple_fields = exact_iff (exact_to (λ i k y. no_types y) (exact_many_at (size s) (closes s).at exact_type_at type_on 0)) (λ i ts j r. types-there r) (λ i ts j r. types-back r.derives r.shuts)

  abbrev fields-shape : Known s Nowhere (parse_fields s)
  unfolding parse_fields parse_struct_fields parse_tuple_fields
  fields-shape =
      nexts (closes s) (bares kind_fields_unit nothings)
      (nexts (opens s) (parents s kind_fields_struct 0 (known struct_fields))
      (parents s kind_fields_tuple 0 (known tuple_fields)))

  some-fields : {i j : ℕ} {ts : Trees} → Gram s (list field) i j ts → (Close s i → ⊥) → Close s j → Gram s fields i j (one (tree_at s i kind_fields_struct 0 ts))
  some-fields empty n c = absurd (n c)
  some-fields (cons p ps) n c = f_struct p ps

  some-types : {i j : ℕ} {ts : Trees} → Gram s (types 0) i j ts → (Close s i → ⊥) → Close s j → Gram s fields i j (one (tree_at s i kind_fields_tuple 0 ts))
  some-types f_end n c = absurd (n c)
  some-types (f_type h ps) n c = f_tuple h ps

  fields-there : {i j : ℕ} {ts : Trees} → fields-shape.Means i ts j → Shut s fields d i ts j
  unfolding parse_fields parse_struct_fields parse_tuple_fields deepest
  fields-there (holds c (over none)) = record { derives = f_unit; shallow = omega arith; shuts = c }
  fields-there (fails n (holds o (over r))) = record { derives = some-fields r.derives n r.shuts; shallow = omega (arith, r.shallow); shuts = r.shuts }
  fields-there (fails n (fails m (over r))) = record { derives = some-types r.derives n r.shuts; shallow = omega (arith, r.shallow); shuts = r.shuts }

  field_open : {i j : ℕ} {ts : Trees} → Gram s field i j ts → Open s i
  field_open (f_field o h u c) = o

  fields_back : {i j : ℕ} {ts : Trees} → Gram s fields i j ts → deepest ts ≤ d → Close s j → fields-shape.Means i ts j
  unfolding parse_fields parse_struct_fields parse_tuple_fields deepest
  fields_back f_unit m c = holds c (over none)
  fields_back (f_struct p ps) m c =
      let o = field_open p in fails (λ z. other o z refl) (holds o (over (record { derives = cons p ps; shallow = omega arith; shuts = c })))
  fields_back (f_tuple h ps) m c =
      fails (λ z. other z h.symbol refl) (fails (λ z. other z h.symbol refl) (over (record { derives = f_type h ps; shallow = omega arith; shuts = c })))

  exact_fields : Exact s Nowhere (parse_fields s) (Shut s fields d)
  exact_fields = exact_iff fields-shape.exact (λ i ts j r. fields-there r) (λ i ts j r. fields_back r.derives r.shallow r.shuts)

  -- ---- type values
  abbrev variant-shape : Known s Nowhere (parse_type_variant s)
  unfolding parse_type_variant
  variant-shape =
      nexts (symbols s) (parents s kind_variant 0 (known (ident s) ⊳⊳ bares kind_fields_unit nothings))
      (parents s kind_variant 0 (known (lparen s) ⊳⊳ known (ident s) ⊳⊳ known exact_fields ⊳· rparen s))

  variant-there : {i j : ℕ} {ts : Trees} → variant-shape.Means i ts j → Read s variant d i ts j
  unfolding parse_type_variant deepest ◌⧺◌
  variant-there (holds k (over (then (token h) (over none)))) = record { derives = w_plain h; shallow = omega arith }
  variant-there (fails n (over (up (then (then (token o) (token h)) r) c))) = record { derives = w_fields o h r.derives c; shallow = omega (arith, r.shallow) }

  variant_back : {i j : ℕ} {ts : Trees} → Gram s variant i j ts → deepest ts ≤ d → variant-shape.Means i ts j
  unfolding parse_type_variant deepest ◌⧺◌
  variant_back (w_plain h) m = holds h.symbol (over (then (token h) (over none)))
  variant_back (w_fields o h p c) m = fails (λ z. other o z refl) (over (up (then (then (token o) (token h)) (record { derives = p; shallow = omega arith; shuts = c })) c))

  variants : Exact s Nowhere (row s (parse_type_variant s)) (Shut s (list variant) d)
  unfolding least
  variants = exact_row refl (exact_iff variant-shape.exact (λ i ts j r. variant-there r) (λ i ts j r. variant_back r.derives r.shallow))

  abbrev value-shape : Known s Nowhere (parse_typevalue s)
  unfolding parse_typevalue
  value-shape =
      seconds (words s word_primitive) (parents s kind_type_value_primitive 0 (known (lparen s) ⊳· word s word_primitive ⊳⊳ known (ident s) ⊳· rparen s))
      (seconds (words s word_enum) (parents s kind_type_value_enum 0 (known (lparen s) ⊳· word s word_enum ⊳⊳ known variants ⊳· rparen s))
      (seconds (words s word_struct) (parents s kind_type_value_struct 0 (known (lparen s) ⊳· word s word_struct ⊳⊳ known exact_fields ⊳· rparen s))
      (refuses_after s 1 19 (omega arith) (omega arith) (λ z. absurd (omega arith)))))

  value_there : {i j : ℕ} {ts : Trees} → value-shape.Means i ts j → Read s typevalue d i ts j
  unfolding parse_typevalue deepest ◌⧺◌
  value_there (holds v (over (up (then (up (token o) w) (token h)) c))) = record { derives = v_primitive o w h c; shallow = omega arith }
  value_there (fails a (holds v (over (up (then (up (token o) w) r) c)))) = record { derives = v_enum o w r.derives c; shallow = omega (arith, r.shallow) }
  value_there (fails a (fails b (holds v (over (up (then (up (token o) w) r) c))))) = record { derives = v_struct o w r.derives c; shallow = omega (arith, r.shallow) }
  value_there {i = i} {j = j} {ts = ts} (fails a (fails b (fails _ x12))) = elim x12 [ ]

  value-back : {i j : ℕ} {ts : Trees} → Gram s typevalue i j ts → deepest ts ≤ d → value-shape.Means i ts j
  unfolding parse_typevalue deepest ◌⧺◌ same_bytes
  value-back (v_primitive o w h c) m = holds w (over (up (then (up (token o) w) (token h)) c))
  value-back (v_enum o w ps c) m = fails (λ z. one_word w z refl) (holds w (over (up (then (up (token o) w) (record { derives = ps; shallow = omega arith; shuts = c })) c)))
  value-back (v_struct o w p c) m =
      fails (λ z. one_word w z refl) (fails (λ z. one_word w z refl) (holds w (over (up (then (up (token o) w) (record { derives = p; shallow = omega arith; shuts = c })) c))))

  exact_value : Exact s Nowhere (parse_typevalue s) (Read s typevalue d)
  exact_value = exact_iff value-shape.exact (λ i ts j r. value_there r) (λ i ts j r. value-back r.derives r.shallow)

  -- ---- types
  value_no_symbol : {i j : ℕ} {ts : Trees} → Gram s typevalue i j ts → Symbol s i → ⊥
  value_no_symbol (v_primitive o w h c) z = other o z refl
  value_no_symbol (v_enum o w ps c) z = other o z refl
  value_no_symbol (v_struct o w p c) z = other o z refl

  abbrev type_shape : Known s Nowhere (parse_type s)
  unfolding parse_type
  type_shape = flags s kind_type_def (λ i. modifier_flags s (size s) 0 0 (i + 1)) (known (ident s) ⊳⊳ known (exact_modifiers s) ⊳⊳ known exact_value)

  type_there : {i j : ℕ} {ts : Trees} → type_shape.Means i ts j → Read s typedef d i ts j
  unfolding parse_type deepest ◌⧺◌
  type_there (over (then (then (token h) (passed m z)) r)) = rw (type_flags m z) (record { derives = t_type h m r.derives; shallow = omega (arith, r.shallow) })

  type_back : {i j : ℕ} {ts : Trees} → Gram s typedef i j ts → deepest ts ≤ d → type_shape.Means i ts j
  unfolding parse_type deepest ◌⧺◌
  type_back (t_type h m p) l =
      rw (← type_flags m (value_no_symbol p)) (over (then (then (token h) (passed m (value_no_symbol p))) (record { derives = p; shallow = omega arith })))

  pub exact_typedef : Exact s Nowhere (parse_type s) (Read s typedef d)
  exact_typedef = exact_iff type_shape.exact (λ i ts j r. type_there r) (λ i ts j r. type_back r.derives r.shallow)
