-- How far types read, and rows whose items know their place. Assumes nothing.
use Prim.Native.Nat.{ℕ, ◌+◌, ◌≤◌}
use native.Mathlib.Omega.{arith}
use mathlib.Core.Path.{◌≡◌, refl, ap, subst, ◌∙◌}
use mathlib.Core.List.{List}
use mathlib.Core.Bool.{Bool}
use Rattle.trees.specs.Tree.{head}
use Rattle.trees.specs.Ast.{kind_type_def, kind_type_value_primitive, kind_type_value_enum, kind_type_value_struct, kind_variant, kind_fields_unit, kind_fields_struct, kind_fields_tuple, kind_struct_field, kind_tuple_field}
use Rattle.tokens.specs.Token.{is_lparen, is_rparen, is_symbol, is_word}
use Rattle.tokens.specs.Input.{Input, peek, pos_at, size}
use Rattle.steps.specs.Keywords.{word_primitive, word_enum, word_struct}
use Rattle.steps.specs.Outcome.{Reader, ◌⊳◌, parent, bare, nothing, refuse_after, if_next, if_second, many_at, row, expect-lparen, expect-rparen, expect-word, parse_ident}
use Rattle.std.specs.Prelude.{Result, Ok, Err}
use Rattle.steps.specs.declared.Parser.{Parser}
use Rattle.steps.specs.declared.Source.{Source}
use Rattle.steps.specs.declared.State.{State}
use Rattle.steps.specs.declared.Stop.{Stop}
use Rattle.steps.specs.Sizes.{BoundedAt, Bounded}
use Rattle.steps.specs.Met.{seen}
use Rattle.steps.specs.Read.{read_by, came_to, Read, ReadAt, Begun, ClosedBy}
use Rattle.steps.proofs.MetLaws.{node_over, node_none}
use Rattle.steps.proofs.ReadLaws.{same_then, children}
use Rattle.steps.proofs.SizeLaws.{Steady, Item, steady, item, sized-node, sized_less, then_bounded, parent-bounded, flagged-bounded, bare-bounded, next-bounded, second-bounded, nothing-bounded, after-bounded, lparen-bounded, rparen-bounded, word-bounded, ident-bounded}
use Rattle.steps.proofs.RowLaws.{row_steady, row-bounded}
use Rattle.parser.specs.Types.{parse_struct_field, parse_struct_fields, parse_tuple_field, parse_tuple_fields, parse_fields, parse_type_variant, parse_typevalue, modifier_flags, parse_modifiers, parse_type}
use Rattle.parser.proofs.ModifierLaws.{modifiers_steady}

module _ (s : Input) where
  struct_field_bounded : Bounded 1 1 0 s (parse_struct_field s)
  unfolding parse_struct_field
  struct_field_bounded =
      parent-bounded 4 10 0 1 1 0 s kind_struct_field 0 (expect-lparen s ⊳ parse_ident s ⊳ parse_ident s ⊳ expect-rparen s) (omega arith) (omega arith)
      (then_bounded 3 7 0 1 3 0 s (expect-lparen s ⊳ parse_ident s ⊳ parse_ident s) (expect-rparen s)
      (then_bounded 2 5 0 1 2 0 s (expect-lparen s ⊳ parse_ident s) (parse_ident s)
      (then_bounded 1 3 0 1 2 0 s (expect-lparen s) (parse_ident s) (lparen-bounded s) (ident-bounded s)) (ident-bounded s)) (rparen-bounded s))

  pub struct_field_steady : Steady s (parse_struct_field s)
  struct_field_steady = steady 1 1 s (parse_struct_field s) struct_field_bounded

  pub struct_field_item : Item s (parse_struct_field s)
  struct_field_item = item 1 s (parse_struct_field s) struct_field_bounded

  pub struct_fields_steady : Steady s (row s (parse_struct_field s))
  struct_fields_steady = row_steady s (λ i. is_rparen (peek s i)) (parse_struct_field s) struct_field_item

  pub tuple_field_item : BoundedAt 1 1 0 s (parse_tuple_field s)
  unfolding parse_tuple_field
  tuple_field_item = record { sized = λ k i. sized-node 1 2 0 1 1 0 s i (head kind_tuple_field 0 (pos_at s i) k 0) (parse_ident s i) (omega arith) (omega arith) ((ident-bounded s).sized i) }

  pub tuple_field_steady : BoundedAt 0 0 0 s (parse_tuple_field s)
  tuple_field_steady = record { sized = λ k i. sized_less 1 1 0 0 0 0 s i (parse_tuple_field s k i) (omega arith) (omega arith) (tuple_field_item.sized k i) }

  pub tuple_fields_steady : Steady s (many_at (size s) (λ i. is_rparen (peek s i)) (parse_tuple_field s) 0)
  tuple_fields_steady = record { sized = λ i. (row-bounded (λ j. is_rparen (peek s j)) (parse_tuple_field s) s 1 0 tuple_field_item refl).sized 0 i }

  pub unit_bounded : Bounded 0 0 1 s (bare kind_fields_unit nothing)
  unit_bounded = bare-bounded 0 0 0 0 0 1 s kind_fields_unit nothing (omega arith) (omega arith) (nothing-bounded s)

  pub fields-bounded : Bounded 0 0 1 s (parse_fields s)
  unfolding parse_fields parse_struct_fields parse_tuple_fields
  fields-bounded =
      next-bounded 0 0 1 s is_rparen (bare kind_fields_unit nothing) (if_next s is_lparen structs tuples) unit_bounded
      (next-bounded 0 0 1 s is_lparen structs tuples
      (parent-bounded 0 0 0 0 0 1 s kind_fields_struct 0 (row s (parse_struct_field s)) (omega arith) (omega arith) struct_fields_steady)
      (parent-bounded 0 0 0 0 0 1 s kind_fields_tuple 0 (many_at (size s) (λ i. is_rparen (peek s i)) (parse_tuple_field s) 0) (omega arith) (omega arith) tuple_fields_steady))
    where
      structs : Reader
      structs = parent s kind_fields_struct 0 (row s (parse_struct_field s))

      tuples : Reader
      tuples = parent s kind_fields_tuple 0 (many_at (size s) (λ i. is_rparen (peek s i)) (parse_tuple_field s) 0)

  variant-bounded : Bounded 1 0 0 s (parse_type_variant s)
  unfolding parse_type_variant
  variant-bounded =
      next-bounded 1 0 0 s is_symbol (parent s kind_variant 0 (parse_ident s ⊳ bare kind_fields_unit nothing)) (parent s kind_variant 0 (expect-lparen s ⊳ parse_ident s ⊳ parse_fields s ⊳ expect-rparen s))
      (parent-bounded 1 2 1 1 0 0 s kind_variant 0 (parse_ident s ⊳ bare kind_fields_unit nothing) (omega arith) (omega arith)
      (then_bounded 1 2 0 0 0 1 s (parse_ident s) (bare kind_fields_unit nothing) (ident-bounded s) unit_bounded))
      (parent-bounded 3 8 1 1 0 0 s kind_variant 0 (expect-lparen s ⊳ parse_ident s ⊳ parse_fields s ⊳ expect-rparen s) (omega arith) (omega arith)
      (then_bounded 2 5 1 1 3 0 s (expect-lparen s ⊳ parse_ident s ⊳ parse_fields s) (expect-rparen s)
      (then_bounded 2 5 0 0 0 1 s (expect-lparen s ⊳ parse_ident s) (parse_fields s)
      (then_bounded 1 3 0 1 2 0 s (expect-lparen s) (parse_ident s) (lparen-bounded s) (ident-bounded s)) fields-bounded) (rparen-bounded s)))

  pub variant_steady : Steady s (parse_type_variant s)
  variant_steady = steady 1 0 s (parse_type_variant s) variant-bounded

  pub variant_item : Item s (parse_type_variant s)
  variant_item = variant-bounded

  pub variants_steady : Steady s (row s (parse_type_variant s))
  variants_steady = row_steady s (λ i. is_rparen (peek s i)) (parse_type_variant s) variant_item

  -- `(word ..)` as a node
  worded : (u c d kind : ℕ) (w : List ℕ) (f : Reader) → d ≤ 1 → Bounded u c d s f → Bounded 1 1 0 s (parent s kind 0 (expect-lparen s ⊳ expect-word s w ⊳ f ⊳ expect-rparen s))
  worded u c d kind w f z b =
      parent-bounded (1 + 1 + u + 1) (3 + 3 + c + 3) (0 + 0 + d + 0) 1 1 0 s kind 0 (expect-lparen s ⊳ expect-word s w ⊳ f ⊳ expect-rparen s) (omega arith) (omega arith)
      (then_bounded (1 + 1 + u) (3 + 3 + c) (0 + 0 + d) 1 3 0 s (expect-lparen s ⊳ expect-word s w ⊳ f) (expect-rparen s)
      (then_bounded (1 + 1) (3 + 3) (0 + 0) u c d s (expect-lparen s ⊳ expect-word s w) f
      (then_bounded 1 3 0 1 3 0 s (expect-lparen s) (expect-word s w) (lparen-bounded s) (word-bounded s w)) b) (rparen-bounded s))

  pub typevalue_bounded : Bounded 1 1 0 s (parse_typevalue s)
  unfolding parse_typevalue
  typevalue_bounded =
      second-bounded 1 1 0 s (is_word s.text word_primitive) primitive enums (worded 1 2 0 kind_type_value_primitive word_primitive (parse_ident s) (omega arith) (ident-bounded s))
      (second-bounded 1 1 0 s (is_word s.text word_enum) (parent s kind_type_value_enum 0 (expect-lparen s ⊳ expect-word s word_enum ⊳ row s (parse_type_variant s) ⊳ expect-rparen s)) structs
      (worded 0 0 0 kind_type_value_enum word_enum (row s (parse_type_variant s)) (omega arith) variants_steady)
      (second-bounded 1 1 0 s (is_word s.text word_struct) (parent s kind_type_value_struct 0 (expect-lparen s ⊳ expect-word s word_struct ⊳ parse_fields s ⊳ expect-rparen s)) (refuse_after s 1 19)
      (worded 0 0 1 kind_type_value_struct word_struct (parse_fields s) (omega arith) fields-bounded) (after-bounded 1 1 0 s 1 19)))
    where
      primitive : Reader
      primitive = parent s kind_type_value_primitive 0 (expect-lparen s ⊳ expect-word s word_primitive ⊳ parse_ident s ⊳ expect-rparen s)

      structs : Reader
      structs = if_second s (is_word s.text word_struct) (parent s kind_type_value_struct 0 (expect-lparen s ⊳ expect-word s word_struct ⊳ parse_fields s ⊳ expect-rparen s)) (refuse_after s 1 19)

      enums : Reader
      enums = if_second s (is_word s.text word_enum) (parent s kind_type_value_enum 0 (expect-lparen s ⊳ expect-word s word_enum ⊳ row s (parse_type_variant s) ⊳ expect-rparen s)) structs

  pub typevalue_steady : Steady s (parse_typevalue s)
  typevalue_steady = steady 1 1 s (parse_typevalue s) typevalue_bounded

  pub type_bounded : Bounded 1 1 0 s (parse_type s)
  unfolding parse_type
  type_bounded =
      flagged-bounded 2 3 0 1 1 0 s kind_type_def (λ i. modifier_flags s (size s) 0 0 (i + 1)) (parse_ident s ⊳ parse_modifiers s ⊳ parse_typevalue s) (omega arith) (omega arith)
      (then_bounded 1 2 0 1 1 0 s (parse_ident s ⊳ parse_modifiers s) (parse_typevalue s)
      (then_bounded 1 2 0 0 0 0 s (parse_ident s) (parse_modifiers s) (ident-bounded s) (modifiers_steady s)) typevalue_bounded)

-- ---- promises

-- a row from its first item on
pub row_at_start : (stop : Input → ℕ → Bool) (f : Input → ℕ → Reader) {p p₁ p₂ : Parser} {r : Result (Unit {0}) Stop} → Begun p p₁ → ReadAt (λ s. many_at (size s) (stop s) (f s)) p₁ p₂ r → Read (λ s. many_at (size s) (stop s) (f s) 0) p₁ p₂ r
row_at_start stop f {p₁ = p₁} {p₂ = p₂} {r = r} b m = subst (λ (k : ℕ). Read (λ s. many_at (size s) (stop s) (f s) k) p₁ p₂ r) (ap (λ (x : State). x.items) b.inside) m

module _ {p p₁ p₂ : Parser} (b : Begun p p₁) where
  pub tuple_field_read : {x : ℕ} {n : State} {p₃ : Parser} {u v : Unit {0}} → n ≡ p.state → x ≡ pos_at (read_by p₂) n.next → Read parse_ident p₁ p₂ (Ok u) → ClosedBy (head kind_tuple_field 0 x n.items 0) n p₂ p₃ → ReadAt parse_tuple_field p p₃ (Ok v)
  unfolding parse_tuple_field came_to
  tuple_field_read {x = x} {n = n} {p₃ = p₃} {u = u} z a m c =
      let y : x ≡ pos_at (read_by p) p.state.next = a ∙ ap (λ (k : Source). pos_at (seen k) n.next) (m.same.source ∙ b.same.source) ∙ ap (λ (k : State). pos_at (read_by p) k.next) z in
      let d : ClosedBy (head kind_tuple_field 0 (pos_at (read_by p) p.state.next) p.state.items 0) p.state p₂ p₃ =
      subst (λ (k : ℕ). ClosedBy (head kind_tuple_field 0 k p.state.items 0) p.state p₂ p₃) y (subst (λ (k : State). ClosedBy (head kind_tuple_field 0 x k.items 0) k p₂ p₃) z c)
      in
      record {
        read = record { met = node_over (parse_ident (read_by p)) (head kind_tuple_field 0 (pos_at (read_by p) p.state.next) p.state.items 0) p.state p₁.state p.out.now p₂.out.now p₃.out.now p₂.state p₃.state d.closed b.inside (children parse_ident p p₁ p₂ (Ok u) b m) };
        same = same_then (same_then b.same m.same) c.same;
      }

  pub tuple_field_stopped : {d : Stop} → Read parse_ident p₁ p₂ (Err d) → ReadAt parse_tuple_field p p₂ (Err d)
  unfolding parse_tuple_field came_to
  tuple_field_stopped {d = d} m =
      record {
        read = record { met = node_none (parse_ident (read_by p)) (head kind_tuple_field 0 (pos_at (read_by p) p.state.next) p.state.items 0) p.state p₁.state p.out.now p₂.out.now d b.inside (children parse_ident p p₁ p₂ (Err d) b m) };
        same = same_then b.same m.same;
      }
