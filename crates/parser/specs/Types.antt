-- Types of parser.rs: parse_type, parse_typevalue, parse_type_variant, parse_fields and what they read.
use Rattle.std.specs.Prelude.{ℕ, zero, suc, ◌+◌}
use Rattle.trees.specs.Choice.{choose}
use Rattle.trees.specs.Tree.{∅, head}
use Rattle.trees.specs.Ast.{kind_type_def, kind_type_value_primitive, kind_type_value_enum, kind_type_value_struct, kind_variant, kind_fields_unit, kind_fields_struct, kind_fields_tuple, kind_struct_field, kind_tuple_field}
use Rattle.tokens.specs.Token.{is_lparen, is_rparen, is_symbol, is_word}
use Rattle.tokens.specs.Input.{Input, peek, pos_at, size}
use Rattle.steps.specs.Keywords.{word_extern, word_nodebug, word_primitive, word_enum, word_struct}
use Rattle.steps.specs.Outcome.{Reader, accept, refuse, refusal, ◌⊳◌, node_of, parent, flagged, bare, nothing, refuse_after, if_next, if_second, many_at, row, expect-lparen, expect-rparen, expect-word, parse_ident}

-- ---- fields

-- `(name type)`
unfoldable pub parse_struct_field : Input → Reader
parse_struct_field s = parent s kind_struct_field 0 (expect-lparen s ⊳ parse_ident s ⊳ parse_ident s ⊳ expect-rparen s)

unfoldable pub parse_struct_fields : Input → Reader
parse_struct_fields s = parent s kind_fields_struct 0 (row s (parse_struct_field s))

-- a type, after k others
unfoldable pub parse_tuple_field : Input → ℕ → Reader
parse_tuple_field s k = λ i. node_of (head kind_tuple_field 0 (pos_at s i) k 0) (parse_ident s i)

unfoldable pub parse_tuple_fields : Input → Reader
parse_tuple_fields s = parent s kind_fields_tuple 0 (many_at (size s) (λ i. is_rparen (peek s i)) (parse_tuple_field s) 0)

unfoldable pub parse_fields : Input → Reader
parse_fields s =
    if_next s is_rparen (bare kind_fields_unit nothing)
    (if_next s is_lparen (parse_struct_fields s)
    (parse_tuple_fields s))

-- ---- type values

-- `name` or `(name fields)`
unfoldable pub parse_type_variant : Input → Reader
parse_type_variant s =
    if_next s is_symbol
    (parent s kind_variant 0 (parse_ident s ⊳ bare kind_fields_unit nothing))
    (parent s kind_variant 0 (expect-lparen s ⊳ parse_ident s ⊳ parse_fields s ⊳ expect-rparen s))

-- `(primitive name)`, `(enum variants)` or `(struct fields)`; else 19 at its `(`
unfoldable pub parse_typevalue : Input → Reader
parse_typevalue s =
    if_second s (is_word s.text word_primitive)
    (parent s kind_type_value_primitive 0 (expect-lparen s ⊳ expect-word s word_primitive ⊳ parse_ident s ⊳ expect-rparen s))
    (if_second s (is_word s.text word_enum)
    (parent s kind_type_value_enum 0 (expect-lparen s ⊳ expect-word s word_enum ⊳ row s (parse_type_variant s) ⊳ expect-rparen s))
    (if_second s (is_word s.text word_struct)
    (parent s kind_type_value_struct 0 (expect-lparen s ⊳ expect-word s word_struct ⊳ parse_fields s ⊳ expect-rparen s))
    (refuse_after s 1 19)))

-- ---- types

-- the modifiers from token i on, in any order, repeated: what e and n already are, `extern` makes e 1 and `nodebug` makes n 2.
-- The first argument bounds their number.
unfoldable pub modifier_flags : Input → ℕ → ℕ → ℕ → ℕ → ℕ
modifier_flags s zero e n i = e + n
modifier_flags s (suc f) e n i =
    choose (is_word s.text word_extern (peek s i)) (λ _. modifier_flags s f 1 n (i + 1))
    (λ _. choose (is_word s.text word_nodebug (peek s i)) (λ _. modifier_flags s f e 2 (i + 1))
    (λ _. e + n))

unfoldable pub modifiers_end : Input → ℕ → ℕ → ℕ
modifiers_end s zero i = i
modifiers_end s (suc f) i =
    choose (is_word s.text word_extern (peek s i)) (λ _. modifiers_end s f (i + 1))
    (λ _. choose (is_word s.text word_nodebug (peek s i)) (λ _. modifiers_end s f (i + 1))
    (λ _. i))

-- the modifiers passed over; 18 stands at the token after a symbol that is none
unfoldable pub parse_modifiers : Input → Reader
parse_modifiers s = λ i.
    choose (is_symbol (peek s (modifiers_end s (size s) i)))
    (λ _. refuse (refusal 18 (pos_at s (modifiers_end s (size s) i + 1)) (modifiers_end s (size s) i + 1)))
    (λ _. accept ∅ (modifiers_end s (size s) i))

-- after `type`: a name, modifiers, a value
unfoldable pub parse_type : Input → Reader
parse_type s = flagged s kind_type_def (λ i. modifier_flags s (size s) 0 0 (i + 1)) (parse_ident s ⊳ parse_modifiers s ⊳ parse_typevalue s)
