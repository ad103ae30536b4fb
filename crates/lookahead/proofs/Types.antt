-- The readers of types. Assumes nothing.
use Prim.Native.Nat.{ℕ, zero, suc, ◌+◌, ◌≤◌}
use native.Mathlib.Omega.{arith}
use mathlib.Core.Path.{◌≡◌, refl, sym, ap, ◌∙◌}
use mathlib.Core.List.{List}
use mathlib.Core.Bool.{Bool, true, false}
use borrow.Author.Tests.{ltb-false, le-ltb}
use Rattle.trees.specs.Choice.{choose}
use Rattle.trees.specs.Tree.{Trees, ∅, head}
use Rattle.trees.specs.Ast.{kind_type_def, kind_type_value_primitive, kind_type_value_enum, kind_type_value_struct, kind_variant, kind_fields_unit, kind_fields_struct, kind_fields_tuple, kind_struct_field, kind_tuple_field}
use Rattle.tokens.specs.Token.{is_lparen, is_rparen, is_symbol, is_word}
use Rattle.tokens.specs.Input.{Input, peek, pos_at, size}
use Rattle.steps.specs.Keywords.{word_extern, word_nodebug, word_primitive, word_enum, word_struct}
use Rattle.steps.specs.Outcome.{accept, refuse, refusal, and_then, ◌⊳◌, parent, bare, nothing, expect-lparen, expect-rparen, parse_ident}
use Rattle.steps.proofs.SizeLaws.{met_there, word_kinded}
use Rattle.parser.specs.Types.{parse_struct_field, parse_struct_fields, parse_tuple_field, parse_tuple_fields, parse_fields, parse_type_variant, parse_typevalue, modifier_flags, modifiers_end, parse_modifiers, parse_type}
use Rattle.grammar.proofs.Lexemes.{symbols}
use Rattle.grammar.proofs.Options.{passed_over}
use Rattle.grammar.proofs.TokenKinds as kinds
use Rattle.grammar.proofs.TokenKinds.{Tokens, ◌⊕◌}
use Rattle.lookahead.specs.Agree.{Agree}
use Rattle.lookahead.proofs.Combinators.{reach, reach-accept, Follow, Follows, Begins, ◌⊳·◌, ◌⊳→◌, parts, on_either, bares, told, flags, parents, nodes→, parents→, nexts, seconds}
use Rattle.lookahead.proofs.Steps.{nothings, rparens, words, lparens, idents, name-end, refuses_paren}
use Rattle.lookahead.proofs.Rows.{Takes, begins_takes, next_takes, rows_at, rows_of}

-- ---- fields and type values

module _ {m : ℕ} {s t : Input} (a : Agree m s t) where
  struct_fields : Begins s 1 m (parse_struct_field s) (parse_struct_field t)
  unfolding parse_struct_field
  struct_fields = parents→ a kind_struct_field 0 (lparens a ⊳→ (idents a).follows ⊳→ (idents a).follows ⊳→ rparens a)

  tuple_fields : (k : ℕ) → Begins s 3 m (parse_tuple_field s k) (parse_tuple_field t k)
  unfolding parse_tuple_field
  tuple_fields k = nodes→ a (λ y. head kind_tuple_field 0 y.pos k 0) (idents a)

  fields : Follows s m (parse_fields s) (parse_fields t)
  unfolding parse_fields parse_struct_fields parse_tuple_fields
  fields =
      nexts a (λ _. is_rparen) (bares kind_fields_unit nothings)
      (nexts a (λ _. is_lparen) (parents a kind_fields_struct 0 (rows_of a (begins_takes (omega arith) struct_fields) struct_fields.follows))
      (parents a kind_fields_tuple 0 (rows_at a (λ k. begins_takes (omega arith) (tuple_fields k)) (λ k. (tuple_fields k).follows))))

  plain_variants : Begins s 3 m (parent s kind_variant 0 (parse_ident s ⊳ bare kind_fields_unit nothing)) (parent t kind_variant 0 (parse_ident t ⊳ bare kind_fields_unit nothing))
  plain_variants = parents→ a kind_variant 0 (idents a ⊳→ bares kind_fields_unit nothings)

  field_variants : Begins s 1 m (parent s kind_variant 0 (expect-lparen s ⊳ parse_ident s ⊳ parse_fields s ⊳ expect-rparen s)) (parent t kind_variant 0 (expect-lparen t ⊳ parse_ident t ⊳ parse_fields t ⊳ expect-rparen t))
  field_variants = parents→ a kind_variant 0 (lparens a ⊳→ (idents a).follows ⊳→ fields ⊳→ rparens a)

  variants : Follows s m (parse_type_variant s) (parse_type_variant t)
  unfolding parse_type_variant
  variants = nexts a (λ _. is_symbol) plain_variants.follows field_variants.follows

  variant_takes : Takes (size s) (parse_type_variant s)
  unfolding parse_type_variant
  variant_takes = next_takes s is_symbol (λ i ts j _. (begins_takes (omega arith) plain_variants).takes i ts j) (begins_takes (omega arith) field_variants)

  typevalues : Follows s m (parse_typevalue s) (parse_typevalue t)
  unfolding parse_typevalue
  typevalues =
      (seconds a (λ x. is_word x word_primitive)
      (parents→ a kind_type_value_primitive 0 (lparens a ⊳→ words a word_primitive ⊳→ (idents a).follows ⊳→ rparens a))
      (seconds a (λ x. is_word x word_enum)
      (parents→ a kind_type_value_enum 0 (lparens a ⊳→ words a word_enum ⊳→ rows_of a variant_takes variants ⊳→ rparens a))
      (seconds a (λ x. is_word x word_struct)
      (parents→ a kind_type_value_struct 0 (lparens a ⊳→ words a word_struct ⊳→ fields ⊳→ rparens a))
      (refuses_paren a 19)))).follows

-- ---- modifiers

no_word : (s : Input) (w : List ℕ) (i : ℕ) → size s ≤ i → is_word s.text w (peek s i) ≡ false
no_word s w i h = go (is_word s.text w (peek s i)) refl
  where
    go : (b : Bool) → is_word s.text w (peek s i) ≡ b → is_word s.text w (peek s i) ≡ false
    go true e = absurd (omega (arith, met_there s i (is_word s.text w) (word_kinded s.text w) e))
    go false e = e

-- past the last token there are none
end_past : (s : Input) (f i : ℕ) → size s ≤ i → modifiers_end s f i ≡ i
unfolding modifiers_end
end_past s zero i h = refl
end_past s (suc f) i h = rw (no_word s word_extern i h, no_word s word_nodebug i h)

flags_past : (s : Input) (f e n i : ℕ) → size s ≤ i → modifier_flags s f e n i ≡ e + n
unfolding modifier_flags
flags_past s zero e n i h = refl
flags_past s (suc f) e n i h = rw (no_word s word_extern i h, no_word s word_nodebug i h)

end-tokens : (s : Input) (f i : ℕ) → Tokens s i (modifiers_end s f i)
end-tokens s f i = kinds.modifiers (passed_over s f i).modifiers

-- the modifiers from i on, bounded by x in s and by y in t, end alike and make the same flags
record Alike (s t : Input) (x y i : ℕ) : Type 0 where
  ends : modifiers_end t y i ≡ modifiers_end s x i
  flags : (e n : ℕ) → modifier_flags t y e n i ≡ modifier_flags s x e n i

module _ {m : ℕ} {s t : Input} (a : Agree m s t) where
  past_both : (x y i : ℕ) → i ≤ m → size s ≤ i → Alike s t x y i
  past_both x y i l h =
      let z : size t ≤ i = ltb-false i (size t) (sym (a.ends i l) ∙ le-ltb i (size s) h) in
      record { ends = end_past t y i z ∙ sym (end_past s x i h); flags = λ e n. flags_past t y e n i z ∙ sym (flags_past s x e n i h) }

  turns : (x y i : ℕ) (b c : Bool) → is_word s.text word_extern (peek s i) ≡ b → is_word s.text word_nodebug (peek s i) ≡ c → i ≤ m → (b ≡ true → Alike s t x y (i + 1)) → (b ≡ false → c ≡ true → Alike s t x y (i + 1)) → Alike s t (suc x) (suc y) i
  unfolding modifiers_end modifier_flags
  turns x y i true c p q l r u =
      let z = r refl in
      record { ends = rw (told a (λ x. is_word x word_extern) i l, p) z.ends; flags = λ e n. rw (told a (λ x. is_word x word_extern) i l, p) (z.flags 1 n) }
  turns x y i false true p q l r u =
      let z = u refl refl in
      record {
        ends = rw (told a (λ x. is_word x word_extern) i l, told a (λ x. is_word x word_nodebug) i l, p, q) z.ends;
        flags = λ e n. rw (told a (λ x. is_word x word_extern) i l, told a (λ x. is_word x word_nodebug) i l, p, q) (z.flags e 2);
      }
  turns x y i false false p q l r u =
      record {
        ends = rw (told a (λ x. is_word x word_extern) i l, told a (λ x. is_word x word_nodebug) i l, p, q);
        flags = λ e n. rw (told a (λ x. is_word x word_extern) i l, told a (λ x. is_word x word_nodebug) i l, p, q);
      }

  alike : (x y i : ℕ) → size s ≤ x + i → size t ≤ y + i → modifiers_end s x i ≤ m → Alike s t x y i
  unfolding modifiers_end
  alike zero y i p q h = past_both zero y i h (omega arith)
  alike (suc x) zero i p q h =
      let l : i ≤ m = omega (arith, (end-tokens s (suc x) i).on) in
      past_both (suc x) zero i l (ltb-false i (size s) (a.ends i l ∙ le-ltb i (size t) (omega arith)))
  alike (suc x) (suc y) i p q h =
      let l : i ≤ m = omega (arith, (end-tokens s (suc x) i).on) in
      turns x y i (is_word s.text word_extern (peek s i)) (is_word s.text word_nodebug (peek s i)) refl refl l
      (λ e. alike x y (i + 1) (omega arith) (omega arith) (rw e at h))
      (λ d e. alike x y (i + 1) (omega arith) (omega arith) (rw (d, e) at h))

  same_end : (i : ℕ) → modifiers_end s (size s) i ≤ m → Alike s t (size s) (size t) i
  same_end i h = alike (size s) (size t) i (omega arith) (omega arith) h

  modifiers : Follows s m (parse_modifiers s) (parse_modifiers t)
  unfolding parse_modifiers reach
  modifiers = record { at = λ i. let l = end-tokens s (size s) i in go i (modifiers_end s (size s) i) refl l (is_symbol (peek s (modifiers_end s (size s) i))) refl }
    where
      go : (i e : ℕ) → modifiers_end s (size s) i ≡ e → Tokens s i e → (b : Bool) → is_symbol (peek s e) ≡ b
          → Follow s m i (choose b (λ _. refuse (refusal 18 (pos_at s (e + 1)) (e + 1))) (λ _. accept ∅ e))
          (choose (is_symbol (peek t (modifiers_end t (size t) i))) (λ _. refuse (refusal 18 (pos_at t (modifiers_end t (size t) i + 1)) (modifiers_end t (size t) i + 1))) (λ _. accept ∅ (modifiers_end t (size t) i)))
      go i e c l true b =
          record { tokens = l ⊕ kinds.symbol (((symbols s).at e).yes b); same = λ h. rw ((same_end i (omega arith)).ends, c, told a (λ _. is_symbol) e (omega arith), b, told a (λ _ y. y.pos) (e + 1) h) }
      go i e c l false b =
          record { tokens = l; same = λ h. rw ((same_end i (omega arith)).ends, c, told a (λ _. is_symbol) e h, b) }

  end-within : (i : ℕ) → modifiers_end s (size s) i ≤ reach (parse_modifiers s i)
  unfolding parse_modifiers reach
  end-within i =
      let e = modifiers_end s (size s) i in
      on_either (is_symbol (peek s e)) (refuse (refusal 18 (pos_at s (e + 1)) (e + 1))) (accept ∅ e) (omega arith) (omega arith)

  type_flags : (i : ℕ) (ts : Trees) (j : ℕ) → (parse_ident s ⊳ parse_modifiers s ⊳ parse_typevalue s) i ≡ accept ts j → j ≤ m → modifier_flags t (size t) 0 0 (i + 1) ≡ modifier_flags s (size s) 0 0 (i + 1)
  unfolding ◌⊳◌
  type_flags i ts j e l =
      let p = parts (and_then (parse_ident s i) (parse_modifiers s)) (parse_typevalue s) e in
      let q = parts (parse_ident s i) (parse_modifiers s) p.is in
      let d = ap (modifiers_end s (size s)) (name-end s i q.is) in
      (same_end (i + 1) (omega (arith, end-within q.end, reach-accept q.rest, ((typevalues a).at p.end).tokens.on, reach-accept p.rest))).flags 0 0

  pub types : Follows s m (parse_type s) (parse_type t)
  unfolding parse_type
  types = flags a kind_type_def (λ i ts j _ e l. type_flags i ts j e l) ((idents a).follows ⊳· modifiers ⊳· typevalues a)
