-- The readers of definitions. Assumes nothing.
use Prim.Native.Nat.{ℕ, ◌+◌, ◌-◌, ◌<◌, ◌≤◌}
use native.Mathlib.Omega.{arith}
use mathlib.Core.Path.{◌≡◌, refl, sym, ap, ◌∙◌}
use mathlib.Core.List.{List}
use mathlib.Core.Bool.{Bool, true, false}
use lib.Dec.{ltb, leb}
use borrow.Author.Tests.{ltb-true, ltb-false, lt-leb, le-leb}
use Rattle.trees.specs.Choice.{pick, choose}
use Rattle.trees.specs.Tree.{Trees, node, ∅, ◌▸◌, head}
use Rattle.trees.specs.Ast.{kind_decl, kind_attr, kind_attr_kind_chain, kind_attr_kind_priority, kind_attr_kind_tag, kind_extern_constructor, kind_extern_extractor, kind_extern_const, kind_extractor, kind_rule, kind_priority, kind_converter, flag}
use Rattle.tokens.specs.declared.Token.{Token}
use Rattle.tokens.specs.Token.{is_symbol, is_int, is_refused, is_word}
use Rattle.tokens.specs.Input.{Input, peek, pos_at, size}
use Rattle.steps.specs.Keywords.{word_pragma, word_type, word_decl, word_attr, word-rule, word-extractor, word_extern, word_convert, word_pure, word_multi, word_partial, word-rec, word_veri, word_tag, word_chain, word-priority, word_constructor, word_infallible, word_const}
use Rattle.steps.specs.Outcome.{accept, refuse, Reader, refusal, ◌⊳◌, many, row, expect-word, ate, eat, refused_as, pragma_refusal, parse_ident}
use Rattle.patterns.specs.Pattern.{parse_pattern}
use Rattle.exprs.specs.Expr.{parse_iflet_or_expr, no_iflet}
use Rattle.parser.specs.Defs.{after_pure, after_multi, after_partial, after_rec, decl_flags, decl_modifiers, decl_names, parse_decl, parse_attr_kind_veri, parse_attr_kind, parse_attr, parse_extern, etor_head, parse_etor, rule_name, is_i64, rule_priority, rule_flags, rule_parts, parse_rule, parse_converter, parse_pragma, worded, is_uncovered, other_def, rest_def, parse_def, parse_defs}
use Rattle.grammar.proofs.Lexemes.{integers}
use Rattle.grammar.proofs.TokenKinds as kinds
use Rattle.grammar.proofs.TokenKinds.{Tokens, ◌⊕◌}
use Rattle.lookahead.specs.Agree.{Agree}
use Rattle.lookahead.proofs.Combinators.{reach, reach-accept, Follows, Begins, ◌⊳·◌, ◌⊳→◌, parts, bares, told, looks, flags, parents, nexts, seconds}
use Rattle.lookahead.proofs.Steps.{nothings, refuses, rparens, ate-tokens, eats, words, lparens, refuses_symbol, names, idents, constants, name-end}
use Rattle.lookahead.proofs.Rows.{begins_takes, ⊳-assoc, rows, rows_of, below, follows_as}
use Rattle.lookahead.proofs.Patterns.{patterns, pattern_takes}
use Rattle.lookahead.proofs.Exprs.{iflet-rows}
use Rattle.lookahead.proofs.Types.{types}

module _ {m : ℕ} {s t : Input} (a : Agree m s t) where
  -- ---- declarations

  name-rows : Follows s m (row s (parse_ident s)) (row t (parse_ident t))
  name-rows = rows_of a (begins_takes (omega arith) (idents a)) (idents a).follows

  ate_same : (w : List ℕ) (i : ℕ) → i ≤ m → ate t w i ≡ ate s w i
  unfolding ate
  ate_same w i l = told a (λ x y. pick (is_word x w y) (i + 1) i) i l

  modifiers_tokens : (i : ℕ) → Tokens s i (after_pure s i) × Tokens s (after_pure s i) (after_multi s i) × Tokens s (after_multi s i) (after_partial s i) × Tokens s (after_partial s i) (after_rec s i)
  modifiers_tokens i = (ate-tokens s word_pure i, ate-tokens s word_multi (after_pure s i), ate-tokens s word_partial (after_multi s i), ate-tokens s word-rec (after_partial s i))

  -- where the last of the modifiers is seen, all are
  modifiers_same : (i : ℕ) → after_rec s i ≤ m → (after_pure t i ≡ after_pure s i) × (after_multi t i ≡ after_multi s i) × (after_partial t i ≡ after_partial s i) × (after_rec t i ≡ after_rec s i)
  modifiers_same i l =
      let o = modifiers_tokens i in
      let x = ate_same word_pure i (omega (arith, o.0.on, o.1.on, o.2.on, o.3.on)) in
      let y = ap (ate t word_multi) x ∙ ate_same word_multi (after_pure s i) (omega (arith, o.1.on, o.2.on, o.3.on)) in
      let z = ap (ate t word_partial) y ∙ ate_same word_partial (after_multi s i) (omega (arith, o.2.on, o.3.on)) in
      (x, y, z, ap (ate t word-rec) z ∙ ate_same word-rec (after_partial s i) (omega (arith, o.3.on)))

  modifiers : Follows s m (decl_modifiers s) (decl_modifiers t)
  unfolding decl_modifiers reach
  modifiers =
      record {
        at = λ i.
            let o = modifiers_tokens i in
            record { tokens = o.0 ⊕ o.1 ⊕ o.2 ⊕ o.3; same = λ l. ap (accept ∅) (modifiers_same i l).3 };
      }

  decl_flags_lem : (i : ℕ) → after_rec s i ≤ m → decl_flags t i ≡ decl_flags s i
  unfolding decl_flags
  decl_flags_lem i l = let e = modifiers_same i l in rw (e.3, e.2, e.1, e.0)

  decl_names_lem : Follows s m (decl_names s) (decl_names t)
  unfolding decl_names
  decl_names_lem = (idents a).follows ⊳· (lparens a).follows ⊳· name-rows ⊳· rparens a ⊳· (idents a).follows

  decls : Follows s m (parse_decl s) (parse_decl t)
  unfolding parse_decl ◌⊳◌ decl_modifiers reach
  decls =
      flags a kind_decl (λ i ts j k e l.
      let p = parts (accept ∅ (after_rec s i)) (decl_names s) e in
      decl_flags_lem i (omega (arith, reach-accept p.is, (decl_names_lem.at p.end).tokens.on, reach-accept p.rest)))
      (modifiers ⊳· decl_names_lem)

  -- ---- attributes

  veri_kinds : Follows s m (parse_attr_kind_veri s) (parse_attr_kind_veri t)
  unfolding parse_attr_kind_veri
  veri_kinds =
      nexts a (λ x. is_word x word_chain) (bares kind_attr_kind_chain (words a word_chain))
      (nexts a (λ x. is_word x word-priority) (bares kind_attr_kind_priority (words a word-priority))
      (refuses_symbol a 21).follows)

  attr_kinds : Begins s 1 m (parse_attr_kind s) (parse_attr_kind t)
  unfolding parse_attr_kind
  attr_kinds =
      seconds a (λ x. is_word x word_veri)
      (lparens a ⊳→ words a word_veri ⊳→ veri_kinds ⊳→ rparens a)
      (seconds a (λ x. is_word x word_tag)
      (lparens a ⊳→ words a word_tag ⊳→ bares kind_attr_kind_tag (idents a).follows ⊳→ rparens a)
      (lparens a ⊳→ (refuses_symbol a 20).follows))

  attrs : Follows s m (parse_attr s) (parse_attr t)
  unfolding parse_attr
  attrs =
      flags a kind_attr (λ i ts j k e l. ap (λ (n : ℕ). n - i) (ate_same word-rule i k))
      (eats a word-rule ⊳· (idents a).follows ⊳· rows_of a (begins_takes (omega arith) attr_kinds) attr_kinds.follows)

  -- ---- externs

  extractor-names : Follows s m (expect-word s word-extractor ⊳ eat s word_infallible ⊳ parse_ident s) (expect-word t word-extractor ⊳ eat t word_infallible ⊳ parse_ident t)
  extractor-names = words a word-extractor ⊳· eats a word_infallible ⊳· (idents a).follows

  externs : Follows s m (parse_extern s) (parse_extern t)
  unfolding parse_extern ◌⊳◌
  externs =
      nexts a (λ x. is_word x word_constructor)
      (parents a kind_extern_constructor 0 (words a word_constructor ⊳· (idents a).follows ⊳· (idents a).follows))
      (nexts a (λ x. is_word x word-extractor)
      (flags a kind_extern_extractor (λ i ts j k e l.
      let p = parts ((expect-word s word-extractor ⊳ eat s word_infallible ⊳ parse_ident s) i) (parse_ident s) e in
      ap (λ (n : ℕ). n - (i + 1)) (ate_same word_infallible (i + 1) (omega (arith, (extractor-names.at i).tokens.on, reach-accept p.is, name-end s p.end p.rest))))
      (extractor-names ⊳· (idents a).follows))
      (nexts a (λ x. is_word x word_const)
      (words a word_const ⊳· parents a kind_extern_const 0 ((constants a).follows ⊳· (idents a).follows))
      (refuses a 22)))

  -- ---- extractors

  etors : Follows s m (parse_etor s) (parse_etor t)
  unfolding parse_etor etor_head
  etors = parents a kind_extractor 0 ((lparens a).follows ⊳· (idents a).follows ⊳· name-rows ⊳· rparens a ⊳· patterns a 64)

  -- ---- rules

  rule-names : Follows s m (rule_name s) (rule_name t)
  unfolding rule_name
  rule-names =
      nexts a (λ _. is_symbol)
      (seconds a (λ _. is_refused) (refuses_symbol a 23) (names a (refused_as 23) (λ w. w))).follows
      nothings

  rule_priorities : (place : ℕ) → Follows s m (rule_priority s place) (rule_priority t place)
  unfolding rule_priority reach
  rule_priorities place =
      looks a (λ x y i. choose (is_int y)
      (λ _. pick (is_i64 y.word1 y.word2) (accept (node (head kind_priority 0 0 y.word2 0) ∅ ▸ ∅) (i + 1)) (refuse (refusal 24 place (i + 1))))
      (λ _. accept ∅ i)) (λ i. go i (peek s i) (is_int (peek s i)) (is_i64 (peek s i).word1 (peek s i).word2) (λ e. kinds.integer (((integers s).at i).yes e)))
    where
      go : (i : ℕ) (y : Token) (b c : Bool) → (b ≡ true → Tokens s i (i + 1)) → Tokens s i (reach (choose b (λ _. pick c (accept (node (head kind_priority 0 0 y.word2 0) ∅ ▸ ∅) (i + 1)) (refuse (refusal 24 place (i + 1)))) (λ _. accept ∅ i)))
      go i y true true h = h refl
      go i y true false h = h refl
      go i y false c h = kinds.nothing

  rule_heads : (place : ℕ) → Follows s m (rule_name s ⊳ rule_priority s place) (rule_name t ⊳ rule_priority t place)
  rule_heads place = rule-names ⊳· rule_priorities place

  -- up to the if-lets, and then the if-lets and the expression
  abbrev left : Input → ℕ → Reader
  left s place = rule_name s ⊳ rule_priority s place ⊳ parse_pattern s 64

  abbrev Right : Input → Reader
  Right s = many (size s) (no_iflet s) (parse_iflet_or_expr s) ⊳ parse_iflet_or_expr s

  split : (s : Input) (place i : ℕ) → (left s place ⊳ Right s) i ≡ rule_parts s place i
  unfolding rule_parts
  split s place i = ⊳-assoc (left s place) (many (size s) (no_iflet s) (parse_iflet_or_expr s)) (parse_iflet_or_expr s) i

  rule_parts_lem : (place : ℕ) → Follows s m (rule_parts s place) (rule_parts t place)
  rule_parts_lem place = follows_as (split s place) (split t place) (rule_heads place ⊳· patterns a 64 ⊳· iflet-rows a)

  placed_parts : Follows s m (λ i. rule_parts s (pos_at s i) i) (λ i. rule_parts t (pos_at t i) i)
  placed_parts =
      record {
        at = λ i.
            let c = ((rule_parts_lem (pos_at s i)).at i).tokens in
            let l = c.on in
            record { tokens = c; same = λ h. ap (λ (z : ℕ). rule_parts t z i) (told a (λ _ y. y.pos) i (omega arith)) ∙ ((rule_parts_lem (pos_at s i)).at i).same h };
      }

  -- a rule takes a token, since its pattern does
  rule-on : (place i : ℕ) {ts : Trees} {j : ℕ} → rule_parts s place i ≡ accept ts j → i < j
  unfolding ◌⊳◌
  rule-on place i e =
      let p = parts (left s place i) (Right s) (split s place i ∙ e) in
      let q = parts ((rule_name s ⊳ rule_priority s place) i) (parse_pattern s 64) p.is in
      omega (arith, ((rule_heads place).at i).tokens.on, reach-accept q.is, ((pattern_takes s 64).takes q.end q.second p.end q.rest).0, ((iflet-rows a).at p.end).tokens.on, reach-accept p.rest)

  flag_small : (b : Bool) → flag b 1 ≤ 1
  flag_small true = omega arith
  flag_small false = omega arith

  rule-flags : (i : ℕ) → i < m → rule_flags t i ≡ rule_flags s i
  unfolding rule_flags
  rule-flags i l =
      rw (told a (λ _. is_symbol) i (omega arith), told a (λ _. is_int) (i + flag (is_symbol (peek s i)) 1) (omega (arith, flag_small (is_symbol (peek s i)))))

  rules : Follows s m (parse_rule s) (parse_rule t)
  unfolding parse_rule
  rules = flags a kind_rule (λ i ts j k e l. rule-flags i (omega (arith, rule-on (pos_at s i) i e))) placed_parts

  -- ---- definitions

  converters : Follows s m (parse_converter s) (parse_converter t)
  unfolding parse_converter
  converters = parents a kind_converter 0 ((idents a).follows ⊳· (idents a).follows ⊳· (idents a).follows)

  pragmas : Follows s m (parse_pragma s) (parse_pragma t)
  unfolding parse_pragma
  pragmas = (names a pragma_refusal (λ w. w)).follows

  forms : (w : List ℕ) {f g : Reader} → Follows s m f g → Begins s 1 m (worded s w f) (worded t w g)
  forms w r = lparens a ⊳→ words a w ⊳→ r ⊳→ rparens a

  definitions : Begins s 1 m (parse_def s) (parse_def t)
  unfolding parse_def rest_def other_def
  definitions =
      seconds a (λ x. is_word x word_pragma) (forms word_pragma pragmas)
      (seconds a (λ x. is_word x word_type) (forms word_type (types a))
      (seconds a (λ x. is_word x word_decl) (forms word_decl decls)
      (seconds a (λ x. is_word x word_attr) (forms word_attr attrs)
      (seconds a (λ x. is_word x word-rule) (forms word-rule rules)
      (seconds a (λ x. is_word x word-extractor) (forms word-extractor etors)
      (seconds a (λ x. is_word x word_extern) (forms word_extern externs)
      (seconds a (λ x. is_word x word_convert) (forms word_convert converters)
      (seconds a is_uncovered (lparens a ⊳→ (refuses_symbol a 27).follows)
      (lparens a ⊳→ (refuses_symbol a 12).follows)))))))))

  -- whether tokens are left is told alike
  no_more : (i : ℕ) → i ≤ m → leb (size t) i ≡ leb (size s) i
  no_more i l = go (ltb i (size s)) refl
    where
      go : (b : Bool) → ltb i (size s) ≡ b → leb (size t) i ≡ leb (size s) i
      go true e = lt-leb (size t) i (ltb-true i (size t) (sym (a.ends i l) ∙ e)) ∙ sym (lt-leb (size s) i (ltb-true i (size s) e))
      go false e = le-leb (size t) i (ltb-false i (size t) (sym (a.ends i l) ∙ e)) ∙ sym (le-leb (size s) i (ltb-false i (size s) e))

  pub all-definitions : Follows s m (parse_defs s) (parse_defs t)
  unfolding parse_defs many
  all-definitions =
      rows 0 (record {
        near = below a;
        takes = λ _. begins_takes (omega arith) definitions;
        items = λ _. definitions.follows;
        last = nothings;
        tells = λ k i l _. no_more i l;
      })
