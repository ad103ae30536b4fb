-- Definitions of parser.rs: parse_defs, parse_def and the functions for the covered forms.
use Rattle.std.specs.Prelude.{ℕ, ◌+◌, ◌-◌, ◌*◌, Bool, true, List, leb, ltb, eqb}
use Rattle.trees.specs.Choice.{pick, choose}
use Rattle.trees.specs.Tree.{node, ∅, ◌▸◌, head}
use Rattle.trees.specs.Ast.{kind_decl, kind_attr, kind_attr_kind_chain, kind_attr_kind_priority, kind_attr_kind_tag, kind_extern_constructor, kind_extern_extractor, kind_extern_const, kind_extractor, kind_rule, kind_priority, kind_converter, flag}
use Rattle.tokens.specs.declared.Token.{Token}
use Rattle.tokens.specs.Token.{is_symbol, is_int, is_refused, is_word}
use Rattle.tokens.specs.Input.{Input, peek, pos_at, size}
use Rattle.steps.specs.Keywords.{word_pragma, word_type, word_decl, word_attr, word-rule, word-extractor, word_extern, word_convert, word_spec, word_macro, word_state, word_model, word_form, word_instantiate, word_pure, word_multi, word_partial, word-rec, word_veri, word_tag, word_chain, word-priority, word_constructor, word_infallible, word_const}
use Rattle.steps.specs.Outcome.{Reader, accept, refuse, refusal, ◌⊳◌, parent, flagged, bare, nothing, refuse_at, refuse_after, if_next, if_second, many, row, expect-lparen, expect-rparen, expect-word, ate, eat, name_by, refused_as, pragma_refusal, parse_ident, parse_const}
use Rattle.patterns.specs.Pattern.{parse_pattern}
use Rattle.exprs.specs.Expr.{parse_iflet_or_expr, no_iflet}
use Rattle.parser.specs.Types.{parse_type}

-- ---- declarations

-- the modifiers count only in the order pure, multi, partial, rec: the index after each, where it stands there
abbrev pub after_pure : Input → ℕ → ℕ
after_pure s i = ate s word_pure i

abbrev pub after_multi : Input → ℕ → ℕ
after_multi s i = ate s word_multi (after_pure s i)

abbrev pub after_partial : Input → ℕ → ℕ
after_partial s i = ate s word_partial (after_multi s i)

abbrev pub after_rec : Input → ℕ → ℕ
after_rec s i = ate s word-rec (after_partial s i)

-- 1 pure, 2 multi, 4 partial, 8 rec: each difference is 1 where the word was eaten
unfoldable pub decl_flags : Input → ℕ → ℕ
decl_flags s i =
    (after_pure s i - i)
    + (after_multi s i - after_pure s i) * 2
    + (after_partial s i - after_multi s i) * 4
    + (after_rec s i - after_partial s i) * 8

unfoldable pub decl_modifiers : Input → Reader
decl_modifiers s = λ i. accept ∅ (after_rec s i)

-- the term, its argument types, its result
unfoldable pub decl_names : Input → Reader
decl_names s = parse_ident s ⊳ expect-lparen s ⊳ row s (parse_ident s) ⊳ expect-rparen s ⊳ parse_ident s

-- after `decl`
unfoldable pub parse_decl : Input → Reader
parse_decl s = flagged s kind_decl (decl_flags s) (decl_modifiers s ⊳ decl_names s)

-- ---- attributes

unfoldable pub parse_attr_kind_veri : Input → Reader
parse_attr_kind_veri s =
    if_next s (is_word s.text word_chain) (bare kind_attr_kind_chain (expect-word s word_chain))
    (if_next s (is_word s.text word-priority) (bare kind_attr_kind_priority (expect-word s word-priority))
    (refuse_after s 3 21))

unfoldable pub parse_attr_kind : Input → Reader
parse_attr_kind s =
    if_second s (is_word s.text word_veri)
    (expect-lparen s ⊳ expect-word s word_veri ⊳ parse_attr_kind_veri s ⊳ expect-rparen s)
    (if_second s (is_word s.text word_tag)
    (expect-lparen s ⊳ expect-word s word_tag ⊳ bare kind_attr_kind_tag (parse_ident s) ⊳ expect-rparen s)
    (expect-lparen s ⊳ refuse_after s 3 20))

-- after `attr`: `rule` or not, the target, the attributes
unfoldable pub parse_attr : Input → Reader
parse_attr s = flagged s kind_attr (λ i. ate s word-rule i - i) (eat s word-rule ⊳ parse_ident s ⊳ row s (parse_attr_kind s))

-- ---- externs

-- after `extern`; a constant's position is that of its name
unfoldable pub parse_extern : Input → Reader
parse_extern s =
    if_next s (is_word s.text word_constructor)
    (parent s kind_extern_constructor 0 (expect-word s word_constructor ⊳ parse_ident s ⊳ parse_ident s))
    (if_next s (is_word s.text word-extractor)
    (flagged s kind_extern_extractor (λ i. ate s word_infallible (i + 1) - (i + 1)) (expect-word s word-extractor ⊳ eat s word_infallible ⊳ parse_ident s ⊳ parse_ident s))
    (if_next s (is_word s.text word_const)
    (expect-word s word_const ⊳ parent s kind_extern_const 0 (parse_const s ⊳ parse_ident s))
    (refuse_at s 22)))

-- ---- extractors

-- `(term parameters)`
unfoldable pub etor_head : Input → Reader
etor_head s = expect-lparen s ⊳ parse_ident s ⊳ row s (parse_ident s) ⊳ expect-rparen s

-- after `extractor`: its head and the template
unfoldable pub parse_etor : Input → Reader
parse_etor s = parent s kind_extractor 0 (etor_head s ⊳ parse_pattern s 64)

-- ---- rules

-- the first symbol after `rule` is its name; 23 stands for 13 to 15, and for 40 where the lexer refuses the token behind it
unfoldable pub rule_name : Input → Reader
rule_name s =
    if_next s is_symbol
    (if_second s is_refused (refuse_after s 3 23) (name_by s (refused_as 23) (λ w. w)))
    nothing

-- a 128-bit integer, its halves, within 64 bits with a sign
unfoldable pub is_i64 : ℕ → ℕ → Bool
is_i64 upper lower =
    pick (ltb lower 9223372036854775808) (eqb upper 0) (eqb upper 18446744073709551615)

-- the next integer is its priority; 24 stands at the rule's start
unfoldable pub rule_priority : Input → ℕ → Reader
rule_priority s place = λ i.
    choose (is_int (peek s i))
    (λ _. pick (is_i64 (peek s i).word1 (peek s i).word2)
    (accept (node (head kind_priority 0 0 (peek s i).word2 0) ∅ ▸ ∅) (i + 1))
    (refuse (refusal 24 place (i + 1))))
    (λ _. accept ∅ i)

-- 1 named, 2 has priority
unfoldable pub rule_flags : Input → ℕ → ℕ
rule_flags s i = flag (is_symbol (peek s i)) 1 + flag (is_int (peek s (i + flag (is_symbol (peek s i)) 1))) 2

-- name, priority, pattern, if-lets, expression; 24 stands at `place`
unfoldable pub rule_parts : Input → ℕ → Reader
rule_parts s place = rule_name s ⊳ rule_priority s place ⊳ parse_pattern s 64 ⊳ many (size s) (no_iflet s) (parse_iflet_or_expr s) ⊳ parse_iflet_or_expr s

-- after `rule`
unfoldable pub parse_rule : Input → Reader
parse_rule s = flagged s kind_rule (rule_flags s) (λ i. rule_parts s (pos_at s i) i)

-- ---- converters and pragmas

-- after `convert`: inner type, outer type, term
unfoldable pub parse_converter : Input → Reader
parse_converter s = parent s kind_converter 0 (parse_ident s ⊳ parse_ident s ⊳ parse_ident s)

-- after `pragma`: a name, and no pragma is known (17)
unfoldable pub parse_pragma : Input → Reader
parse_pragma s = name_by s pragma_refusal (λ w. w)

-- ---- definitions

-- `(word ..)`
abbrev pub worded : Input → List ℕ → Reader → Reader
worded s w f = expect-lparen s ⊳ expect-word s w ⊳ f ⊳ expect-rparen s

-- the words that document 01 does not cover
unfoldable pub is_uncovered : List ℕ → Token → Bool
is_uncovered text t =
    pick (is_word text word_spec t) true
    (pick (is_word text word_macro t) true
    (pick (is_word text word_state t) true
    (pick (is_word text word_model t) true
    (pick (is_word text word_form t) true
    (is_word text word_instantiate t)))))

-- a definition whose word is none of the covered ones: 27 or 12, at the word
unfoldable pub other_def : Input → Reader
other_def s =
    if_second s (is_uncovered s.text) (expect-lparen s ⊳ refuse_after s 3 27)
    (expect-lparen s ⊳ refuse_after s 3 12)

-- a definition, by the word after its `(`
unfoldable pub rest_def : Input → Reader
rest_def s =
    if_second s (is_word s.text word-rule) (worded s word-rule (parse_rule s))
    (if_second s (is_word s.text word-extractor) (worded s word-extractor (parse_etor s))
    (if_second s (is_word s.text word_extern) (worded s word_extern (parse_extern s))
    (if_second s (is_word s.text word_convert) (worded s word_convert (parse_converter s))
    (other_def s))))

unfoldable pub parse_def : Input → Reader
parse_def s =
    if_second s (is_word s.text word_pragma) (worded s word_pragma (parse_pragma s))
    (if_second s (is_word s.text word_type) (worded s word_type (parse_type s))
    (if_second s (is_word s.text word_decl) (worded s word_decl (parse_decl s))
    (if_second s (is_word s.text word_attr) (worded s word_attr (parse_attr s))
    (rest_def s))))

-- all definitions, to the last token
unfoldable pub parse_defs : Input → Reader
parse_defs s = many (size s) (λ i. leb (size s) i) (parse_def s)
