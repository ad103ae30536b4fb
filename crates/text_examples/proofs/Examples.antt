-- The worked cases hold, by computation. Assumes nothing.
use Prim.Native.Nat.{ℕ}
use mathlib.Core.Path.{◌≡◌, refl, ap, ap₂, ◌∙◌}
use mathlib.Core.List.{List, [], ◌∷◌}
use lib.ListN.{length}
use Rattle.trees.specs.Tree.{◌⧺◌, count, records, records_all}
use Rattle.trees.specs.Names.{spelled}
use Rattle.words.specs.Words.{half_at, word_at, be4, be8}
use Rattle.words.specs.Bytes.{same_bytes}
use Rattle.records.specs.Slots.{word0, put_words, put, writes}
use Rattle.records.proofs.BackLaws.{bytes_of, bytes_all}
use Rattle.tokens.specs.Token.{token_at, is_lparen, is_rparen, is_symbol, is_int, is_at, is_refused, is_too_many, is_const, is_word}
use Rattle.tokens.specs.Input.{input}
use Rattle.tokens.specs.Ident.{letter, starts, goes_on, all_go_on, ident_refusal}
use Rattle.steps.specs.Outcome.{Outcome, before, and_then, ◌⊳◌, node_of, parent, flagged, bare, leaf, nothing, refuse_from, refuse_after, if_next, if_second, then_at, items_from, many_at, many, unexpected, expect_at, ate, eat, ident_at, name_by, parse_ident, const_refusal, parse_const, refused_as, pragma_refusal}
use Rattle.patterns.specs.Pattern.{compound, pattern_in, parse_pattern}
use Rattle.exprs.specs.Expr.{parse_letdef, let_inside, parse_expr_inner_parens, expr_in, parse_expr, parse_iflet, parse_iflet_if, parse_iflet_or_expr, no_iflet}
use Rattle.parser.specs.Types.{parse_type_variant, parse_typevalue, modifier_flags, modifiers_end, parse_modifiers, parse_type}
use Rattle.parser.specs.Defs.{decl_flags, decl_modifiers, decl_names, parse_decl, parse_attr_kind_veri, parse_attr_kind, parse_attr, parse_extern, rule_name, is_i64, rule_priority, rule_flags, rule_parts, parse_rule, parse_pragma, is_uncovered, other_def, rest_def, parse_def, parse_defs}
use Rattle.parser.specs.Reading.{fitted}
use Rattle.lexer.specs.Bytes.{is_pair, is_space, in_line, is_ascii_whitespace, is_decimal, is_sym_first, is_sym_other, is_num_first, is_num_other, digit}
use Rattle.lexer.specs.Number.{digit_on, byte_on, total_from, negated}
use Rattle.lexer.specs.Lexer.{run_end, block_end, pass, skip, radix_by, radix_at, digits_at, signed, digits, unsigned, number, paren_at, token_by, token_from, next_token}
use Rattle.lexer.specs.Text.{last_of, then_from, tokens_from, records_of, lexed}
use Rattle.lexer.specs.Quoted.{bytes}
use Rattle.texts.specs.TextReading.{foremost, looked_ahead, parse_text, is_ascii, text_reading}
use Rattle.texts.proofs.ReadLaws.{token-bytes}
use Rattle.text_examples.specs.Examples.{◌at◌, with_byte, nested, not_entered, entered, deep, said_of, parse_first, comes_to, outcomes, expected, met_before, met_after, names, places, high, space, ends, too_many, dollars, table}

-- all that reading a text computes with
unfoldable pub computed : Unit {0}
unfolding with_byte said_of parse_first comes_to outcomes expected met_before met_after names places high space ends too_many dollars table bytes be8 be4 word_at half_at same_bytes spelled ◌⧺◌ count records records_all word0 put_words put writes bytes_of bytes_all token_at is_lparen is_rparen is_symbol is_int is_at is_refused is_too_many is_const is_word letter starts goes_on all_go_on ident_refusal before and_then ◌⊳◌ node_of parent flagged bare leaf nothing refuse_from refuse_after if_next if_second then_at items_from many_at many unexpected expect_at ate eat ident_at name_by parse_ident const_refusal parse_const refused_as pragma_refusal compound pattern_in parse_pattern parse_letdef let_inside parse_expr_inner_parens expr_in parse_expr parse_iflet parse_iflet_if parse_iflet_or_expr no_iflet parse_type_variant parse_typevalue modifier_flags modifiers_end parse_modifiers parse_type decl_flags decl_modifiers decl_names parse_decl parse_attr_kind_veri parse_attr_kind parse_attr parse_extern rule_name is_i64 rule_priority rule_flags rule_parts parse_rule parse_pragma is_uncovered other_def rest_def parse_def parse_defs fitted is_pair is_space in_line is_ascii_whitespace is_decimal is_sym_first is_sym_other is_num_first is_num_other digit digit_on byte_on total_from negated run_end block_end pass skip radix_by radix_at digits_at signed digits unsigned number paren_at token_by token_from next_token last_of then_from tokens_from records_of foremost looked_ahead parse_text is_ascii text_reading
computed = tt

pub as_written : outcomes table ≡ expected table
unfolding computed
as_written = refl

-- with the limit of document 01 the first tokens are those that parse_text reads
pub whole : (text : List ℕ) → parse_first 16384 text ≡ parse_text text
unfolding parse_first parse_text
whole text = refl

-- ---- depth: the bytes of tokens one after another are computed faster than bytes that are written over zeros

abbrev parse_bytes : List ℕ → List ℕ → Outcome
parse_bytes text tokens = looked_ahead (input tokens text (length text)) (parse_defs (input tokens text (length text)) 0)

by_bytes : (text : List ℕ) → parse_text text ≡ parse_bytes text (bytes_all (records_of (lexed text)))
unfolding parse_text
by_bytes text = ap (parse_bytes text) (token-bytes (lexed text))

not_entered_there : said_of (fitted 16 (parse_bytes not_entered (bytes_all (records_of (lexed not_entered))))) ≡ 40 at 134
unfolding computed nested not_entered
not_entered_there = refl

entered-there : said_of (fitted 16 (parse_bytes entered (bytes_all (records_of (lexed entered))))) ≡ 8 at 135
unfolding computed nested entered
entered-there = refl

pub deep_as_written : outcomes deep ≡ expected deep
unfolding bytes nested with_byte run_end is_ascii text_reading not_entered entered deep outcomes comes_to expected
deep_as_written =
    ap₂ (λ a b. said_of (fitted 16 a) ∷ said_of (fitted 16 b) ∷ []) (by_bytes not_entered) (by_bytes entered)
    ∙ ap₂ (λ a b. a ∷ b ∷ []) not_entered_there entered-there
