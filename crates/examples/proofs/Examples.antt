-- The examples come out as documents 01 and 02 have them, by computation. Assumes nothing.
use mathlib.Core.Path.{◌≡◌, refl}
use Rattle.trees.specs.Tree.{◌⧺◌, count, firsts, others, records, records_all, trees_of}
use Rattle.trees.specs.Names.{spelled}
use Rattle.words.specs.Words.{half_at, word_at, be4, be8}
use Rattle.words.specs.Bytes.{same_bytes}
use Rattle.records.specs.Slots.{word0, rec_at, recs_from, put_words, put, writes}
use Rattle.records.specs.Result.{accepted, refused}
use Rattle.tokens.specs.Token.{token_at, is_lparen, is_rparen, is_symbol, is_int, is_at, is_refused, is_const, is_word}
use Rattle.tokens.specs.Ident.{letter, starts, goes_on, all_go_on, ident_refusal}
use Rattle.tokens.specs.Lent.{ascii, good_symbol, good_value, good_words, good_token, bad_from}
use Rattle.steps.specs.Outcome.{before, and_then, ◌⊳◌, node_of, parent, flagged, bare, leaf, nothing, refuse_from, refuse_after, if_next, if_second, then_at, items_from, many_at, many, unexpected, expect_at, ate, eat, ident_at, name_by, parse_ident, const_refusal, parse_const, refused_as, pragma_refusal}
use Rattle.patterns.specs.Pattern.{compound, pattern_in, parse_pattern}
use Rattle.exprs.specs.Expr.{parse_letdef, let_inside, parse_expr_inner_parens, expr_in, parse_expr, parse_iflet, parse_iflet_if, parse_iflet_or_expr, no_iflet}
use Rattle.exprs.specs.Examples.{tok, sym}
use Rattle.parser.specs.Types.{parse_struct_field, parse_struct_fields, parse_tuple_field, parse_tuple_fields, parse_fields, parse_type_variant, parse_typevalue, modifier_flags, modifiers_end, parse_modifiers, parse_type}
use Rattle.parser.specs.Defs.{decl_flags, decl_modifiers, decl_names, parse_decl, parse_extern, rule_name, is_i64, rule_priority, rule_flags, rule_parts, parse_rule, parse_pragma, is_uncovered, other_def, rest_def, parse_def, parse_defs}
use Rattle.parser.specs.Reading as reader
use Rattle.forms.specs.Tests.{◌and◌}
use Rattle.forms.specs.Kinds.{rows, find, row_for}
use Rattle.forms.specs.Forms.{placed, one, run, some, singles, leading, sorts_of, position_ok, words_ok, stands, fits}
use Rattle.forms.specs.Lists.{first_is, first_of, kinds}
use Rattle.forms.specs.Depth.{is_level, depths}
use Rattle.expansion.specs.Nodes.{tree_at, is_extractor, is_var, is_bind, is_term, is_wildcard, is_macro_arg}
use Rattle.expansion.specs.Templates.{position, stands_for, make_template, substitute}
use Rattle.expansion.specs.Expansion as calls
use Rattle.expansion.specs.Flat.{store_records}
use Rattle.templates.specs.Answers as templates
use Rattle.templating.specs.Calls as lists
use Rattle.grounds.specs.Stages.{first_from, verdict, in_turn, only, marks}
use Rattle.grounds.specs.Order.{call_flaw, named_in, extractor_places, sites, of_definitions, of_both, of_pattern, order}
use Rattle.grounds.specs.Opening.{tree_of, counts_of, of_space, opening}
use Rattle.opening.specs.Answers.{space_of, space_in, begun, number_of, answer_of}
use Rattle.openings.specs.Calls as opens
use Rattle.lexer.specs.Quoted.{bytes}
use Rattle.examples.specs.Calls.{comes_to, filled, meant, said, outcomes, expected}
use Rattle.examples.specs.Dollars.{p_source, p_records, called, dollars}
use Rattle.examples.specs.Examples.{rec, sheet, text, b_records, xy, b_made, source, pq, qz, pq_opened, qz_opened, table}

-- all that the calls compute with
unfoldable computed : Unit {0}
unfolding bytes comes_to filled meant said outcomes expected rec tok sym be8 be4 word_at half_at same_bytes spelled ◌⧺◌ count firsts others records records_all trees_of word0 rec_at recs_from put_words put writes accepted refused token_at is_lparen is_rparen is_symbol is_int is_at is_refused is_const is_word letter starts goes_on all_go_on ident_refusal ascii good_symbol good_value good_words good_token bad_from before and_then ◌⊳◌ node_of parent flagged bare leaf nothing refuse_from refuse_after if_next if_second then_at items_from many_at many unexpected expect_at ate eat ident_at name_by parse_ident const_refusal parse_const refused_as pragma_refusal compound pattern_in parse_pattern parse_letdef let_inside parse_expr_inner_parens expr_in parse_expr parse_iflet parse_iflet_if parse_iflet_or_expr no_iflet parse_struct_field parse_struct_fields parse_tuple_field parse_tuple_fields parse_fields parse_type_variant parse_typevalue modifier_flags modifiers_end parse_modifiers parse_type decl_flags decl_modifiers decl_names parse_decl parse_extern rule_name is_i64 rule_priority rule_flags rule_parts parse_rule parse_pragma is_uncovered other_def rest_def parse_def parse_defs reader.fitted reader.judged reader.reading reader.number reader.bytes ◌and◌ rows find row_for placed one run some singles leading sorts_of position_ok words_ok stands fits first_is kinds is_level depths tree_at is_extractor is_var is_bind is_term is_wildcard is_macro_arg position stands_for make_template substitute calls.find calls.last calls.but_last calls.extractor calls.extractors calls.term_name calls.template calls.in_order calls.open_by calls.open_template calls.opened_templates calls.opened store_records templates.number_of first_of templates.is_arg templates.lacks_pattern templates.space templates.fitted templates.template_records templates.template_answer templates.substituted_records templates.first_lacking templates.substitute_answer templates.output_of lists.number lists.bytes lists.sizes lists.lent lists.making lists.substituting first_from verdict in_turn only marks call_flaw named_in extractor_places sites of_definitions of_both of_pattern order tree_of counts_of of_space opening space_of space_in begun opens.opening_of opens.number number_of answer_of opens.zeros opens.filled
computed = tt

pub as_written : outcomes table ≡ expected table
unfolding sheet text b_records xy b_made source pq qz pq_opened qz_opened table computed
as_written = refl

-- and a `$` by itself as document 02 has it
pub dollars_as_written : outcomes dollars ≡ expected dollars
unfolding sheet p_source p_records called dollars computed
dollars_as_written = refl
