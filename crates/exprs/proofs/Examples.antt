-- The worked cases come out, by computation. Assumes nothing.
use mathlib.Core.Path.{◌≡◌, refl}
use Rattle.trees.specs.Tree.{◌⧺◌, count}
use Rattle.trees.specs.Names.{spelled}
use Rattle.words.specs.Words.{half_at, word_at, be4, be8}
use Rattle.words.specs.Bytes.{same_bytes}
use Rattle.tokens.specs.Token.{token_at, is_lparen, is_rparen, is_symbol, is_int, is_at, is_const, is_word}
use Rattle.tokens.specs.Ident.{letter, starts, goes_on, all_go_on, ident_refusal}
use Rattle.steps.specs.Outcome.{before, and_then, ◌⊳◌, node_of, parent, leaf, nothing, refuse_from, refuse_after, if_next, if_second, then_at, items_from, many_at, many, unexpected, expect_at, ate, eat, ident_at, name_by, parse_ident, const_refusal, parse_const}
use Rattle.patterns.specs.Pattern.{compound, pattern_in, parse_pattern}
use Rattle.exprs.specs.Expr.{parse_letdef, let_inside, parse_expr_inner_parens, expr_in, parse_expr, parse_iflet, parse_iflet_if, parse_iflet_or_expr}
use Rattle.exprs.specs.Examples.{tok, sym, id, case, outcomes, parsed, table}

pub as_written : parsed table ≡ outcomes table
unfolding tok sym id case outcomes parsed table be8 be4 word_at half_at same_bytes spelled ◌⧺◌ count token_at is_lparen is_rparen is_symbol is_int is_at is_const is_word letter starts goes_on all_go_on ident_refusal before and_then ◌⊳◌ node_of parent leaf nothing refuse_from refuse_after if_next if_second then_at items_from many_at many unexpected expect_at ate eat ident_at name_by parse_ident const_refusal parse_const compound pattern_in parse_pattern parse_letdef let_inside parse_expr_inner_parens expr_in parse_expr parse_iflet parse_iflet_if parse_iflet_or_expr
as_written = refl
