-- The theorems of the grammar at examples. Assumes nothing.
use Prim.Native.Nat.{ℕ, ◌<◌, ◌≤◌}
use native.Mathlib.Omega.{arith}
use mathlib.Core.Path.{◌≡◌, refl}
use mathlib.Core.List.{List}
use lib.ListN.{length}
use Rattle.trees.specs.Tree.{Trees, ◌⧺◌, count, records, records_all}
use Rattle.trees.specs.Names.{spelled}
use Rattle.words.specs.Words.{half_at, word_at, be4, be8}
use Rattle.words.specs.Bytes.{same_bytes}
use Rattle.tokens.specs.Token.{token_at, is_lparen, is_rparen, is_symbol, is_int, is_at, is_const, is_word}
use Rattle.tokens.specs.Ident.{letter, starts, goes_on, all_go_on, ident_refusal}
use Rattle.tokens.specs.Lent.{ascii, good_symbol, good_value, good_words, good_token, bad_from}
use Rattle.tokens.specs.Input.{Input, pos_at}
use Rattle.steps.specs.Keywords.{word-rule}
use Rattle.steps.specs.Outcome.{refuse, refusal, before, and_then, ◌⊳◌, node_of, parent, flagged, bare, leaf, nothing, refuse_from, refuse_after, if_next, if_second, then_at, items_from, many_at, many, unexpected, expect_at, ate, eat, ident_at, name_by, parse_ident, const_refusal, parse_const, refused_as}
use Rattle.patterns.specs.Pattern.{compound, pattern_in, parse_pattern}
use Rattle.exprs.specs.Expr.{parse_letdef, let_inside, parse_expr_inner_parens, expr_in, parse_expr, parse_iflet, parse_iflet_if, parse_iflet_or_expr, no_iflet}
use Rattle.exprs.specs.Examples.{tok, sym, id}
use Rattle.parser.specs.Types.{parse_struct_field, parse_struct_fields, parse_tuple_field, parse_tuple_fields, parse_fields, parse_type_variant, parse_typevalue, modifier_flags, modifiers_end, parse_modifiers, parse_type}
use Rattle.parser.specs.Defs.{decl_flags, decl_modifiers, decl_names, parse_decl, parse_extern, rule_name, is_i64, rule_priority, rule_flags, rule_parts, parse_rule, rest_def, parse_def, parse_defs}
use Rattle.parser.specs.Reading.{done, stopped, fitted, judged, reading, number, bytes}
use Rattle.grammar.specs.Lexical.{identifier}
use Rattle.grammar.specs.Grammar.{named, unranked, definition, pattern, list}
use Rattle.grammar.specs.Nesting.{Begins, b_definitions, b_rule, b_left, Nested, Deep, inside}
use Rattle.grammar.specs.Meaning.{Derived, Refused, Meaning, Worth, Exactly}
use Rattle.grammar.specs.Examples.{accepted, tree, refused, alone, constant, constant-tree, bound}
use Rattle.grammar.proofs.Exact.{Ground, deep, plain}
use Rattle.grammar.proofs.Lexemes.{opens, symbols, integers, words}
use Rattle.grammar.proofs.Rows.{no_items}
use Rattle.grammar.proofs.Pattern.{exact_pattern}
use Rattle.grammar.proofs.Theorem.{exact, meaning, worth}
use Rattle.grammar.proofs.Places.{placed, one-refusal}
use Rattle.grammar.proofs.Exactly.{exactly, refusal-within}

-- all that reading tokens computes with
unfoldable computed : Unit {0}
unfolding tok sym id be8 be4 word_at half_at same_bytes spelled ◌⧺◌ count records records_all token_at is_lparen is_rparen is_symbol is_int is_at is_const is_word letter starts goes_on all_go_on ident_refusal ascii good_symbol good_value good_words good_token bad_from before and_then ◌⊳◌ node_of parent flagged bare leaf nothing refuse_from refuse_after if_next if_second then_at items_from many_at many unexpected expect_at ate eat ident_at name_by parse_ident const_refusal parse_const refused_as compound pattern_in parse_pattern parse_letdef let_inside parse_expr_inner_parens expr_in parse_expr parse_iflet parse_iflet_if parse_iflet_or_expr no_iflet parse_struct_field parse_struct_fields parse_tuple_field parse_tuple_fields parse_fields parse_type_variant parse_typevalue modifier_flags modifiers_end parse_modifiers parse_type decl_flags decl_modifiers decl_names parse_decl parse_extern rule_name is_i64 rule_priority rule_flags rule_parts parse_rule rest_def parse_def parse_defs fitted judged reading
computed = tt

-- the tree of `(rule (A x) y)` comes out
read : reading accepted 16 ≡ done tree
unfolding accepted tree computed
read = refl

pub derived : Derived accepted tree
derived = ((exact accepted 16 tree).0 read).0

-- what is refused with any space is not derived
underived_at : (s : Input) (code place : ℕ) → ((space : ℕ) → reading s space ≡ stopped code place) → (ts : Trees) → Derived s ts → ⊥
underived_at s code place e ts d =
    let n = length (records_all ts) in
    let a = (exact s n ts).1 (d, omega arith) in
    let b = e n in
    let z : ◌≡◌ {A = ℕ} 0 1 = cc in omega arith

-- `(rule 5 x)` has none
stops : (space : ℕ) → reading refused space ≡ stopped 26 9
unfolding refused computed
stops space = refl

pub underived : (ts : Trees) → Derived refused ts → ⊥
underived = underived_at refused 26 9 stops

-- nor has `(extern const $ T)`: 16 at the `$`
stops_alone : (space : ℕ) → reading alone space ≡ stopped 16 14
unfolding alone computed
stops_alone space = refl

pub alone_underived : (ts : Trees) → Derived alone ts → ⊥
alone_underived = underived_at alone 16 14 stops_alone

-- `(extern const $a T)` has
read-constant : reading constant 16 ≡ done constant-tree
unfolding constant constant-tree computed
read-constant = refl

pub constant-derived : Derived constant constant-tree
constant-derived = ((exact constant 16 constant-tree).0 read-constant).0

-- ---- what a refusal is worth

-- `(rule 5 x)` is refused with 26 at 9
unfolded : {s : Input} {space code place : ℕ} → Meaning s space (stopped code place) → Refused s space code place
unfolding Meaning
unfolded m = m

pub refused_so : (space : ℕ) → Refused refused space 26 9
refused_so space = unfolded (rw (stops space) at (meaning refused space))

refused_end : refused.end < 4294967296
unfolding refused
refused_end = omega arith

-- a refusal of the parser stands at most at its end
pub refused-placed : (space code place : ℕ) → Refused refused space code place → 8 ≤ code → place ≤ 10
unfolding refused
refused-placed space code place r h = omega (arith, placed r h)

-- its number stands for no other refusal
pub refused-alone : (space code place : ℕ) → Refused refused space code place → number (stopped code place) ≡ number (stopped 26 9) → (code ≡ 26) × (place ≡ 9)
refused-alone space code place r e = one-refusal refused_end r (refused_so space) e

-- and a number of 64 ones is worth nothing
pub no_ones : (space n : ℕ) (l : List ℕ) → Worth refused space n 18446744073709551615 l → ⊥
no_ones space n l w = omega (arith, refusal-within refused_end w)

-- exactly, of both
pub refused_exactly : (space n : ℕ) → Exactly refused space n (number (stopped 26 9)) (bytes n (stopped 26 9))
refused_exactly space n = exactly refused_end (rw (stops space) at (worth refused space n))

accepted-end : accepted.end < 4294967296
unfolding accepted
accepted-end = omega arith

pub accepted_exactly : (n : ℕ) → Exactly accepted 16 n (number (done tree)) (bytes n (done tree))
accepted_exactly n = exactly accepted-end (rw read at (worth accepted 16 n))

-- ---- depth

-- with depth 2, `x@(A y)` is refused at the `y`, and that stands two levels in
met : parse_pattern bound 2 3 ≡ refuse (refusal 8 13 7)
unfolding bound computed
met = refl

pub two_in : (k : ℕ) × Nested bound pattern 2 3 k × (13 ≡ pos_at bound k)
two_in = go ((exact_pattern bound 2).ground 3 (refusal 8 13 7) met)
  where
    go : Ground bound (Nested bound pattern 2 3) (refusal 8 13 7) → (k : ℕ) × Nested bound pattern 2 3 k × (13 ≡ pos_at bound k)
    go (deep k x c p) = (k, x, p)
    go (plain k l h n p) = absurd (omega arith)

-- the `x` begins the rule's pattern, so the `y` is inside two patterns of the list
begun : Begins bound (list definition) pattern 0 3
unfolding bound computed
begun =
    b_definitions no_items (b_rule (((opens bound).at 0).yes refl) (((words bound word-rule).at 1).yes refl)
    (b_left (named (record { symbol = ((symbols bound).at 2).yes refl; obeys = identifier refl refl })) (unranked (((integers bound).at 3).no refl))))

pub two_around : (k : ℕ) × Deep bound (list definition) 2 0 k × (13 ≡ pos_at bound k)
two_around = (two_in.0, inside begun two_in.1, two_in.2)
