-- The order by examples: each ground beside its neighbours, and space, by computation.
use mathlib.Core.Path.{◌≡◌, refl}
use mathlib.Core.List.{List, [], ◌∷◌}
use Prim.Native.Nat.{ℕ, zero, suc}
use lib.ListN.{length}
use Rattle.trees.specs.Tree.{Tree, Trees, node, ∅, ◌▸◌, ◌⧺◌, count, records}
use Rattle.trees.specs.Ast.{kind_extractor, kind_pattern_term, kind_pattern_wildcard}
use Rattle.trees.specs.Names.{spelled}
use Rattle.words.specs.Bytes.{same_bytes}
use Rattle.forms.specs.Tests.{◌and◌}
use Rattle.forms.specs.Kinds.{rows, find, row_for}
use Rattle.forms.specs.Lists.{kinds}
use Rattle.forms.specs.Depth.{is_level, depths}
use Rattle.expansion.specs.Nodes.{macro_arg, plain, tree_at, is_extractor, is_var, is_bind, is_term, is_wildcard, is_macro_arg}
use Rattle.expansion.specs.Templates.{position, stands_for, make_template, substitute}
use Rattle.expansion.specs.Expansion.{last, but_last, extractor, extractors, term_name, template, in_order, open_by, open_template, opened_templates, opened}
use Rattle.expansion.specs.Flat.{store_records}
use Rattle.expansion.proofs.Examples.{name, var, source, definitions, qz, swapped}
use Rattle.grounds.specs.Stages.{first_from, verdict, in_turn, only, marks}
use Rattle.grounds.specs.Order.{call_flaw, named_in, extractor_places, sites, of_definitions, of_both, of_pattern, order}
use Rattle.grounds.specs.Opening.{counts, counts_of, of_space, Outcome, accept, refuse, opening}

-- how many records the store and the output got, or the number and place of the refusal
abbrev answer_in : Outcome → List ℕ
answer_in (accept w) = 0 ∷ length w.templates ∷ length w.pattern ∷ []
answer_in (refuse r) = r.number ∷ r.place ∷ []

-- in the text of `source` the names P, x, Q and z stand at 12, 14, 40 and 59

-- a MacroArg as the pattern; P twice; an argument too many
unfoldable pub arg : Tree
arg = node (macro_arg 0 0) ∅

unfoldable pub twice : Trees
twice = node (plain kind_extractor 11) (name 12 ▸ name 14 ▸ var 22 ▸ ∅) ▸ definitions

unfoldable pub more : Tree
more = node (plain kind_pattern_term 56) (name 57 ▸ var 59 ▸ var 59 ▸ ∅)

-- (extractor (z) t) before P and Q; and (Q), which has an argument too few and names a later extractor there
unfoldable pub early : Tree → Trees
early t = node (plain kind_extractor 11) (name 59 ▸ t ▸ ∅) ▸ definitions

unfoldable pub wrong_later : Tree
wrong_later = node (plain kind_pattern_term 18) (name 40 ▸ ∅)

-- n Terms inside one another, around t
unfoldable pub nested : ℕ → Tree → Tree
nested zero t = t
nested (suc n) t = node (plain kind_pattern_term 0) (name 11 ▸ nested n t ▸ ∅)

unfoldable pub deep : Trees
deep = node (plain kind_extractor 11) (name 12 ▸ nested 64 (node (plain kind_pattern_wildcard 0) ∅) ▸ ∅) ▸ ∅

pub answers : answer_in (opening source definitions qz (counts 10 11))
    ∷ answer_in (opening source definitions qz (counts 9 10))
    ∷ answer_in (opening source definitions qz (counts 10 10))
    ∷ answer_in (opening source definitions arg (counts 10 11))
    ∷ answer_in (opening source deep arg (counts 10 11))
    ∷ answer_in (opening source deep qz (counts 10 11))
    ∷ answer_in (opening source swapped qz (counts 10 11))
    ∷ answer_in (opening source twice qz (counts 10 11))
    ∷ answer_in (opening source twice more (counts 10 11))
    ∷ answer_in (opening source definitions more (counts 10 11))
    ∷ answer_in (opening source (early wrong_later) more (counts 10 11))
    ∷ []
    ≡ (0 ∷ 10 ∷ 11 ∷ [])
    -- 6 for the store before 6 for the output
    ∷ (6 ∷ 0 ∷ [])
    ∷ (6 ∷ 1 ∷ [])
    -- 4 in the pattern, after the definitions' 17 records; before 8 in the definitions
    ∷ (4 ∷ 17 ∷ [])
    ∷ (4 ∷ 131 ∷ [])
    ∷ (8 ∷ 130 ∷ [])
    -- 32; 30; 30 in the definitions before 31 in the pattern; 31 in the pattern at the place after the definitions
    ∷ (32 ∷ 3 ∷ [])
    ∷ (30 ∷ 5 ∷ [])
    ∷ (30 ∷ 5 ∷ [])
    ∷ (31 ∷ 17 ∷ [])
    -- a later extractor called with too few arguments: 32, not 31
    ∷ (32 ∷ 2 ∷ [])
    ∷ []
unfolding source opening of_space counts_of order of_both of_definitions of_pattern verdict in_turn sites only marks first_from call_flaw named_in extractor_places kinds depths is_level row_for find rows ◌and◌ ◌⧺◌ extractors extractor last but_last is_extractor spelled Rattle.expansion.specs.Expansion.find same_bytes term_name is_term template make_template stands_for position is_var is_bind is_wildcard substitute tree_at is_macro_arg in_order open_by open_template opened_templates opened records count store_records arg twice more early wrong_later nested deep swapped
answers = refl
