-- Answers of the two functions at `(B y @ _ x @ (C y) x)` with the parameters x, y, beside the example of document 01. By computation.
use mathlib.Core.Path.{◌≡◌, refl}
use Rattle.trees.specs.Tree.{node, ∅, ◌▸◌, count, firsts, others, records, records_all, trees_of}
use Rattle.trees.specs.Ast.{kind_pattern_wildcard}
use Rattle.trees.specs.Names.{spelled}
use Rattle.words.specs.Bytes.{same_bytes}
use Rattle.expansion.specs.Nodes.{plain, tree_at, is_var, is_bind, is_wildcard, is_macro_arg}
use Rattle.expansion.specs.Templates.{position, stands_for, make_template, substitute}
use Rattle.expansion.proofs.Examples.{text, xy, B, B', var}
use Rattle.std.specs.Prelude.{Ok, Err}
use Rattle.forms.specs.Lists.{first_of}
use Rattle.templates.specs.declared.Refused.TheVariants.{MacroArg, NoSpace}
use Rattle.templates.specs.Answers.{is_arg, lacks_pattern, fitted, template_records, template_answer, substituted_records, first_lacking, substitute_answer}

-- a template of nine records does not fit where there is space for eight
pub short : template_answer text (records B) (records_all xy) 8 ≡ Err NoSpace
unfolding text template_answer template_records first_of is_arg fitted make_template stands_for position is_var is_bind is_wildcard is_macro_arg spelled same_bytes records count trees_of firsts others
short = refl

-- a template is no pattern to make one of: 4 at 2
pub twice : template_answer text (records B') (records_all xy) 9 ≡ Err (MacroArg 2)
unfolding template_answer first_of is_arg is_macro_arg records count
twice = refl

-- of three patterns, the third is ignored
pub three_patterns : substitute_answer (records B') (records_all (var 16 ▸ node (plain kind_pattern_wildcard 7) ∅ ▸ var 9 ▸ ∅)) 16 ≡ Ok 10
unfolding substitute_answer first_lacking first_of lacks_pattern is_macro_arg records count trees_of firsts others substituted_records substitute tree_at fitted
three_patterns = refl
