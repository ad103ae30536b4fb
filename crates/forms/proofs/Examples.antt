-- Lists judged by computation. Assumes nothing.
use mathlib.Core.Path.{◌≡◌, refl}
use mathlib.Core.Bool.{true, false}
use mathlib.Core.List.{List, [], ◌∷◌}
use Prim.Native.Nat.{ℕ, ◌+◌, ◌*◌}
use Rattle.trees.specs.declared.Rec.{Rec}
use Rattle.forms.specs.Tests.{◌and◌}
use Rattle.forms.specs.Kinds.{definition, fields, rows, find, row_for}
use Rattle.forms.specs.Forms.{placed, one, run, some, singles, leading, sorts_of, position_ok, words_ok, stands, fits, is_one, is_many}
use Rattle.forms.specs.Depth.{is_level, settle, read_one, expect, enter, flat_depths}

abbrev rec : ℕ → ℕ → ℕ → ℕ → ℕ → Rec
rec k f n p w = record { kind = k; flags = f; count = n; pos = p; word1 = w; word2 = 0 }

abbrev ident : ℕ → Rec
ident at = rec 24 0 0 at (at * 4294967296 + 1)

-- `(rule (A x) y)`, the example of document 01, with the flags f
abbrev rule : ℕ → List Rec
rule f = rec 20 f 2 6 0 ∷ rec 35 0 2 6 0 ∷ ident 7 ∷ rec 30 0 1 9 0 ∷ ident 9 ∷ rec 41 0 1 12 0 ∷ ident 12 ∷ []

rule_fits : is_many 15 definition (rule 0) ≡ true
unfolding fits stands row_for find rows sorts_of leading one run some singles placed position_ok words_ok ◌and◌
rule_fits = refl

-- with a text that ends before `y`, and with flags that say that it has a name
rule_outside : is_many 12 definition (rule 0) ≡ false
unfolding fits stands row_for find rows sorts_of leading one run some singles placed position_ok words_ok ◌and◌
rule_outside = refl

rule-named : is_many 15 definition (rule 1) ≡ false
unfolding fits stands row_for find rows sorts_of leading one run some singles placed position_ok words_ok ◌and◌
rule-named = refl

-- Fields with two TupleFields, in their places and not
abbrev tuple : ℕ → ℕ → List Rec
tuple a b = rec 8 0 2 1 0 ∷ rec 10 0 1 3 a ∷ ident 3 ∷ rec 10 0 1 5 b ∷ ident 5 ∷ []

tuple_fits : is_one 20 fields (tuple 0 1) ≡ true
unfolding fits stands row_for find rows sorts_of leading one run some singles placed position_ok words_ok ◌and◌
tuple_fits = refl

tuple_swapped : is_one 20 fields (tuple 1 0) ≡ false
unfolding fits stands row_for find rows sorts_of leading one run some singles placed position_ok words_ok ◌and◌
tuple_swapped = refl

-- the depths of the rule's records: the pattern, its name, the argument, ..
rule-depths : flat_depths [] (rule 0) ≡ 0 ∷ 1 ∷ 0 ∷ 2 ∷ 0 ∷ 1 ∷ 0 ∷ []
unfolding flat_depths is_level row_for find rows settle read_one expect enter ◌and◌
rule-depths = refl
