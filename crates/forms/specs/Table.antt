-- The rows in the order of the code's table: a Rule's by its flags 0 to 3, then those of the kinds from 0 on.
use Rattle.std.specs.Prelude.{ℕ, zero, suc, ◌+◌, ◌-◌, Option, Some, None, List, [], ◌∷◌, ltb}
use Rattle.trees.specs.Choice.{pick}
use Rattle.forms.specs.declared.Row.{Row}
use Rattle.forms.specs.Kinds.{Columns, columns, nobody, find, rows}
use Rattle.forms.specs.Sorts.{number, sort_of, position_of, words_of}

-- all kinds are below this number
abbrev pub kinds_end : ℕ
kinds_end = 47

unfoldable pub row_at : ℕ → Columns
row_at i = find (pick (ltb i 4) 20 (i - 4)) (pick (ltb i 4) i 0) rows

-- n rows from the row i on
unfoldable pub rows_from : ℕ → ℕ → List Columns
rows_from i zero = []
rows_from i (suc n) = row_at i ∷ rows_from (suc i) n

unfoldable pub table : List Columns
table = rows_from 0 (4 + kinds_end)

-- a row of the code, in numbers
abbrev pub columns_of : Row → Columns
columns_of w =
    columns (number w.sort) w.flags (position_of w.position) (words_of w.words)
    (sort_of w.first) (sort_of w.second) (sort_of w.third) (sort_of w.any) (sort_of w.last)

-- the same where there may be none: what no kind has
abbrev pub columns_if : Option Row → Columns
columns_if None = nobody
columns_if (Some w) = columns_of w
