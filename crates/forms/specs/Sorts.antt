-- The numbers that the code's sorts, positions and words have in the rows of the kinds.
use Rattle.std.specs.Prelude.{ℕ, Bool, true, false, Option, Some, None}
use Rattle.forms.specs.declared.Sort.{Sort}
use Rattle.forms.specs.declared.Sort.TheVariants.{Pattern, Expression, LetDef, Ident, Definition, TypeValue, Variant, Fields, StructField, TupleField, AttrKind, Priority, IfLet}
use Rattle.forms.specs.declared.Words.{Words}
use Rattle.forms.specs.declared.Words.TheVariants.{Empty, Index, Integer, Range}
use Rattle.forms.specs.Kinds.{no_pos, pos}

abbrev pub number : Sort → ℕ
number Pattern = 1
number Expression = 2
number LetDef = 3
number Ident = 4
number Definition = 5
number TypeValue = 6
number Variant = 7
number Fields = 8
number StructField = 9
number TupleField = 10
number AttrKind = 11
number Priority = 12
number IfLet = 13

-- 0 where there is none
abbrev pub sort_of : Option Sort → ℕ
sort_of None = 0
sort_of (Some s) = number s

abbrev pub position_of : Bool → ℕ
position_of true = pos
position_of false = no_pos

abbrev pub words_of : Words → ℕ
words_of Empty = 0
words_of Index = 1
words_of Integer = 2
words_of Range = 3
