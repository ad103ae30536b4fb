-- The kinds of records, one row each: document 01, 'Definition records' and 'Pattern and expression records'.
-- One more kind is one more row here and one more in the code's table (and the end of the kinds, in both).
use Rattle.std.specs.Prelude.{ℕ, List, [], ◌∷◌, eqb}
use Rattle.trees.specs.Choice.{pick}
use Rattle.forms.specs.Tests.{◌and◌}

-- ---- sorts: what may stand in a place

abbrev pub none : ℕ
none = 0

abbrev pub pattern : ℕ
pattern = 1

abbrev pub expression : ℕ
expression = 2

abbrev pub let_def : ℕ
let_def = 3

-- an Ident
abbrev pub name : ℕ
name = 4

abbrev pub definition : ℕ
definition = 5

abbrev pub type_value : ℕ
type_value = 6

abbrev pub variant : ℕ
variant = 7

abbrev pub fields : ℕ
fields = 8

abbrev pub struct_field : ℕ
struct_field = 9

abbrev pub tuple_field : ℕ
tuple_field = 10

abbrev pub attr_kind : ℕ
attr_kind = 11

abbrev pub priority : ℕ
priority = 12

abbrev pub if_let : ℕ
if_let = 13

-- ---- the other columns

-- flags: how many numbers they may be, from 0 on
abbrev pub no_flags : ℕ
no_flags = 1

abbrev pub one-flag : ℕ
one-flag = 2

abbrev pub two-flags : ℕ
two-flags = 4

abbrev pub four_flags : ℕ
four_flags = 16

-- whether the Rust has a `pos`; where it has none, the position is 0
abbrev pub no_pos : ℕ
no_pos = 0

abbrev pub pos : ℕ
pos = 1

-- what words 1 and 2 hold: nothing; a number in word 1; numbers in both; in word 1 a range of the text, start 32 bits, length 32
abbrev pub empty : ℕ
empty = 0

abbrev pub index : ℕ
index = 1

abbrev pub integer : ℕ
integer = 2

abbrev pub range : ℕ
range = 3

-- ---- rows

-- What the records of a kind look like.
pub record Columns : Type 0 where
  pub sort : ℕ
  pub flags : ℕ
  pub position : ℕ
  pub words : ℕ
  pub first : ℕ
  pub second : ℕ
  pub third : ℕ
  pub any : ℕ
  pub last : ℕ

-- A row is found by the kind, and a Rule's also by its flags, because its children follow them.
pub record Entry : Type 0 where
  pub kind : ℕ
  pub by_flags : ℕ
  pub row : Columns

-- sort, flags, position, words; then the children: three single ones, any number of a sort, a last one (none: there is no such child)
abbrev pub columns : ℕ → ℕ → ℕ → ℕ → ℕ → ℕ → ℕ → ℕ → ℕ → Columns
columns s f p w a b c m z =
    record { sort = s; flags = f; position = p; words = w; first = a; second = b; third = c; any = m; last = z }

abbrev row : ℕ → ℕ → ℕ → ℕ → ℕ → ℕ → ℕ → ℕ → ℕ → ℕ → Entry
row k s f p w a b c m z = record { kind = k; by_flags = 0; row = columns s f p w a b c m z }

abbrev rule : ℕ → ℕ → ℕ → ℕ → ℕ → ℕ → ℕ → Entry
rule f s a b c m z = record { kind = 20; by_flags = f; row = columns s two-flags pos empty a b c m z }

unfoldable pub rows : List Entry
rows =
    -- 1 Type (name, value; flags 1 extern, 2 nodebug)
    row 1 definition two-flags pos empty name type_value none none none
    -- 2 Primitive (name)
    ∷ row 2 type_value no_flags pos empty name none none none none
    -- 3 Enum (variants)
    ∷ row 3 type_value no_flags pos empty none none none variant none
    -- 4 Struct (fields)
    ∷ row 4 type_value no_flags pos empty fields none none none none
    -- 5 Variant (name, fields)
    ∷ row 5 variant no_flags pos empty name fields none none none
    -- Fields, one record: 6 unit
    ∷ row 6 fields no_flags no_pos empty none none none none none
    -- 7 named (any number of StructFields)
    ∷ row 7 fields no_flags pos empty none none none struct_field none
    -- 8 tuple (any number of TupleFields)
    ∷ row 8 fields no_flags pos empty none none none tuple_field none
    -- 9 StructField (name, type)
    ∷ row 9 struct_field no_flags pos empty name name none none none
    -- 10 TupleField (type; word 1 index)
    ∷ row 10 tuple_field no_flags pos index name none none none none
    -- 11 Decl (term, argument types, result; 1 pure, 2 multi, 4 partial, 8 rec)
    ∷ row 11 definition four_flags pos empty name none none name name
    -- 12 Attr (target, kinds; 1 rule)
    ∷ row 12 definition one-flag pos empty name none none attr_kind none
    -- 13 chain
    ∷ row 13 attr_kind no_flags no_pos empty none none none none none
    -- 14 priority
    ∷ row 14 attr_kind no_flags no_pos empty none none none none none
    -- 15 tag (name)
    ∷ row 15 attr_kind no_flags no_pos empty name none none none none
    -- 16 extern constructor (term, func)
    ∷ row 16 definition no_flags pos empty name name none none none
    -- 17 extern extractor (term, func; 1 infallible)
    ∷ row 17 definition one-flag pos empty name name none none none
    -- 18 extern const (name, type)
    ∷ row 18 definition no_flags pos empty name name none none none
    -- 19 Extractor (term, parameters, template)
    ∷ row 19 definition no_flags pos empty name none none name pattern
    -- 20 Rule (name, priority, pattern, if-lets, expression; 1 named, 2 has priority): with flags 0, 1, 2, 3
    ∷ rule 0 definition pattern none none if_let expression
    ∷ rule 1 definition name pattern none if_let expression
    ∷ rule 2 definition priority pattern none if_let expression
    ∷ rule 3 definition name priority pattern if_let expression
    -- 21 priority (word 1, i64)
    ∷ row 21 priority no_flags no_pos index none none none none none
    -- 22 IfLet (pattern, expression)
    ∷ row 22 if_let no_flags pos empty pattern expression none none none
    -- 23 Converter (inner, outer, term)
    ∷ row 23 definition no_flags pos empty name name name none none
    -- 24 Ident (word 1: start 32, length 32)
    ∷ row 24 name no_flags pos range none none none none none
    -- Patterns: 30 Var (name)
    ∷ row 30 pattern no_flags pos empty name none none none none
    -- 31 Bind (name, pattern)
    ∷ row 31 pattern no_flags pos empty name pattern none none none
    -- 32 Bool (flag 1 true)
    ∷ row 32 pattern one-flag pos empty none none none none none
    -- 33 Int
    ∷ row 33 pattern no_flags pos integer none none none none none
    -- 34 constant (name)
    ∷ row 34 pattern no_flags pos empty name none none none none
    -- 35 Term (name, patterns)
    ∷ row 35 pattern no_flags pos empty name none none pattern none
    -- 36 Wildcard
    ∷ row 36 pattern no_flags pos empty none none none none none
    -- 37 And (patterns)
    ∷ row 37 pattern no_flags pos empty none none none pattern none
    -- 38 MacroArg (word 1 index)
    ∷ row 38 pattern no_flags pos index none none none none none
    -- Expressions: 40 Term (name, expressions)
    ∷ row 40 expression no_flags pos empty name none none expression none
    -- 41 Var (name)
    ∷ row 41 expression no_flags pos empty name none none none none
    -- 42 Bool (flag 1 true)
    ∷ row 42 expression one-flag pos empty none none none none none
    -- 43 Int
    ∷ row 43 expression no_flags pos integer none none none none none
    -- 44 constant (name)
    ∷ row 44 expression no_flags pos empty name none none none none
    -- 45 Let (LetDefs, body)
    ∷ row 45 expression no_flags pos empty none none none let_def expression
    -- 46 LetDef (name, type, expression)
    ∷ row 46 let_def no_flags pos empty name name expression none none
    ∷ []

-- what no kind has: no flags are allowed, not even 0
abbrev pub nobody : Columns
nobody = columns none 0 no_pos empty none none none none none

unfoldable pub find : ℕ → ℕ → List Entry → Columns
find k v [] = nobody
find k v (e ∷ es) = pick (eqb e.kind k and eqb e.by_flags v) e.row (find k v es)

-- the row of a record with the kind k and the flags f
unfoldable pub row_for : ℕ → ℕ → Columns
row_for k f = find k (pick (eqb k 20) f 0) rows
