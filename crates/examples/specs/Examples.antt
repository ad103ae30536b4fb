-- The starred examples of document 01 as one table, with its rule `(rule (A x) y)` and two that stand in a line with a starred one.
use Rattle.std.specs.Prelude.{ℕ, ◌+◌, ◌*◌, List, [], ◌∷◌, ◌++◌, length}
use Prim.Native.String.{String}
use Rattle.trees.specs.Ast.{kind_decl, kind_extractor, kind_rule, kind_priority, kind_identifier, kind_pattern_var, kind_pattern_bind, kind_pattern_term, kind_pattern_wildcard, kind_pattern_and, kind_pattern_macro_arg, kind_expr_var}
use Rattle.words.specs.Words.{be4, be8}
use Rattle.exprs.specs.Examples.{tok, sym}
use Rattle.lexer.specs.Quoted.{bytes}
use Rattle.examples.specs.Calls.{Call, isle_read, isle_make_template, isle_substitute, isle_open, ◌at◌, accepts, Case, ◌gives◌}

-- ---- tokens, by their position

abbrev pub lparen : ℕ → List ℕ
lparen p = tok 1 p 0 0

abbrev pub rparen : ℕ → List ℕ
rparen p = tok 2 p 0 0

abbrev int : ℕ → ℕ → List ℕ
int p n = tok 4 p 0 n

-- a text and its tokens: the end is the text's; with space for 16 records
abbrev pub read : String → List ℕ → Call
read s tokens = isle_read tokens (bytes s) (length (bytes s)) 16

-- ---- records: kind, flags, child count, position, both halves of word 1, word 2, as the sheet prints them

unfoldable pub rec : ℕ → ℕ → ℕ → ℕ → ℕ → ℕ → ℕ → List ℕ
rec k f n p a b c = be4 ((k * 256 + f) * 65536 + n) ++ (be4 p ++ (be4 a ++ (be4 b ++ be8 c)))

-- of a kind, with n children; an Ident of n bytes; a variable of a pattern and one of an expression, of one byte; a MacroArg
abbrev pub node : ℕ → ℕ → ℕ → List ℕ
node k n p = rec k 0 n p 0 0 0

abbrev pub ident : ℕ → ℕ → List ℕ
ident p n = rec kind_identifier 0 0 p p n 0

abbrev var : ℕ → List ℕ
var p = node kind_pattern_var 1 p ++ ident p 1

abbrev expr_var : ℕ → List ℕ
expr_var p = node kind_expr_var 1 p ++ ident p 1

abbrev macro_arg : ℕ → ℕ → List ℕ
macro_arg p i = rec kind_pattern_macro_arg 0 0 p 0 i 0

-- ---- the records of `(rule (A x) y)`, as the document prints them

unfoldable pub sheet : List ℕ
sheet =
    rec 20 0 2 6 0 0 0
    ++ rec 35 0 2 6 0 0 0
    ++ rec 24 0 0 7 7 1 0
    ++ rec 30 0 1 9 0 0 0
    ++ rec 24 0 0 9 9 1 0
    ++ rec 41 0 1 12 0 0 0
    ++ rec 24 0 0 12 12 1 0

-- ---- `(B y @ _ x @ (C y) x)`: the pattern, the parameters x and y, the template

unfoldable pub text : List ℕ
text = bytes "(B y @ _ x @ (C y) x)"

unfoldable pub b_records : List ℕ
b_records =
    node kind_pattern_term 4 0 ++ ident 1 1
    ++ node kind_pattern_bind 2 3 ++ ident 3 1 ++ node kind_pattern_wildcard 0 7
    ++ node kind_pattern_bind 2 9 ++ ident 9 1 ++ node kind_pattern_term 2 13 ++ ident 14 1 ++ var 16
    ++ var 19

unfoldable pub xy : List ℕ
xy = ident 9 1 ++ ident 3 1

-- B with MacroArg 1, x bound over C of MacroArg 1, MacroArg 0
unfoldable pub b_made : List ℕ
b_made =
    node kind_pattern_term 4 0 ++ ident 1 1
    ++ macro_arg 3 1
    ++ node kind_pattern_bind 2 9 ++ ident 9 1 ++ node kind_pattern_term 2 13 ++ ident 14 1 ++ macro_arg 16 1
    ++ macro_arg 19 0

-- ---- `(extractor (P x) (and x x)) (extractor (Q x) (P (P x))) (Q z)`: the definitions, the pattern, and both opened

unfoldable pub source : List ℕ
source = bytes "(extractor (P x) (and x x)) (extractor (Q x) (P (P x))) (Q z)"

unfoldable pub pq : List ℕ
pq =
    node kind_extractor 3 11 ++ ident 12 1 ++ ident 14 1 ++ node kind_pattern_and 2 17 ++ var 22 ++ var 24
    ++ node kind_extractor 3 39 ++ ident 40 1 ++ ident 42 1 ++ node kind_pattern_term 2 45 ++ ident 46 1 ++ node kind_pattern_term 2 48 ++ ident 49 1 ++ var 51

unfoldable pub qz : List ℕ
qz = node kind_pattern_term 2 56 ++ ident 57 1 ++ var 59

-- the templates of P, 3 records, and of Q, 7
unfoldable pub pq_opened : List ℕ
pq_opened =
    node kind_pattern_and 2 17 ++ macro_arg 22 0 ++ macro_arg 24 0
    ++ node kind_pattern_and 2 17
    ++ node kind_pattern_and 2 17 ++ macro_arg 51 0 ++ macro_arg 51 0
    ++ node kind_pattern_and 2 17 ++ macro_arg 51 0 ++ macro_arg 51 0

unfoldable pub qz_opened : List ℕ
qz_opened =
    node kind_pattern_and 2 17
    ++ node kind_pattern_and 2 17 ++ var 59 ++ var 59
    ++ node kind_pattern_and 2 17 ++ var 59 ++ var 59

-- ---- the table

unfoldable pub table : List Case
table =
    -- no tokens
    (read "" [] gives accepts 0 [] [])
    ∷ (read "(rule 5 x)" (lparen 0 ++ sym 1 4 ++ int 6 5 ++ sym 8 1 ++ rparen 9) gives 26 at 9)
    ∷ (read "(rule" (lparen 0 ++ sym 1 4) gives 25 at 5)
    ∷ (read "(type T foo (enum))" (lparen 0 ++ sym 1 4 ++ sym 6 1 ++ sym 8 3 ++ lparen 12 ++ sym 13 4 ++ rparen 17 ++ rparen 18) gives 18 at 12)
    ∷ (read "(type T (foo))" (lparen 0 ++ sym 1 4 ++ sym 6 1 ++ lparen 8 ++ sym 9 3 ++ rparen 12 ++ rparen 13) gives 19 at 8)
    -- flags 2, term `pure`
    ∷ (read "(decl multi pure () T)" (lparen 0 ++ sym 1 4 ++ sym 6 5 ++ sym 12 4 ++ lparen 17 ++ rparen 18 ++ sym 20 1 ++ rparen 21)
    gives accepts 3 [] (rec kind_decl 2 2 6 0 0 0 ++ ident 12 4 ++ ident 20 1))
    -- 24; one less is accepted
    ∷ (read "(rule r 9223372036854775808 x y)" (lparen 0 ++ sym 1 4 ++ sym 6 1 ++ int 8 9223372036854775808 ++ sym 28 1 ++ sym 30 1 ++ rparen 31) gives 24 at 6)
    ∷ (read "(rule r 9223372036854775807 x y)" (lparen 0 ++ sym 1 4 ++ sym 6 1 ++ int 8 9223372036854775807 ++ sym 28 1 ++ sym 30 1 ++ rparen 31)
    gives accepts 7 [] (rec kind_rule 3 4 6 0 0 0 ++ ident 6 1 ++ rec kind_priority 0 0 0 2147483647 4294967295 0 ++ var 28 ++ expr_var 30))
    ∷ (read "(extern const c T)" (lparen 0 ++ sym 1 6 ++ sym 8 5 ++ sym 14 1 ++ sym 16 1 ++ rparen 17) gives 16 at 14)
    -- these two have no star
    ∷ (read "(pragma a)" (lparen 0 ++ sym 1 6 ++ sym 8 1 ++ rparen 9) gives 17 at 8)
    ∷ (read "(spec" (lparen 0 ++ sym 1 4) gives 27 at 1)
    -- the rule whose records the document prints
    ∷ (read "(rule (A x) y)" (lparen 0 ++ sym 1 4 ++ lparen 6 ++ sym 7 1 ++ sym 9 1 ++ rparen 10 ++ sym 12 1 ++ rparen 13) gives accepts 7 [] sheet)
    -- parameters x, y: B with MacroArg 1, x bound over C of MacroArg 1, MacroArg 0; with one pattern given, 5 at 2
    ∷ (isle_make_template text b_records xy 16 gives accepts 9 [] b_made)
    ∷ (isle_substitute text b_made (var 16) 16 gives 5 at 2)
    -- `(Q z)` opens to 11 records; space for 10 gives 6
    ∷ (isle_open source pq qz 16 11 gives accepts 11 pq_opened qz_opened)
    ∷ (isle_open source pq qz 16 10 gives 6 at 1)
    ∷ []
