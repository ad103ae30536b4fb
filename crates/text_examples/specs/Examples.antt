-- Worked cases: what reading a text comes to where the lexer refuses a token, where there are too many, at the end of the text, and for a `$` by itself.
use Rattle.std.specs.Prelude.{ℕ, zero, suc, List, [], ◌∷◌, ◌++◌, length, replicate}
use Prim.Native.String.{String}
use Rattle.trees.specs.Tree.{records_all}
use Rattle.steps.specs.Outcome.{Outcome}
use Rattle.parser.specs.Defs.{parse_defs}
use Rattle.parser.specs.Reading.{Reading, done, stopped, fitted}
use Rattle.lexer.specs.Text.{tokens_from}
use Rattle.lexer.specs.Quoted.{bytes}
use Rattle.texts.specs.TextReading.{token_input, looked_ahead, text_reading}

-- ---- texts

-- the text and a byte of this value behind it
unfoldable pub with_byte : String → ℕ → List ℕ
with_byte s c = bytes s ++ (c ∷ [])

-- the text and a form feed behind it, which the lexer does not skip and which starts no token
abbrev with_form_feed : String → List ℕ
with_form_feed s = with_byte s 12

-- `(A` n times, and the text behind it
unfoldable pub nested : ℕ → List ℕ → List ℕ
nested zero text = text
nested (suc n) text = bytes "(A" ++ nested n text

-- ---- what reading comes to

infix 30 ◌at◌
pub data Said : Type 0 where
  -- a refusal and its place
  ◌at◌ : (refusal place : ℕ) → Said
  -- how many records
  accepts : (count : ℕ) → Said

unfoldable pub said_of : Reading → Said
said_of (done ts) = accepts (length (records_all ts))
said_of (stopped code place) = code at place

-- a text is read with space for 16 records, or for so many; or up to so many tokens, where document 01 has 16,384
infix 20 ◌gives◌
pub data Case : Type 0 where
  ◌gives◌ : List ℕ → Said → Case
  in-space : ℕ → List ℕ → Said → Case
  up_to : ℕ → List ℕ → Said → Case

-- the definitions of a text of which n tokens are taken: parse_text has n 16,384
unfoldable pub parse_first : ℕ → List ℕ → Outcome
parse_first n text = looked_ahead (token_input text (tokens_from text n 0)) (parse_defs (token_input text (tokens_from text n 0)) 0)

unfoldable pub comes_to : Case → Said
comes_to (text gives w) = said_of (text_reading text 16)
comes_to (in-space n text w) = said_of (text_reading text n)
comes_to (up_to n text w) = said_of (fitted 16 (parse_first n text))

unfoldable pub outcomes : List Case → List Said
outcomes [] = []
outcomes (c ∷ cs) = comes_to c ∷ outcomes cs

unfoldable pub expected : List Case → List Said
expected [] = []
expected ((text gives w) ∷ cs) = w ∷ expected cs
expected (in-space n text w ∷ cs) = w ∷ expected cs
expected (up_to n text w ∷ cs) = w ∷ expected cs

-- ---- before the token in front of the bad byte is consumed

unfoldable pub met_before : List Case
met_before =
    -- its kind: 10, 25, 26; where it may stand there it is consumed, and the bad byte shows
    (with_form_feed ")" gives 10 at 0)
    ∷ (with_form_feed "(decl a b" gives 10 at 8)
    ∷ (with_form_feed "(decl a (" gives 40 at 9)
    ∷ (with_form_feed "(rule )" gives 25 at 6)
    ∷ (with_form_feed "(rule (A) )" gives 26 at 10)
    ∷ (with_form_feed "(rule (A)" gives 40 at 9)
    -- a word that is only tried for: 19, 22; one that is there is consumed
    ∷ (with_form_feed "(type T (foo" gives 19 at 8)
    ∷ (with_form_feed "(type T (enum" gives 40 at 13)
    ∷ (with_form_feed "(type T (" gives 40 at 9)
    ∷ (with_form_feed "(extern foo" gives 22 at 8)
    ∷ (with_form_feed "(extern const" gives 40 at 13)
    ∷ (with_form_feed "(extern" gives 40 at 7)
    -- a bad byte one token further does not show
    ∷ (with_form_feed "(foo bar" gives 12 at 1)
    ∷ (with_form_feed "(decl a-b (" gives 15 at 6)
    -- before the first token nothing is consumed
    ∷ (with_form_feed "" gives 40 at 0)
    ∷ []

-- ---- after it is consumed: each with a good token behind it and with the bad byte there. 13 is not met: the lexer makes no empty symbol

unfoldable pub met_after : List Case
met_after =
    (bytes "(foo)" gives 12 at 1)
    ∷ (with_form_feed "(foo" gives 40 at 4)
    ∷ (bytes "(decl #a ()" gives 14 at 6)
    ∷ (with_form_feed "(decl #a" gives 40 at 8)
    ∷ (bytes "(decl a-b ()" gives 15 at 6)
    ∷ (with_form_feed "(decl a-b" gives 40 at 9)
    ∷ (bytes "(extern const c T)" gives 16 at 14)
    ∷ (with_form_feed "(extern const c" gives 40 at 15)
    ∷ (bytes "(pragma a)" gives 17 at 8)
    ∷ (with_form_feed "(pragma a" gives 40 at 9)
    ∷ (bytes "(type T foo (" gives 18 at 12)
    ∷ (with_form_feed "(type T foo" gives 40 at 11)
    ∷ (bytes "(attr a (b)" gives 20 at 9)
    ∷ (with_form_feed "(attr a (b" gives 40 at 10)
    ∷ (bytes "(attr a (veri b)" gives 21 at 14)
    ∷ (with_form_feed "(attr a (veri b" gives 40 at 15)
    ∷ (bytes "(rule 9223372036854775808 x" gives 24 at 6)
    ∷ (with_form_feed "(rule 9223372036854775808" gives 40 at 25)
    ∷ (bytes "(spec a" gives 27 at 1)
    ∷ (with_form_feed "(spec" gives 40 at 5)
    ∷ []

-- ---- 40 becomes 23 after a rule's name, at the name

unfoldable pub names : List Case
names =
    -- a good name, and one that is refused by itself
    (with_form_feed "(rule a" gives 23 at 6)
    ∷ (bytes "(rule a" gives 25 at 7)
    ∷ (with_form_feed "(rule a-b" gives 23 at 6)
    ∷ (bytes "(rule a-b x" gives 23 at 6)
    ∷ (bytes "(rule a (; b" gives 23 at 6)
    -- no name: the word itself, the priority, the term `rule` of a pattern, the target of an attribute
    ∷ (with_form_feed "(rule" gives 40 at 5)
    ∷ (with_form_feed "(rule a 1" gives 40 at 9)
    ∷ (with_form_feed "(rule 1" gives 40 at 7)
    ∷ (with_form_feed "(rule (rule" gives 40 at 11)
    ∷ (with_form_feed "(rule (rule a" gives 40 at 13)
    ∷ (with_form_feed "(attr rule a" gives 40 at 12)
    ∷ []

-- ---- where the lexer refuses

unfoldable pub places : List Case
places =
    (bytes "(decl -" gives 40 at 6)
    ∷ (bytes "(decl 12ab)" gives 40 at 6)
    ∷ (bytes "(rule 0x (A)" gives 40 at 6)
    ∷ (with_form_feed "(decl  " gives 40 at 7)
    ∷ (bytes "(decl (; a (; b ;)" gives 40 at 6)
    ∷ []

-- ---- a byte of 128 or more: 41, before everything else but 7 for the text

unfoldable pub high : List Case
high =
    (replicate 65537 128 gives 7 at 0)
    ∷ (with_byte "" 128 gives 41 at 0)
    ∷ (with_byte "; " 127 gives accepts 0)
    ∷ (with_byte "; " 128 gives 41 at 2)
    ∷ (with_byte ")" 195 gives 41 at 1)
    ∷ (with_form_feed "" ++ with_byte "(decl" 255 gives 41 at 6)
    ∷ (with_byte "(rule a" 200 ++ with_byte "" 201 gives 41 at 7)
    ∷ (in-space 2 (with_byte "(decl a () T)" 128) (41 at 13))
    ∷ []

-- ---- 6 comes last

unfoldable pub space : List Case
space =
    in-space 3 (bytes "(decl a () T)") (accepts 3)
    ∷ in-space 2 (bytes "(decl a () T)") (6 at 0)
    ∷ in-space 2 (with_form_feed "(decl a () T)") (40 at 13)
    ∷ in-space 2 (bytes "(decl a () T))") (10 at 13)
    ∷ []

-- ---- the end of the text

unfoldable pub ends : List Case
ends =
    (bytes "" gives accepts 0)
    ∷ (bytes "; a" gives accepts 0)
    ∷ (bytes " (; a ;) ; b" gives accepts 0)
    ∷ (bytes "(decl a () T) ; a" gives accepts 3)
    -- the place is the text's length
    ∷ (bytes "(decl" gives 11 at 5)
    ∷ (bytes "(decl ; a" gives 11 at 9)
    -- a comment that is not closed
    ∷ (bytes "(;" gives 40 at 0)
    ∷ (bytes "(decl a () T) (; b" gives 40 at 14)
    -- the rule whose records document 01 prints
    ∷ (bytes "(rule (A x) y)" gives accepts 7)
    ∷ []

-- ---- one token too many

unfoldable pub too_many : List Case
too_many =
    up_to 7 (bytes "(decl a () T)") (accepts 3)
    ∷ up_to 6 (bytes "(decl a () T)") (7 at 0)
    -- what is refused before it becomes the next token stays
    ∷ up_to 3 (bytes "(extern foo bar") (22 at 8)
    ∷ up_to 2 (bytes "(extern foo bar") (7 at 0)
    ∷ up_to 4 (bytes "(pragma a)") (17 at 8)
    ∷ up_to 3 (bytes "(pragma a)") (7 at 0)
    -- where the lexer refuses it, it is 40; behind a rule's name 7 stays 7
    ∷ up_to 2 (with_form_feed "(decl") (40 at 5)
    ∷ up_to 3 (with_form_feed "(rule a") (23 at 6)
    ∷ up_to 3 (bytes "(rule a b") (7 at 0)
    ∷ up_to 3 (bytes "(rule a-b b") (7 at 0)
    ∷ []

-- ---- a `$` by itself is no constant: 16 at it

unfoldable pub dollars : List Case
dollars =
    -- as a pattern, as an expression, as an extern constant
    (bytes "(rule n $ y)" gives 16 at 8)
    ∷ (bytes "(rule (A) $)" gives 16 at 10)
    ∷ (bytes "(extern const $ T)" gives 16 at 14)
    -- with one character more it is one
    ∷ (bytes "(rule n $a $b)" gives accepts 6)
    ∷ (bytes "(rule n $$ $$)" gives accepts 6)
    ∷ (bytes "(extern const $a T)" gives accepts 3)
    ∷ (bytes "(extern const $$ T)" gives accepts 3)
    -- a name it is still: a term's, a rule's, a type's
    ∷ (bytes "(rule ($ x) ($ y))" gives accepts 9)
    ∷ (bytes "(rule $ x y)" gives accepts 6)
    ∷ (bytes "(rule $ $ y)" gives 16 at 8)
    ∷ (bytes "(extern const $a $)" gives accepts 3)
    -- what else is wrong with the name comes first, and what the lexer refuses behind it; not what it refuses one token further
    ∷ (bytes "(extern const $- T)" gives 15 at 14)
    ∷ (with_form_feed "(extern const $" gives 40 at 15)
    ∷ (with_form_feed "(rule n $" gives 40 at 9)
    ∷ (with_form_feed "(rule (A) $" gives 40 at 11)
    ∷ (with_form_feed "(rule n $ y" gives 16 at 8)
    ∷ up_to 5 (bytes "(rule n $ y)") (16 at 8)
    ∷ up_to 4 (bytes "(rule n $ y)") (7 at 0)
    ∷ []

unfoldable pub table : List Case
table = met_before ++ met_after ++ names ++ places ++ high ++ space ++ ends ++ too_many ++ dollars

-- ---- depth

-- a pattern that would be entered at the bad byte is not entered; one too deep at the token in front of it is 8
unfoldable pub not_entered : List ℕ
not_entered = bytes "(rule " ++ nested 64 (with_form_feed "")

unfoldable pub entered : List ℕ
entered = bytes "(rule " ++ nested 64 (with_form_feed " x")

unfoldable pub deep : List Case
deep =
    (not_entered gives 40 at 134)
    ∷ (entered gives 8 at 135)
    ∷ []
