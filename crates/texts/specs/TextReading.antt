-- What reading a text answers: 7 for the text, 41, then what the parser and the lexer meet from the left, 6 last.
use Rattle.std.specs.Prelude.{ℕ, ◌*◌, List, Bool, length, replicate, ltb, eqb}
use Rattle.trees.specs.Choice.{pick, choose}
use Rattle.records.specs.Slots.{writes}
use Rattle.tokens.specs.declared.Token.{Token}
use Rattle.tokens.specs.Token.{is_refused, is_too_many}
use Rattle.tokens.specs.Input.{Input, input, peek}
use Rattle.steps.specs.Outcome.{Outcome, Refusal, accept, refuse, refusal}
use Rattle.parser.specs.Defs.{parse_defs}
use Rattle.parser.specs.Reading.{Reading, stopped, fitted}
use Rattle.lexer.specs.Lexer.{run_end}
use Rattle.lexer.specs.Text.{lexed, records_of}

-- ---- tokens

-- tokens of the lexer as they are lent, and what the parser reads then: the end position is the text's length
abbrev pub token_bytes : List Token → List ℕ
token_bytes ts = writes (replicate (length ts * 24) 0) 0 (records_of ts)

abbrev pub token_input : List ℕ → List Token → Input
token_input text ts = input (token_bytes ts) text (length text)

-- ---- one token ahead

-- the refusal that is met first where t is the next token, because the lexer looks at t as soon as the token before it is consumed: 7 where t is one too many,
-- 40 at its place where the lexer refuses t; a rule's name in front of such a t keeps its own refusal, 23
unfoldable pub foremost : Token → Refusal → Refusal
foremost t e =
    pick (is_too_many t) (refusal 7 0 e.taken)
    (pick (is_refused t) (pick (eqb e.code 23) e (refusal 40 t.pos e.taken))
    e)

unfoldable pub looked_ahead : Input → Outcome → Outcome
looked_ahead s (accept ts j) = accept ts j
looked_ahead s (refuse e) = refuse (foremost (peek s e.taken) e)

-- the definitions of a text
unfoldable pub parse_text : List ℕ → Outcome
parse_text text = looked_ahead (token_input text (lexed text)) (parse_defs (token_input text (lexed text)) 0)

-- ---- the whole

unfoldable pub is_ascii : ℕ → Bool
is_ascii c = ltb c 128

-- where the first byte of 128 or more stands, or the text ends
abbrev pub first_high : List ℕ → ℕ
first_high text = run_end is_ascii text 0

unfoldable pub text_reading : List ℕ → ℕ → Reading
text_reading text space =
    choose (ltb 65536 (length text)) (λ _. stopped 7 0)
    (λ _. choose (ltb (first_high text) (length text)) (λ _. stopped 41 (first_high text))
    (λ _. fitted space (parse_text text)))
