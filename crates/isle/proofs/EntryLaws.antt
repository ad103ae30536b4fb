-- What the entries' answers are worth. Assumes nothing.
use Prim.Native.Nat.{ℕ}
use mathlib.Core.List.{List}
use Rattle.tokens.specs.Input.{Input}
use Rattle.parser.specs.Reading.{reading}
use Rattle.reading.specs.Answered.{Answered}
use Rattle.grammar.specs.Meaning.{Worth}
use Rattle.grammar.proofs.Theorem.{worth}
use Rattle.texts.specs.TextReading.{text_reading}
use Rattle.text_grammar.specs.TextMeaning.{TextWorth}
use Rattle.text_grammar.proofs.Theorem as of-text

pub read_worth : (s : Input) (space n r : ℕ) (l : List ℕ) → Answered (reading s space) n l r → Worth s space n r l
read_worth s space n r l a = rw (a.returns, a.output) (worth s space n)

pub text_worth : (text : List ℕ) (space n r : ℕ) (l : List ℕ) → Answered (text_reading text space) n l r → TextWorth text space n r l
text_worth text space n r l a = rw (a.returns, a.output) (of-text.worth text space n)
