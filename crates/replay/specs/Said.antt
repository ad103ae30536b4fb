-- What the definitions say of a call: the number that is returned and the whole output; and of opening the whole store besides.
use Rattle.std.specs.Prelude.{ℕ, ◌/◌, List, [], length, replicate}
use Rattle.tokens.specs.Input.{input}
use Rattle.grounds.specs.Opening.{Outcome}
use Rattle.parser.specs.Reading as reader
use Rattle.texts.specs.TextReading.{text_reading}
use Rattle.templating.specs.Calls as lists
use Rattle.opening.specs.Answers.{Outputs, outputs}
use Rattle.openings.specs.Calls as opens
use Rattle.replay.specs.declared.open_cases.Answered.{Answered}
use Rattle.replay.specs.declared.output_cases.Lent.{Lent}
use Rattle.replay.specs.declared.output_cases.Lent.TheVariants as lends
use Rattle.replay.specs.declared.output_cases.Entry.{Entry}
use Rattle.replay.specs.declared.output_cases.Entry.TheVariants.{Read, Text, Make, Fill}

-- the bytes that are lent to be written: how many they are counts, not what they hold
abbrev pub lent : ℕ → List ℕ
lent n = replicate n 0

-- ---- one output

pub record Said : Type 0 where
  pub number : ℕ
  pub output : List ℕ

abbrev pub says : ℕ → List ℕ → Said
says r l = record {
  number = r;
  output = l;
}

abbrev pub of_reading : reader.Reading → ℕ → Said
of_reading g n = says (reader.number g) (reader.bytes n g)

abbrev pub of_call : lists.Call → ℕ → Said
of_call c n = says (lists.number c) (lists.bytes n c)

-- of a text, two lists and an end position, with an output of n bytes; the tokens are the first list of reading, which has no second one and alone has an end;
-- reading of text has no list
unfoldable pub said : Entry → List ℕ → List ℕ → List ℕ → ℕ → ℕ → Said
said Read text first second end n = of_reading (reader.reading (input first text end) (n / 24)) n
said Text text first second end n = of_reading (text_reading text (n / 24)) n
said Make text first second end n = of_call (lists.making text first second (lent n)) n
said Fill text first second end n = of_call (lists.substituting text first second (lent n)) n

-- of what is lent
abbrev pub said_of : Lent → ℕ → Said
said_of (lends.Read tokens text end) n = said Read text.now tokens.now [] end n
said_of (lends.Text text first) n = said Text text.now [] [] 0 n
said_of (lends.Make text pattern params) n = said Make text.now pattern.now params.now 0 n
said_of (lends.Fill text template args) n = said Fill text.now template.now args.now 0 n

-- how many bytes its first list has
abbrev pub first_size : Lent → ℕ
first_size (lends.Read tokens text end) = length tokens.now
first_size (lends.Text text first) = length first.now
first_size (lends.Make text pattern params) = length pattern.now
first_size (lends.Fill text template args) = length template.now

-- ---- a store and an output

pub record SaidBoth : Type 0 where
  pub said : Said
  pub store : List ℕ

abbrev pub says_both : ℕ → List ℕ → List ℕ → SaidBoth
says_both r k l = record {
  said = says r l;
  store = k;
}

-- by what the outputs then hold
abbrev pub of_outputs : ℕ → Outputs → SaidBoth
of_outputs r b = says_both r b.store b.output

abbrev pub of_outcome : Outcome → Outputs → SaidBoth
of_outcome c b = of_outputs (opens.number c) (opens.filled b c)

-- of a text, definitions and a pattern, with a store of n bytes and an output of m bytes
unfoldable pub opened : List ℕ → List ℕ → List ℕ → ℕ → ℕ → SaidBoth
opened text defs patt n m = of_outcome (opens.opening_of text defs patt (outputs (lent n) (lent m))) (outputs (lent n) (lent m))

-- of what an answer is stored of
abbrev pub opened_of : Answered → ℕ → ℕ → SaidBoth
opened_of c n m = opened c.text.now c.defs.now c.pattern.now n m
