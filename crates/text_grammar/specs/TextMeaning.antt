-- What an acceptance or a refusal of reading a text is worth, in terms of the lexer and the grammar.
use Rattle.std.specs.Prelude.{ℕ, ◌<◌, ◌≤◌, ◌≡◌, List, ◌↔◌, length, get_or}
use Rattle.trees.specs.Tree.{Trees, records_all}
use Rattle.records.specs.Result.{refusal_of}
use Rattle.tokens.specs.declared.Token.{Token}
use Rattle.tokens.specs.Input.{pos_at}
use Rattle.parser.specs.Reading.{Reading, done, stopped, number, bytes}
use Rattle.grammar.specs.Grammar.{Gram, definition, list}
use Rattle.grammar.specs.Depth.{deepest}
use Rattle.grammar.specs.Nesting.{Deep}
use Rattle.lexer.specs.Lexed.{Refused, End}
use Rattle.lexer.specs.Lexer.{next_token}
use Rattle.lexer.specs.Text.{Lexes}
use Rattle.texts.specs.TextReading.{token_input}
use Rattle.closed.specs.Closed.{Closed}

-- a text within the limit, and no byte of 128 or more
pub record Plain (text : List ℕ) : Type 0 where
  pub short : length text ≤ 65536
  pub low : (i : ℕ) → i < length text → get_or text i 0 < 128

-- ts are the first tokens that the lexer makes of a plain text: it refuses none of them
pub record Begins (text : List ℕ) (ts : List Token) : Type 0 where
  pub plain : Plain text
  pub upto : ℕ
  pub lexes : Lexes text 0 ts upto

-- ts are all its tokens, at most 16,384
pub record Whole (text : List ℕ) (ts : List Token) : Type 0 where
  pub begins : Begins text ts
  pub ends : next_token text begins.upto ≡ End
  pub few : length ts ≤ 16384

-- all tokens of a text together are definitions with the trees us, nested at most 64 deep
pub record TextDerived (text : List ℕ) (us : Trees) : Type 0 where
  pub tokens : List Token
  pub whole : Whole text tokens
  pub derives : Gram (token_input text tokens) (list definition) 0 (length tokens) us
  pub shallow : deepest us ≤ 64

-- an acceptance: us are derived and fit the space, and nothing else is derived
pub record TextAccepted (text : List ℕ) (space : ℕ) (us : Trees) : Type 0 where
  pub derived : TextDerived text us
  pub fits : length (records_all us) ≤ space
  pub alone : (vs : Trees) → TextDerived text vs → vs ≡ us

-- the first byte of 128 or more stands at p
pub record FirstHigh (text : List ℕ) (p : ℕ) : Type 0 where
  pub short : length text ≤ 65536
  pub there : p < length text
  pub high : 128 ≤ get_or text p 0
  pub low-before : (i : ℕ) → i < p → get_or text i 0 < 128

-- behind at most 16,384 tokens that it does not refuse, the lexer refuses at p
pub record BadToken (text : List ℕ) (p : ℕ) : Type 0 where
  pub tokens : List Token
  pub begins : Begins text tokens
  pub few : length tokens ≤ 16384
  pub refuses : next_token text begins.upto ≡ Refused p

-- the lexer makes 16,385 tokens and refuses none of them
pub record TooMany (text : List ℕ) : Type 0 where
  pub tokens : List Token
  pub begins : Begins text tokens
  pub count : length tokens ≡ 16385

-- nothing is derived of a plain text that begins with the tokens ts
pub record Underived (text : List ℕ) (ts : List Token) : Type 0 where
  pub begins : Begins text ts
  pub few : length ts ≤ 16384
  pub none : (us : Trees) → TextDerived text us → ⊥

-- derived trees with more records than the space
pub record TextTooLong (text : List ℕ) (space : ℕ) : Type 0 where
  pub trees : Trees
  pub derived : TextDerived text trees
  pub longer : space < length (records_all trees)

-- a refusal, by its number and place. One of the parser stands at token k of those that the lexer has made, or at the end of the text where k is past the
-- last one; it is 8 only where the first pattern or expression of depth 65 begins there
pub data TextRefused (text : List ℕ) (space : ℕ) : ℕ → ℕ → Type 0 where
  too_long : 65536 < length text → TextRefused text space 7 0
  not_ascii : {p : ℕ} → FirstHigh text p → TextRefused text space 41 p
  too_many : TooMany text → TextRefused text space 7 0
  bad-token : {p : ℕ} → BadToken text p → TextRefused text space 40 p
  too_deep : {ts : List Token} {k : ℕ} → Underived text ts → Deep (token_input text ts) (list definition) 64 0 k → TextRefused text space 8 (pos_at (token_input text ts) k)
  no_parse : {ts : List Token} {code : ℕ} (k : ℕ) → Underived text ts → 10 ≤ code → code ≤ 27 → TextRefused text space code (pos_at (token_input text ts) k)
  no_space : TextTooLong text space → TextRefused text space 6 0

unfoldable pub TextMeaning : List ℕ → ℕ → Reading → Type 0
TextMeaning text space (done us) = TextAccepted text space us
TextMeaning text space (stopped code place) = TextRefused text space code place

-- the same of the number that is returned and an output of n bytes
pub data TextWorth (text : List ℕ) (space n : ℕ) : ℕ → List ℕ → Type 0 where
  accepted : {us : Trees} → TextAccepted text space us → TextWorth text space n (number (done us)) (bytes n (done us))
  refused : {code place : ℕ} → TextRefused text space code place → TextWorth text space n (number (stopped code place)) (bytes n (stopped code place))

-- what reading a text writes, opening takes, and no name in it is empty
pub record TextClosed (text : List ℕ) (r : ℕ) (l : List ℕ) : Type 0 where
  pub tokens : List Token
  pub whole : Whole text tokens
  pub closed : Closed (token_input text tokens) r l

-- derived trees whose records fit the space
pub record TextFitting (text : List ℕ) (space : ℕ) : Type 0 where
  pub trees : Trees
  pub derived : TextDerived text trees
  pub fits : length (records_all trees) ≤ space

-- EXACTLY, of the number r that is returned and an output l of n bytes: a text is accepted if and only if its trees are derived and fit, and then they are
-- what is returned and written; 6 is returned if and only if they are derived and do not fit; 41 if and only if it has a byte of 128 or more
pub record TextExactly (text : List ℕ) (space n r : ℕ) (l : List ℕ) : Type 0 where
  pub accepts : (refusal_of r ≡ 0) ↔ TextFitting text space
  pub returns : (f : TextFitting text space) → r ≡ number (done f.trees)
  pub writes : (f : TextFitting text space) → l ≡ bytes n (done f.trees)
  pub six : (r ≡ number (stopped 6 0)) ↔ TextTooLong text space
  pub forty_one : (p : ℕ) → p < 4294967296 → (r ≡ number (stopped 41 p)) ↔ FirstHigh text p
