-- What an acceptance or a refusal of reading is worth, in terms of the grammar.
use Rattle.std.specs.Prelude.{ℕ, ◌*◌, ◌%◌, ◌<◌, ◌≤◌, ◌≡◌, true, List, ◌↔◌, length}
use Rattle.trees.specs.Tree.{Trees, records_all}
use Rattle.records.specs.Result.{refusal_of}
use Rattle.tokens.specs.Input.{Input, Limited, pos_at, size}
use Rattle.tokens.specs.Lent.{good_token}
use Rattle.parser.specs.Reading.{Reading, done, stopped, number, bytes}
use Rattle.grammar.specs.Grammar.{Gram, definition, list}
use Rattle.grammar.specs.Depth.{deepest}
use Rattle.grammar.specs.Nesting.{Deep}

abbrev pub GoodAt : Input → ℕ → Type 0
GoodAt s i = good_token s.tokens s.text s.end i ≡ true

-- a list of tokens within the limits, none of them cut short, and each good
pub record GoodList (s : Input) : Type 0 where
  pub limited : Limited s
  pub whole : length s.tokens % 24 ≡ 0
  pub good : (i : ℕ) → i < size s → GoodAt s i

-- all tokens of a good list together are definitions with the trees ts, nested at most 64 deep
pub record Derived (s : Input) (ts : Trees) : Type 0 where
  pub list-good : GoodList s
  pub derives : Gram s (list definition) 0 (size s) ts
  pub shallow : deepest ts ≤ 64

-- an acceptance: ts are derived and fit the space, nothing else is derived, and there are at most three records for each token
pub record Accepted (s : Input) (space : ℕ) (ts : Trees) : Type 0 where
  pub derived : Derived s ts
  pub fits : length (records_all ts) ≤ space
  pub alone : (us : Trees) → Derived s us → us ≡ ts
  pub three : length (records_all ts) ≤ 3 * size s

-- a part of a token after the last whole one
pub record CutShort (s : Input) : Type 0 where
  pub limited : Limited s
  pub cut : length s.tokens % 24 ≡ 0 → ⊥

-- the first token that is not good stands at index k
pub record FirstBad (s : Input) (k : ℕ) : Type 0 where
  pub limited : Limited s
  pub whole : length s.tokens % 24 ≡ 0
  pub there : k < size s
  pub bad : GoodAt s k → ⊥
  pub good-before : (i : ℕ) → i < k → GoodAt s i

-- a good list of which nothing is derived
pub record Underived (s : Input) : Type 0 where
  pub list-good : GoodList s
  pub none : (ts : Trees) → Derived s ts → ⊥

-- derived trees with more records than the space
pub record TooLong (s : Input) (space : ℕ) : Type 0 where
  pub trees : Trees
  pub derived : Derived s trees
  pub longer : space < length (records_all trees)

-- a refusal, by its number and place: each ground where none before it holds. A refusal of the parser stands at token k, which is the end
-- where k is past the last one; it is 8 only where the first pattern or expression of depth 65, so inside 64 others, begins there
pub data Refused (s : Input) (space : ℕ) : ℕ → ℕ → Type 0 where
  too_much : (Limited s → ⊥) → Refused s space 7 0
  cut_short : CutShort s → Refused s space 1 0
  bad-token : {k : ℕ} → FirstBad s k → Refused s space 2 k
  too_deep : {k : ℕ} → Underived s → Deep s (list definition) 64 0 k → Refused s space 8 (pos_at s k)
  no_parse : {code : ℕ} (k : ℕ) → Underived s → 10 ≤ code → code ≤ 27 → Refused s space code (pos_at s k)
  no_space : TooLong s space → Refused s space 6 0

unfoldable pub Meaning : Input → ℕ → Reading → Type 0
Meaning s space (done ts) = Accepted s space ts
Meaning s space (stopped code place) = Refused s space code place

-- the same of the number that is returned and an output of n bytes
pub data Worth (s : Input) (space n : ℕ) : ℕ → List ℕ → Type 0 where
  accepted : {ts : Trees} → Accepted s space ts → Worth s space n (number (done ts)) (bytes n (done ts))
  refused : {code place : ℕ} → Refused s space code place → Worth s space n (number (stopped code place)) (bytes n (stopped code place))

-- derived trees whose records fit the space
pub record Fitting (s : Input) (space : ℕ) : Type 0 where
  pub trees : Trees
  pub derived : Derived s trees
  pub fits : length (records_all trees) ≤ space

-- EXACTLY, of the number r that is returned and an output l of n bytes: each answer is given if and only if its ground holds and none before it.
-- Places have 32 bits; 8 and above are the parser's
pub record Exactly (s : Input) (space n r : ℕ) (l : List ℕ) : Type 0 where
  pub seven : (r ≡ number (stopped 7 0)) ↔ (Limited s → ⊥)
  pub one : (r ≡ number (stopped 1 0)) ↔ CutShort s
  pub two : (k : ℕ) → k < 4294967296 → (r ≡ number (stopped 2 k)) ↔ FirstBad s k
  pub parser : (8 ≤ refusal_of r) ↔ Underived s
  pub six : (r ≡ number (stopped 6 0)) ↔ TooLong s space
  pub accepts : (refusal_of r ≡ 0) ↔ Fitting s space
  -- and then these trees are what is returned and written
  pub returns : (f : Fitting s space) → r ≡ number (done f.trees)
  pub writes : (f : Fitting s space) → l ≡ bytes n (done f.trees)
