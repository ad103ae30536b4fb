-- What the code that reads a type's modifiers promises.
use Rattle.std.specs.Prelude.{ℕ, suc, ◌+◌, ◌<◌, ◌≡◌, Option, Some, None, Bool, true, false}
use Rattle.trees.specs.Ast.{flag}
use Rattle.trees.specs.Choice.{pick, choose}
use Rattle.trees.specs.Tree.{∅}
use Rattle.tokens.specs.Token.{is_symbol}
use Rattle.tokens.specs.Input.{Input, peek, pos_at, size}
use Rattle.steps.specs.declared.Parser.{Parser}
use Rattle.steps.specs.Outcome.{Reader, accept, refuse, refusal}
use Rattle.steps.specs.Met.{state}
use Rattle.steps.specs.Read.{read_by, Same, Went}
use Rattle.parser.specs.declared.types.Modifiers.{Modifiers}
use Rattle.parser.specs.Types.{modifier_flags, modifiers_end}

-- what the flags of the modifiers met so far are made of: 1 extern, 2 nodebug
abbrev pub external_of : Modifiers → ℕ
external_of m = flag m.external 1

abbrev pub nodebug_of : Modifiers → ℕ
nodebug_of m = flag m.nodebug 2

abbrev pub flags_of : Modifiers → ℕ
flags_of m = external_of m + nodebug_of m

-- one turn at token i, whatever bounds the turns after it
pub record Turned (s : Input) (m : Modifiers) (i : ℕ) (more : Bool) (m' : Modifiers) : Type 0 where
  pub flags : (f : ℕ) → modifier_flags s (suc f) (external_of m) (nodebug_of m) i ≡ pick more (modifier_flags s f (external_of m') (nodebug_of m') (i + 1)) (flags_of m)
  pub ends : (f : ℕ) → modifiers_end s (suc f) i ≡ pick more (modifiers_end s f (i + 1)) i

-- a modifier stands there, and these are met then; or none does
unfoldable pub TurnedTo : Input → Modifiers → ℕ → Option Modifiers → Type 0
TurnedTo s m i (Some m') = Turned s m i true m' × (i < size s)
TurnedTo s m i None = Turned s m i false m

-- the modifiers are passed, and x is their flags
pub record Modified (p p' : Parser) (x : ℕ) : Type 0 where
  pub flags : x ≡ modifier_flags (read_by p) (size (read_by p)) 0 0 p.state.next
  pub ends : p'.state ≡ state (modifiers_end (read_by p) (size (read_by p)) p.state.next) p.state.count p.state.items
  pub unwritten : p'.out.now ≡ p.out.now
  pub same : Same p p'
  pub within : Went 0 0 0 p p'

-- what may stand behind the modifiers: no symbol; 18 stands at the token after it
unfoldable pub no_modifier : Input → Reader
no_modifier s = λ i. choose (is_symbol (peek s i)) (λ _. refuse (refusal 18 (pos_at s (i + 1)) (i + 1))) (λ _. accept ∅ i)
