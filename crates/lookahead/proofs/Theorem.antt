-- THE THEOREMS: a refusal depends on no token behind the one at `taken`, and what stands before it are tokens. Assumes nothing.
use Prim.Native.Nat.{ℕ, ◌<◌, ◌≤◌}
use native.Mathlib.Omega.{arith}
use mathlib.Core.Path.{◌≡◌, refl, ap, ◌∙◌}
use Rattle.tokens.specs.Input.{Input, peek}
use Rattle.steps.specs.Outcome.{Refusal}
use Rattle.steps.specs.Outcome.{refuse}
use Rattle.parser.specs.Defs.{parse_defs}
use Rattle.lookahead.specs.Agree.{Agree}
use Rattle.lookahead.proofs.Combinators.{reach}
use Rattle.lookahead.proofs.Defs.{all-definitions}

-- an input agrees with itself
itself : (m : ℕ) (s : Input) → Agree m s s
itself m s = record { text = refl; tokens = λ i h. refl; ends = λ i h. refl }

-- what is refused when so many tokens are consumed is refused alike where these and the next one are the same
pub honest : (s t : Input) (e : Refusal) → parse_defs s 0 ≡ refuse e → Agree e.taken s t → parse_defs t 0 ≡ refuse e
unfolding reach
honest s t e h a = let z = ap reach h in ((all-definitions a).at 0).same (omega arith) ∙ h

-- every token that a refusal counts as consumed is of a kind of document 01, so the lexer does not stop there
pub consumed : (s : Input) (e : Refusal) → parse_defs s 0 ≡ refuse e → (k : ℕ) → k < e.taken → (1 ≤ (peek s k).kind) × ((peek s k).kind ≤ 5)
unfolding reach
consumed s e h k l =
    let z = ap reach h in
    let c = ((all-definitions (itself e.taken s)).at 0).tokens in
    (c.at_least k (omega arith) (omega arith), c.at_most k (omega arith) (omega arith))
