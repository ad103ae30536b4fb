-- What reading tokens comes to before the space is measured: the checks 7, 1 and 2, then the definitions.
use Rattle.std.specs.Prelude.{ℕ, ◌%◌, ◌≤◌, ◌≡◌, length, ltb, eqb, Result, Ok, Err}
use Rattle.trees.specs.Choice.{choose}
use Rattle.tokens.specs.Input.{Input, size}
use Rattle.tokens.specs.Lent.{first_bad}
use Rattle.steps.specs.declared.Stop.{Stop}
use Rattle.steps.specs.Outcome.{Outcome, refuse, refusal}
use Rattle.steps.specs.Met.{told}
use Rattle.parser.specs.Defs.{parse_defs}

-- a refusal before any token is consumed
abbrev pub unread : ℕ → ℕ → Outcome
unread code place = refuse (refusal code place 0)

-- b is the index of the first bad token
unfoldable pub parse_good : Input → ℕ → Outcome
parse_good s b = choose (ltb b (size s)) (λ _. unread 2 b) (λ _. parse_defs s 0)

unfoldable pub parse_checked : Input → Outcome
parse_checked s =
    choose (ltb 16384 (size s)) (λ _. unread 7 0)
    (λ _. choose (ltb 65536 (length s.text)) (λ _. unread 7 0)
    (λ _. choose (eqb (length s.tokens % 24) 0)
    (λ _. parse_good s (first_bad s.tokens s.text s.end))
    (λ _. unread 1 0)))

-- tokens that pass the checks
pub record Passed (s : Input) : Type 0 where
  pub few : size s ≤ 16384
  pub short : length s.text ≤ 65536
  pub reads : parse_checked s ≡ parse_defs s 0

-- what the checks come to
unfoldable pub Checked : Input → Result (Unit {0}) Stop → Type 0
Checked s (Ok x) = Passed s
Checked s (Err d) = parse_checked s ≡ refuse (told d)
