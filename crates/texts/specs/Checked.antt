-- What reading a text comes to before the space is measured: the checks 7 and 41, then the definitions.
use Rattle.std.specs.Prelude.{ℕ, ◌≤◌, ◌≡◌, List, length, ltb, Result, Ok, Err}
use Rattle.trees.specs.Choice.{choose}
use Rattle.steps.specs.declared.Stop.{Stop}
use Rattle.steps.specs.Outcome.{Outcome, refuse}
use Rattle.steps.specs.Met.{told}
use Rattle.reading.specs.Checked.{unread}
use Rattle.texts.specs.TextReading.{first_high, parse_text}

unfoldable pub parse_checked : List ℕ → Outcome
parse_checked text =
    choose (ltb 65536 (length text)) (λ _. unread 7 0)
    (λ _. choose (ltb (first_high text) (length text)) (λ _. unread 41 (first_high text))
    (λ _. parse_text text))

-- a text that passes the checks
pub record Passed (text : List ℕ) : Type 0 where
  pub short : length text ≤ 65536
  pub reads : parse_checked text ≡ parse_text text

-- what the checks come to
unfoldable pub Checked : List ℕ → Result (Unit {0}) Stop → Type 0
Checked text (Ok x) = Passed text
Checked text (Err d) = parse_checked text ≡ refuse (told d)
