-- That no parameter has children has one proof at most, as a field of a struct asks.
use native.Mathlib.Nat.{ℕ_set}
use Rattle.std.specs.Prelude.{List, [], ◌∷◌}
use Rattle.std.specs.Coded.{×_prop, Unit-prop}
use Rattle.trees.specs.declared.Rec.{Rec}
use Rattle.expansion.specs.Flat.{All}
use Rattle.templates.specs.Answers.{Leaf}

pub leaves-prop : (rs : List Rec) → IsProp (All Leaf rs)
leaves-prop [] = Unit-prop
leaves-prop (r ∷ rs) = ×_prop (ℕ_set r.count 0) (leaves-prop rs)

pub ruleset leaves = (leaves-prop)
